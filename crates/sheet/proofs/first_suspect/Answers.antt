-- The first node that is suspected: none before it is.
use mathlib.Core.Path.{◌≡◌}
use mathlib.Core.Bool.{true, false}
use borrow.Author.Tests.{tests}
use Rattle.std.proofs.Common.{rules}
use Rattle.std.proofs.lemmas.Iterator.{first_from_Range}
use Rattle.sheet.specs.Search.{suspect}
use Rattle.sheet.proofs.Searching.{first_of}
use Rattle.sheet.proofs.first_suspect.Goals as goal

pub returns : goal.returns
returns c =
    let t = c.args.table.now.bytes.now in
    first_of (suspect t) _ _ c.requires _
    (rw c.node_count.ensures.0 at (first_from_Range _ _ _ c.find.result (λ i. suspect t i ≡ true) (λ i. suspect t i ≡ false) c.find.ensures.ran (λ x q k. search (rules, tests)) (λ x q k. search (rules, tests))))
