use Prim.Native.Nat.{◌<◌}
use mathlib.Core.Path.{◌≡◌}
use lib.ListN.{length}
use borrow.Author.Rules.{rules}
use Rattle.lesson.specs.Lines.{kept}
use Rattle.lesson.proofs.Taking.{one_longer, no_longer}
use Rattle.lesson.proofs.lines.lengthen.Goals as goal

pub returns-then-not-is_full : goal.returns-then-not-is_full
returns-then-not-is_full c =
    let room : length c.args.line.now.items < kept = search rules in
    rw c.push.ensures.items (one_longer _ _ room)

pub returns-else-not-is_full : goal.returns-else-not-is_full
returns-else-not-is_full c =
    let full : length c.args.line.now.items ≡ kept = search rules in
    no_longer _ _ full
