-- A repetition whose child is no range.
use mathlib.Core.Path.{◌≡◌, refl, sym, ◌∙◌}
use borrow.Author.Tests.{eq-eqb, ne_eqb}
use lib.Dec.{eqb}
use Rattle.layout.specs.Table.{kind_of}
use Rattle.layout.proofs.Laying.{laid}
use Rattle.sheet.specs.Search.{suspect}
use Rattle.sheet.proofs.ByKind.{is_repetition, no_repetition, is_range, no_range}
use Rattle.sheet.proofs.Searching.{child_there}
use Rattle.sheet.proofs.suspect.Goals as goal
use Rattle.sheet.proofs.suspect.Goals.{in-Range, in_default-matches}

pub returns-in_default : goal.returns-in_default
unfolding suspect
returns-in_default c =
    let other = ne_eqb _ _ (no_repetition _ (laid _ c.args.table.now.laid) _ c.requires _ c.node.ensures c.in_default.not-Repetition) in
    rw other refl

pub returns-after-matches : goal.returns-after-matches
unfolding suspect
returns-after-matches c =
    let t = c.args.table.now.bytes.now in
    let good = laid t c.args.table.now.laid in
    let r = is_repetition t good _ c.requires _ c.node.ensures c.in-Repetition.child c.in-Repetition.is in
    let there = child_there t good _ c.requires r.0 in
    let six = eq-eqb (kind_of t c.args.i) 6 r.0 in
    let child = c.node-in-Repetition in
    let said : c.match-matches.matches ≡ eqb (kind_of t c.in-Repetition.child) 1 =
    elim c.match-matches.branch [
      | in-Range w ↦ w.matches-is ∙ sym (eq-eqb _ _ (is_range t good _ (rw r.1 there) _ child.ensures _ _ w.in-Range.is))
      | in_default-matches w ↦ w.matches-is ∙ sym (ne_eqb _ _ (no_range t good _ (rw r.1 there) _ child.ensures w.in_default-matches.not-Range))
    ] in
    rw (said, six, r.1) refl
