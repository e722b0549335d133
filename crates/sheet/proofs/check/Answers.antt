-- The layout's rows decide first, then the repetitions.
use mathlib.Core.Path.{refl}
use Rattle.std.proofs.lemmas.Result.{err_from_is_err_and}
use Rattle.layout.proofs.Stops.{refuses}
use Rattle.sheet.proofs.Searching.{laid_by, layout_refuses, by_loops}
use Rattle.sheet.proofs.check.Goals as goal

pub returns-in_err-repetition : goal.returns-in_err-repetition
returns-in_err-repetition c =
    let s = c.in_err-repetition.ensures in
    let p = err_from_is_err_and c.from_residual.result c.from_residual.ensures.1 in
    rw (p.1, p.2) (layout_refuses _ _ s (refuses _))

pub of-table-requires : goal.of-table-requires
of-table-requires c = laid_by _ _ c.in_ok-repetition.ensures refl

pub loops-requires : goal.loops-requires
loops-requires c =
    let s = c.in_ok-repetition.ensures in
    rw c.of-table.ensures (s.repetition (laid_by _ _ s refl))

pub returns : goal.returns
returns c =
    let laid = laid_by _ _ c.in_ok-repetition.ensures refl in
    rw (by_loops _ laid) (rw c.of-table.ensures at c.loops.ensures)
