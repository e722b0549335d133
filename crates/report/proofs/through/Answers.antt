-- Each set is widened once, by the row as it was.
use native.Mathlib.Omega.{arith}
use Rattle.report.proofs.Sets.{widened_none, widened_next}
use Rattle.report.proofs.through.Goals as goal

pub returns-then-row-eq0 : goal.returns-then-row-eq0
returns-then-row-eq0 c = λ a h. rw c.if-row-eq0.true (widened_none _ _)

pub loop-set-preserved : goal.loop-set-preserved
loop-set-preserved c =
    let l = c.loop-set in
    widened_next _ c.args.k l.set-index _ _ l.to (omega arith) l.invariant.0 l.invariant.1 c.widened.ensures
