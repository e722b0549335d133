use mathlib.Core.Path.{sym, ◌∙◌}
use native.Mathlib.Omega.{arith}
use Rattle.std.proofs.lemmas.Result.{err_from_is_err_and}
use Rattle.layout.proofs.First.{one_more, first_here, first_nowhere}
use Rattle.layout.proofs.Laws.{first_end}
use Rattle.layout.proofs.Stops.{stops_said, from_there}
use Rattle.layout.proofs.check_nodes.Goals as goal

pub returns-in_err-check_rest : goal.returns-in_err-check_rest
returns-in_err-check_rest c =
    let p = err_from_is_err_and c.from_residual.result c.from_residual.ensures.1 in
    let here = sym (stops_said _ _ _ c.is_repetition.ensures) ∙ sym c.unwrap_or.ensures ∙ c.if-unwrap_or.true in
    rw (p.1, p.2)
    (from_there _ _ _ (first_here _ 0 c.loop-i.i _ (omega arith) (omega arith) c.loop-i.invariant here) ∙ sym c.in_err-check_rest.ensures)

pub returns-then-unwrap_or : goal.returns-then-unwrap_or
returns-then-unwrap_or c =
    let here = sym (stops_said _ _ _ c.is_repetition.ensures) ∙ sym c.unwrap_or.ensures ∙ c.if-unwrap_or.true in
    (first_here _ 0 c.loop-i.i _ (omega arith) (omega arith) c.loop-i.invariant here, sym c.in_ok-check_rest.ensures)

pub loop-i-preserved : goal.loop-i-preserved
loop-i-preserved c =
    one_more _ 0 c.loop-i.i c.loop-i.invariant (sym (stops_said _ _ _ c.is_repetition.ensures) ∙ sym c.unwrap_or.ensures ∙ c.if-unwrap_or.false)

pub returns : goal.returns
returns c = (first_nowhere _ 0 c.loop-i.i _ (omega arith) (omega arith) c.loop-i.invariant, first_end _ _ _ (omega arith))
