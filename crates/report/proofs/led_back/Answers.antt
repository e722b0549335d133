-- The rules whose own set has them are gathered one by one.
use mathlib.Core.Path.{sym, ◌∙◌}
use Rattle.empties.proofs.Gathering.{gathered_none, gathered_in, gathered_out}
use Rattle.report.proofs.led_back.Goals as goal
use Rattle.report.proofs.led_back.Goals.{then-has_rule, else-has_rule}

pub loop-a-init : goal.loop-a-init
loop-a-init c = gathered_none _ 0

pub loop-a-preserved : goal.loop-a-preserved
loop-a-preserved c =
    elim c.if-has_rule.branch [
      | then-has_rule w ↦ rw w.found-is (gathered_in _ 0 _ _ c.loop-a.invariant _ (sym c.has_rule.ensures ∙ w.if-has_rule.true) w.add_rule-found.ensures.bits)
      | else-has_rule w ↦ rw w.found-is (gathered_out _ 0 _ _ c.loop-a.invariant (sym c.has_rule.ensures ∙ w.if-has_rule.false))
    ]
