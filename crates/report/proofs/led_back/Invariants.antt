-- The rules whose own set has them are gathered one by one.
use Rattle.empties.specs.Pass.{Gathered}
use Rattle.report.specs.Pass.{in_set}
use Rattle.report.proofs.led_back.Given as goal

abbrev pub invariant-loop-a : goal.invariant-loop-a
invariant-loop-a l = Gathered (λ b. in_set l.to b b) 0 l.a l.found
