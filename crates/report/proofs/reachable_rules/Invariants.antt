-- Rounds as long as each finds one more rule: the mask grows with every turn, and it fits 64 bits.
use Prim.Native.Nat.{◌-◌, ◌^◌}
use Rattle.layout.specs.Table.{grammar_of}
use Rattle.report.proofs.Reaching.{Begun}
use Rattle.report.proofs.reachable_rules.Given as goal

abbrev pub invariant-loop-reached : goal.invariant-loop-reached
invariant-loop-reached l = Begun (grammar_of l.table.bytes.now) l.reached

abbrev pub decreases-loop-reached : goal.decreases-loop-reached
decreases-loop-reached l = 2 ^ 64 - l.reached
