-- Passes as long as each adds a rule: the mask grows with every turn, and it fits 64 bits.
use Prim.Native.Nat.{◌-◌, ◌^◌}
use Rattle.layout.specs.Table.{grammar_of}
use Rattle.empties.proofs.Repeat.{Begun}
use Rattle.empties.proofs.passes.Given as goal

abbrev pub invariant-loop-known : goal.invariant-loop-known
invariant-loop-known l = Begun (grammar_of l.table.bytes.now) l.known l.from l.marks

abbrev pub decreases-loop-known : goal.decreases-loop-known
decreases-loop-known l = 2 ^ 64 - l.known
