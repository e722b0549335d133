-- A pass goes on node by node: each is judged by the marks of those before it.
use mathlib.Core.Path.{◌≡◌}
use Prim.Native.Nat.{◌≤◌}
use lib.ListN.{length}
use Rattle.layout.specs.Table.{grammar_of}
use Rattle.empties.specs.Pass.{Passed}
use Rattle.empties.proofs.pass.Given as goal

abbrev pub invariant-loop-i : goal.invariant-loop-i
invariant-loop-i l = (l.from ≤ l.i) × (length l.marks ≡ 8) × Passed (grammar_of l.table.bytes.now) l.known l.from l.i l.initial.marks l.marks
