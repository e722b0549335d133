-- Each rule's set is filled with the rules at the start of its root.
use mathlib.Core.Path.{◌≡◌}
use Prim.Native.Nat.{ℕ, ◌<◌}
use lib.ListN.{get_or}
use Rattle.report.specs.Pass.{root_starts}
use Rattle.report.proofs.steps.Given as goal

abbrev pub invariant-loop-a : goal.invariant-loop-a
invariant-loop-a l = (j : ℕ) → j < l.a → get_or l.to j 0 ≡ root_starts l.table.bytes.now l.scratch j
