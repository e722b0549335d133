-- The sets are closed by way of one rule after the other.
use mathlib.Core.Path.{◌≡◌}
use Prim.Native.Nat.{ℕ, ◌<◌}
use lib.ListN.{length}
use Rattle.report.specs.Pass.{in_set, led}
use Rattle.report.proofs.close.Given as goal

abbrev pub invariant-loop-k : goal.invariant-loop-k
invariant-loop-k l = (a b : ℕ) → a < length l.to → in_set l.to a b ≡ led (in_set l.initial.to) l.k a b
