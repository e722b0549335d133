-- `find_use` finds the live use of a key, or none: the loop keeps that no use after i has it, and none before one of an earlier position has it.
use Prim.Native.Nat.{ℕ, ◌*◌, ◌<◌}
use mathlib.Core.Logic.{◌≢◌}
use lib.ListN.{get_or}
use Rattle.visits.proofs.live.find_use.Given as goal

abbrev pub invariant-loop-i : goal.invariant-loop-i
invariant-loop-i l = (l.i < l.live) × ((k : ℕ) → l.i < k → k < l.live → get_or l.work.now (k * 3) 0 ≢ l.key)

abbrev pub decreases-loop-i : goal.decreases-loop-i
decreases-loop-i l = l.i
