-- Each set is widened once, by the row as it was.
use mathlib.Core.Path.{◌≡◌}
use Prim.Native.Nat.{ℕ, ◌≤◌, ◌<◌}
use lib.ListN.{get_or}
use Rattle.report.specs.Pass.{widened}
use Rattle.report.proofs.through.Given as goal

abbrev pub invariant-loop-set : goal.invariant-loop-set
invariant-loop-set l =
    ((j : ℕ) → j < l.set-index → get_or l.to j 0 ≡ widened l.row l.k (get_or l.initial.to j 0)) × ((j : ℕ) → l.set-index ≤ j → get_or l.to j 0 ≡ get_or l.initial.to j 0)
