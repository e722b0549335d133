-- `reach` writes the position where it is further; else the furthest is there already.
use mathlib.Core.Path.{◌≡◌, refl, sym, ap, ◌∙◌}
use mathlib.Core.List.{List}
use Prim.Native.Nat.{ℕ, ◌<◌, ◌≤◌, max}
use native.Mathlib.Nat.{max-eq_left, max-eq_right}
use native.Mathlib.Omega.{arith}
use lib.ListN.{set}
use lib.Seq.{set-get_or}
use Rattle.visits.specs.Words.{furthest_in, reached_in}
use Rattle.visits.proofs.ranges.reach.Goals as goal

module _ (w : List ℕ) (x : ℕ) where
  further : furthest_in w < x → set w 2044 x ≡ reached_in w x
  further h = let far : max (furthest_in w) x ≡ x = max-eq_right (omega arith) in rw far

  near : x ≤ furthest_in w → w ≡ reached_in w x
  near h = sym (ap (λ n. set w 2044 n) (max-eq_left h) ∙ set-get_or w 2044 0)

pub returns-then-work-pos : goal.returns-then-work-pos
returns-then-work-pos c = record { reached = further c.args.work.now.now _ (omega (arith, c.if-work-pos.true)); lent = refl }

pub returns-else-work-pos : goal.returns-else-work-pos
returns-else-work-pos c = record { reached = near c.args.work.now.now _ (omega (arith, c.if-work-pos.false)); lent = refl }
