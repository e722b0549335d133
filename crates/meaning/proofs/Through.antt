-- Chains through each number below n by turns are all chains: what leads to a number below n leads where that one does.
use mathlib.Core.Path.{◌≡◌, refl, sym, ◌∙◌}
use mathlib.Core.Logic.{◌≢◌, ◌⊎◌, inl, inr, ⊎_elim}
use Prim.Native.Nat.{ℕ, zero, suc, ◌<◌}
use mathlib.Core.Bool.{Bool, true, false, ◌&&◌, ◌||◌, and-eq-true_iff}
use mathlib.Mathlib.Data.Bool.Basic.{or_inl, or_inr}
use lib.Dec.{eqb}
use borrow.Author.Tests.{eqb-true, eqb-false}
use native.Mathlib.Omega.{arith}
use Rattle.meaning.proofs.Choose.{or_split}

-- After k turns, through each number below k, i leads to j; turn k goes through k.
module _ (leads : ℕ → ℕ → ℕ → Bool) (turn : (k i j : ℕ) → leads (suc k) i j ≡ (leads k i j || (leads k i k && leads k k j))) where
  abbrev Way : ℕ → ℕ → ℕ → Type 0
  Way k i j = leads k i j ≡ true

  split : (k i j : ℕ) → Way (suc k) i j → Way k i j ⊎ (Way k i k × Way k k j)
  split k i j w = ⊎_elim (λ e. inl e) (λ e. inr ((and-eq-true_iff (leads k i k) (leads k k j)).0 e)) (or_split (leads k i j) _ (sym (turn k i j) ∙ w))

  keep : (k i j : ℕ) → Way k i j → Way (suc k) i j
  keep k i j w = turn k i j ∙ or_inl (leads k i j) _ w

  add : (k i j : ℕ) → Way k i k → Way k k j → Way (suc k) i j
  add k i j v w = turn k i j ∙ or_inr (leads k i j) _ ((and-eq-true_iff (leads k i k) _).1 (v, w))

  pub from_start : (n i j : ℕ) → Way 0 i j → Way n i j
  from_start zero i j w = w
  from_start (suc k) i j w = keep k i j (from_start k i j w)

  abbrev Joins : ℕ → ℕ → Type 0
  Joins n m = (i j : ℕ) → Way n i m → Way n m j → Way n i j

  joins_old : (k m : ℕ) → Joins k m → Joins (suc k) m
  joins_old k m h i j v w = by (split k i m v) (split k m j w)
    where
      by : Way k i m ⊎ (Way k i k × Way k k m) → Way k m j ⊎ (Way k m k × Way k k j) → Way (suc k) i j
      by (inl x) (inl y) = keep k i j (h i j x y)
      by (inl x) (inr y) = add k i j (h i k x y.0) y.1
      by (inr x) (inl y) = add k i j x.0 (h k j x.1 y)
      by (inr x) (inr y) = add k i j x.0 y.1

  -- Turn k adds nothing that leads to k or from k.
  joins_last : (k : ℕ) → Joins (suc k) k
  joins_last k i j v w = add k i j (⊎_elim (λ x. x) (λ x. x.0) (split k i k v)) (⊎_elim (λ x. x) (λ x. x.1) (split k k j w))

  joins_next : (k m : ℕ) → m < suc k → (m < k → Joins k m) → (t : Bool) → eqb m k ≡ t → Joins (suc k) m
  joins_next k m lt h true e = rw (eqb-true m k e) (joins_last k)
  joins_next k m lt h false e = let other : m ≢ k = eqb-false m k e in joins_old k m (h (omega arith))

  pub joins : (n m : ℕ) → m < n → (i j : ℕ) → leads n i m ≡ true → leads n m j ≡ true → leads n i j ≡ true
  joins zero m lt = absurd (omega arith)
  joins (suc k) m lt = joins_next k m lt (joins k m) (eqb m k) refl

  -- What holds of every step at the start, and joins, holds of every chain.
  module _ (P : ℕ → ℕ → Type 0) (start : (i j : ℕ) → Way 0 i j → P i j) (link : (i k j : ℕ) → P i k → P k j → P i j) where
    pub all_chains : (n i j : ℕ) → Way n i j → P i j
    all_chains zero i j w = start i j w
    all_chains (suc k) i j w = ⊎_elim (all_chains k i j) (λ v. link i k j (all_chains k i k v.0) (all_chains k k j v.1)) (split k i j w)
