-- Sets of rules: the closure of each rule's set by way of one rule after the other, and one set spread by the others.
use mathlib.Core.Path.{◌≡◌, refl, sym, ap, ◌∙◌}
use mathlib.Core.Bool.{Bool, true, ◌&&◌, ◌||◌, or-false, and-eq-true_iff}
use mathlib.Core.List.{List}
use mathlib.Core.Logic.{⊎_elim}
use mathlib.Mathlib.Data.Bool.Basic.{or_inl, or_inr}
use Prim.Native.Nat.{ℕ, zero, suc, ◌+◌, ◌≤◌, ◌<◌}
use native.Mathlib.Nat.{eq-or-lt_of_le}
use native.Mathlib.Numerals.{add-one}
use native.Mathlib.Omega.{arith}
use Rattle.std.proofs.lemmas.Grind.{common_steps}
use borrow.Author.Count.{below_more}
use lib.Dec.{eqb}
use lib.Bits.{or_zero_l, or_zero_r}
use lib.ListN.{length, get_or, set}
use lib.Seq.{get_or-set_same, get_or-set_other}
use Rattle.bits.specs.Mask.{has}
use Rattle.bits.proofs.Digits.{has_or, le_or, added}
use Rattle.bits.proofs.Laws.{has_none}
use Rattle.meaning.proofs.Choose.{by_test, or_split}
use Rattle.report.specs.Pass.{only, in_set, widened, led, spread}

-- ---- Bits.
pub has_only : (a b : ℕ) → a < 64 → has (only a) b ≡ eqb b a
has_only a b h = rw or_zero_l at ((added 0 a h).bits b) ∙ ap (λ (x : Bool). x || eqb b a) (has_none b)

-- ---- The closure.
has_widened : (row k set b : ℕ) → has (widened row k set) b ≡ (has set b || has set k && has row b)
unfolding widened
has_widened row k set b =
    by_test (λ s. has s b ≡ (has set b || has set k && has row b)) (has set k) _ _ (λ e. rw e (has_or set row b)) (λ e. rw e (sym (or-false (has set b))))

pub turned : (first old new : List ℕ) (r k : ℕ) → k < r → ((a b : ℕ) → a < r → in_set old a b ≡ led (in_set first) k a b)
    → ((a : ℕ) → a < r → get_or new a 0 ≡ widened (get_or old k 0) k (get_or old a 0)) → (a b : ℕ) → a < r → in_set new a b ≡ led (in_set first) (k + 1) a b
unfolding led
turned first old new r k k-there so_far wider a b h =
    ap (λ s. has s b) (wider a h) ∙ has_widened (get_or old k 0) k (get_or old a 0) b ∙ rw (so_far a b h, so_far a k h, so_far k b k-there, add-one k)

-- Set after set is widened: those before one are, the others are as they were.
pub widened_next : (row k a v : ℕ) (before now : List ℕ) → a < length now → ((j : ℕ) → j < a → get_or now j 0 ≡ widened row k (get_or before j 0))
    → ((j : ℕ) → a ≤ j → get_or now j 0 ≡ get_or before j 0) → v ≡ widened row k (get_or now a 0)
    → ((j : ℕ) → j < a + 1 → get_or (set now a v) j 0 ≡ widened row k (get_or before j 0)) × ((j : ℕ) → a + 1 ≤ j → get_or (set now a v) j 0 ≡ get_or before j 0)
widened_next row k a v before now h done rest e = grind (arith, common_steps)

-- ---- A set spread by the rows of the rules that it has.
widened_keeps : (row k set b : ℕ) → has set b ≡ true → has (widened row k set) b ≡ true
widened_keeps row k set b e = has_widened row k set b ∙ or_inl (has set b) _ e

widened_grows : (row k set : ℕ) → set ≤ widened row k set
unfolding widened
widened_grows row k set = by_test (λ s. set ≤ s) (has set k) _ _ (λ e. le_or set row) (λ e. omega arith)

module _ (row : ℕ → ℕ) (set : ℕ) where
  pub spread_next : (k old found new : ℕ) → old ≡ spread row set k → found ≡ row k → new ≡ widened found k old → new ≡ spread row set (k + 1)
  unfolding spread
  spread_next k old found new so_far is e = e ∙ rw (is, so_far, add-one k)

  spread_grows : (k : ℕ) → set ≤ spread row set k
  unfolding spread
  spread_grows zero = omega arith
  spread_grows (suc k) = let l = spread_grows k in omega (arith, widened_grows (row k) k (spread row set k))

  pub grown : (k new : ℕ) → new ≡ spread row set k → set ≤ new
  grown k new e = rw e (spread_grows k)

  pub spread_keeps : (k b : ℕ) → has set b ≡ true → has (spread row set k) b ≡ true
  unfolding spread
  spread_keeps zero b e = e
  spread_keeps (suc k) b e = widened_keeps (row k) k (spread row set k) b (spread_keeps k b e)

  -- What holds of its rules, and with a rule of those of its row, holds of all.
  pub spread_sound : (P : ℕ → Type 0) (r : ℕ) → ((a b : ℕ) → a < r → P a → has (row a) b ≡ true → P b) → ((b : ℕ) → has set b ≡ true → P b)
      → (k : ℕ) → k ≤ r → (b : ℕ) → has (spread row set k) b ≡ true → P b
  unfolding spread
  spread_sound P r next first zero l b e = first b e
  spread_sound P r next first (suc k) l b e =
      let before = spread_sound P r next first k (omega arith) in
      ⊎_elim (before b) (λ u. let w = (and-eq-true_iff (has (spread row set k) k) (has (row k) b)).0 u in next k b (omega arith) (before k w.0) w.1)
      (or_split (has (spread row set k) b) (has (spread row set k) k && has (row k) b) (sym (has_widened (row k) k (spread row set k) b) ∙ e))

  -- A set that it doesn't change has the rows of its rules.
  pub spread_fixed : (k : ℕ) → spread row set k ≡ set → (a : ℕ) → a < k → has set a ≡ true → (b : ℕ) → has (row a) b ≡ true → has set b ≡ true
  unfolding spread
  spread_fixed zero e a l h b u = absurd (omega arith)
  spread_fixed (suc k) e a l h b u =
      let low : set ≤ spread row set k = spread_grows k in
      let high : spread row set k ≤ widened (row k) k (spread row set k) = widened_grows (row k) k (spread row set k) in
      let same : spread row set k ≡ set = omega arith in
      let last : widened (row k) k set ≡ set = ap (widened (row k) k) (sym same) ∙ e in
      ⊎_elim (λ (z : a ≡ k).
      ap (λ s. has s b) (sym last) ∙ has_widened (row k) k set b ∙ or_inr (has set b) _ ((and-eq-true_iff (has set k) (has (row k) b)).1 (rw z at h, rw z at u)))
      (λ (z : a < k). spread_fixed k same a z h b u) (eq-or-lt_of_le (omega arith))

-- A row with nothing in it widens nothing.
pub widened_none : (k set : ℕ) → set ≡ widened 0 k set
unfolding widened
widened_none k set = by_test (λ s. set ≡ s) (has set k) _ _ (λ e. sym (or_zero_r set)) (λ e. refl)

-- ---- A list filled from the front.
pub filled_next : (f : ℕ → ℕ) (w : List ℕ) (k v : ℕ) → k < length w → ((j : ℕ) → j < k → get_or w j 0 ≡ f j) → v ≡ f k
    → (j : ℕ) → j < k + 1 → get_or (set w k v) j 0 ≡ f j
filled_next f w k v h so_far e =
    below_more (λ j. get_or (set w k v) j 0 ≡ f j) k
    (λ j l. get_or-set_other w k j v 0 (λ (z : j ≡ k). omega arith) ∙ so_far j l) (get_or-set_same w k v 0 h ∙ e)
