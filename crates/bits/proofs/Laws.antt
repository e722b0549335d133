-- The laws of masks for callers: when two masks are equal, what the empty set is, when two sets are apart, and what the halves of a mask give.
use mathlib.Core.Path.{◌≡◌, refl, sym, ap, ◌∙◌}
use mathlib.Core.Bool.{Bool, true, false, and-eq-true_iff, false≢true}
use mathlib.Core.Logic.{◌↔◌}
use mathlib.Core.List.{List, [], ◌∷◌}
use Prim.Native.Nat.{ℕ, zero, suc, ◌+◌, ◌*◌, ◌/◌, ◌%◌, ◌^◌, ◌≤◌, ◌<◌}
use native.Mathlib.Nat.{pow-suc}
use native.Mathlib.Omega.{arith}
use lib.Dec.{lit<, eqb}
use lib.Arith.{digits_div, digits_mod}
use lib.Pow.{pow_mono, split}
use lib.ListN.{get_or, length}
use borrow.Author.Tests.{eqb-true, eq-eqb}
use lib.Bits.{bit_and, and_le_l}
use lib.Count.{ones, trailing_of_zero}
use Rattle.bits.specs.Mask.{digit, has, Apart, one, how_many, least, mask_of}
use Rattle.bits.proofs.Digits.{low, digit_zero, is_one, has_and, one_low, half_lt, counted, lowest_is}

-- ---- the empty set

pub has_none : (i : ℕ) → has 0 i ≡ false
unfolding has
has_none i = ap (λ (x : ℕ). eqb x 1) (digit_zero i)

pub count_none : 0 ≡ how_many (has 0) 64
unfolding ones
count_none = counted 64 0 (lit< tt)

pub lowest_none : 64 ≡ least (has 0) 64
lowest_none = sym (trailing_of_zero 64) ∙ lowest_is 64 0

-- ---- equal masks

same_digit : (x y : ℕ) → x < 2 → y < 2 → eqb x 1 ≡ eqb y 1 → x ≡ y
same_digit x y p q e = sym (one_low x p) ∙ ap one e ∙ one_low y q

-- Two masks with the same bits are one.
pub same_mask : (k a b : ℕ) → a < 2 ^ k → b < 2 ^ k → ((i : ℕ) → i < k → has a i ≡ has b i) → a ≡ b
unfolding has digit
same_mask zero a b ha hb h = omega arith
same_mask (suc k) a b ha hb h =
    let l = same_digit (a % 2) (b % 2) (low a) (low b) (h 0 (omega arith)) in
    let r = same_mask k (a / 2) (b / 2) (half_lt a k ha) (half_lt b k hb) (λ i lt. h (suc i) (omega arith)) in
    omega arith

-- A mask without a rule is 0.
pub no_rule_lem : (m : ℕ) → m < 2 ^ 64 → ((i : ℕ) → has m i ≡ true → ⊥) → m ≡ 0
no_rule_lem m h none = same_mask 64 m 0 h (lit< tt) (λ i lt. out (has m i) (none i) ∙ sym (has_none i))
  where
    out : (b : Bool) → (b ≡ true → ⊥) → b ≡ false
    out true n = absurd (n refl)
    out false n = refl

-- ---- two sets

pub apart_iff : (a b : ℕ) → a < 2 ^ 64 → (eqb (bit_and a b) 0 ≡ true) ↔ Apart a b
apart_iff a b h = (
  λ e i p q. false≢true (sym (has_none i) ∙ ap (λ (m : ℕ). has m i) (sym (eqb-true (bit_and a b) 0 e)) ∙ has_and a b i ∙ (and-eq-true_iff (has a i) (has b i)).1 (p, q)),
  λ n. eq-eqb (bit_and a b) 0
      (no_rule_lem (bit_and a b) (omega (arith, and_le_l a b)) (λ i e. let w = (and-eq-true_iff (has a i) (has b i)).0 (sym (has_and a b i) ∙ e) in n i w.0 w.1)),
)

-- ---- the mask of a list of marks

one_lt : (b : Bool) → one b < 2
one_lt true = lit< tt
one_lt false = lit< tt

pub has_mask_of : (bs : List Bool) (i : ℕ) → has (mask_of bs) i ≡ get_or bs i false
unfolding has digit mask_of
has_mask_of [] i = has_none i
has_mask_of (b ∷ bs) zero = ap (λ (x : ℕ). eqb x 1) (digits_mod (mask_of bs) (one_lt b)) ∙ is_one b
has_mask_of (b ∷ bs) (suc i) = ap (λ (x : ℕ). has x i) (digits_div (mask_of bs) (one_lt b)) ∙ has_mask_of bs i

mask_of_lt : (bs : List Bool) → mask_of bs < 2 ^ length bs
unfolding mask_of
mask_of_lt [] = lit< tt
mask_of_lt (b ∷ bs) = let h = mask_of_lt bs in let l = one_lt b in rw (pow-suc 2 (length bs)) (omega arith)

-- A mask with the bits of a list of marks is that list's mask.
pub is_mask_of : (k m : ℕ) (bs : List Bool) → m < 2 ^ k → length bs ≤ k → ((i : ℕ) → i < k → has m i ≡ get_or bs i false) → m ≡ mask_of bs
is_mask_of k m bs hm le h =
    let p : 2 ^ length bs ≤ 2 ^ k = pow_mono le in
    let l = mask_of_lt bs in
    same_mask k m (mask_of bs) hm (omega arith) (λ i lt. h i lt ∙ sym (has_mask_of bs i))

-- ---- halves

-- The halves of a mask give it back.
pub halves : (m low high : ℕ) → low ≡ m % 2 ^ 32 → high ≡ m / 2 ^ 32 → high * 2 ^ 32 + low ≡ m
halves m low high l h = rw (l, h) (split m 32)
