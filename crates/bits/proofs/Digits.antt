-- The digits of a mask: what `|`, `&`, `<<`, the count of ones and the count of trailing zeros do to them.
use mathlib.Core.Path.{◌≡◌, refl, sym, ap, ap₂, ◌∙◌}
use mathlib.Core.Bool.{Bool, true, false, not, ◌&&◌, ◌||◌}
use Prim.Native.Nat.{ℕ, zero, suc, ◌+◌, ◌*◌, ◌/◌, ◌%◌, ◌^◌, ◌≤◌, ◌<◌, min, max}
use native.Mathlib.Nat.{zero-mul, mod-lt, mul_assoc, mul-one, add-zero, pow-suc, min-zero}
use native.Mathlib.Numerals.{add-one}
use native.Mathlib.Omega.{arith}
use borrow.Author.Tests.{ne_eqb}
use lib.Dec.{lit<, eqb, eqb-zero-suc, eqb-suc-zero, eqb-suc-suc}
use lib.Arith.{digits_div, digits_mod}
use lib.Pow.{pow_pos, shl_exact, shr_lt}
use lib.Bits.{bit_and, bit_or, or_step, and_step, and_mask, or_add_and, and_le_r, shifted_half, shifted_even}
use lib.Count.{ones, ones_step, ones-le, count_trailing_zeros, under}
use Rattle.bits.specs.Mask.{digit, has, Added, one, how_many, next, least}

pub low : (n : ℕ) → n % 2 < 2
low n = mod-lt n (lit< tt)

digit_low : (m i : ℕ) → digit m i < 2
unfolding digit
digit_low m zero = low m
digit_low m (suc i) = digit_low (m / 2) i

-- ---- a shift

shifted : (i : ℕ) → i < 64 → (1 * 2 ^ i) % 2 ^ 64 ≡ 1 * 2 ^ i
shifted i h = shl_exact 1 i 64 (lit< tt) (omega arith)

pub digit_zero : (i : ℕ) → digit 0 i ≡ 0
unfolding digit
digit_zero zero = refl
digit_zero (suc i) = digit_zero i

digit_shift : (k i : ℕ) → digit (1 * 2 ^ k) i ≡ one (eqb i k)
unfolding digit
digit_shift zero zero = refl
digit_shift zero (suc i) = digit_zero i ∙ sym (ap one (eqb-suc-zero i))
digit_shift (suc k) zero = shifted_even 1 k ∙ sym (ap one (eqb-zero-suc k))
digit_shift (suc k) (suc i) = ap (λ (x : ℕ). digit x i) (shifted_half 1 k) ∙ digit_shift k i ∙ sym (ap one (eqb-suc-suc i k))

pub is_one : (b : Bool) → eqb (one b) 1 ≡ b
is_one true = refl
is_one false = refl

has_shift : (k i : ℕ) → has (1 * 2 ^ k) i ≡ eqb i k
unfolding has
has_shift k i = ap (λ (x : ℕ). eqb x 1) (digit_shift k i) ∙ is_one (eqb i k)

-- ---- or

max_low : (x y : ℕ) → x < 2 → y < 2 → (max x y < 2) × (eqb (max x y) 1 ≡ (eqb x 1 || eqb y 1))
max_low zero zero p q = (lit< tt, refl)
max_low zero (suc zero) p q = (lit< tt, refl)
max_low (suc zero) zero p q = (lit< tt, refl)
max_low (suc zero) (suc zero) p q = (lit< tt, refl)
max_low (suc (suc x)) y p q = absurd (omega arith)
max_low zero (suc (suc y)) p q = absurd (omega arith)
max_low (suc zero) (suc (suc y)) p q = absurd (omega arith)

or_low : (a b : ℕ) → bit_or a b % 2 ≡ max (a % 2) (b % 2)
or_low a b = rw (or_step a b) (digits_mod (bit_or (a / 2) (b / 2)) (max_low (a % 2) (b % 2) (low a) (low b)).0)

or_half : (a b : ℕ) → bit_or a b / 2 ≡ bit_or (a / 2) (b / 2)
or_half a b = rw (or_step a b) (digits_div (bit_or (a / 2) (b / 2)) (max_low (a % 2) (b % 2) (low a) (low b)).0)

digit_or : (a b i : ℕ) → digit (bit_or a b) i ≡ max (digit a i) (digit b i)
unfolding digit
digit_or a b zero = or_low a b
digit_or a b (suc i) = ap (λ (x : ℕ). digit x i) (or_half a b) ∙ digit_or (a / 2) (b / 2) i

pub has_or : (a b i : ℕ) → has (bit_or a b) i ≡ (has a i || has b i)
unfolding has
has_or a b i = ap (λ (x : ℕ). eqb x 1) (digit_or a b i) ∙ (max_low (digit a i) (digit b i) (digit_low a i) (digit_low b i)).1

pub le_or : (a b : ℕ) → a ≤ bit_or a b
le_or a b = omega (arith, or_add_and a b, and_le_r a b)

pub added : (m i : ℕ) → i < 64 → Added m i (bit_or m ((1 * 2 ^ i) % 2 ^ 64))
added m i h = rw (shifted i h) (record { bits = λ j. has_or m (1 * 2 ^ i) j ∙ ap (λ t. has m j || t) (has_shift i j); grows = le_or m (1 * 2 ^ i) })

-- ---- and

min_low : (x y : ℕ) → x < 2 → y < 2 → (min x y < 2) × (eqb (min x y) 1 ≡ (eqb x 1 && eqb y 1))
min_low zero zero p q = (lit< tt, refl)
min_low zero (suc zero) p q = (lit< tt, refl)
min_low (suc zero) zero p q = (lit< tt, refl)
min_low (suc zero) (suc zero) p q = (lit< tt, refl)
min_low (suc (suc x)) y p q = absurd (omega arith)
min_low zero (suc (suc y)) p q = absurd (omega arith)
min_low (suc zero) (suc (suc y)) p q = absurd (omega arith)

digit_and : (a b i : ℕ) → digit (bit_and a b) i ≡ min (digit a i) (digit b i)
unfolding digit
digit_and a b zero = rw (and_step a b) (digits_mod (bit_and (a / 2) (b / 2)) (min_low (a % 2) (b % 2) (low a) (low b)).0)
digit_and a b (suc i) =
    ap (λ (x : ℕ). digit x i) (rw (and_step a b) (digits_div (bit_and (a / 2) (b / 2)) (min_low (a % 2) (b % 2) (low a) (low b)).0)) ∙ digit_and (a / 2) (b / 2) i

pub has_and : (a b i : ℕ) → has (bit_and a b) i ≡ (has a i && has b i)
unfolding has
has_and a b i = ap (λ (x : ℕ). eqb x 1) (digit_and a b i) ∙ (min_low (digit a i) (digit b i) (digit_low a i) (digit_low b i)).1

and_shift : (m i : ℕ) → bit_and m (1 * 2 ^ i) ≡ digit m i * 2 ^ i
unfolding digit
and_shift m zero = and_mask m 1 ∙ sym (mul-one (m % 2))
and_shift m (suc i) =
    and_step m (1 * 2 ^ suc i)
    ∙ ap₂ (λ (x y : ℕ). bit_and (m / 2) x * 2 + min (m % 2) y) (shifted_half 1 i) (shifted_even 1 i)
    ∙ ap₂ (λ (x y : ℕ). x * 2 + y) (and_shift (m / 2) i) (min-zero (m % 2))
    ∙ add-zero _
    ∙ mul_assoc (digit (m / 2) i) (2 ^ i) 2
    ∙ ap (λ (x : ℕ). digit (m / 2) i * x) (sym (pow-suc 2 i))

test_low : (d i : ℕ) → d < 2 → not (eqb (d * 2 ^ i) 0) ≡ eqb d 1
test_low zero i h = rw (zero-mul (2 ^ i))
test_low (suc zero) i h = rw (ne_eqb (1 * 2 ^ i) 0 (λ (e : 1 * 2 ^ i ≡ 0). omega (arith, pow_pos i)))
test_low (suc (suc d)) i h = absurd (omega arith)

pub has_test : (m i : ℕ) → i < 64 → not (eqb (bit_and m ((1 * 2 ^ i) % 2 ^ 64)) 0) ≡ has m i
unfolding has
has_test m i h = rw (shifted i h, and_shift m i) (test_low (digit m i) i (digit_low m i))

-- ---- counts

pub one_low : (d : ℕ) → d < 2 → one (eqb d 1) ≡ d
one_low zero h = refl
one_low (suc zero) h = refl
one_low (suc (suc d)) h = absurd (omega arith)

pub half_lt : (m k : ℕ) → m < 2 ^ suc k → m / 2 < 2 ^ k
half_lt m k h = shr_lt k 1 (rw (add-one k) h)

pub counted : (k m : ℕ) → m < 2 ^ k → ones m ≡ how_many (has m) k
unfolding how_many has digit
counted zero m h = omega (arith, ones-le 0 m h)
counted (suc k) m h = ones_step m ∙ ap₂ (λ (x y : ℕ). x + y) (sym (one_low (m % 2) (low m))) (counted k (m / 2) (half_lt m k h))

under_low : (d t : ℕ) → d < 2 → under d t ≡ next (eqb d 1) t
under_low zero t h = refl
under_low (suc zero) t h = refl
under_low (suc (suc d)) t h = absurd (omega arith)

pub lowest_is : (k m : ℕ) → count_trailing_zeros k m ≡ least (has m) k
unfolding least has digit count_trailing_zeros
lowest_is zero m = refl
lowest_is (suc k) m = under_low (m % 2) (count_trailing_zeros k (m / 2)) (low m) ∙ ap (next (eqb (m % 2) 1)) (lowest_is k (m / 2))
