-- The fewest digits that hold a number are its decimal digits.
use mathlib.Core.Path.{◌≡◌}
use Prim.Native.Nat.{ℕ, zero, suc, ◌/◌, ◌%◌, ◌^◌, ◌≤◌, ◌<◌}
use native.Mathlib.Nat.{pow-suc, one-le-pow, mod-lt, mod-eq_of_lt, le-div_iff_mul-le, div-lt_iff_lt-mul}
use native.Mathlib.Numerals.{sub-one}
use native.Mathlib.Omega.{arith}
use borrow.Author.Tests.{lt-ltb, le-ltb}
use Rattle.io.specs.Digits.{last_digits, hex_digit_ascii, IsDigitCount}
use Rattle.page.specs.Decimal.{digit, decimal_within, decimal}

below_power : (k : ℕ) → k < 10 ^ k
below_power zero = omega (arith, one-le-pow 0 10 (omega arith))
below_power (suc k) = rw (pow-suc 10 k) (omega (arith, below_power k))

one_digit : (d : ℕ) → d < 10 → hex_digit_ascii d ≡ digit d
one_digit d h = simp (lt-ltb d 10 h)

within : (most k n : ℕ) → k ≤ most → IsDigitCount 10 1 n k → last_digits 10 k n ≡ decimal_within most n
unfolding decimal_within
within zero k n h f = absurd (omega (arith, h, f.0))
within (suc most) zero n h f = absurd (omega (arith, f.0))
within (suc most) (suc zero) n h f =
    let small : n < 10 = f.1 in
    let last : n % 10 ≡ n = mod-eq_of_lt small in
    simp (last, lt-ltb n 10 small)
within (suc most) (suc (suc k)) n h f =
    let low : 10 ^ (suc k) ≤ n = rw (sub-one (suc (suc k))) at (f.2 (omega arith)) in
    let high : n < 10 ^ (suc (suc k)) = f.1 in
    let many : 10 ≤ n = omega (arith, pow-suc 10 k, one-le-pow k 10 (omega arith), low) in
    let below : n / 10 < 10 ^ (suc k) = (div-lt_iff_lt-mul {k = 10} (omega arith)).1 (rw (pow-suc 10 (suc k)) at high) in
    let above : 10 ^ k ≤ n / 10 = (le-div_iff_mul-le {k = 10} (omega arith)).1 (rw (pow-suc 10 k) at low) in
    let rest : last_digits 10 (suc k) (n / 10) ≡ decimal_within most (n / 10) = within most (suc k) (n / 10) (omega arith) (omega arith, below, λ _. rw (sub-one (suc k)) above) in
    simp (le-ltb n 10 many, rest, one_digit (n % 10) (mod-lt n (omega arith)))

no_more : (n k : ℕ) → IsDigitCount 10 1 n k → k ≤ suc n
no_more n zero f = omega arith
no_more n (suc zero) f = omega arith
no_more n (suc (suc k)) f =
    let low : 10 ^ (suc k) ≤ n = rw (sub-one (suc (suc k))) at (f.2 (omega arith)) in
    omega (arith, low, below_power (suc k))

pub decimal_digits : (n k : ℕ) → IsDigitCount 10 1 n k → last_digits 10 k n ≡ decimal n
unfolding decimal
decimal_digits n k f = within (suc n) k n (no_more n k f) f
