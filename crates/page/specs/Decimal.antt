-- A number in decimal digits, as few as hold it.
use Rattle.std.specs.Prelude.{cond, List, [], ◌∷◌, ◌++◌, ℕ, zero, suc, ◌+◌, ◌/◌, ◌%◌, ltb}

-- The digit 0 is the byte 48, and the others follow it.
abbrev pub digit : ℕ → ℕ
digit d = 48 + d

-- A number below 10 is one digit; any other is the digits of its tenth part, and its last. At most so many digits.
unfoldable pub decimal_within : (most number : ℕ) → List ℕ
decimal_within zero n = []
decimal_within (suc most) n = cond (ltb n 10) (digit n ∷ []) (decimal_within most (n / 10) ++ (digit (n % 10) ∷ []))

-- No number above 0 has more digits than it counts.
unfoldable pub decimal : ℕ → List ℕ
decimal n = decimal_within (suc n) n
