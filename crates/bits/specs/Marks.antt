-- A set of nodes in words of 64 bits: node i is in the set if bit i % 64 of word i / 64 is 1.
use Rattle.std.specs.Prelude.{◌≡◌, Bool, ◌||◌, List, ℕ, ◌/◌, ◌%◌, eqb, length, get_or}
use Rattle.bits.specs.Mask.{has}

unfoldable pub marked : List ℕ → ℕ → Bool
marked ms i = has (get_or ms (i / 64) 0) (i % 64)

-- The set with i added.
pub record WithMark (ms : List ℕ) (i : ℕ) (after : List ℕ) : Type 0 where
  pub same_length : length after ≡ length ms
  pub bits : (j : ℕ) → marked after j ≡ (marked ms j || eqb j i)
