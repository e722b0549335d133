-- A set of small numbers as a mask: i is in the set if binary digit i of the mask, counted from the lowest, is 1.
use Rattle.std.specs.Prelude.{◌≡◌, Bool, true, false, ◌||◌, List, [], ◌∷◌, ℕ, zero, suc, ◌+◌, ◌*◌, ◌/◌, ◌%◌, ◌≤◌, eqb}

-- Binary digit i of m.
unfoldable pub digit : ℕ → ℕ → ℕ
digit m zero = m % 2
digit m (suc i) = digit (m / 2) i

-- 01: "bit i for rule i".
unfoldable pub has : ℕ → ℕ → Bool
has m i = eqb (digit m i) 1

-- r is the set m with i added: no number has left it, and so it is no smaller as a mask.
pub record Added (m i r : ℕ) : Type 0 where
  pub bits : (j : ℕ) → has r j ≡ (has m j || eqb j i)
  pub grows : m ≤ r

-- No number is in both sets.
abbrev pub Apart : ℕ → ℕ → Type 0
Apart a b = (i : ℕ) → has a i ≡ true → has b i ≡ true → ⊥

abbrev pub one : Bool → ℕ
one true = 1
one false = 0

-- 01: "how many bits are set": how many of 0 .. k - 1 pass p.
unfoldable pub how_many : (ℕ → Bool) → ℕ → ℕ
how_many p zero = 0
how_many p (suc k) = one (p 0) + how_many (λ (i : ℕ). p (suc i)) k

abbrev pub next : Bool → ℕ → ℕ
next true n = 0
next false n = suc n

-- 01: "the lowest rule set in it (64 if none)": the least of 0 .. k - 1 that passes p, and k if none does.
unfoldable pub least : (ℕ → Bool) → ℕ → ℕ
least p zero = 0
least p (suc k) = next (p 0) (least (λ (i : ℕ). p (suc i)) k)

unfoldable pub mask_of : List Bool → ℕ
mask_of [] = 0
mask_of (b ∷ bs) = mask_of bs * 2 + one b
