-- 01, "The report": which rules and which nodes may be empty, as a mask and as marks. What may be empty is said in meaning's Report.
use Rattle.std.specs.Prelude.{◌≡◌, true, false, List, ℕ, ◌^◌, ◌<◌, length}
use Rattle.bits.specs.Mask.{has}
use Rattle.bits.specs.Marks.{marked}
use Rattle.meaning.specs.Grammar.{Grammar, node, root}
use Rattle.meaning.specs.Report.{MayBeEmpty}

-- 01: "a 64-bit mask of rules [..] (bit i for rule i)": of the first r rules those of which P holds.
pub record MaskOf (r : ℕ) (P : ℕ → Type 0) (mask : ℕ) : Type 0 where
  pub fits : mask < 2 ^ 64
  pub sound : (a : ℕ) → has mask a ≡ true → (a < r) × P a
  pub complete : (a : ℕ) → a < r → P a → has mask a ≡ true

-- 01: "rules whose root may be empty".
abbrev pub EmptyRules : Grammar → ℕ → Type 0
EmptyRules g = MaskOf (length g.roots) (λ a. MayBeEmpty g (root g a))

-- The nodes that may be empty are marked, and no others.
pub record EmptyNodes (g : Grammar) (marks : List ℕ) : Type 0 where
  pub words : length marks ≡ 8
  pub sound : (i : ℕ) → marked marks i ≡ true → (i < length g.nodes) × MayBeEmpty g (node g i)
  pub complete : (i : ℕ) → i < length g.nodes → MayBeEmpty g (node g i) → marked marks i ≡ true

-- No node is marked.
abbrev pub Unmarked : List ℕ → Type 0
Unmarked marks = (length marks ≡ 8) × ((i : ℕ) → marked marks i ≡ false)
