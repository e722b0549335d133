-- 01, "The report", and 02's W-202: what it says of a table. Which rules may be empty, left-recursive or reachable is said in meaning's Report.
use Rattle.std.specs.Prelude.{◌≡◌, Bool, true, false, List, ◌↔◌, ℕ, length, Result, Ok, Err}
use Rattle.bits.specs.Mask.{has, how_many, least}
use Rattle.meaning.specs.Grammar.{Grammar}
use Rattle.meaning.specs.Report.{LeftRecursive, Reachable, Free}
use Rattle.layout.specs.Table.{grammar_of}
use Rattle.empties.specs.Empties.{MaskOf, EmptyRules}
use Rattle.layout.specs.Layout.{READ}
use Rattle.sheet.specs.declared.Refusal.{Refusal}
use Rattle.sheet.specs.Check.{code_of, place_of, check_of, Accepted}
use Rattle.report.specs.declared.Findings.{Findings}

-- 01: "a like mask of left-recursive rules".
abbrev pub LeftRules : Grammar → ℕ → Type 0
LeftRules g = MaskOf (length g.roots) (LeftRecursive g)

-- The reachable rules, likewise.
abbrev pub ReachableRules : Grammar → ℕ → Type 0
ReachableRules g = MaskOf (length g.roots) (Reachable g)

-- The numbers of a report, and its yes or no.
pub record Numbers : Type 0 where
  pub code : ℕ
  pub place : ℕ
  pub may_be_empty : ℕ
  pub left_recursive : ℕ
  pub how_many : ℕ
  pub lowest : ℕ
  pub free : Bool

-- Those of what the code returns.
abbrev pub numbers_of : Result Findings Refusal → Numbers
numbers_of (Ok x) = record { code = READ; place = 0; may_be_empty = x.may_be_empty; left_recursive = x.left_recursive; how_many = x.how_many; lowest = x.lowest; free = x.free }
numbers_of (Err refusal) = record { code = code_of refusal; place = place_of refusal; may_be_empty = 0; left_recursive = 0; how_many = 0; lowest = 64; free = false }

-- 01: "The report gives code, place, [both masks], how many bits are set in the second, and the lowest rule set in it (64 if none).
-- On a refusal both masks and the number are 0, the lowest is 64." W-202: "the report adds a yes or no for free (no on a refusal)".
pub record Reported (t : List ℕ) (x : Numbers) : Type 0 where
  pub code : x.code ≡ (check_of t).code
  pub place : x.place ≡ (check_of t).place
  pub may_be_empty : Accepted t → EmptyRules (grammar_of t) x.may_be_empty
  pub left_rules : Accepted t → LeftRules (grammar_of t) x.left_recursive
  pub count_is : x.how_many ≡ how_many (has x.left_recursive) 64
  pub lowest : x.lowest ≡ least (has x.left_recursive) 64
  pub free : Accepted t → (x.free ≡ true) ↔ Free (grammar_of t)
  pub refused : (Accepted t → ⊥) → (x.may_be_empty ≡ 0) × (x.left_recursive ≡ 0) × (x.how_many ≡ 0) × (x.lowest ≡ 64) × (x.free ≡ false)
