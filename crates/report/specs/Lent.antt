-- What is promised to a caller who asks which rules of a table are left-recursive and whether it is free, and lends working numbers.
use Rattle.std.specs.Prelude.{◌≡◌, Bool, true, cond, List, ◌↔◌, ℕ, ◌*◌, ◌<◌, ◌≤◌, length, get_or}
use Rattle.meaning.specs.Grammar.{rule, Grammar, root}
use Rattle.meaning.specs.Report.{Leads, LeftRecursive}
use Rattle.meaning.specs.Decide.{is_free}
use Rattle.layout.specs.Table.{nodes_of, grammar_of}
use Rattle.empties.specs.Empties.{MaskOf}
use Rattle.report.specs.declared.Judgement.{Judgement}
use Rattle.report.specs.Pass.{started_all, used_all}
use Rattle.report.specs.Report.{LeftRules}

-- Rule 0, and the rules to a use of which a chain of starts leads from its root.
pub data AtStart (g : Grammar) : ℕ → Type 0 where
  itself : AtStart g 0
  led : {a : ℕ} → Leads g (root g 0) (rule a) → AtStart g a

abbrev pub StartRules : Grammar → ℕ → Type 0
StartRules g = MaskOf (length g.roots) (AtStart g)

-- The masks alone tell whether the grammar is free: no rule is left-recursive, or one at the start of rule 0 is.
pub data Told (g : Grammar) : Type 0 where
  by_none : ((a : ℕ) → a < length g.roots → LeftRecursive g a → ⊥) → Told g
  by_one : ¬ ((a : ℕ) → a < length g.roots → AtStart g a → LeftRecursive g a → ⊥) → Told g

-- Whether the table is free, and the working numbers after it: where the masks don't tell, one pass more has put down the rules that each node uses.
pub record Judged (t : List ℕ) (answer : Bool) (before after : List ℕ) : Type 0 where
  pub free : answer ≡ is_free (grammar_of t)
  pub told : Bool
  pub tells : (told ≡ true) ↔ Told (grammar_of t)
  pub written : after ≡ cond told before (used_all t before)

-- Of the working numbers two for each node of the table are used, and say what the last pass found. The others are as they were.
pub record Used (t : List ℕ) (before after : List ℕ) : Type 0 where
  pub same_length : length after ≡ length before
  pub rest : (i : ℕ) → 2 * nodes_of t ≤ i → get_or after i 0 ≡ get_or before i 0
  pub told : Bool
  pub tells : (told ≡ true) ↔ Told (grammar_of t)
  pub written : after ≡ cond told (started_all t before) (used_all t before)

-- The mask of left-recursive rules, and 02, W-202: "Free shall mean that no rule reachable from rule 0 [..] is left-recursive". The answer, and the working numbers after it.
pub record Answered (t : List ℕ) (answer : Judgement) (before after : List ℕ) : Type 0 where
  pub left_rules : LeftRules (grammar_of t) answer.left_recursive
  pub free : answer.free ≡ is_free (grammar_of t)
  pub used : Used t before after
