-- What is promised to a caller of the check who lends words for the nodes that may be empty.
use Rattle.std.specs.Prelude.{◌≡◌, List, ℕ}
use Rattle.layout.specs.Table.{grammar_of}
use Rattle.layout.specs.Layout.{Laid}
use Rattle.empties.specs.Empties.{EmptyRules, EmptyNodes}
use Rattle.sheet.specs.declared.Examined.{Examined}
use Rattle.sheet.specs.Check.{verdict_of, check_of}

-- The verdict is the check's. A table that is laid out well has the nodes marked that may be empty, whether or not it is accepted; else nothing is marked.
pub record ExaminedAs (t before after : List ℕ) (x : Examined) : Type 0 where
  pub verdict : verdict_of x.verdict ≡ check_of t
  pub rules : Laid t → EmptyRules (grammar_of t) x.empty_rules
  pub marks : Laid t → EmptyNodes (grammar_of t) after
  pub refused : ¬ Laid t → (x.empty_rules ≡ 0) × (after ≡ before)
