-- What the code's node stands for, and what its fields may be.
use Rattle.std.specs.Prelude.{◌≡◌, List, ℕ, ◌≤◌, ◌<◌}
use Rattle.meaning.specs.Grammar as grammar
use Rattle.meaning.specs.Grammar.{empty, range, rule, seq, choice, not, rep}
use Rattle.layout.specs.declared.Node.{Node}
use Rattle.layout.specs.declared.Node.TheVariants.{Empty, Range, Rule, Sequence, Choice, Not, Repetition}
use Rattle.layout.specs.Table.{rules_of, most_nodes, most_rules, node_of}

-- The node of a grammar.
abbrev pub meaning_of : Node → grammar.Node
meaning_of Empty = empty
meaning_of (Range lowest highest) = range lowest highest
meaning_of (Rule a) = rule a
meaning_of (Sequence a b) = seq a b
meaning_of (Choice a b) = choice a b
meaning_of (Not a) = not a
meaning_of (Repetition a) = rep a

-- What node i may have for fields, in a table of r rules.
abbrev pub Bounds : (r i : ℕ) → grammar.Node → Type 0
Bounds r i empty = Unit {0}
Bounds r i (range a b) = (a ≤ b) × (b ≤ 255)
Bounds r i (rule a) = a < r
Bounds r i (seq a b) = (a < i) × (b < i)
Bounds r i (choice a b) = (a < i) × (b < i)
Bounds r i (not a) = a < i
Bounds r i (rep a) = a < i

-- It is node i of the table, and its fields are in bounds: those of the table, and so those of every table.
pub record IsNode (t : List ℕ) (i : ℕ) (n : Node) : Type 0 where
  pub node : meaning_of n ≡ node_of t i
  pub fields : Bounds (rules_of t) i (meaning_of n)
  pub small : Bounds most_rules most_nodes (meaning_of n)
