-- What is found of a node is what the nodes below it and the nodes that are marked say.
use mathlib.Core.Path.{◌≡◌, ap, ap₂, ◌∙◌}
use mathlib.Core.Bool.{Bool}
use mathlib.Core.List.{List}
use mathlib.Core.Logic.{⊎_elim}
use Prim.Native.Nat.{ℕ, ◌<◌}
use lib.Bits.{bit_or}
use Rattle.bits.specs.Marks.{marked}
use Rattle.meaning.specs.Grammar.{node}
use Rattle.layout.specs.declared.Node.{Node}
use Rattle.layout.specs.declared.Node.TheVariants.{Empty, Range}
use Rattle.layout.specs.Table.{nodes_of, grammar_of}
use Rattle.layout.specs.Nodes.{meaning_of, IsNode}
use Rattle.layout.proofs.Laying.{node_meant}
use Rattle.report.specs.Pass.{in_row, starts_of, starts_at}
use Rattle.report.proofs.of_node.Goals as goal

-- What is said of the code's node is said of the grammar's.
said_of : (marks scratch t : List ℕ) (i : ℕ) (n : Node) → i < nodes_of t → IsNode t i n
    → starts_of (marked marks) (starts_at scratch) (meaning_of n) ≡ starts_of (marked marks) (starts_at scratch) (node (grammar_of t) i)
said_of marks scratch t i n there is = ap (starts_of (marked marks) (starts_at scratch)) (node_meant t i n there is)

pub returns-in-Rule : goal.returns-in-Rule
unfolding starts_of
returns-in-Rule c = said_of _ _ _ _ _ c.requires.0 c.in-Rule.ensures

pub returns-in-Sequence : goal.returns-in-Sequence
unfolding starts_of
returns-in-Sequence c =
    c.in_row.ensures
    ∙ ap (λ (e : Bool). in_row e c.starts_at.result c.starts_at-in-Sequence.result) c.marked.ensures
    ∙ ap₂ (in_row (marked c.args.marks.now c.in-Sequence.a)) c.starts_at.ensures c.starts_at-in-Sequence.ensures
    ∙ said_of _ _ _ _ _ c.requires.0 c.in-Sequence.ensures

pub returns-in-Choice : goal.returns-in-Choice
unfolding starts_of
returns-in-Choice c =
    ap₂ bit_or c.starts_at-in-Choice.ensures c.starts_at-in-Choice-2.ensures ∙ said_of _ _ _ _ _ c.requires.0 c.in-Choice.ensures

pub returns-in-Not : goal.returns-in-Not
unfolding starts_of
returns-in-Not c = c.starts_at-in-Not.ensures ∙ said_of _ _ _ _ _ c.requires.0 c.in-Not.ensures

pub returns-in-Repetition : goal.returns-in-Repetition
unfolding starts_of
returns-in-Repetition c = c.starts_at-in-Repetition.ensures ∙ said_of _ _ _ _ _ c.requires.0 c.in-Repetition.ensures

pub returns-in-Empty : goal.returns-in-Empty
unfolding starts_of
returns-in-Empty c =
    let said = said_of c.args.marks.now c.args.scratch.now c.args.table.now.bytes.now c.args.i c.node.result c.requires.0 c.node.ensures in
    ⊎_elim (λ (e : c.node.result ≡ Empty). rw e at said)
    (λ (e : (lowest : ℕ) × (highest : ℕ) × (c.node.result ≡ Range lowest highest)). rw e.2 at said) c.in-Empty.is
