-- What a grammar is, and what the application of a node at a position answers.
use Rattle.std.specs.Prelude.{ℕ, ◌<◌, Bool, ◌&&◌, cond, List, [], ◌∷◌, length, get_or, leb, ltb, eqb}
use Rattle.std.proofs.Math.Option.{Option, none, some}

infixr 60 ◌⋈◌
-- 01, the table of kinds 0 to 6. A child is a node's number.
pub data Node : Type 0 where
  empty : Node
  range : ℕ → ℕ → Node
  rule : ℕ → Node
  seq : ℕ → ℕ → Node
  choice : ℕ → ℕ → Node
  not : ℕ → Node
  rep : ℕ → Node

-- 01: "r two-byte root nodes, one for each rule. Then n nodes". Rule 0 is the start.
pub record Grammar : Type 0 where
  pub nodes : List Node
  pub roots : List ℕ

abbrev pub node : Grammar → ℕ → Node
node g i = get_or g.nodes i empty

abbrev pub root_of : Grammar → ℕ → ℕ
root_of g a = get_or g.roots a 0

-- 003's P(A).
abbrev pub root : Grammar → ℕ → Node
root g a = node g (root_of g a)

-- 01: "A child's number is below its parent's"; a rule is below r.
abbrev pub Below : Grammar → ℕ → Node → Type 0
Below g i empty = Unit {0}
Below g i (range lo hi) = Unit {0}
Below g i (rule a) = a < length g.roots
Below g i (seq a b) = (a < i) × (b < i)
Below g i (choice a b) = (a < i) × (b < i)
Below g i (not a) = a < i
Below g i (rep a) = a < i

-- 003: "any closed PEG": every rule has a root, and every child is there, below its parent.
pub record Closed (g : Grammar) : Type 0 where
  pub nodes : (i : ℕ) → i < length g.nodes → Below g i (node g i)
  pub roots : (a : ℕ) → a < length g.roots → root_of g a < length g.nodes

-- A list of trees. 01: "one tree: the rule, its span, the trees of its root as children"; then the trees after it.
pub data Trees : Type 0 where
  no_trees : Trees
  tree : (rule start end : ℕ) → (children after : Trees) → Trees

-- 01: "trees joined".
abbrev pub ◌⋈◌ : Trees → Trees → Trees
no_trees ⋈ us = us
tree a x e cs ts ⋈ us = tree a x e cs (ts ⋈ us)

-- 01: "Its answer is a failure, or an end and a list of trees."
pub data Answer : Type 0 where
  fail : Answer
  ok : ℕ → Trees → Answer

-- 01: "A successful rule use is one tree": what a use of rule a at x answers where its root answers so.
unfoldable pub wrap : ℕ → ℕ → Answer → Answer
wrap a x fail = fail
wrap a x (ok e ts) = ok e (tree a x e ts no_trees)

-- 01: "one byte in range, else fails, also at the line's end".
unfoldable pub fits : List ℕ → ℕ → ℕ → ℕ → Bool
fits line lo hi x = ltb x (length line) && leb lo (get_or line x 0) && leb (get_or line x 0) hi

-- 003's table L, which 01's live uses are, and 01's kept answers: an answer noted for a number (of a rule or a node) and a position.
pub record Note : Type 0 where
  pub number : ℕ
  pub position : ℕ
  pub answer : Answer

-- 003: L[(A, x) ↦ X].
abbrev pub noted : ℕ → ℕ → Answer → List Note → List Note
noted a x r ns = record { number = a; position = x; answer = r } ∷ ns

-- 003: "L[(A, x) ↦ X](B, y) = L(B, y) if B ≠ A or y ≠ x", and X otherwise.
unfoldable pub look : List Note → ℕ → ℕ → Option Answer
look [] b y = none
look (n ∷ ns) b y = cond (eqb n.number b && eqb n.position y) (some n.answer) (look ns b y)
