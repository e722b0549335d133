-- Which rules may be empty, which are left-recursive, which are reachable and whether a grammar is free, computed with lists of marks, a mark for each node
-- or rule.
-- Nobody need believe it: proofs/Decided shows that this is what Report says.
use Rattle.std.specs.Prelude.{ℕ, zero, suc, Bool, true, ◌&&◌, ◌||◌, cond, length, replicate}
use Rattle.std.proofs.Math.Bool.{false}
use Rattle.std.proofs.Math.Bool as B
use mathlib.Core.List.{List, [], ◌∷◌, map}
use Rattle.std.proofs.Math.ListN.{get_or}
use Rattle.std.proofs.Math.Dec.{ltb}
use Rattle.meaning.specs.Grammar.{Node, empty, range, rule, seq, choice, not, rep, Grammar, root_of}

-- Marks joined, of whichever length.
abbrev pub either : List Bool → List Bool → List Bool
either [] ys = ys
either (x ∷ xs) [] = x ∷ xs
either (x ∷ xs) (y ∷ ys) = (x || y) ∷ either xs ys

-- The one number marked.
abbrev pub only : ℕ → List Bool
only zero = true ∷ []
only (suc i) = false ∷ only i

-- A round: a node stays marked, or is marked if the test says so.
abbrev pub mark : (Node → Bool) → List Node → List Bool → List Bool
mark test ps [] = []
mark test [] (m ∷ ms) = m ∷ ms
mark test (p ∷ ps) (m ∷ ms) = (m || test p) ∷ mark test ps ms

abbrev pub rounds : ℕ → (List Bool → List Bool) → List Bool → List Bool
rounds zero f ms = ms
rounds (suc k) f ms = rounds k f (f ms)

-- The nodes marked in the end, by a test that sees the marks so far. A round that adds none is the last that matters: as many as nodes are enough.
abbrev pub settled : List Node → (List Bool → Node → Bool) → List Bool
settled ps test = rounds (length ps) (λ ms. mark (test ms) ps ms) (replicate (length ps) false)

-- Row i marks where i leads. Through k: what leads to k leads where k does. By turns through each number below n.
abbrev pub through : ℕ → List (List Bool) → List (List Bool)
through k rows = let row = get_or rows k [] in map (λ r. cond (get_or r k false) (either r row) r) rows

abbrev pub through_all : ℕ → List (List Bool) → List (List Bool)
through_all zero rows = rows
through_all (suc k) rows = through k (through_all k rows)

-- The rules of which a marked node is a use.
abbrev pub use_of : Node → List Bool
use_of empty = []
use_of (range lo hi) = []
use_of (rule a) = only a
use_of (seq a b) = []
use_of (choice a b) = []
use_of (not a) = []
use_of (rep a) = []

abbrev pub used : List Node → List Bool → List Bool
used ps [] = []
used [] (m ∷ ms) = []
used (p ∷ ps) (m ∷ ms) = either (cond m (use_of p) []) (used ps ms)

module _ (g : Grammar) where
  -- Whether a node may be empty, by which nodes are marked so.
  abbrev pub empty_by : List Bool → Node → Bool
  empty_by ms empty = true
  empty_by ms (range lo hi) = false
  empty_by ms (rule a) = get_or ms (root_of g a) false
  empty_by ms (seq a b) = get_or ms a false && get_or ms b false
  empty_by ms (choice a b) = get_or ms a false || get_or ms b false
  empty_by ms (not a) = true
  empty_by ms (rep a) = true

  -- The nodes that may be empty, and the rules whose root may be.
  unfoldable pub empty_nodes : List Bool
  empty_nodes = settled g.nodes empty_by

  unfoldable pub empty_rules : List Bool
  unfolding empty_nodes
  empty_rules = let es = empty_nodes in map (λ i. get_or es i false) g.roots

  -- The nodes that a node starts with, by which nodes may be empty.
  abbrev pub starts_of : List Bool → Node → List Bool
  starts_of es empty = []
  starts_of es (range lo hi) = []
  starts_of es (rule a) = only (root_of g a)
  starts_of es (seq a b) = either (only a) (cond (get_or es a false) (only b) [])
  starts_of es (choice a b) = either (only a) (only b)
  starts_of es (not a) = only a
  starts_of es (rep a) = only a

  -- For each node the nodes that a chain of one or more steps leads to, by the nodes to which one step does.
  abbrev pub chained : (Node → List Bool) → List (List Bool)
  chained steps = through_all (length g.nodes) (map steps g.nodes)

  unfoldable pub led_to : List (List Bool)
  unfolding empty_nodes
  led_to = let es = empty_nodes in chained (starts_of es)

  -- The rules to a use of which a chain leads from rule a's root.
  unfoldable pub led_rules : ℕ → List Bool
  unfolding led_to empty_nodes
  led_rules a = used g.nodes (get_or led_to (root_of g a) [])

  -- Rule a is one of the grammar's, and such a chain leads to a use of the same rule.
  unfoldable pub left_recursive : ℕ → Bool
  unfolding led_rules led_to empty_nodes
  left_recursive a = ltb a (length g.roots) && get_or (led_rules a) a false

  -- The nodes that are reached from a node by one step: its children, and the root of the rule that it uses.
  abbrev pub goes_to : Node → List Bool
  goes_to empty = []
  goes_to (range lo hi) = []
  goes_to (rule a) = only (root_of g a)
  goes_to (seq a b) = either (only a) (only b)
  goes_to (choice a b) = either (only a) (only b)
  goes_to (not a) = only a
  goes_to (rep a) = only a

  -- The reachable rules: rule 0, and those of which a node is a use that is reached from its root.
  unfoldable pub reachable : List Bool
  reachable = either (only 0) (used g.nodes (either (only (root_of g 0)) (get_or (chained goes_to) (root_of g 0) [])))

  -- None of the first k rules that are marked is left-recursive.
  abbrev pub none_of : List Bool → ℕ → Bool
  none_of rs zero = true
  none_of rs (suc k) = B.not (get_or rs k false && left_recursive k) && none_of rs k

  unfoldable pub is_free : Bool
  unfolding left_recursive led_rules led_to empty_nodes reachable
  is_free = none_of reachable (length g.roots)
