-- 01, "The report": which nodes may be empty, what a node starts with, and, by 02's W-202, which rules are reachable and which grammars are free;
-- and by 02's W-209 which repetitions repeat nothing.
use Rattle.std.specs.Prelude.{ℕ, ◌+◌, ◌*◌, ◌<◌, List, length}
use Rattle.meaning.specs.Grammar.{Node, empty, rule, seq, choice, not, rep, Grammar, node, root}

-- 01: "may be empty (least reading): empty, not and repetition yes; range no; rule as its root; sequence if both are; choice if either is".
pub data MayBeEmpty (g : Grammar) : Node → Type 0 where
  of_empty : MayBeEmpty g empty
  of_not : {a : ℕ} → MayBeEmpty g (not a)
  of_rep : {a : ℕ} → MayBeEmpty g (rep a)
  of_rule : {a : ℕ} → MayBeEmpty g (root g a) → MayBeEmpty g (rule a)
  of_seq : {a b : ℕ} → MayBeEmpty g (node g a) → MayBeEmpty g (node g b) → MayBeEmpty g (seq a b)
  of_first : {a b : ℕ} → MayBeEmpty g (node g a) → MayBeEmpty g (choice a b)
  of_second : {a b : ℕ} → MayBeEmpty g (node g b) → MayBeEmpty g (choice a b)

-- 02, W-209: "A repetition whose child may be empty".
pub data RepeatsNothing (g : Grammar) : Node → Type 0 where
  repeats : {a : ℕ} → MayBeEmpty g (node g a) → RepeatsNothing g (rep a)

-- No node of the grammar is one, whether or not it can be reached.
pub record Consuming (g : Grammar) : Type 0 where
  pub none : (i : ℕ) → i < length g.nodes → RepeatsNothing g (node g i) → ⊥

-- 01: "starts with its child (not, repetition), both children (choice), its first child, and also its second if the first may be empty (sequence)".
pub data Starts (g : Grammar) : Node → Node → Type 0 where
  by_not : {a : ℕ} → Starts g (not a) (node g a)
  by_rep : {a : ℕ} → Starts g (rep a) (node g a)
  by_choice : {a b : ℕ} → Starts g (choice a b) (node g a)
  by_other : {a b : ℕ} → Starts g (choice a b) (node g b)
  by_first : {a b : ℕ} → Starts g (seq a b) (node g a)
  by_second : {a b : ℕ} → MayBeEmpty g (node g a) → Starts g (seq a b) (node g b)
  by_rule : {a : ℕ} → Starts g (rule a) (root g a)

-- A chain of none or more steps of one kind.
pub data Chain (Step : Node → Node → Type 0) : Node → Node → Type 0 where
  here : {p : Node} → Chain Step p p
  on : {p q r : Node} → Chain Step p q → Step q r → Chain Step p r

abbrev pub Leads : Grammar → Node → Node → Type 0
Leads g = Chain (Starts g)

-- 01: "exactly if a chain of one or more such steps leads from its root to a use of the same rule".
pub record LeftRecursive (g : Grammar) (a : ℕ) : Type 0 where
  pub before : Node
  pub chain : Leads g (root g a) before
  pub last : Starts g before (rule a)

-- 02, W-202: "through any kind of node". A node's children, whether or not they may be empty.
pub data Child (g : Grammar) : Node → Node → Type 0 where
  to_first : {a b : ℕ} → Child g (seq a b) (node g a)
  to_second : {a b : ℕ} → Child g (seq a b) (node g b)
  to_one : {a b : ℕ} → Child g (choice a b) (node g a)
  to_other : {a b : ℕ} → Child g (choice a b) (node g b)
  to_denied : {a : ℕ} → Child g (not a) (node g a)
  to_repeated : {a : ℕ} → Child g (rep a) (node g a)

-- Rule 0 is reachable, and so is every rule used by a node that is reached from a reachable rule's root, through any children.
pub data Reachable (g : Grammar) : ℕ → Type 0 where
  start : Reachable g 0
  used : {a b : ℕ} → Reachable g a → Chain (Child g) (root g a) (rule b) → Reachable g b

-- 02, W-202: "Free shall mean that no rule reachable from rule 0 (through any kind of node) is left-recursive."
pub record Free (g : Grammar) : Type 0 where
  pub none : (a : ℕ) → a < length g.roots → Reachable g a → LeftRecursive g a → ⊥

-- The visits that are enough for any line of a free grammar: 2 x N x (L + 1) + 1, for N nodes and a line of L bytes.
abbrev pub bound : Grammar → List ℕ → ℕ
bound g line = 2 * length g.nodes * (length line + 1) + 1
