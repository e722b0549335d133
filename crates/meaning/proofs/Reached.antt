-- Nodes that are met: those reached from a reachable rule's root through any child of any kind. What a node that is met starts with is met too.
use Prim.Native.Nat.{ℕ, ◌<◌}
use lib.ListN.{length}
use Rattle.meaning.specs.Grammar.{Node, rule, Grammar, root}
use Rattle.meaning.specs.Report.{Starts, by_not, by_rep, by_choice, by_other, by_first, by_second, by_rule, Chain, Leads, here, on, LeftRecursive, Free}
use Rattle.meaning.specs.Report.{Child, to_first, to_second, to_one, to_other, to_denied, to_repeated, Reachable, used}

module _ (g : Grammar) where
  -- 01: "A grammar is free if no rule in its table is left-recursive." What was free by that is free.
  pub free_of_all : ((a : ℕ) → a < length g.roots → LeftRecursive g a → ⊥) → Free g
  free_of_all none = record { none = λ a h r d. none a h d }

  pub record Met (p : Node) : Type 0 where
    pub number : ℕ
    pub reachable : Reachable g number
    pub chain : Chain (Child g) (root g number) p

  pub met_root : {a : ℕ} → Reachable g a → Met (root g a)
  met_root {a} h = record { number = a; reachable = h; chain = here }

  pub met_child : {p q : Node} → Met p → Child g p q → Met q
  met_child m k = record { number = m.number; reachable = m.reachable; chain = on m.chain k }

  pub met_rule : {a : ℕ} → Met (rule a) → Reachable g a
  met_rule m = used m.reachable m.chain

  pub met_start : {p q : Node} → Starts g p q → Met p → Met q
  met_start by_not m = met_child m to_denied
  met_start by_rep m = met_child m to_repeated
  met_start by_choice m = met_child m to_one
  met_start by_other m = met_child m to_other
  met_start by_first m = met_child m to_first
  met_start (by_second e) m = met_child m to_second
  met_start by_rule m = met_root (met_rule m)

  pub met_leads : {p q : Node} → Leads g p q → Met p → Met q
  met_leads here m = m
  met_leads (on h k) m = met_start k (met_leads h m)
