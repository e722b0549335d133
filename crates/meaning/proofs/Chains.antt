-- Chains join; one of starts from a rule's root to a use of the same rule makes the rule left-recursive.
use mathlib.Core.Path.{◌≡◌, refl, sym, ◌∙◌}
use Prim.Native.Nat.{ℕ}
use Rattle.meaning.specs.Grammar.{Node, rule, Grammar, root}
use Rattle.meaning.specs.Report.{Starts, by_rule, Chain, Leads, here, on, LeftRecursive}

module _ {Step : Node → Node → Type 0} where
  -- A step, then a chain.
  pub first : {p q w : Node} → Step p q → Chain Step q w → Chain Step p w
  first k here = on here k
  first k (on h l) = on (first k h) l

  -- A chain, then a chain.
  pub then : {p q w : Node} → Chain Step p q → Chain Step q w → Chain Step p w
  then h here = h
  then h (on k l) = on (then h k) l

module _ (g : Grammar) where
  round_from : (a : ℕ) {p q : Node} → Leads g p q → p ≡ root g a → q ≡ rule a → LeftRecursive g a
  round_from a here e f =
      let same : root g a ≡ rule a = sym e ∙ f in
      let step : Starts g (rule a) (root g a) = by_rule in
      record { before = root g a; chain = here; last = rw same (rw same at step) }
  round_from a (on h k) e f = record { before = _; chain = rw e at h; last = rw f at k }

  -- A root that is itself a use of its rule starts with itself.
  pub round : (a : ℕ) → Leads g (root g a) (rule a) → LeftRecursive g a
  round a h = round_from a h refl refl
