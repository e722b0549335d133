-- A grammar is free exactly if no left-recursive rule is among the reachable ones; and when the masks alone tell.
use mathlib.Core.Path.{◌≡◌, refl, sym, ◌∙◌}
use mathlib.Core.Bool.{Bool, true, false, false≢true}
use mathlib.Core.List.{List}
use mathlib.Core.Logic.{◌≢◌, ◌↔◌}
use Prim.Native.Nat.{ℕ, ◌<◌}
use lib.ListN.{length}
use Rattle.bits.specs.Mask.{Apart}
use Rattle.bits.proofs.Laws.{has_none, no_rule_lem}
use Rattle.meaning.specs.Grammar.{Grammar, Closed}
use Rattle.meaning.specs.Report.{LeftRecursive, Free}
use Rattle.meaning.specs.Decide.{is_free}
use Rattle.meaning.proofs.Decided.{free_iff}
use Rattle.meaning.proofs.Reached.{free_of_all}
use Rattle.layout.specs.Table.{grammar_of}
use Rattle.layout.specs.Layout.{READ, layout_of, Laid}
use Rattle.layout.proofs.Laying.{laid, closed}
use Rattle.report.specs.Report.{LeftRules, ReachableRules}
use Rattle.report.specs.Lent.{AtStart, StartRules, Told, by_none, by_one}
use Rattle.empties.proofs.Once.{together}
use Rattle.report.proofs.Reaching.{start_reachable}

module _ (g : Grammar) (good : Closed g) (left : ℕ) (l : LeftRules g left) where
  -- By the reachable rules.
  pub by_reached : (reached : ℕ) → ReachableRules g reached → (answer : Bool) → (answer ≡ true) ↔ Apart reached left → answer ≡ is_free g
  by_reached reached m answer tells =
      together answer (is_free g)
      (λ e. (free_iff g good).1 (record { none = λ a h r d. tells.0 e a (m.complete a h r) (l.complete a h d) }))
      (λ e. tells.1 (λ a p q. let w = m.sound a p in ((free_iff g good).0 e).none a w.0 w.1 (l.sound a q).1))

  -- No rule is left-recursive.
  none_left : left ≡ 0 → (a : ℕ) → a < length g.roots → LeftRecursive g a → ⊥
  none_left e a h d = false≢true (sym (has_none a) ∙ rw e at (l.complete a h d))

  pub told_none : left ≡ 0 → Told g
  told_none e = by_none (none_left e)

  pub free_none : left ≡ 0 → true ≡ is_free g
  free_none e = sym ((free_iff g good).1 (free_of_all g (none_left e)))

  -- One at the start of rule 0 is.
  module _ (at : ℕ) (m : StartRules g at) where
    apart_from : ((a : ℕ) → a < length g.roots → AtStart g a → LeftRecursive g a → ⊥) → Apart at left
    apart_from none a p q = let w = m.sound a p in none a w.0 w.1 (l.sound a q).1

    module _ (answer : Bool) (tells : (answer ≡ true) ↔ Apart at left) where
      pub told_one : answer ≡ false → Told g
      told_one e = by_one (λ none. false≢true (sym e ∙ tells.1 (apart_from none)))

      pub free_one : answer ≡ false → false ≡ is_free g
      free_one e =
          together false (is_free g) (λ z. absurd (false≢true z))
          (λ z. absurd (false≢true (sym e ∙ tells.1 (apart_from (λ a h s d. ((free_iff g good).0 z).none a h (start_reachable g s) d)))))

      -- Neither.
      pub untold : left ≢ 0 → answer ≡ true → Told g → ⊥
      untold some e (by_none none) = some (no_rule_lem left l.fits (λ a q. let w = l.sound a q in none a w.0 w.1))
      untold some e (by_one one) = one (λ a h s d. tells.0 e a (m.complete a h s) (l.complete a h d))

-- Of a table that is laid out well the computed test says so.
pub free_said : (t : List ℕ) → Laid t → {answer : Bool} → answer ≡ is_free (grammar_of t) → (answer ≡ true) ↔ Free (grammar_of t)
free_said t a e = rw e (free_iff (grammar_of t) (closed t a))

-- Of a table without a left-recursive rule true is the answer, and the working numbers stay.
pub free_zero : (t : List ℕ) → LeftRules (grammar_of t) 0 → (layout_of t).code ≡ READ → true ≡ is_free (grammar_of t)
free_zero t l a = free_none (grammar_of t) (closed t (laid t a)) 0 l refl

pub told_zero : (t : List ℕ) → LeftRules (grammar_of t) 0 → (layout_of t).code ≡ READ → Told (grammar_of t)
told_zero t l a = told_none (grammar_of t) (closed t (laid t a)) 0 l refl
