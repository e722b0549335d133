-- Both masks of a report are those that meaning's Decide computes of the table's grammar, and so is the mask that the reader is told.
use mathlib.Core.Path.{◌≡◌, refl, sym, ap, fun_ext, ◌∙◌}
use mathlib.Core.Bool.{Bool, true, false, false≢true}
use mathlib.Core.List.{List}
use mathlib.Core.Logic.{◌↔◌}
use Prim.Native.Nat.{ℕ, ◌+◌, ◌≤◌, ◌<◌}
use native.Mathlib.Omega.{arith}
use borrow.Author.Tests.{ltb-true, ltb-false}
use lib.Dec.{ltb}
use lib.ListN.{length, get_or, length-map, get_or-eq_default}
use Rattle.bits.specs.Mask.{has, mask_of}
use Rattle.bits.proofs.Laws.{is_mask_of}
use Rattle.meaning.specs.Grammar.{Grammar, Closed}
use Rattle.meaning.specs.Decide.{empty_rules, left_recursive}
use Rattle.meaning.proofs.Decided.{empty_iff, recursive_rule, recursive_iff}
use Rattle.layout.specs.Table.{each, grammar_of}
use Rattle.sheet.specs.Check.{Accepted}
use Rattle.layout.proofs.Laying.{well_laid, rule_count, closed, length-each, getD-each}
use Rattle.empties.specs.Empties.{MaskOf}
use Rattle.empties.proofs.Once.{together}
use Rattle.sheet.proofs.Accepting.{laid}
use Rattle.report.specs.Report.{LeftRules, Numbers, Reported}

module _ {r : ℕ} {P : ℕ → Type 0} {mask : ℕ} (m : MaskOf r P mask) (few : r ≤ 64) (marks : List Bool) (as_many : length marks ≡ r)
    (right : (a : ℕ) → a < r → (get_or marks a false ≡ true) ↔ P a) where
  same_bit : (a : ℕ) → has mask a ≡ get_or marks a false
  same_bit a = at (ltb a r) refl
    where
      at : (b : Bool) → ltb a r ≡ b → has mask a ≡ get_or marks a false
      at true e =
          let h = ltb-true a r e in
          together (has mask a) (get_or marks a false) (λ u. (right a h).1 (m.sound a u).1) (λ u. m.complete a h ((right a h).0 u))
      at false e =
          let h = ltb-false a r e in
          let none : get_or marks a false ≡ false = get_or-eq_default marks false (omega arith) in
          together (has mask a) (get_or marks a false) (λ u. let l = (m.sound a u).0 in absurd (omega arith)) (λ u. absurd (false≢true (sym none ∙ u)))

  marked : mask ≡ mask_of marks
  marked = is_mask_of 64 mask marks m.fits (omega arith) (λ a h. same_bit a)

-- A mask of the left-recursive rules has the bits that Decide computes.
pub recursive_bits : (g : Grammar) → Closed g → {mask : ℕ} → LeftRules g mask → has mask ≡ left_recursive g
recursive_bits g good {mask} m =
    fun_ext (λ a. together (has mask a) (left_recursive g a) (λ e. let h = m.sound a e in (recursive_iff g good a h.0).1 h.1) (λ e. let h = recursive_rule g good a e in m.complete a h.0 h.1))

unfoldable pub recursive_rules : Grammar → List Bool
recursive_rules g = each (left_recursive g) 0 (length g.roots)

empty_marks : (g : Grammar) → length (empty_rules g) ≡ length g.roots
unfolding empty_rules
empty_marks g = length-map g.roots _

module _ (t : List ℕ) (accepted : Accepted t) where
  few_rules : length (grammar_of t).roots ≤ 64
  few_rules = omega (arith, rule_count t, (well_laid t (laid t accepted)).few_rules)

  pub recursive_mask : {mask : ℕ} → LeftRules (grammar_of t) mask → mask ≡ mask_of (recursive_rules (grammar_of t))
  unfolding recursive_rules
  recursive_mask m =
      marked m few_rules (recursive_rules (grammar_of t)) (length-each _ 0 (length (grammar_of t).roots))
      (λ a h.
      let both = recursive_iff (grammar_of t) (closed t (laid t accepted)) a h in
      let e : 0 + a ≡ a = omega arith in
      let mark : get_or (recursive_rules (grammar_of t)) a false ≡ left_recursive (grammar_of t) a =
      getD-each (left_recursive (grammar_of t)) 0 (length (grammar_of t).roots) a false h ∙ ap (left_recursive (grammar_of t)) e in
      ((λ u. both.0 (sym mark ∙ u)), (λ d. mark ∙ both.1 d)))

module _ {t : List ℕ} {x : Numbers} (reported : Reported t x) (accepted : Accepted t) where
  pub computed_empty : x.may_be_empty ≡ mask_of (empty_rules (grammar_of t))
  computed_empty = marked (reported.may_be_empty accepted) (few_rules t accepted) (empty_rules (grammar_of t)) (empty_marks (grammar_of t)) (empty_iff (grammar_of t) (closed t (laid t accepted)))

  pub computed_recursive : x.left_recursive ≡ mask_of (recursive_rules (grammar_of t))
  computed_recursive = recursive_mask t accepted (reported.left_rules accepted)
