-- Demand 2 admits one outcome of a call. So none of 01's stand-ins meets it: one that returns one fixed answer, one that returns at once with nothing written, one that
-- makes the first attempt honestly and only claims to have grown, one that invents its visit count or its furthest position. One that refuses all lines does not meet demand 1.
use mathlib.Core.Path.{◌≡◌, refl, sym, ap, ◌∙◌}
use mathlib.Core.Bool.{Bool, true, false}
use Prim.Native.Nat.{◌+◌}
use native.Mathlib.Omega.{arith}
use Rattle.meaning.specs.Rules.{Amount}
use Rattle.meaning.specs.Report.{Free}
use Rattle.meaning.specs.Decide.{is_free}
use Rattle.meaning.specs.Reading.{State, Run, keeps, read_by}
use Rattle.meaning.proofs.Decided.{free_iff}
use Rattle.sheet.specs.Given.{WellFormed}
use Rattle.layout.proofs.Tests.{failed-iff}
use Rattle.reader.specs.Answer.{Outcome}
use Rattle.koskorbelu.specs.Demands.{Call, back, code, visits, furthest, grammar, Answers, Demand2}
use Rattle.koskorbelu.proofs.Demand1.{told_so, given}
use Rattle.koskorbelu.proofs.Demand2.{is_closed, was_taken, demand_2}

module _ (c : Call) (w : WellFormed c.table) {o p : Outcome} (h : Demand2 c o) (k : Demand2 c p) where
  same_answer : h.answer ≡ k.answer
  same_answer = (k.only h.answer h.amount h.rules).0

  same_amount : h.amount ≡ k.amount
  same_amount = (k.only h.answer h.amount h.rules).1

  same_furthest : furthest o ≡ furthest p
  same_furthest = h.reached ∙ ap (λ (n : Amount). n.furthest) same_amount ∙ sym k.reached

  same_visits : visits o ≡ visits p
  same_visits = by (is_free (grammar c)) refl
    where
      by : (free : Bool) → is_free (grammar c) ≡ free → visits o ≡ visits p
      by true e =
          let f : Free (grammar c) = (free_iff (grammar c) (is_closed c w)).0 e in
          let x = h.kept f (visits p) in
          let y = k.kept f (visits o) in
          let n : visits o + visits p ≡ visits p + visits o = omega arith in
          let d : Run.done h.answer x.0 ≡ Run.done k.answer y.0 = sym x.2 ∙ ap (read_by (grammar c) c.line keeps) n ∙ y.2 in
          let z : x.0 ≡ y.0 = cc in
          sym y.1 ∙ ap (λ (s : State). s.left) (sym z) ∙ x.1
      by false e =
          let n : ¬ Free (grammar c) = (failed-iff (free_iff (grammar c) (is_closed c w))).0 e in
          h.others n ∙ ap (λ (a : Amount). a.visits) same_amount ∙ sym (k.others n)

  pub one_outcome : o ≡ p
  one_outcome = sym (told_so c h.said) ∙ rw (same_answer, same_visits, same_furthest) (told_so c k.said)

-- What meets demand 2 is what comes back.
pub comes_back : (c : Call) → Answers (code (back c)) → {o : Outcome} → Demand2 c o → o ≡ back c
comes_back c a h = one_outcome c (was_taken c (given c) a).sheet h (demand_2 c a)
