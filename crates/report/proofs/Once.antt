-- There is one report on a table and one answer that gives it, one judgement of it, and one content of the working numbers after it.
use mathlib.Core.Path.{◌≡◌, refl, sym, ap, ap₂, ◌∙◌}
use mathlib.Core.Logic.{◌≢◌}
use mathlib.Core.Bool.{Bool, true, false}
use mathlib.Core.List.{List}
use Prim.Native.Nat.{ℕ}
use native.Mathlib.Omega.{arith}
use borrow.Author.Tests.{eqb-true, eqb-false}
use lib.Dec.{eqb}
use Rattle.bits.specs.Mask.{has, how_many, least}
use Rattle.std.specs.Prelude.{Result, Ok, Err}
use Rattle.layout.specs.Layout.{READ, verdict}
use Rattle.layout.proofs.Stops.{refuses}
use Rattle.sheet.specs.declared.Refusal.{Refusal}
use Rattle.sheet.specs.declared.Refusal.TheVariants.{Layout, Loop}
use Rattle.sheet.specs.Check.{code_of, check_of, Accepted}
use Rattle.sheet.proofs.Exact.{one_verdict}
use Rattle.empties.proofs.Once.{together, one_mask}
use Rattle.report.specs.declared.Findings.{Findings}
use Rattle.report.specs.declared.Judgement.{Judgement}
use Rattle.report.specs.Report.{Numbers, numbers_of, Reported}
use Rattle.report.specs.Lent.{Answered}

-- ---- The report.
-- A refusal has a code other than READ.
turned_away : (e : Refusal) → code_of e ≢ READ
turned_away (Layout e) z = refuses e z
turned_away (Loop i) z = absurd (omega arith)

numbers : (code place may_be_empty left_rules count_is lowest : ℕ) (free : Bool) → Numbers
numbers c p m l n w f = record { code = c; place = p; may_be_empty = m; left_recursive = l; how_many = n; lowest = w; free = f }

module _ {t : List ℕ} {x y : Numbers} (p : Reported t x) (q : Reported t y) where
  by_masks : x.may_be_empty ≡ y.may_be_empty → x.left_recursive ≡ y.left_recursive → x.free ≡ y.free → x ≡ y
  unfolding numbers
  by_masks m l f =
      let c : x.code ≡ y.code = p.code ∙ sym q.code in
      let at : x.place ≡ y.place = p.place ∙ sym q.place in
      let n : x.how_many ≡ y.how_many = p.count_is ∙ ap (λ k. how_many (has k) 64) l ∙ sym q.count_is in
      let w : x.lowest ≡ y.lowest = p.lowest ∙ ap (λ k. least (has k) 64) l ∙ sym q.lowest in
      let all : numbers x.code x.place x.may_be_empty x.left_recursive x.how_many x.lowest x.free
      ≡ numbers y.code y.place y.may_be_empty y.left_recursive y.how_many y.lowest y.free = cc in
      all

  by_code : (b : Bool) → eqb (check_of t).code 0 ≡ b → x ≡ y
  unfolding Accepted
  by_code true e =
      let a = eqb-true (check_of t).code 0 e in
      by_masks (one_mask (p.may_be_empty a) (q.may_be_empty a)) (one_mask (p.left_rules a) (q.left_rules a))
      (together x.free y.free (λ e. (q.free a).1 ((p.free a).0 e)) (λ e. (p.free a).1 ((q.free a).0 e)))
  by_code false e =
      let n = eqb-false (check_of t).code 0 e in
      by_masks ((p.refused n).0 ∙ sym (q.refused n).0) ((p.refused n).1 ∙ sym (q.refused n).1) ((p.refused n).4 ∙ sym (q.refused n).4)

  pub one_report : x ≡ y
  one_report = by_code (eqb (check_of t).code 0) refl

-- The numbers of a report are those of one answer alone: a refusal's code is not READ, and tells it with its place.
findings : (may_be_empty left_rules count_is lowest : ℕ) (free : Bool) → Findings
findings m l n w f = record { may_be_empty = m; left_recursive = l; how_many = n; lowest = w; free = f }

-- A refusal of the check, as the report gives it; nothing found where there is none.
told : Result (Unit {0}) Refusal → Result Findings Refusal
told (Ok accepted) = Ok (findings 0 0 0 64 false)
told (Err refusal) = Err refusal

pub equal_numbers : (x y : Result Findings Refusal) → numbers_of x ≡ numbers_of y → x ≡ y
unfolding findings told
equal_numbers (Ok x) (Ok y) e =
    let m : x.may_be_empty ≡ y.may_be_empty = ap (λ (n : Numbers). n.may_be_empty) e in
    let l : x.left_recursive ≡ y.left_recursive = ap (λ (n : Numbers). n.left_recursive) e in
    let h : x.how_many ≡ y.how_many = ap (λ (n : Numbers). n.how_many) e in
    let w : x.lowest ≡ y.lowest = ap (λ (n : Numbers). n.lowest) e in
    let f : x.free ≡ y.free = ap (λ (n : Numbers). n.free) e in
    let all : findings x.may_be_empty x.left_recursive x.how_many x.lowest x.free ≡ findings y.may_be_empty y.left_recursive y.how_many y.lowest y.free = cc in
    ap Ok all
equal_numbers (Ok x) (Err q) e = absurd (turned_away q (sym (ap (λ (n : Numbers). n.code) e)))
equal_numbers (Err p) (Ok y) e = absurd (turned_away p (ap (λ (n : Numbers). n.code) e))
equal_numbers (Err p) (Err q) e =
    ap told (one_verdict (Err p) (Err q) (ap₂ verdict (ap (λ (n : Numbers). n.code) e) (ap (λ (n : Numbers). n.place) e)))

-- There is one answer on a table.
pub one_result : {t : List ℕ} {x y : Result Findings Refusal} → Reported t (numbers_of x) → Reported t (numbers_of y) → x ≡ y
one_result {t} {x} {y} p q = equal_numbers x y (one_report p q)

-- ---- The judgement.
judgement : (left_rules : ℕ) (free : Bool) → Judgement
judgement l f = record { left_recursive = l; free = f }

pub one_answer : {t before : List ℕ} {x y : Judgement} {v w : List ℕ} → Answered t x before v → Answered t y before w → (x ≡ y) × (v ≡ w)
unfolding judgement
one_answer {t} {before} p q =
    let a = p.used in
    let b = q.used in
    let told : a.told ≡ b.told = together a.told b.told (λ e. b.tells.1 (a.tells.0 e)) (λ e. a.tells.1 (b.tells.0 e)) in
    (ap₂ judgement (one_mask p.left_rules q.left_rules) (p.free ∙ sym q.free), a.written ∙ rw told (sym b.written))
