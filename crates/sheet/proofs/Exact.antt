-- The check gives each code exactly where its row says, at that row's place; and accepts exactly the well-formed tables.
use mathlib.Core.Path.{◌≡◌, refl, sym, ap, ap₂, subst, ◌∙◌}
use mathlib.Core.Logic.{◌↔◌, ◌≢◌, ◌⊎◌, inl, inr}
use mathlib.Core.Bool.{Bool, true, false, cond}
use Rattle.std.proofs.Common.{Result, Ok, Err}
use mathlib.Core.List.{List}
use Prim.Native.Nat.{ℕ, ◌+◌, ◌≤◌, ◌<◌}
use native.Mathlib.Omega.{arith}
use borrow.Author.Tests.{eqb-true, eqb-false, ne_eqb}
use lib.Dec.{eqb}
use Rattle.layout.specs.declared.Refusal.TheVariants.{Short, Version, Count, Length, Root, Kind, Field}
use Rattle.layout.specs.Table.{nodes_of, most_nodes, grammar_of}
use Rattle.layout.specs.Layout.{Verdict, READ, SHORT, VERSION, COUNT, LENGTH, ROOT, KIND, FIELD, verdict, first_fault, layout_of, Laid}
use Rattle.layout.proofs.Exact as layout
use Rattle.layout.proofs.Cases.{search_cases, search_none, search_found}
use Rattle.empties.proofs.Once.{Words, one_mask, one_marking}
use Rattle.sheet.specs.declared.Refusal.{Refusal}
use Rattle.sheet.specs.declared.Refusal.TheVariants.{Layout, Loop}
use Rattle.sheet.specs.declared.Examined.{Examined}
use Rattle.sheet.specs.Check.{LOOP, verdict_of, loop_fault, check_of, Accepted}
use Rattle.sheet.specs.Examine.{ExaminedAs}
use Rattle.sheet.specs.Given.{WellFormed, Given, laid_out, loop, read}
use Rattle.sheet.proofs.Searching.{loop_cases, loop_found, loop_iff, by_loops}

module _ (t : List ℕ) where
  -- Where the layout refuses, so does the check.
  refuses : (layout_of t).code ≢ READ → check_of t ≡ layout_of t
  unfolding check_of
  refuses n = rw (ne_eqb (layout_of t).code READ n)

  -- ---- A code that is given is the check's.
  gives : {code place : ℕ} → Given t code place → check_of t ≡ verdict code place
  gives (laid_out g n) = let e = (layout.given_iff t).0 g in refuses (λ r. n (ap (λ (v : Verdict). v.code) (sym e) ∙ r)) ∙ e
  gives (loop w {i} l before d) =
      let laid = (layout.laid_iff t).1 w in
      by_loops t laid ∙ search_found (loop_fault t) (nodes_of t) i l (λ j k. (loop_iff t laid j (omega arith)).1 (before j k)) 16 (loop_found t laid i l d)
  gives (read w) =
      let laid = (layout.laid_iff t).1 w.laid in
      by_loops t laid ∙ search_none (loop_fault t) (nodes_of t) (λ i l. (loop_iff t laid i l).1 (w.loops i l))

  -- ---- The check's code is given.
  abbrev Right : Verdict → Type 0
  Right v = Given t v.code v.place

  right_loops : Laid t → Right (first_fault (loop_fault t) 0 (nodes_of t))
  right_loops laid =
      search_cases Right (loop_fault t) 0 (nodes_of t) first
      (λ none. read (record { laid = (layout.laid_iff t).0 laid; loops = λ i l. (loop_iff t laid i l).0 (none i (omega arith) (omega arith)) }))
    where
      first : (i : ℕ) → 0 ≤ i → i < 0 + nodes_of t → ((j : ℕ) → 0 ≤ j → j < i → loop_fault t j ≡ READ) → loop_fault t i ≢ READ → Right (verdict (loop_fault t i) i)
      first i g l before =
          let lt : i < nodes_of t = omega arith in
          loop_cases t laid i lt (λ x. x ≢ READ → Right (verdict x i))
          (λ d n. loop ((layout.laid_iff t).0 laid) lt (λ j k. (loop_iff t laid j (omega arith)).0 (before j (omega arith) k)) d) (λ m n. absurd (n refl))

  -- Some code is always given.
  pub given : Given t (check_of t).code (check_of t).place
  unfolding Laid
  given = by (eqb (layout_of t).code READ) refl
    where
      by : (b : Bool) → eqb (layout_of t).code READ ≡ b → Right (check_of t)
      by true e = let laid = eqb-true _ _ e in rw (by_loops t laid) (right_loops laid)
      by false e = let n = eqb-false _ _ e in rw (refuses n) (laid_out (layout.given t) n)

  -- The table of codes, each row in both directions.
  pub given_iff : {code place : ℕ} → Given t code place ↔ (check_of t ≡ verdict code place)
  given_iff = (gives, (λ e. subst Right e given))

  pub given_once : {code place code' place' : ℕ} → Given t code place → Given t code' place' → (code ≡ code') × (place ≡ place')
  given_once g h = let e = sym (gives g) ∙ gives h in (ap (λ (v : Verdict). v.code) e, ap (λ (v : Verdict). v.place) e)

  -- A code of the check is one of the layout's, or LOOP; and a place is a node's or a rule's number.
  named : {code place : ℕ} → Given t code place → ((code ≤ FIELD) ⊎ (code ≡ LOOP)) × (place < most_nodes)
  named (laid_out g n) = let s = layout.small t g in (inl s.0, s.1)
  named (loop w l before d) = let few = w.few_nodes in (inr refl, omega arith)
  named (read w) = (inl (omega arith), omega arith)

  pub check_code : ((check_of t).code ≤ FIELD) ⊎ ((check_of t).code ≡ LOOP)
  check_code = (named given).0

  pub small_verdict : ((check_of t).code ≤ LOOP) × ((check_of t).place < most_nodes)
  small_verdict = (most (named given).0, (named given).1)
    where
      most : {code : ℕ} → (code ≤ FIELD) ⊎ (code ≡ LOOP) → code ≤ LOOP
      most (inl h) = omega arith
      most (inr e) = omega arith

  -- The code 0 is given to a well-formed table only.
  of_read : {code place : ℕ} → Given t code place → code ≡ READ → WellFormed t
  of_read (laid_out g n) e = absurd (n e)
  of_read (loop w l before d) e = absurd (omega arith)
  of_read (read w) e = w

  pub accepted_iff : Accepted t ↔ WellFormed t
  unfolding Accepted
  accepted_iff = (of_read given, (λ w. ap (λ (v : Verdict). v.code) (gives (read w))))

-- ---- A verdict is that of one answer alone.
-- The answer of this code, at this place.
answer : (code place : ℕ) → Result (Unit {0}) Refusal
answer c p =
    cond (eqb c READ) (Ok tt)
    (Err (cond (eqb c SHORT) (Layout Short) (cond (eqb c VERSION) (Layout Version) (cond (eqb c COUNT) (Layout Count) (cond (eqb c LENGTH) (Layout Length)
    (cond (eqb c ROOT) (Layout (Root p)) (cond (eqb c KIND) (Layout (Kind p)) (cond (eqb c FIELD) (Layout (Field p)) (Loop p)))))))))

answered : (x : Result (Unit {0}) Refusal) → answer (verdict_of x).code (verdict_of x).place ≡ x
unfolding answer
answered (Ok tt) = refl
answered (Err (Layout Short)) = refl
answered (Err (Layout Version)) = refl
answered (Err (Layout Count)) = refl
answered (Err (Layout Length)) = refl
answered (Err (Layout (Root a))) = refl
answered (Err (Layout (Kind i))) = refl
answered (Err (Layout (Field i))) = refl
answered (Err (Loop i)) = refl

pub one_verdict : (x y : Result (Unit {0}) Refusal) → verdict_of x ≡ verdict_of y → x ≡ y
one_verdict x y e = sym (answered x) ∙ ap (λ (v : Verdict). answer v.code v.place) e ∙ answered y

-- ---- One examination of a table: what is returned, and what is left in words of 64 bits.
examined : (v : Result (Unit {0}) Refusal) (rules : ℕ) → Examined
examined v r = record { verdict = v; empty_rules = r }

pub one_examination : {t before after after' : List ℕ} {x y : Examined} → ExaminedAs t before after x → ExaminedAs t before after' y → Words after → Words after' → (x ≡ y) × (after ≡ after')
unfolding examined Laid
one_examination {t} {before} {after} {after'} {x} {y} a b fits fits' = by (eqb (layout_of t).code READ) refl
  where
    all : x.empty_rules ≡ y.empty_rules → x ≡ y
    all r = ap₂ examined (one_verdict x.verdict y.verdict (a.verdict ∙ sym b.verdict)) r

    by : (q : Bool) → eqb (layout_of t).code READ ≡ q → (x ≡ y) × (after ≡ after')
    by true e =
        let laid : (layout_of t).code ≡ READ = eqb-true _ _ e in
        (all (one_mask (a.rules laid) (b.rules laid)), one_marking (grammar_of t) after after' fits fits' (a.marks laid) (b.marks laid))
    by false e =
        let out : (layout_of t).code ≢ READ = eqb-false _ _ e in
        (all ((a.refused out).0 ∙ sym (b.refused out).0), (a.refused out).1 ∙ sym (b.refused out).1)
