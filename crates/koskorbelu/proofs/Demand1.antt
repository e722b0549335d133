-- Demand 1: every call is answered by the row of 01's table of codes whose condition holds, with that row's numbers and buffers, and by no other.
use mathlib.Core.Path.{◌≡◌, refl, sym, ap, subst, ◌∙◌}
use mathlib.Core.Logic.Iff
use mathlib.Core.Logic.{◌↔◌, ◌≢◌, ◌⊎◌, inl, inr}
use mathlib.Core.Bool.{true, ◌&&◌, ◌||◌}
use mathlib.Core.List.{List}
use Rattle.std.proofs.Common.{Result}
use mathlib.Mathlib.Data.Bool.Basic.{or-eq-false-eq-eq-false-and-eq-false}
use Prim.Native.Nat.{ℕ, ◌<◌, ◌≤◌}
use native.Mathlib.Omega.{arith}
use borrow.Author.Tests.{ltb-true, ltb-false, eqb-true, eqb-false, lt-ltb, le-ltb, eq-eqb, ne_eqb}
use lib.Dec.{ltb, eqb}
use lib.ListN.{length}
use Rattle.meaning.specs.Grammar.{Trees, Answer, fail, ok}
use Rattle.meaning.specs.Reading.{State, made, Run}
use Rattle.meaning.proofs.Choose.{by_test, or_split}
use Rattle.layout.specs.Layout.{Verdict}
use Rattle.layout.specs.Layout.{READ, verdict}
use Rattle.sheet.specs.Check.{LOOP, check_of, Accepted}
use Rattle.sheet.specs.Given as sheet
use Rattle.sheet.specs.Given.{WellFormed}
use Rattle.sheet.proofs.Exact as exact
use Rattle.layout.proofs.Tests.{ltb_iff, both, failed-iff}
use Rattle.stored.specs.Stored.{records_of, stored_length}
use Rattle.reader.specs.Answer.{FAIL, longest_line, most_allowance, most_records, Numbers, Outcome, cleared, match_outcome, run_outcome, reading_of, numbers_of, Leaves}
use Rattle.reader.specs.declared.Reading.{Reading}
use Rattle.reader.specs.declared.Refusal.{Refusal}
use Rattle.reader.proofs.Exact.{one_result}
use Rattle.koskorbelu.specs.Demands.{Call, back, code, run, needed, version, ended, EndsBefore, Ended, fails, rest, records, room, reads, Came, effort, deep, done, Taken, Given, check, line}
use Rattle.koskorbelu.specs.Demands.{allow, work, taken, Demand1}

module _ (c : Call) where
  ends_iff : (e : ℕ) → ((c.whole && ltb e (length c.line)) ≡ true) ↔ EndsBefore c e
  ends_iff e = both _ _ Iff.rfl (ltb_iff _ _)

  -- ---- What is given is what comes back.
  accepted : WellFormed c.table → check_of c.table ≡ verdict READ 0
  accepted w = (exact.given_iff c.table).0 (sheet.read w)

  -- Where the line is read, what comes back is how the reading ended.
  pub by_run : Taken c → {m : Run} → run c ≡ m → back c ≡ run_outcome c.whole (length c.line) c.allowance m (cleared (needed c) c.work) c.room
  unfolding reading_of
  by_run t e = rw (accepted t.sheet, le-ltb _ _ t.short, ne_eqb _ _ t.allowed.0, le-ltb _ _ t.allowed.1, le-ltb _ _ t.lent, e)

  -- What comes back of an answer.
  abbrev pub told : (visits furthest : ℕ) → Answer → Outcome
  told visits furthest fail = ended c FAIL 0 0 visits 0 furthest
  told visits furthest (ok e ts) = match_outcome c.whole (length c.line) e ts visits furthest (cleared (needed c) c.work) c.room

  pub told_so : {visits furthest : ℕ} {r : Answer} {o : Outcome} → Ended c visits furthest r o → told visits furthest r ≡ o
  unfolding match_outcome
  told_so fails = refl
  told_so (rest {e = e} h) = rw ((ends_iff e).1 h) refl
  told_so (records {e = e} n h) = rw ((failed-iff (ends_iff e)).1 n, lt-ltb most_records _ h) refl
  told_so (room {e = e} n h l) = rw ((failed-iff (ends_iff e)).1 n, le-ltb _ _ h, lt-ltb _ _ l) refl
  told_so (reads {e = e} n h l) = rw ((failed-iff (ends_iff e)).1 n, le-ltb _ _ h, le-ltb _ _ l) refl

  pub by_answer : Taken c → (r : Answer) (s : State) → run c ≡ Run.done r s → back c ≡ told (made c.allowance s) s.furthest r
  unfolding run_outcome
  by_answer t fail s e = by_run t e
  by_answer t (ok y ts) s e = by_run t e

  pub gives : {o : Outcome} → Given c o → back c ≡ o
  unfolding reading_of run_outcome
  gives (check {code = k} {place = p} h n) = let z = n in rw ((exact.given_iff c.table).0 h, lt-ltb 0 k (omega arith))
  gives (line w h) = rw (accepted w, lt-ltb _ _ h)
  gives (allow w s (inl h)) = rw (accepted w, le-ltb _ _ s, eq-eqb _ _ h)
  gives (allow w s (inr h)) = rw (accepted w, le-ltb _ _ s, ne_eqb _ _ (λ (e : c.allowance ≡ 0). omega arith), lt-ltb _ _ h)
  gives (work w s a h) = rw (accepted w, le-ltb _ _ s, ne_eqb _ _ a.0, le-ltb _ _ a.1, lt-ltb _ _ h)
  gives (taken t (effort e)) = by_run t e
  gives (taken t (deep e)) = by_run t e
  gives (taken t (done {r = r} {s = s} e h)) = by_answer t r s e ∙ told_so h

  -- ---- What comes back is given.
  of_match : (e : ℕ) (ts : Trees) (s : State) → run c ≡ Run.done (ok e ts) s
      → Came c (match_outcome c.whole (length c.line) e ts (made c.allowance s) s.furthest (cleared (needed c) c.work) c.room)
  unfolding match_outcome
  of_match e ts s m =
      by_test (Came c) (c.whole && ltb e (length c.line)) _ _ (λ q. done m (rest ((ends_iff e).0 q)))
      (λ q. let n = (failed-iff (ends_iff e)).0 q in
      by_test (Came c) (ltb most_records (records_of ts)) _ _ (λ q. done m (records n (ltb-true _ _ q)))
      (λ q. let h = ltb-false _ _ q in
      by_test (Came c) (ltb (length c.room) (stored_length (version c) (records_of ts))) _ _ (λ q. done m (room n h (ltb-true _ _ q)))
      (λ q. done m (reads n h (ltb-false _ _ q)))))

  of_run : (m : Run) → run c ≡ m → Came c (run_outcome c.whole (length c.line) c.allowance m (cleared (needed c) c.work) c.room)
  unfolding run_outcome
  of_run (Run.effort p s) e = effort e
  of_run (Run.deep p s) e = deep e
  of_run (Run.done fail s) e = done e fails
  of_run (Run.done (ok y ts) s) e = of_match y ts s e

  pub came : Taken c → Came c (back c)
  came t = rw (by_run t refl) (of_run (run c) refl)

  -- The tests of the rows before EFFORT, failed or passed.
  zero_code : (check_of c.table).code ≤ 0 → Accepted c.table
  unfolding Accepted
  zero_code l = omega arith

  out_of_range : (eqb c.allowance 0 ≡ true) ⊎ (ltb most_allowance c.allowance ≡ true) → (c.allowance ≡ 0) ⊎ (most_allowance < c.allowance)
  out_of_range (inl e) = inl (eqb-true _ _ e)
  out_of_range (inr e) = inr (ltb-true _ _ e)

  pub given : Given c (back c)
  unfolding reading_of
  given =
      by_test (Given c) (ltb 0 (check_of c.table).code) _ _ (λ q. let l : 0 < (check_of c.table).code = ltb-true _ _ q in check ((exact.given_iff c.table).1 refl) (λ e. omega arith))
      (λ q. let l = ltb-false _ _ q in
      let w = (exact.accepted_iff c.table).0 (zero_code l) in
      by_test (Given c) (ltb longest_line (length c.line)) _ _ (λ q. line w (ltb-true _ _ q))
      (λ q. let s = ltb-false _ _ q in
      by_test (Given c) (eqb c.allowance 0 || ltb most_allowance c.allowance) _ _ (λ q. allow w s (out_of_range (or_split _ _ q)))
      (λ q. let n = (or-eq-false-eq-eq-false-and-eq-false _ _).0 q in
      let a : (c.allowance ≢ 0) × (c.allowance ≤ most_allowance) = (eqb-false _ _ n.0, ltb-false _ _ n.1) in
      by_test (Given c) (ltb (length c.work) (needed c)) _ _ (λ q. work w s a (ltb-true _ _ q))
      (λ q. taken (record { sheet = w; short = s; allowed = a; lent = ltb-false _ _ q }) (of_run (run c) refl)))))

  -- ---- The demand.
  small_end : {visits furthest : ℕ} {r : Answer} {o : Outcome} → Ended c visits furthest r o → code o ≤ LOOP
  small_end fails = omega arith
  small_end (rest h) = omega arith
  small_end (records n h) = omega arith
  small_end (room n h l) = omega arith
  small_end (reads n h l) = omega arith

  small : {o : Outcome} → Given c o → code o ≤ LOOP
  small (check {code = k} h n) = let e : (check_of c.table).code ≡ k = ap (λ (v : Verdict). v.code) ((exact.given_iff c.table).0 h) in omega (arith, (exact.small_verdict c.table).0)
  small (line w h) = omega arith
  small (allow w s h) = omega arith
  small (work w s a h) = omega arith
  small (taken t (effort e)) = omega arith
  small (taken t (deep e)) = omega arith
  small (taken t (done e h)) = small_end h

  pub given_iff : {o : Outcome} → Given c o ↔ (back c ≡ o)
  given_iff = (gives, λ e. subst (Given c) e given)

  pub demand_1 : Demand1 c (back c)
  demand_1 = record { named = small given; given = given; only = λ o h. sym (gives h) }

  -- What two calls with the same input return and leave is the same.
  pub second_call : {r r' : Numbers} {w w' m m' : List ℕ} → Leaves (back c) r w m → Leaves (back c) r' w' m' → (r ≡ r') × (w ≡ w') × (m ≡ m')
  second_call h k = (h.returned ∙ sym k.returned, h.working ∙ sym k.working, h.stored ∙ sym k.stored)

  -- So their results are the same: the numbers are those of one result alone.
  pub second_result : {x x' : Result Reading Refusal} {w w' m m' : List ℕ} → Leaves (back c) (numbers_of x) w m → Leaves (back c) (numbers_of x') w' m' → (x ≡ x') × (w ≡ w') × (m ≡ m')
  second_result {x} {x'} h k = let same = second_call h k in (one_result x x' same.0, same.1, same.2)
