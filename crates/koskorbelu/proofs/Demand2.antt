-- Demand 2: a line that is read to its answer has the bounded rules' match and tree, the only ones, in the visits that 01 counts and with their furthest position; they are those where every rule
-- becomes live. Beyond it: there always is such an answer; on a sheet that is not free it comes back exactly where the allowance suffices and no more than 512 visits are open at once; and
-- it comes back wherever it did when every rule became live, in no more visits.
use mathlib.Core.Path.{◌≡◌, refl, sym, ap, subst, ◌∙◌}
use mathlib.Core.Logic.{◌↔◌, ◌≢◌, ◌⊎◌, inl, inr}
use Prim.Native.Nat.{ℕ, suc, ◌+◌, ◌<◌, ◌≤◌}
use native.Mathlib.Omega.{arith}
use lib.ListN.{length}
use Rattle.meaning.specs.Grammar.{rule, Closed, Answer}
use Rattle.meaning.specs.Rules.{Plain, furthest_of, Amount, every_rule}
use Rattle.meaning.specs.Report.{Free}
use Rattle.meaning.specs.Decide.{left_recursive}
use Rattle.meaning.specs.Reading.{State, made, Run, keeps, grows, read_by}
use Rattle.meaning.proofs.Runs.{Ends}
use Rattle.meaning.proofs.Amounts.{Amounts}
use Rattle.meaning.proofs.Claims as claims
use Rattle.meaning.proofs.Claims.{Only}
use Rattle.meaning.proofs.Older.{EndsSo}
use Rattle.meaning.proofs.OneBounded.{one_reading}
use Rattle.meaning.proofs.Complete.{read_complete}
use Rattle.layout.specs.Layout.{Verdict}
use Rattle.layout.specs.Layout.{READ, FIELD}
use Rattle.layout.proofs.Exact.{laid_iff}
use Rattle.layout.proofs.Laying.{closed, rule_count}
use Rattle.sheet.specs.Check.{LOOP, check_of}
use Rattle.sheet.specs.Given.{WellFormed}
use Rattle.sheet.proofs.Exact.{given_iff, check_code}
use Rattle.reader.specs.Answer.{EFFORT, DEEP, FAIL, ROOM, Outcome}
use Rattle.koskorbelu.specs.Demands.{Call, back, code, visits, furthest, grammar, run, ended, Ended, fails, rest, records, room, reads, Came, effort, deep, done, Taken, Given, check, line, allow}
use Rattle.koskorbelu.specs.Demands.{work, taken, Answers, Published, Demand2}
use Rattle.koskorbelu.proofs.Demand1.{gives, came, given}
use Rattle.koskorbelu.proofs.Rows.{exactly}
use Rattle.koskorbelu.proofs.Steady.{done_always, deep_always}

-- 0, or 13 to 16.
answering : {k : ℕ} → Answers k → (k ≡ READ) ⊎ ((FAIL ≤ k) × (k ≤ ROOM))
answering Answers.reads = inl refl
answering Answers.fails = inr (omega arith, omega arith)
answering Answers.rest = inr (omega arith, omega arith)
answering Answers.records = inr (omega arith, omega arith)
answering Answers.room = inr (omega arith, omega arith)

pub not_answering : {A : Type 0} {k : ℕ} → Answers (suc k) → suc k < FAIL → A
not_answering {A} {k} h l = by (answering h)
  where
    by : (suc k ≡ READ) ⊎ ((FAIL ≤ suc k) × (suc k ≤ ROOM)) → A
    by (inl e) = absurd (omega arith)
    by (inr m) = absurd (omega arith)

module _ (c : Call) where
  pub ended_visits : {n f : ℕ} {r : Answer} {o : Outcome} → Ended c n f r o → visits o ≡ n
  ended_visits fails = refl
  ended_visits (rest h) = refl
  ended_visits (records n h) = refl
  ended_visits (room n h l) = refl
  ended_visits (reads n h l) = refl

  pub ended_furthest : {n f : ℕ} {r : Answer} {o : Outcome} → Ended c n f r o → furthest o ≡ f
  ended_furthest fails = refl
  ended_furthest (rest h) = refl
  ended_furthest (records n h) = refl
  ended_furthest (room n h l) = refl
  ended_furthest (reads n h l) = refl

  -- By the outcome's own numbers.
  pub ended_own : {n f : ℕ} {r : Answer} {o : Outcome} → Ended c n f r o → Ended c (visits o) (furthest o) r o
  ended_own fails = fails
  ended_own (rest h) = rest h
  ended_own (records n h) = records n h
  ended_own (room n h l) = room n h l
  ended_own (reads n h l) = reads n h l

  pub ended_answers : {n f : ℕ} {r : Answer} {o : Outcome} → Ended c n f r o → Answers (code o)
  ended_answers fails = Answers.fails
  ended_answers (rest h) = Answers.rest
  ended_answers (records n h) = Answers.records
  ended_answers (room n h l) = Answers.room
  ended_answers (reads n h l) = Answers.reads

  pub no_effort : {n f : ℕ} {r : Answer} {o : Outcome} → Ended c n f r o → code o ≢ EFFORT
  no_effort h e = not_answering (subst Answers e (ended_answers h)) (omega arith)

  -- The grammar of an accepted table is closed and has a rule.
  pub is_closed : WellFormed c.table → Closed (grammar c)
  is_closed w = closed c.table ((laid_iff c.table).1 w.laid)

  pub has_rule : WellFormed c.table → 0 < length (grammar c).roots
  has_rule w = omega (arith, rule_count c.table, w.laid.some_rule)

  -- A code of 0 or 13 to 16 says that the line was read.
  pub was_taken : {o : Outcome} → Given c o → Answers (code o) → Taken c
  was_taken (check {code = k} h n) a = absurd (not_refused (answering a))
    where
      is : (check_of c.table).code ≡ k
      is = ap (λ (v : Verdict). v.code) ((given_iff c.table).0 h)

      by_check : ((check_of c.table).code ≤ FIELD) ⊎ ((check_of c.table).code ≡ LOOP) → FAIL ≤ k → k ≤ ROOM → ⊥
      by_check (inl few) l m = omega (arith, is)
      by_check (inr loop) l m = omega (arith, is)

      not_refused : (k ≡ READ) ⊎ ((FAIL ≤ k) × (k ≤ ROOM)) → ⊥
      not_refused (inl e) = n e
      not_refused (inr l) = by_check (check_code c.table) l.0 l.1
  was_taken (line w h) a = not_answering a (omega arith)
  was_taken (allow w s h) a = not_answering a (omega arith)
  was_taken (work w s l h) a = not_answering a (omega arith)
  was_taken (taken t h) a = t

  -- Of a free sheet: the plain rules' answer, the only one, and the furthest position of their derivations.
  pub plain_answer : Taken c → Free (grammar c) → {r : Answer} {s : State} → run c ≡ Run.done r s
      → Plain (grammar c) c.line (rule 0) 0 r × ((q : Answer) (d : Plain (grammar c) c.line (rule 0) 0 q) → (q ≡ r) × (s.furthest ≡ furthest_of d))
  plain_answer t free {r} {s} m =
      let z : Plain (grammar c) c.line (rule 0) 0 r × ((q : Answer) (d : Plain (grammar c) c.line (rule 0) 0 q) → (r ≡ q) × (s.furthest ≡ furthest_of d)) =
      rw m at (claims.free_sound (grammar c) c.line c.allowance (is_closed t.sheet) free) in
      (z.0, λ q d. (sym (z.1 q d).0, (z.1 q d).1))

  -- ---- The demand.
  by_rules : Taken c → {o : Outcome} → back c ≡ o → Came c o → Answers (code o) → Demand2 c (back c)
  by_rules t q (effort m) a = not_answering a (omega arith)
  by_rules t q (deep m) a = not_answering a (omega arith)
  by_rules t {o} q (done {r = r} {s = s} m h) a =
      let found : (n : Amount) × Only (grammar c) c.line (left_recursive (grammar c)) r n × (s.furthest ≡ n.furthest) = rw m at (claims.read_bounded (grammar c) c.line c.allowance) in
      let every = claims.every_reading (grammar c) c.line (is_closed t.sheet) (has_rule t.sheet) found.1.reads in
      let v : visits o ≡ made c.allowance s = ended_visits h in
      record {
        answer = r;
        amount = found.0;
        rules = found.1.reads;
        only = λ p k x. let i = found.1.only p k x in (sym i.answer, sym i.count);
        every = (every.0, every.1);
        every_only = λ p k x. (one_reading (grammar c) c.line every_rule x every.1).answer;
        said = rw q (ended_own h);
        reached = rw q (ended_furthest h ∙ found.2);
        plain = λ free. let z = plain_answer t free m in (z.0, λ d. rw (q, ended_furthest h) (z.1 r d).1);
        others = λ not_free. rw (q, v) (exact_count not_free m found.1.reads);
        kept = λ free. rw (q, v) (kept_count free m);
      }
    where
      exact_count : ¬ Free (grammar c) → {r : Answer} {s : State} {n : Amount} → run c ≡ Run.done r s → Published c r n → made c.allowance s ≡ n.visits
      exact_count not_free {r = r} {s = s} m h =
          let found : (n : Amount) × Only (grammar c) c.line (left_recursive (grammar c)) r n × Amounts c.allowance n s =
          rw m at (claims.other_sound (grammar c) c.line c.allowance (is_closed t.sheet) not_free) in
          sym found.2.visits ∙ ap (λ (n : Amount). n.visits) (one_reading (grammar c) c.line (left_recursive (grammar c)) found.1.reads h).count

      kept_count : Free (grammar c) → {r : Answer} {s : State} → run c ≡ Run.done r s
          → (spare : ℕ) → (u : State) × (u.left ≡ spare) × (read_by (grammar c) c.line keeps (made c.allowance s + spare) ≡ Run.done r u)
      kept_count free {r = r} {s = s} m j =
          let h = done_always (grammar c) c.line keeps c.allowance r s (sym (claims.as_free (grammar c) c.line c.allowance (is_closed t.sheet) free) ∙ m) in
          let e = h.1 in
          let n : made c.allowance s + j ≡ h.0 + j = omega arith in
          let k = h.2 j (omega arith) in
          (k.0, k.1, ap (read_by (grammar c) c.line keeps) n ∙ k.3)

  pub demand_2 : Answers (code (back c)) → Demand2 c (back c)
  demand_2 a = let t = was_taken (given c) a in by_rules t refl (came c t) a

  -- ---- Beyond it.
  -- No call makes more visits than are allowed, turned away or not.
  pub within_allowance : visits (back c) ≤ c.allowance
  within_allowance = of (given c)
    where
      of : {o : Outcome} → Given c o → visits o ≤ c.allowance
      of (check h n) = omega arith
      of (line w h) = omega arith
      of (allow w s h) = omega arith
      of (work w s l h) = omega arith
      of (taken t (effort e)) = omega arith
      of (taken t (deep e)) = omega arith
      of (taken t (done e h)) = rw (ended_visits h) (omega arith)

  -- The furthest position is one of the line's, or its end; 0 where the call is turned away.
  pub furthest_inside : furthest (back c) ≤ length c.line
  furthest_inside = of (given c)
    where
      within : {m : Run} → run c ≡ m → Ends (λ t. t.furthest ≤ length c.line) (λ t. t.furthest ≤ length c.line) (λ r t. t.furthest ≤ length c.line) m
      within e = subst (Ends _ _ _) e (claims.read_inside (grammar c) c.line c.allowance)

      of : {o : Outcome} → Given c o → furthest o ≤ length c.line
      of (check h n) = omega arith
      of (line w h) = omega arith
      of (allow w s h) = omega arith
      of (work w s l h) = omega arith
      of (taken t (effort e)) = within e
      of (taken t (deep e)) = within e
      of (taken t (done e h)) = rw (ended_furthest h) (within e)

  -- Refused for effort, exactly the visits allowed were made; refused for depth, fewer.
  pub effort_visits : code (back c) ≡ EFFORT → visits (back c) ≡ c.allowance
  effort_visits e =
      let h = (exactly c EFFORT).0 e in
      let z : (h.1.1.left ≡ 0) × (made c.allowance h.1.1 ≡ c.allowance) = rw h.1.2 at (claims.effort_made (grammar c) c.line c.allowance) in
      rw (gives c (taken h.0 (effort h.1.2))) z.1

  pub deep_visits : code (back c) ≡ DEEP → visits (back c) < c.allowance
  deep_visits e =
      let h = (exactly c DEEP).0 e in
      let z : (0 < h.1.1.left) × (made c.allowance h.1.1 + h.1.1.left ≡ c.allowance) = rw h.1.2 at (claims.effort_made (grammar c) c.line c.allowance) in
      rw (gives c (taken h.0 (deep h.1.2))) (omega (arith, z.0, z.1))

  module _ (t : Taken c) (not_free : ¬ Free (grammar c)) {r : Answer} {n : Amount} (h : Published c r n) where
    -- Where the bounded rules answer in n visits and so many are allowed, that is what comes back, in n visits and with their furthest position, or DEEP, if more than
    -- 512 are open at once.
    pub complete : n.visits ≤ c.allowance → ((code (back c) ≡ DEEP) × (512 < n.depth)) ⊎ Ended c n.visits n.furthest r (back c)
    complete le = of (came c t) refl
      where
        of : {o : Outcome} → Came c o → back c ≡ o → ((code (back c) ≡ DEEP) × (512 < n.depth)) ⊎ Ended c n.visits n.furthest r (back c)
        of (effort m) q = absurd (rw m at (claims.other_complete (grammar c) c.line c.allowance (is_closed t.sheet) not_free h le))
        of (deep m) q =
            let z : 512 < n.depth = rw m at (claims.other_complete (grammar c) c.line c.allowance (is_closed t.sheet) not_free h le) in
            inl (ap code q, z)
        of {o} (done {r = r'} {s = s} m k) q =
            let z : (r' ≡ r) × Amounts c.allowance n s = rw m at (claims.other_complete (grammar c) c.line c.allowance (is_closed t.sheet) not_free h le) in
            inr (rw (q, ← z.0, z.1.visits, z.1.furthest) k)

    -- DEEP comes back only if more than 512 visits are open at once, whatever is allowed; and then no answer does.
    pub deep_only : code (back c) ≡ DEEP → 512 < n.depth
    deep_only e =
        let m = (exactly c DEEP).0 e in
        let g = grammar c in
        let l = left_recursive g in
        let k = deep_always g c.line (grows l) c.allowance m.1.0 m.1.1 (sym (claims.as_other g c.line c.allowance (is_closed t.sheet) not_free) ∙ m.1.2) in
        let d = k.2 (suc n.visits) (omega arith) in
        rw d.3 at (read_complete g c.line l h (k.0 + suc n.visits) (omega arith))

    pub too_deep : 512 < n.depth → Answers (code (back c)) → ⊥
    too_deep lt a = of (came c t) a
      where
        of : {o : Outcome} → Came c o → Answers (code o) → ⊥
        of (effort m) a = not_answering a (omega arith)
        of (deep m) a = not_answering a (omega arith)
        of (done m k) a = rw m at (claims.other_deep (grammar c) c.line c.allowance (is_closed t.sheet) not_free h lt)

    -- Unless DEEP comes back, EFFORT does exactly if fewer visits are allowed.
    pub effort_exactly : code (back c) ≢ DEEP → (code (back c) ≡ EFFORT) ↔ (c.allowance < n.visits)
    effort_exactly shallow = ((λ e. let few : ¬ (n.visits ≤ c.allowance) = λ le. not_both e (complete le) in omega arith), (λ l. of l (came c t) refl))
      where
        not_both : code (back c) ≡ EFFORT → ((code (back c) ≡ DEEP) × (512 < n.depth)) ⊎ Ended c n.visits n.furthest r (back c) → ⊥
        not_both e (inl d) = let z = d.0 in omega arith
        not_both e (inr k) = no_effort k e

        of : c.allowance < n.visits → {o : Outcome} → Came c o → back c ≡ o → code (back c) ≡ EFFORT
        of l (effort m) q = ap code q
        of l (deep m) q = absurd (shallow (ap code q))
        of l (done m k) q = absurd (rw m at (claims.other_short (grammar c) c.line c.allowance (is_closed t.sheet) not_free h l))

  -- 02, W-205: where the reading in which every rule becomes live is not refused, neither is the call, and it has the same answer and furthest position in no more visits.
  pub as_before : (t : Taken c) {r : Answer} {s : State} → claims.read_before (grammar c) c.line c.allowance ≡ Run.done r s
      → (v : ℕ) × (v ≤ made c.allowance s) × Ended c v s.furthest r (back c)
  as_before t {r} {s} e = of (came c t) refl
    where
      too : claims.DoneToo (grammar c) c.line c.allowance r s (run c)
      too = rw e at (claims.as_before (grammar c) c.line c.allowance (is_closed t.sheet) (has_rule t.sheet))

      of : {o : Outcome} → Came c o → back c ≡ o → (v : ℕ) × (v ≤ made c.allowance s) × Ended c v s.furthest r (back c)
      of (effort m) q = absurd (rw m at too)
      of (deep m) q = absurd (rw m at too)
      of (done {r = r'} {s = u} m k) q =
          let z : (r' ≡ r) × (u.furthest ≡ s.furthest) × (made c.allowance u ≤ made c.allowance s) = rw m at too in
          (made c.allowance u, z.2, rw (q, ← z.0, ← z.1) k)

  -- 02, W-208: where the reading in which a repetition's next visit of itself opened one visit more is done or refused for effort, the call comes to just that; and it is refused
  -- for depth only where that reading is.
  not_both : {A : Type 0} {p : ℕ} {r : Answer} {s u : State} → Run.done r s ≡ Run.effort p u → A
  not_both e = let z : ◌≡◌ {A = ℕ} 0 1 = cc in absurd (omega arith)

  not_deep : {A : Type 0} {p : ℕ} {r : Answer} {s u : State} → Run.done r s ≡ Run.deep p u → A
  not_deep e = let z : ◌≡◌ {A = ℕ} 0 1 = cc in absurd (omega arith)

  not_effort : {A : Type 0} {p q : ℕ} {s u : State} → Run.effort p s ≡ Run.deep q u → A
  not_effort e = let z : ◌≡◌ {A = ℕ} 0 1 = cc in absurd (omega arith)

  nested : EndsSo (claims.read_nested (grammar c) c.line c.allowance) (run c)
  nested = claims.as_nested (grammar c) c.line c.allowance

  pub as_nested : (t : Taken c) {r : Answer} {s : State} → claims.read_nested (grammar c) c.line c.allowance ≡ Run.done r s → Ended c (made c.allowance s) s.furthest r (back c)
  as_nested t {r} {s} e = of (came c t) refl
    where
      is : run c ≡ Run.done r s
      is = nested.done_so r s e

      of : {o : Outcome} → Came c o → back c ≡ o → Ended c (made c.allowance s) s.furthest r (back c)
      of (effort m) q = not_both (sym is ∙ m)
      of (deep m) q = not_deep (sym is ∙ m)
      of (done {r = r'} {s = u} m k) q =
          let d : Run.done r' u ≡ Run.done r s = sym m ∙ is in
          let a : r' ≡ r = cc in
          let b : u ≡ s = cc in
          rw (q, ← a, ← b) k

  pub effort_nested : (t : Taken c) {p : ℕ} {s : State} → claims.read_nested (grammar c) c.line c.allowance ≡ Run.effort p s → back c ≡ ended c EFFORT p 0 (made c.allowance s) 0 s.furthest
  effort_nested t {p} {s} e = of (came c t) refl
    where
      is : run c ≡ Run.effort p s
      is = nested.effort_so p s e

      of : {o : Outcome} → Came c o → back c ≡ o → back c ≡ ended c EFFORT p 0 (made c.allowance s) 0 s.furthest
      of (effort {p = p'} {s = u} m) q =
          let d : Run.effort p' u ≡ Run.effort p s = sym m ∙ is in
          let a : p' ≡ p = cc in
          let b : u ≡ s = cc in
          q ∙ rw (a, b) refl
      of (deep m) q = not_effort (sym is ∙ m)
      of (done m k) q = not_both (sym m ∙ is)

  pub deep_nested : (t : Taken c) → code (back c) ≡ DEEP → (p : ℕ) × (s : State) × (claims.read_nested (grammar c) c.line c.allowance ≡ Run.deep p s)
  deep_nested t e = of (came c t) refl
    where
      of : {o : Outcome} → Came c o → back c ≡ o → (p : ℕ) × (s : State) × (claims.read_nested (grammar c) c.line c.allowance ≡ Run.deep p s)
      of (effort m) q = let z = sym (ap code q) ∙ e in absurd (omega arith)
      of (deep {p = p} {s = s} m) q = nested.deep_before p s m
      of (done m k) q = not_answering (subst Answers (sym (ap code q) ∙ e) (ended_answers k)) (omega arith)

  -- Document 003's Lemma 2: every accepted table has an answer on every line.
  pub answered : WellFormed c.table → (r : Answer) × (n : Amount) × Only (grammar c) c.line (left_recursive (grammar c)) r n
  answered w = claims.answered (grammar c) c.line (is_closed w) (has_rule w)
