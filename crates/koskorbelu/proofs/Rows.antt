-- 01's table of codes row by row: each code comes back exactly when its row says.
use mathlib.Core.Path.{◌≡◌, refl, ap, subst}
use mathlib.Core.Logic.{◌↔◌, ◌≢◌, ◌⊎◌}
use mathlib.Core.List.{List, [], ◌∷◌}
use Prim.Native.Nat.{ℕ, zero, suc, ◌+◌, ◌<◌, ◌≤◌}
use native.Mathlib.Omega.{arith}
use lib.ListN.{length, get_or}
use Rattle.meaning.specs.Grammar.{Trees, Answer, fail, ok}
use Rattle.meaning.specs.Reading.{State, Run}
use Rattle.layout.specs.Layout.{READ, SHORT, VERSION, COUNT, LENGTH, ROOT, KIND, FIELD}
use Rattle.layout.specs.Given as layout
use Rattle.sheet.specs.Check.{LOOP}
use Rattle.sheet.specs.Given as sheet
use Rattle.sheet.specs.Given.{WellFormed}
use Rattle.stored.specs.Stored.{records_of, stored_length}
use Rattle.reader.specs.Answer.{longest_line, most_allowance, most_records, Outcome}
use Rattle.koskorbelu.specs.Demands.{Call, back, code, run, needed, version, EndsBefore, Ended, fails, rest, records, room, reads, effort, deep, done, Taken, Given, check, line, allow, work, taken}
use Rattle.koskorbelu.proofs.Demand1.{gives, given}

-- Each of some rows, from row k on.
abbrev Each : (ℕ → Type 0 → Type 0) → ℕ → List (Type 0) → Type 0
Each P k [] = Unit {0}
Each P k (A ∷ As) = P k A × Each P (suc k) As

infixr 20 ◌then◌
◌then◌ : {A B : Type 0} → A → B → A × B
a then b = (a, b)

at_row : (F : ℕ → Type 0) (As : List (Type 0)) (i : ℕ) → Each (λ k A. A → F k) i As → (k : ℕ) → get_or As k ⊥ → F (i + k)
at_row F [] i f k h = absurd h
at_row F (A ∷ As) i f zero h = let e : i ≡ i + 0 = omega arith in subst F e (f.0 h)
at_row F (A ∷ As) i f (suc k) h = let e : suc i + k ≡ i + suc k = omega arith in subst F e (at_row F As (suc i) f.1 k h)

module _ (c : Call) where
  -- The check refuses the table with this code.
  abbrev pub Refused : ℕ → Type 0
  Refused k = (place : ℕ) × sheet.Given c.table k place

  -- The line is read, and rule 0 matches up to e with the tree ts, of which P says more.
  abbrev pub Matches : (ℕ → Trees → Type 0) → Type 0
  Matches P = Taken c × ((e : ℕ) × (ts : Trees) × (s : State) × (run c ≡ Run.done (ok e ts) s) × P e ts)

  -- 01's column "given exactly when", from code 0 to code 16, and 02's for code 17.
  abbrev pub rows : List (Type 0)
  rows =
      Matches (λ e ts. ¬ EndsBefore c e × (records_of ts ≤ most_records) × (stored_length (version c) (records_of ts) ≤ length c.room))
      ∷ Refused SHORT
      ∷ Refused VERSION
      ∷ Refused COUNT
      ∷ Refused LENGTH
      ∷ Refused ROOT
      ∷ Refused KIND
      ∷ Refused FIELD
      ∷ (WellFormed c.table × (longest_line < length c.line))
      ∷ (WellFormed c.table × (length c.line ≤ longest_line) × ((c.allowance ≡ 0) ⊎ (most_allowance < c.allowance)))
      ∷ (WellFormed c.table × (length c.line ≤ longest_line) × ((c.allowance ≢ 0) × (c.allowance ≤ most_allowance)) × (length c.work < needed c))
      ∷ (Taken c × ((p : ℕ) × (s : State) × (run c ≡ Run.effort p s)))
      ∷ (Taken c × ((p : ℕ) × (s : State) × (run c ≡ Run.deep p s)))
      ∷ (Taken c × ((s : State) × (run c ≡ Run.done fail s)))
      ∷ Matches (λ e ts. EndsBefore c e)
      ∷ Matches (λ e ts. ¬ EndsBefore c e × (most_records < records_of ts))
      ∷ Matches (λ e ts. ¬ EndsBefore c e × (records_of ts ≤ most_records) × (length c.room < stored_length (version c) (records_of ts)))
      ∷ Refused LOOP
      ∷ []

  abbrev pub When : ℕ → Type 0
  When k = get_or rows k ⊥

  refused : {k p : ℕ} → sheet.Given c.table k p → k ≢ READ → When k
  refused (sheet.laid_out (layout.short h) m) n = (_, sheet.laid_out (layout.short h) m)
  refused (sheet.laid_out (layout.version l h) m) n = (_, sheet.laid_out (layout.version l h) m)
  refused (sheet.laid_out (layout.count l v h) m) n = (_, sheet.laid_out (layout.count l v h) m)
  refused (sheet.laid_out (layout.lengths l v k h) m) n = (_, sheet.laid_out (layout.lengths l v k h) m)
  refused (sheet.laid_out (layout.root h l before over) m) n = (_, sheet.laid_out (layout.root h l before over) m)
  refused (sheet.laid_out (layout.kind h roots l before over) m) n = (_, sheet.laid_out (layout.kind h roots l before over) m)
  refused (sheet.laid_out (layout.field h roots l before k against) m) n = (_, sheet.laid_out (layout.field h roots l before k against) m)
  refused (sheet.laid_out (layout.read w) m) n = absurd (m refl)
  refused (sheet.loop w l before d) n = (_, sheet.loop w l before d)
  refused (sheet.read w) n = absurd (n refl)

  when_end : (t : Taken c) (s : State) {visits furthest : ℕ} {r : Answer} → run c ≡ Run.done r s → {o : Outcome} → Ended c visits furthest r o → When (code o)
  when_end t s e fails = (t, (_, e))
  when_end t s e (rest h) = (t, (_, _, _, e, h))
  when_end t s e (records n h) = (t, (_, _, _, e, (n, h)))
  when_end t s e (room n h l) = (t, (_, _, _, e, (n, h, l)))
  when_end t s e (reads n h l) = (t, (_, _, _, e, (n, h, l)))

  when : {o : Outcome} → Given c o → When (code o)
  when (check h n) = refused h n
  when (line w h) = (w, h)
  when (allow w s h) = (w, s, h)
  when (work w s a h) = (w, s, a, h)
  when (taken t (effort e)) = (t, (_, _, e))
  when (taken t (deep e)) = (t, (_, _, e))
  when (taken t (done e h)) = when_end t _ e h

  comes : {o : Outcome} → Given c o → code (back c) ≡ code o
  comes h = ap code (gives c h)

  each : Each (λ k A. A → code (back c) ≡ k) 0 rows
  each =
      (λ h. comes (taken h.0 (done h.1.3 (reads h.1.4.0 h.1.4.1 h.1.4.2))))
      then (λ h. comes (check h.1 (λ e. omega arith)))
      then (λ h. comes (check h.1 (λ e. omega arith)))
      then (λ h. comes (check h.1 (λ e. omega arith)))
      then (λ h. comes (check h.1 (λ e. omega arith)))
      then (λ h. comes (check h.1 (λ e. omega arith)))
      then (λ h. comes (check h.1 (λ e. omega arith)))
      then (λ h. comes (check h.1 (λ e. omega arith)))
      then (λ h. comes (line h.0 h.1))
      then (λ h. comes (allow h.0 h.1 h.2))
      then (λ h. comes (work h.0 h.1 h.2 h.3))
      then (λ h. comes (taken h.0 (effort h.1.2)))
      then (λ h. comes (taken h.0 (deep h.1.2)))
      then (λ h. comes (taken h.0 (done h.1.1 fails)))
      then (λ h. comes (taken h.0 (done h.1.3 (rest h.1.4))))
      then (λ h. comes (taken h.0 (done h.1.3 (records h.1.4.0 h.1.4.1))))
      then (λ h. comes (taken h.0 (done h.1.3 (room h.1.4.0 h.1.4.1 h.1.4.2))))
      then (λ h. comes (check h.1 (λ e. omega arith)))
      then tt

  -- Both directions, for every code; none above 17 comes back.
  pub exactly : (k : ℕ) → (code (back c) ≡ k) ↔ When k
  exactly k = (
    (λ e. subst When e (when (given c))),
    (λ h. let e : 0 + k ≡ k = omega arith in subst (λ (j : ℕ). code (back c) ≡ j) e (at_row (λ k. code (back c) ≡ k) rows 0 each k h)),
  )
