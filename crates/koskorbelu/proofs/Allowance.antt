-- What the allowance decides: a line that is read to its answer is read alike with every allowance that is no less than its visits, and refused for effort with every smaller one.
use mathlib.Core.Path.{◌≡◌, refl, ap, subst, ◌∙◌}
use mathlib.Core.Logic.{◌↔◌}
use mathlib.Core.Bool.{◌&&◌}
use mathlib.Core.List.{List}
use Prim.Native.Nat.{ℕ, ◌<◌, ◌≤◌}
use native.Mathlib.Omega.{arith}
use lib.Dec.{ltb}
use lib.ListN.{length}
use Rattle.meaning.specs.Grammar.{Answer, fail, ok}
use Rattle.meaning.specs.Decide.{left_recursive, is_free}
use Rattle.meaning.specs.Reading.{State, made, Run, Way, way_of, read}
use Rattle.meaning.proofs.Choose.{by_test_twice}
use Rattle.stored.specs.Stored.{records_of, stored_length}
use Rattle.reader.specs.Answer.{EFFORT, DEEP, most_records, Numbers, Outcome, match_outcome}
use Rattle.koskorbelu.specs.Demands.{Call, back, code, visits, grammar, run, version, ended, Came, effort, deep, done, Taken, taken, Answers}
use Rattle.koskorbelu.proofs.Demand1.{told, by_answer, gives, came}
use Rattle.koskorbelu.proofs.Steady.{done_always, deep_always, larger, fewer}
use Rattle.koskorbelu.proofs.Demand2.{not_answering, ended_visits, ended_answers}

-- The same call with another allowance, and with other working numbers.
abbrev pub allowing : Call → (allowance : ℕ) → (work : List ℕ) → Call
allowing c allowance work = record { whole = c.whole; table = c.table; line = c.line; allowance = allowance; work = work; room = c.room }

-- The way in which its line is read.
abbrev way : Call → Way
way c = way_of (is_free (grammar c)) (left_recursive (grammar c))

-- The same six numbers, and the same room.
pub record Alike (o p : Outcome) : Type 0 where
  pub reading : o.reading ≡ p.reading
  pub room : o.room ≡ p.room

module _ (c : Call) (t : Taken c) (a : ℕ) (w : List ℕ) (t' : Taken (allowing c a w)) where
  told_alike : (n f : ℕ) (r : Answer) → Alike (told c n f r) (told (allowing c a w) n f r)
  unfolding match_outcome
  told_alike n f fail = record { reading = refl; room = refl }
  told_alike n f (ok e ts) =
      by_test_twice Alike (c.whole && ltb e (length c.line)) _ _ _ _ (record { reading = refl; room = refl })
      (by_test_twice Alike (ltb most_records (records_of ts)) _ _ _ _ (record { reading = refl; room = refl })
      (by_test_twice Alike (ltb (length c.room) (stored_length (version c) (records_of ts))) _ _ _ _ (record { reading = refl; room = refl }) (record { reading = refl; room = refl })))

  -- How the reading ended, by the code.
  answered : {o : Outcome} → Came c o → Answers (code o) → (r : Answer) × (s : State) × (run c ≡ Run.done r s) × (visits o ≡ made c.allowance s)
  answered (effort m) h = not_answering h (omega arith)
  answered (deep m) h = not_answering h (omega arith)
  answered (done {r = r} {s = s} m h) k = (r, s, m, ended_visits c h)

  refused : {o : Outcome} → Came c o → code o ≡ DEEP → (p : ℕ) × (s : State) × (run c ≡ Run.deep p s) × (o ≡ ended c DEEP p 0 (made c.allowance s) 0 s.furthest)
  refused (effort m) e = absurd (omega arith)
  refused (deep {p = p} {s = s} m) e = (p, s, m, refl)
  refused (done m h) e = not_answering (subst Answers e (ended_answers c h)) (omega arith)

  pub read_alike : Answers (code (back c)) → visits (back c) ≤ a → Alike (back c) (back (allowing c a w))
  unfolding read
  read_alike h le =
      let k = answered (came c t) h in
      let v = k.3 in
      let n = done_always (grammar c) c.line (way c) c.allowance k.0 k.1 k.2 in
      let s = n.1 in
      let m = larger (grammar c) c.line (way c) a n.0 k.1.furthest 0 (Run.done k.0) n.2 (omega arith) in
      let l = m.1 in
      let same : made a m.0 ≡ made c.allowance k.1 = omega arith in
      rw (by_answer c t k.0 k.1 k.2, by_answer (allowing c a w) t' k.0 m.0 m.3, same, m.2) (told_alike (made c.allowance k.1) k.1.furthest k.0)

  pub deep_alike : code (back c) ≡ DEEP → visits (back c) < a → Alike (back c) (back (allowing c a w))
  unfolding read
  deep_alike e le =
      let k = refused (came c t) e in
      let v : visits (back c) ≡ made c.allowance k.1 = ap visits k.3 in
      let n = deep_always (grammar c) c.line (way c) c.allowance k.0 k.1 k.2 in
      let s = n.1 in
      let m = larger (grammar c) c.line (way c) a n.0 k.1.furthest 1 (Run.deep k.0) n.2 (omega arith) in
      let l = m.1 in
      let same : made a m.0 ≡ made c.allowance k.1 = omega arith in
      let there : back (allowing c a w) ≡ ended (allowing c a w) DEEP k.0 0 (made a m.0) 0 m.0.furthest = gives (allowing c a w) (taken t' (deep m.3)) in
      rw (k.3, there, same, m.2) (record { reading = refl; room = refl })

  pub effort_below : Answers (code (back c)) → a < visits (back c) → code (back (allowing c a w)) ≡ EFFORT
  unfolding read
  effort_below h lt =
      let k = answered (came c t) h in
      let v = k.3 in
      let m = fewer (grammar c) c.line (way c) c.allowance a k.0 k.1 k.2 (omega arith) in
      ap code (gives (allowing c a w) (taken t' (effort m.2)))

  pub effort_exactly : Answers (code (back c)) → (code (back (allowing c a w)) ≡ EFFORT) ↔ (a < visits (back c))
  effort_exactly h = ((λ e. let few : ¬ (visits (back c) ≤ a) = not_enough e in omega arith), effort_below h)
    where
      not_enough : code (back (allowing c a w)) ≡ EFFORT → visits (back c) ≤ a → ⊥
      not_enough e le = not_answering (subst Answers (ap (λ (r : Numbers). r.code) (read_alike h le).reading ∙ e) h) (omega arith)
