-- What is written into a lent answer is what the callee returned; a second call's answer equals the first's.
use mathlib.Core.Path.{◌≡◌, refl, sym, ap, ◌∙◌}
use mathlib.Core.Bool.{Bool, true, false, false≢true}
use mathlib.Core.List.{List, [], ◌∷◌}
use mathlib.Core.Logic.{◌↔◌}
use Prim.Native.Nat.{ℕ, ◌<◌}
use native.Mathlib.Omega.{arith}
use lib.ListN.{length, get_or}
use Rattle.bits.specs.Mask.{one}
use Rattle.bits.proofs.Laws.{has_none}
use Rattle.meaning.specs.Report.{LeftRecursive, Free}
use Rattle.meaning.proofs.Reached.{free_of_all}
use Rattle.layout.specs.Table.{grammar_of}
use Rattle.sheet.specs.Given.{WellFormed}
use Rattle.sheet.proofs.Exact.{accepted_iff}
use Rattle.report.proofs.Once.{one_report}
use Rattle.reader.specs.Answer.{Numbers, Outcome, Leaves}
use Rattle.koskorbelu.specs.Face.{report_numbers, read_numbers, LeavesReport, LeavesReading}

pub read_written : (o : Outcome) (r : Numbers) (work room : List ℕ) → Leaves o r work room → LeavesReading o (r.code ∷ r.place ∷ r.matched ∷ r.visits ∷ r.records ∷ r.furthest ∷ []) work room
unfolding read_numbers
read_written o r work room h = record { written = ap read_numbers h.returned; working = h.working; stored = h.stored }

-- ---- A second call.
pub second_report : {table answer answer' : List ℕ} → LeavesReport table answer → LeavesReport table answer' → answer ≡ answer'
second_report h k = h.written ∙ ap report_numbers (one_report h.reported k.reported) ∙ sym k.written

pub second_reading : {o : Outcome} {answer answer' work work' room room' : List ℕ} → LeavesReading o answer work room → LeavesReading o answer' work' room'
    → (answer ≡ answer') × (work ≡ work') × (room ≡ room')
second_reading h k = (h.written ∙ sym k.written, h.working ∙ sym k.working, h.stored ∙ sym k.stored)

-- ---- 02, W-202: "Free shall mean that no rule reachable from rule 0 [..] is left-recursive": the report's last number says so, and is 0 on a refusal.
module _ {table answer : List ℕ} (h : LeavesReport table answer) where
  last_number : get_or answer 6 0 ≡ one h.findings.free
  unfolding report_numbers
  last_number = ap (λ (a : List ℕ). get_or a 6 0) h.written

  one_true : (b : Bool) → one b ≡ 1 → b ≡ true
  one_true true e = refl
  one_true false e = absurd (omega arith)

  pub reported_free : WellFormed table → (get_or answer 6 0 ≡ 1) ↔ Free (grammar_of table)
  reported_free w =
      let said = h.reported.free ((accepted_iff table).1 w) in
      ((λ e. said.0 (one_true h.findings.free (sym last_number ∙ e))), (λ f. last_number ∙ ap one (said.1 f)))

  -- No rule at all is left-recursive.
  pub none_left : WellFormed table → get_or answer 3 0 ≡ 0 → get_or answer 6 0 ≡ 1
  unfolding report_numbers
  none_left w e =
      let accepted = (accepted_iff table).1 w in
      let mask : h.findings.left_recursive ≡ 0 = sym (ap (λ (a : List ℕ). get_or a 3 0) h.written) ∙ e in
      let none : (a : ℕ) → a < length (grammar_of table).roots → LeftRecursive (grammar_of table) a → ⊥ =
      λ a l d. false≢true (sym (has_none a) ∙ rw mask at ((h.reported.left_rules accepted).complete a l d)) in
      (reported_free w).1 (free_of_all (grammar_of table) none)

  pub refused_free : ¬ WellFormed table → get_or answer 6 0 ≡ 0
  refused_free n = last_number ∙ ap one (h.reported.refused (λ a. n ((accepted_iff table).0 a))).4
