-- What a reading answers depends on how much is lent, and not on what that holds.
use mathlib.Core.Path.{◌≡◌, refl, sym, ◌∙◌}
use mathlib.Core.Bool.{Bool, true, false, cond}
use mathlib.Core.List.{List}
use Prim.Native.Nat.{ℕ}
use lib.ListN.{length, replicate, length-replicate}
use Rattle.meaning.specs.Grammar.{Trees, fail, ok}
use Rattle.meaning.specs.Reading.{Run, effort, deep, done, read}
use Rattle.layout.specs.Table.{nodes_of, grammar_of}
use Rattle.page.specs.declared.Page.{Page}
use Rattle.page.specs.Page.{Puts}
use Rattle.reader.specs.Answer.{Numbers, Outcome, Leaves, work_needed, cleared, match_outcome, run_outcome, reading_of}
use Rattle.answers.specs.Printed.{allowance, working_numbers, room_bytes, answer_text, outcome_of, line_text, Answers}

-- the reading of a choice is a choice of readings
chosen : (b : Bool) (x y : Outcome) → (cond b x y).reading ≡ cond b x.reading y.reading
chosen true x y = refl
chosen false x y = refl

module _ (whole : Bool) (work room work' room' : List ℕ) (bytes : length room ≡ length room') where
  match_same : (long e : ℕ) (ts : Trees) (visits furthest : ℕ) → (match_outcome whole long e ts visits furthest work room).reading ≡ (match_outcome whole long e ts visits furthest work' room').reading
  unfolding match_outcome
  match_same long e ts visits furthest = simp (bytes, chosen)

  run_same : (long lent : ℕ) (run : Run) → (run_outcome whole long lent run work room).reading ≡ (run_outcome whole long lent run work' room').reading
  unfolding run_outcome
  run_same long lent (effort p s) = refl
  run_same long lent (deep p s) = refl
  run_same long lent (done fail s) = refl
  run_same long lent (done (ok e ts) s) = match_same long e ts _ _

same_reading : (whole : Bool) (table line : List ℕ) (lent : ℕ) (work room work' room' : List ℕ) → length work ≡ length work' → length room ≡ length room'
    → (reading_of whole table line lent work room).reading ≡ (reading_of whole table line lent work' room').reading
unfolding reading_of
same_reading whole table line lent work room work' room' numbers bytes =
    let k = work_needed lent (nodes_of table) (length line) in
    let run = read (grammar_of table) line lent in
    simp (numbers, chosen, run_same whole (cleared k work) room (cleared k work') room' bytes (length line) lent run)

-- a line that is read with what the program lends has the program's answer
pub answered : {page page_after : Page} (table line work room work_after room_after : List ℕ) (lent : ℕ) (r : Numbers)
    → Leaves (reading_of true table line lent work room) r work_after room_after → Puts page (answer_text r) page_after
    → lent ≡ allowance → length work ≡ working_numbers → length room ≡ room_bytes
    → Answers table line work room page work_after room_after page_after
unfolding line_text
answered table line work room work_after room_after lent r left put same numbers bytes =
    let by : Leaves (outcome_of table line work room) r work_after room_after = rw same at left in
    let reading : r ≡ (outcome_of table line (replicate working_numbers 0) (replicate room_bytes 0)).reading =
    by.returned ∙ same_reading true table line allowance work room (replicate working_numbers 0) (replicate room_bytes 0) (numbers ∙ sym (length-replicate {A = ℕ} working_numbers 0)) (bytes ∙ sym (length-replicate {A = ℕ} room_bytes 0)) in
    record { printed = rw reading at put; working = by.working; stored = by.stored }
