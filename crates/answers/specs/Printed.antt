-- 01, the program: "for each it prints READ matched visits records, or the code's name, place and visits", as bytes; and what a line is lent.
use Rattle.std.specs.Prelude.{◌≡◌, true, cond, List, [], ◌∷◌, ◌++◌, ℕ, get_or, replicate, ltb}
use Rattle.page.specs.declared.Page.{Page}
use Rattle.page.specs.Page.{Puts}
use Rattle.page.specs.Decimal.{decimal}
use Rattle.reader.specs.Answer.{Numbers, Outcome, reading_of}
use Rattle.answers.specs.Quoted.{bytes}

-- 01: "allowance 2,500, 16,384 working numbers, room 5,005".
abbrev pub allowance : ℕ
allowance = 2500

abbrev pub working_numbers : ℕ
working_numbers = 16384

abbrev pub room_bytes : ℕ
room_bytes = 5005

-- The names of the codes, 01's from 0 to 16 and 02's LOOP.
unfoldable pub names : List (List ℕ)
names =
    bytes "READ"
    ∷ bytes "SHORT"
    ∷ bytes "VERSION"
    ∷ bytes "COUNT"
    ∷ bytes "LENGTH"
    ∷ bytes "ROOT"
    ∷ bytes "KIND"
    ∷ bytes "FIELD"
    ∷ bytes "LINE"
    ∷ bytes "ALLOW"
    ∷ bytes "WORK"
    ∷ bytes "EFFORT"
    ∷ bytes "DEEP"
    ∷ bytes "FAIL"
    ∷ bytes "REST"
    ∷ bytes "RECORDS"
    ∷ bytes "ROOM"
    ∷ bytes "LOOP"
    ∷ []

-- No other number has a name.
unfoldable pub name_of : ℕ → List ℕ
name_of code = get_or names code []

-- A blank and a number.
abbrev pub next_number : ℕ → List ℕ
next_number number = 32 ∷ decimal number

-- LF.
abbrev pub line_end : List ℕ
line_end = 10 ∷ []

unfoldable pub refusal_text : (code place visits : ℕ) → List ℕ
refusal_text code place visits = name_of code ++ (next_number place ++ (next_number visits ++ line_end))

unfoldable pub read_text : (matched visits records : ℕ) → List ℕ
read_text matched visits records = name_of 0 ++ (next_number matched ++ (next_number visits ++ (next_number records ++ line_end)))

unfoldable pub answer_text : Numbers → List ℕ
answer_text r = cond (ltb 0 r.code) (refusal_text r.code r.place r.visits) (read_text r.matched r.visits r.records)

-- The program's reading of a line: whole-line, with its allowance.
abbrev pub outcome_of : (table line work room : List ℕ) → Outcome
outcome_of table line work room = reading_of true table line allowance work room

-- The text that answers a line. What is lent has zeros here: what it holds makes no difference, only how much is lent.
unfoldable pub line_text : (table line : List ℕ) → List ℕ
line_text table line = answer_text (outcome_of table line (replicate working_numbers 0) (replicate room_bytes 0)).reading

-- A line was read, and its text is put on the page; working numbers and room are as a reading leaves them.
pub record Answers (table line work room : List ℕ) (page : Page) (work_after room_after : List ℕ) (page_after : Page) : Type 0 where
  pub printed : Puts page (line_text table line) page_after
  pub working : work_after ≡ (outcome_of table line work room).work
  pub stored : room_after ≡ (outcome_of table line work room).room
