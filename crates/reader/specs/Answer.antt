-- 01, "What comes back": the numbers of a reading, with the one that 02's W-203 adds, and what it leaves in the working numbers and in the room.
use Rattle.std.specs.Prelude.{ℕ, ◌+◌, ◌≡◌, Bool, true, false, ◌&&◌, ◌||◌, cond, Result, Ok, Err, List, ◌++◌, length, drop, replicate, ltb, eqb}
use Rattle.meaning.specs.Grammar.{Trees, fail, ok}
pub use Rattle.meaning.specs.Reading.{EFFORT, DEEP}
pub use Rattle.visits.specs.Given.{longest_line, most_allowance, work_needed}
use Rattle.meaning.specs.Reading.{made, Run, effort, deep, done, read}
use Rattle.layout.specs.Table.{nodes_of, grammar_of}
use Rattle.sheet.specs.Check.{check_of}
use Rattle.sheet.specs.Check as sheet
use Rattle.stored.specs.Version.{version_of}
use Rattle.stored.specs.Stored.{records_of, stored_length, stored_of}
use Rattle.reader.specs.declared.Refusal.{Refusal}
use Rattle.reader.specs.declared.Refusal.TheVariants.{Sheet, Line, Allowance, Work}
use Rattle.reader.specs.declared.Extent.{Extent}
use Rattle.reader.specs.declared.Extent.TheVariants.{Prefix, Whole}
use Rattle.reader.specs.declared.Ending.{Ending}
use Rattle.reader.specs.declared.Ending.TheVariants.{Read, Effort, Deep, Fail, Rest, Records, Room}
use Rattle.reader.specs.declared.Reading.{Reading}

abbrev pub LINE : ℕ
LINE = 8

abbrev pub ALLOW : ℕ
ALLOW = 9

abbrev pub WORK : ℕ
WORK = 10

abbrev pub FAIL : ℕ
FAIL = 13

abbrev pub REST : ℕ
REST = 14

abbrev pub RECORDS : ℕ
RECORDS = 15

abbrev pub ROOM : ℕ
ROOM = 16

-- 01: "tree over 1,000 records".
abbrev pub most_records : ℕ
most_records = 1000

-- The numbers that come back.
pub record Numbers : Type 0 where
  pub code : ℕ
  pub place : ℕ
  pub matched : ℕ
  pub visits : ℕ
  pub records : ℕ
  pub furthest : ℕ

-- What comes back, and the final contents of what was lent to be written.
pub record Outcome : Type 0 where
  pub reading : Numbers
  pub work : List ℕ
  pub room : List ℕ

abbrev pub numbers : (code place matched visits records furthest : ℕ) → Numbers
numbers code place matched visits records furthest = record { code = code; place = place; matched = matched; visits = visits; records = records; furthest = furthest }

-- 01: "the first numbers of the working room, as many as the formula says, are zero and the rest as found".
unfoldable pub cleared : ℕ → List ℕ → List ℕ
cleared k work = replicate k 0 ++ drop k work

-- Where rule 0 matched up to e with the tree ts, after so many visits, with the furthest position reached. 01's rows 14, 15, 16 and 0. The line's length gives the version that is
-- stored, and by its length the row ROOM.
unfoldable pub match_outcome : (whole : Bool) (long e : ℕ) → Trees → (visits furthest : ℕ) → (work room : List ℕ) → Outcome
match_outcome whole long e ts visits furthest work room =
    cond (whole && ltb e long) (record { reading = numbers REST e e visits 0 furthest; work = work; room = room })
    (cond (ltb most_records (records_of ts)) (record { reading = numbers RECORDS e e visits (most_records + 1) furthest; work = work; room = room })
    (cond (ltb (length room) (stored_length (version_of long) (records_of ts))) (record { reading = numbers ROOM e e visits (records_of ts) furthest; work = work; room = room })
    (record { reading = numbers 0 0 e visits (records_of ts) furthest; work = work; room = stored_of (version_of long) ts ++ drop (stored_length (version_of long) (records_of ts)) room })))

-- How a reading ended, by 01's rows 11 to 16 and 0; visits is the number made, furthest the largest position at which a range was visited.
unfoldable pub run_outcome : (whole : Bool) (long allowance : ℕ) → Run → (work room : List ℕ) → Outcome
run_outcome whole long allowance (effort p s) work room = record { reading = numbers EFFORT p 0 (made allowance s) 0 s.furthest; work = work; room = room }
run_outcome whole long allowance (deep p s) work room = record { reading = numbers DEEP p 0 (made allowance s) 0 s.furthest; work = work; room = room }
run_outcome whole long allowance (done fail s) work room = record { reading = numbers FAIL 0 0 (made allowance s) 0 s.furthest; work = work; room = room }
run_outcome whole long allowance (done (ok e ts) s) work room = match_outcome whole long e ts (made allowance s) s.furthest work room

-- 01: "Codes 1 to 10 return zeros else and change nothing." So does LOOP, which the check gives.
abbrev pub turned_away : (code place : ℕ) → (work room : List ℕ) → Outcome
turned_away code place work room = record { reading = numbers code place 0 0 0 0; work = work; room = room }

-- 01's table of codes, in its order, with LOOP among the check's; whole asks for the whole line.
unfoldable pub reading_of : (whole : Bool) (table line : List ℕ) (allowance : ℕ) (work room : List ℕ) → Outcome
reading_of whole table line allowance work room =
    cond (ltb 0 (check_of table).code) (turned_away (check_of table).code (check_of table).place work room)
    (cond (ltb longest_line (length line)) (turned_away LINE 0 work room)
    (cond (eqb allowance 0 || ltb most_allowance allowance) (turned_away ALLOW 0 work room)
    (cond (ltb (length work) (work_needed allowance (nodes_of table) (length line))) (turned_away WORK 0 work room)
    (run_outcome whole (length line) allowance (read (grammar_of table) line allowance) (cleared (work_needed allowance (nodes_of table) (length line)) work) room))))

-- The numbers that a refusal stands for.
abbrev pub code_of : Refusal → ℕ
code_of (Sheet refusal) = sheet.code_of refusal
code_of Line = LINE
code_of Allowance = ALLOW
code_of Work = WORK

abbrev pub place_of : Refusal → ℕ
place_of (Sheet refusal) = sheet.place_of refusal
place_of Line = 0
place_of Allowance = 0
place_of Work = 0

-- The numbers that an ending stands for, after so many visits, with the furthest position reached.
abbrev pub numbers_ending : Ending → (visits furthest : ℕ) → Numbers
numbers_ending (Read matched records) visits furthest = numbers 0 0 matched visits records furthest
numbers_ending (Effort place) visits furthest = numbers EFFORT place 0 visits 0 furthest
numbers_ending (Deep place) visits furthest = numbers DEEP place 0 visits 0 furthest
numbers_ending Fail visits furthest = numbers FAIL 0 0 visits 0 furthest
numbers_ending (Rest matched) visits furthest = numbers REST matched matched visits 0 furthest
numbers_ending (Records matched) visits furthest = numbers RECORDS matched matched visits (most_records + 1) furthest
numbers_ending (Room matched records) visits furthest = numbers ROOM matched matched visits records furthest

-- The numbers that a result stands for.
abbrev pub numbers_of : Result Reading Refusal → Numbers
numbers_of (Ok reading) = numbers_ending reading.ending reading.visits reading.furthest
numbers_of (Err refusal) = numbers (code_of refusal) (place_of refusal) 0 0 0 0

-- Whether the whole line is asked for.
abbrev pub is_whole : Extent → Bool
is_whole Prefix = false
is_whole Whole = true

-- What a function returned and left is an outcome.
pub record Leaves (o : Outcome) (r : Numbers) (work room : List ℕ) : Type 0 where
  pub returned : r ≡ o.reading
  pub working : work ≡ o.work
  pub stored : room ≡ o.room
