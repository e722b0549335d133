-- The three demands on a reading, in the teacher's words and those of document 01, over reading_of alone. proofs/Demand1, Demand2 and Demand3 show them of every call.
use Rattle.std.specs.Prelude.{◌≡◌, ◌≢◌, ◌⊎◌, Bool, true, List, ◌++◌, ℕ, ◌+◌, ◌<◌, ◌≤◌, length, drop}
use Rattle.meaning.specs.Grammar.{Grammar, rule, Trees, Answer, fail, ok}
use Rattle.meaning.specs.Rules.{Plain, furthest_of, Amount, every_rule, Reads}
use Rattle.meaning.specs.Report.{Free, bound}
use Rattle.meaning.specs.Decide.{left_recursive}
use Rattle.meaning.specs.Reading.{State, made, Run, keeps, read_by, read}
use Rattle.layout.specs.Table.{nodes_of, grammar_of}
use Rattle.layout.specs.Layout.{READ}
use Rattle.sheet.specs.Check.{LOOP}
use Rattle.sheet.specs.Given as sheet
use Rattle.sheet.specs.Given.{WellFormed}
use Rattle.stored.specs.Version.{version_of}
use Rattle.stored.specs.Stored.{records_of, stored_length, stored_of}
use Rattle.reader.specs.Answer.{LINE, ALLOW, WORK, EFFORT, DEEP, FAIL, REST, RECORDS, ROOM, longest_line, most_allowance, most_records, Outcome, numbers, work_needed, cleared}
use Rattle.reader.specs.Answer.{turned_away, reading_of}

-- What is asked, a prefix or the whole line, and what is lent.
pub record Call : Type 0 where
  pub whole : Bool
  pub table : List ℕ
  pub line : List ℕ
  pub allowance : ℕ
  pub work : List ℕ
  pub room : List ℕ

-- What comes back, and what is then in the working numbers and in the room.
abbrev pub back : Call → Outcome
back c = reading_of c.whole c.table c.line c.allowance c.work c.room

abbrev pub code : Outcome → ℕ
code o = o.reading.code

abbrev pub visits : Outcome → ℕ
visits o = o.reading.visits

abbrev pub furthest : Outcome → ℕ
furthest o = o.reading.furthest

abbrev pub grammar : Call → Grammar
grammar c = grammar_of c.table

-- How the limited reading of 01 ends.
abbrev pub run : Call → Run
run c = read (grammar c) c.line c.allowance

-- 01's formula for the working numbers.
abbrev pub needed : Call → ℕ
needed c = work_needed c.allowance (nodes_of c.table) (length c.line)

-- 02, W-212: the version of the stored reading, by the line's length.
abbrev pub version : Call → ℕ
version c = version_of (length c.line)

-- 01: "Codes 1 to 10 return zeros else and change nothing." 02, W-209, of LOOP: "else it answers as codes 1 to 10 do".
abbrev pub away : Call → (code place : ℕ) → Outcome
away c code place = turned_away code place c.work c.room

-- 01: "On READ and from 11 on", which is up to 16, "the first numbers of the working room, as many as the formula says, are zero and the rest as found"; "Only READ writes the room".
abbrev pub ended : Call → (code place matched visits records furthest : ℕ) → Outcome
ended c code place matched visits records furthest = record { reading = numbers code place matched visits records furthest; work = cleared (needed c) c.work; room = c.room }

-- 01: "whole-line only: match ends before L".
abbrev pub EndsBefore : Call → ℕ → Type 0
EndsBefore c e = (c.whole ≡ true) × (e < length c.line)

-- 01's rows 13 to 16 and 0, in its order: what a call gives where rule 0 answered so, after so many visits, with the furthest position reached.
pub data Ended (c : Call) (visits furthest : ℕ) : Answer → Outcome → Type 0 where
  fails : Ended c visits furthest fail (ended c FAIL 0 0 visits 0 furthest)
  rest : {e : ℕ} {ts : Trees} → EndsBefore c e → Ended c visits furthest (ok e ts) (ended c REST e e visits 0 furthest)
  records : {e : ℕ} {ts : Trees} → ¬ EndsBefore c e → most_records < records_of ts → Ended c visits furthest (ok e ts) (ended c RECORDS e e visits 1001 furthest)
  room : {e : ℕ} {ts : Trees} → ¬ EndsBefore c e → records_of ts ≤ most_records → length c.room < stored_length (version c) (records_of ts)
      → Ended c visits furthest (ok e ts) (ended c ROOM e e visits (records_of ts) furthest)
  reads : {e : ℕ} {ts : Trees} → ¬ EndsBefore c e → records_of ts ≤ most_records → stored_length (version c) (records_of ts) ≤ length c.room
      → Ended c visits furthest (ok e ts) (record {
        reading = numbers READ 0 e visits (records_of ts) furthest;
        work = cleared (needed c) c.work;
        room = stored_of (version c) ts ++ drop (stored_length (version c) (records_of ts)) c.room;
      })

-- 01's rows 11 to 16 and 0: what a call gives whose line is read.
pub data Came (c : Call) : Outcome → Type 0 where
  effort : {p : ℕ} {s : State} → run c ≡ Run.effort p s → Came c (ended c EFFORT p 0 (made c.allowance s) 0 s.furthest)
  deep : {p : ℕ} {s : State} → run c ≡ Run.deep p s → Came c (ended c DEEP p 0 (made c.allowance s) 0 s.furthest)
  done : {r : Answer} {s : State} {o : Outcome} → run c ≡ Run.done r s → Ended c (made c.allowance s) s.furthest r o → Came c o

-- No condition of a row before EFFORT holds: the call is not turned away before the line is read.
pub record Taken (c : Call) : Type 0 where
  pub sheet : WellFormed c.table
  pub short : length c.line ≤ longest_line
  pub allowed : (c.allowance ≢ 0) × (c.allowance ≤ most_allowance)
  pub lent : needed c ≤ length c.work

-- 01's table of codes, with LOOP between FIELD and LINE: when each is given, with the six numbers and what is then in the working numbers and in the room. A row's
-- condition holds, and no earlier row's does.
pub data Given (c : Call) : Outcome → Type 0 where
  check : {code place : ℕ} → sheet.Given c.table code place → code ≢ READ → Given c (away c code place)
  line : WellFormed c.table → longest_line < length c.line → Given c (away c LINE 0)
  allow : WellFormed c.table → length c.line ≤ longest_line → (c.allowance ≡ 0) ⊎ (most_allowance < c.allowance) → Given c (away c ALLOW 0)
  work : WellFormed c.table → length c.line ≤ longest_line → (c.allowance ≢ 0) × (c.allowance ≤ most_allowance) → length c.work < needed c → Given c (away c WORK 0)
  taken : Taken c → {o : Outcome} → Came c o → Given c o

-- Demand 1: "Every call ends with a named answer, for every file, line, allowance and buffer size, damaged ones included. Each refusal is given exactly when 01 says so,
-- and what it returns and leaves in every buffer is fixed there."
pub record Demand1 (c : Call) (o : Outcome) : Type 0 where
  pub named : code o ≤ LOOP
  pub given : Given c o
  pub only : (p : Outcome) → Given c p → p ≡ o

-- 01's codes of a line that was read to its answer: neither turned away before, nor refused for effort or depth.
pub data Answers : ℕ → Type 0 where
  reads : Answers READ
  fails : Answers FAIL
  rest : Answers REST
  records : Answers RECORDS
  room : Answers ROOM

-- 02, W-205: the reading by the published rules, in which the left-recursive rules become live and no others.
abbrev pub Published : Call → Answer → Amount → Type 0
Published c = Reads (grammar c) c.line (left_recursive (grammar c))

-- Demand 2, of an outcome with such a code: "Unless 01 turns the call away before the line is read, or refuses it for effort or depth, match and tree are those of the
-- published rules for bounded left recursion (document 003), and the number of visits is the one 01 defines over them."
pub record Demand2 (c : Call) (o : Outcome) : Type 0 where
  -- What the rules answer for rule 0 at position 0 with nothing live, what that amounts to, and that they answer nothing else.
  pub answer : Answer
  pub amount : Amount
  pub rules : Published c answer amount
  pub only : (r : Answer) (n : Amount) → Published c r n → (r ≡ answer) × (n ≡ amount)
  -- 02, W-205: "Matches and trees are to be proved the same as under document 01's rules", by which every rule becomes live; these answer nothing else either.
  pub every : (n : Amount) × Reads (grammar c) c.line every_rule answer n
  pub every_only : (r : Answer) (n : Amount) → Reads (grammar c) c.line every_rule r n → r ≡ answer
  -- The outcome says so.
  pub said : Ended c (visits o) (furthest o) answer o
  -- 02, W-203: "the largest position at which a range node was visited" in that derivation, whatever was kept.
  pub reached : furthest o ≡ amount.furthest
  -- On a free sheet the plain rules answer so too, and it is that of each derivation by them.
  pub plain : Free (grammar c) → Plain (grammar c) c.line (rule 0) 0 answer × ((d : Plain (grammar c) c.line (rule 0) 0 answer) → furthest o ≡ furthest_of d)
  -- 01, "All others.": every visit of that derivation.
  pub others : ¬ Free (grammar c) → visits o ≡ amount.visits
  -- 01, "Free grammars.": the visits of the reading that keeps answers, whatever number is to spare.
  pub kept : Free (grammar c) → (spare : ℕ) → (s : State) × (s.left ≡ spare) × (read_by (grammar c) c.line keeps (visits o + spare) ≡ Run.done answer s)

-- Demand 3, of a call that is not turned away, with such a sheet and allowance: "For a grammar that 01's report calls free of left recursion, with N nodes, a line of L bytes,
-- an allowance of at least 2 x N x (L + 1) + 1 and the working room 01 names: never refused for effort, visits at most 2 x N x (L + 1) + 1, and unless too deep, match, failure
-- and tree are those of the plain rules." The visits are those of demand 2; the furthest position is that of the plain derivation.
pub record Demand3 (c : Call) (o : Outcome) : Type 0 where
  pub never : code o ≢ EFFORT
  pub few : visits o ≤ bound (grammar c) c.line
  pub plain : code o ≢ DEEP
      → (r : Answer) × Plain (grammar c) c.line (rule 0) 0 r × ((q : Answer) (d : Plain (grammar c) c.line (rule 0) 0 q) → (q ≡ r) × (furthest o ≡ furthest_of d))
      × Ended c (visits o) (furthest o) r o
