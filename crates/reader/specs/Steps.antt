-- What the steps of a reading promise one another: the visits, and how they ended.
use Rattle.std.specs.Prelude.{ℕ, ◌+◌, ◌*◌, ◌<◌, ◌≤◌, ◌≡◌, Bool, true, List, length, get_or}
use Rattle.meaning.specs.Grammar.{fail, ok}
use Rattle.meaning.specs.Decide.{is_free}
use Rattle.meaning.specs.Reading.{State, Run, effort, deep, done}
use Rattle.layout.specs.Table.{nodes_of, grammar_of}
use Rattle.sheet.specs.Check.{Accepted}
use Rattle.report.specs.Report.{LeftRules}
use Rattle.cells.specs.Cells.{trees_at}
use Rattle.cells.specs.Arena.{Arena}
use Rattle.visits.specs.Words.{furthest_in}
use Rattle.visits.specs.Says.{FAILED, STOPPED, Visited, Refused}
use Rattle.reader.specs.Answer.{EFFORT, DEEP, longest_line, most_allowance, Numbers, work_needed, run_outcome, Leaves}

-- Nothing turns the call away, and the words are made ready.
pub record Fitting (table line work : List ℕ) (allowance : ℕ) : Type 0 where
  pub accepted : Accepted table
  pub short : length line ≤ longest_line
  pub allowed : allowance ≤ most_allowance
  pub room : work_needed allowance (nodes_of table) (length line) ≤ length work

pub record Startable (table line work : List ℕ) (allowance : ℕ) (free : Bool) (mask : ℕ) : Type 0 where
  pub fitting : Fitting table line work allowance
  pub free_is : free ≡ is_free (grammar_of table)
  pub left_rules : LeftRules (grammar_of table) mask
  pub arena : Arena work 0
  pub kept : free ≡ true → (i : ℕ) → 2048 + 4 * allowance ≤ i → i < work_needed allowance (nodes_of table) (length line) → get_or work i 0 ≡ 0

pub record Ended (allowance end : ℕ) (w : List ℕ) (v : Visited) (s : State) : Type 0 where
  pub at : v.end ≡ end
  pub left : s.left + v.made ≡ allowance
  pub furthest : s.furthest ≡ furthest_in w

-- A result tells how a run on a line of so many bytes ended.
abbrev pub Tells : (allowance long : ℕ) (w : List ℕ) (v : Visited) → Run → Type 0
Tells allowance long w v (effort p s) = Refused allowance w v EFFORT p s
Tells allowance long w v (deep p s) = Refused allowance w v DEEP p s
Tells allowance long w v (done fail s) = Ended allowance FAILED w v s
Tells allowance long w v (done (ok e ts) s) = (trees_at w v.list ≡ ts) × (e ≤ long) × Ended allowance e w v s

-- After the visits: the cells are in order, the numbers small, and what lies past the room is as it was.
pub record Visiting (allowance long needed : ℕ) (old new : List ℕ) (v : Visited) : Type 0 where
  pub arena : Arena new v.top
  pub end_most : v.end ≤ FAILED
  pub end_within : v.end < STOPPED → v.end ≤ long
  pub list_within : v.end < STOPPED → v.list ≤ v.top
  pub made_within : v.made ≤ allowance
  pub past : (i : ℕ) → needed ≤ i → get_or new i 0 ≡ get_or old i 0

-- What finish needs of a result over the words.
pub record Finishable (long : ℕ) (w : List ℕ) (v : Visited) : Type 0 where
  pub arena : Arena w v.top
  pub end_most : v.end ≤ FAILED
  pub end_within : v.end < STOPPED → v.end ≤ long
  pub list_within : v.end < STOPPED → v.list ≤ v.top

-- However the run ended, if the result tells it, what was returned and written is its outcome.
abbrev pub Finished : (whole : Bool) (long : ℕ) (w : List ℕ) (v : Visited) (r : Numbers) (old new : List ℕ) → Type 0
Finished whole long w v r old new = (allowance : ℕ) (m : Run) (work : List ℕ) → Tells allowance long w v m → Leaves (run_outcome whole long allowance m work old) r work new
