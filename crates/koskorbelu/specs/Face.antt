-- What the exported functions write into the answer that their caller lends, and leave in what else they are lent.
use Rattle.std.specs.Prelude.{◌≡◌, List, [], ◌∷◌, ℕ}
use Rattle.bits.specs.Mask.{one}
use Rattle.sheet.specs.Check.{check_of}
use Rattle.report.specs.Report.{Reported}
use Rattle.report.specs.Report as report
use Rattle.reader.specs.Answer.{Outcome}
use Rattle.reader.specs.Answer as reading

-- 01: "Check and report return code and place".
unfoldable pub check_numbers : List ℕ → List ℕ
check_numbers table = (check_of table).code ∷ (check_of table).place ∷ []

-- 01: "The report gives code, place, a 64-bit mask [..], a like mask of left-recursive rules, how many bits are set in the second, and the lowest rule set in it";
-- 02, W-202: "the report adds a yes or no for free", as 1 or 0.
unfoldable pub report_numbers : report.Numbers → List ℕ
report_numbers x = x.code ∷ x.place ∷ x.may_be_empty ∷ x.left_recursive ∷ x.how_many ∷ x.lowest ∷ one x.free ∷ []

-- 01: "A reading returns code, place, matched, visits, records." 02, W-203: "Each reading's result gets one more number, furthest".
unfoldable pub read_numbers : reading.Numbers → List ℕ
read_numbers r = r.code ∷ r.place ∷ r.matched ∷ r.visits ∷ r.records ∷ r.furthest ∷ []

-- The answer holds the report on a table.
pub record LeavesReport (table answer : List ℕ) : Type 0 where
  pub findings : report.Numbers
  pub reported : Reported table findings
  pub written : answer ≡ report_numbers findings

-- The answer, the working numbers and the room are those of an outcome.
pub record LeavesReading (o : Outcome) (answer work room : List ℕ) : Type 0 where
  pub written : answer ≡ read_numbers o.reading
  pub working : work ≡ o.work
  pub stored : room ≡ o.room
