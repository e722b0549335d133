-- What a reading is given: the table of the sheet, and four numbers, the allowance, how many answers are kept for each position, where the nodes start in the table, and
-- the rules whose uses become live where answers aren't kept.
use Rattle.std.specs.Prelude.{ℕ, ◌+◌, ◌*◌, ◌/◌, ◌%◌, ◌<◌, ◌≤◌, ◌≡◌, ◌⊎◌, Bool, true, List, [], ◌∷◌, length, get_or, ltb}
use Rattle.visits.specs.declared.Given as code
use Rattle.bits.specs.Mask.{has}
use Rattle.meaning.specs.Grammar.{Grammar}
use Rattle.meaning.specs.Reading.{Way, way_of}
use Rattle.layout.specs.Table.{nodes_of, rules_of, root_of, node_at, kind_of, a_of, b_of, grammar_of}
use Rattle.layout.specs.Layout.{Laid}
pub use Rattle.stored.specs.Version.{longest_line}

pub record Given : Type 0 where
  pub table : List ℕ
  pub numbers : List ℕ

-- The four numbers as the code is lent them, in this order.
abbrev pub numbers : code.Given → List ℕ
numbers given = given.allowance ∷ given.kept_each ∷ given.first_node ∷ given.growing ∷ []

abbrev pub lent : List ℕ → List ℕ → Given
lent table numbers = record { table = table; numbers = numbers }

-- Node i: kind, field a and field b.
abbrev pub kind_in : Given → ℕ → ℕ
kind_in given i = kind_of given.table i

abbrev pub a_in : Given → ℕ → ℕ
a_in given i = a_of given.table i

abbrev pub b_in : Given → ℕ → ℕ
b_in given i = b_of given.table i

-- The root of rule a.
abbrev pub root_in : Given → ℕ → ℕ
root_in given a = root_of given.table a

abbrev pub nodes_in : Given → ℕ
nodes_in given = nodes_of given.table

abbrev pub rules_in : Given → ℕ
rules_in given = rules_of given.table

abbrev pub grammar_in : Given → Grammar
grammar_in given = grammar_of given.table

abbrev pub allowance_in : Given → ℕ
allowance_in given = get_or given.numbers 0 0

-- 02, W-212: "the allowance up to 5,000,000".
abbrev pub most_allowance : ℕ
most_allowance = 5000000

-- How many answers are kept for each position: one for each node, or none.
abbrev pub kept_each_in : Given → ℕ
kept_each_in given = get_or given.numbers 1 0

abbrev pub keeps_in : Given → Bool
keeps_in given = ltb 0 (kept_each_in given)

-- Where the nodes start in the table.
abbrev pub first_in : Given → ℕ
first_in given = get_or given.numbers 2 0

-- Bit i for rule i, as in the report.
abbrev pub grows_in : Given → ℕ → Bool
grows_in given a = has (get_or given.numbers 3 0) a

-- The way of the reading.
abbrev pub way_in : Given → Way
way_in given = way_of (keeps_in given) (grows_in given)

-- The first word of the kept answers.
abbrev pub base_in : Given → ℕ
base_in given = 2048 + 4 * allowance_in given

-- Pairs of a node and a position.
abbrev pub pairs_in : Given → List ℕ → ℕ
pairs_in given line = nodes_in given * (length line + 1)

-- 01: "2,048 + 4 x allowance + 2 x n x (L + 1)".
abbrev pub work_needed : (allowance nodes long : ℕ) → ℕ
work_needed allowance nodes long = 2048 + 4 * allowance + 2 * (nodes * (long + 1))

abbrev pub room_in : Given → List ℕ → ℕ
room_in given line = work_needed (allowance_in given) (nodes_in given) (length line)

-- What the check promises of the table that a visit relies on, and how large the others are.
pub record Fit (given : Given) (line : List ℕ) : Type 0 where
  pub laid : Laid given.table
  pub first : first_in given ≡ node_at (rules_in given) 0
  pub each : keeps_in given ≡ true → kept_each_in given ≡ nodes_in given
  pub short : length line ≤ longest_line
  pub allowance : allowance_in given ≤ most_allowance

-- Node i can be read: the table is laid out well, has the node, and its nodes start where it says.
abbrev pub HasNode : Given → ℕ → Type 0
HasNode given i = Laid given.table × ((i < nodes_in given) × (first_in given ≡ node_at (rules_in given) 0))

-- Rule a is one of the sheet's.
abbrev pub HasRule : Given → ℕ → Type 0
HasRule given a = (a < 64) × (a < rules_in given)

-- Node i is a sequence or a choice.
abbrev pub IsPair : Given → ℕ → Type 0
IsPair given i = (kind_in given i ≡ 3) ⊎ (kind_in given i ≡ 4)

-- Where a visit stands, in one number: its position, the live uses, and the open visits left.
abbrev pub left_in : ℕ → ℕ
left_in spot = spot % 1024

abbrev pub live_in : ℕ → ℕ
live_in spot = spot % 4294967296 / 1024

abbrev pub pos_in : ℕ → ℕ
pos_in spot = spot / 4294967296

-- Where the reading begins: at position 0 with nothing live, and 512 visits may be open.
abbrev pub beginning : ℕ
beginning = 512

-- The visit that stands there is open itself.
abbrev pub IsOpen : ℕ → Type 0
IsOpen spot = live_in spot + left_in spot ≤ 512

-- The same at another position.
pub record Moved (spot pos new : ℕ) : Type 0 where
  pub left : left_in new ≡ left_in spot
  pub live : live_in new ≡ live_in spot
  pub there : pos_in new ≡ pos
