-- 01, "What comes back": codes 1 to 7 with their places, in 01's order.
use Rattle.std.specs.Prelude.{◌≡◌, Bool, true, false, ◌&&◌, cond, List, ℕ, zero, suc, ◌<◌, length, leb, ltb, eqb, Result, Ok, Err}
use Rattle.layout.specs.declared.Refusal.{Refusal}
use Rattle.layout.specs.declared.Refusal.TheVariants.{Short, Version, Count, Length, Root, Kind, Field}
use Rattle.layout.specs.Table.{byte_at, length_of, nodes_of, most_nodes, rules_of, most_rules, root_of, node_at, formula, kind_of, a_of, b_of}

-- 01's codes.
abbrev pub READ : ℕ
READ = 0

abbrev pub SHORT : ℕ
SHORT = 1

abbrev pub VERSION : ℕ
VERSION = 2

abbrev pub COUNT : ℕ
COUNT = 3

abbrev pub LENGTH : ℕ
LENGTH = 4

abbrev pub ROOT : ℕ
ROOT = 5

abbrev pub KIND : ℕ
KIND = 6

abbrev pub FIELD : ℕ
FIELD = 7

-- A row of 01's table of codes: its code, and its place.
pub record Verdict : Type 0 where
  pub code : ℕ
  pub place : ℕ

abbrev pub verdict : (code place : ℕ) → Verdict
verdict code place = record { code = code; place = place }

-- The code of a refusal's row.
abbrev pub code_of : Refusal → ℕ
code_of Short = SHORT
code_of Version = VERSION
code_of Count = COUNT
code_of Length = LENGTH
code_of (Root a) = ROOT
code_of (Kind i) = KIND
code_of (Field i) = FIELD

-- Its place, 0 where the row has none.
abbrev pub place_of : Refusal → ℕ
place_of Short = 0
place_of Version = 0
place_of Count = 0
place_of Length = 0
place_of (Root a) = a
place_of (Kind i) = i
place_of (Field i) = i

abbrev pub verdict_of : Refusal → Verdict
verdict_of refusal = verdict (code_of refusal) (place_of refusal)

-- The row that a check gives; READ where it refuses nothing.
abbrev pub row_of : Result Unit Refusal → Verdict
row_of (Ok done) = verdict READ 0
row_of (Err refusal) = verdict_of refusal

-- A row of 01's table of codes that has no place: its code, unless its test is passed.
abbrev pub unless : Bool → (code : ℕ) → Verdict
unless true code = verdict READ 0
unless false code = verdict code 0

infixr 20 ◌or_else◌
-- 01: "Checks in this order". The first of two rows, unless it has nothing to refuse.
abbrev pub ◌or_else◌ : Verdict → Verdict → Verdict
v or_else w = cond (eqb v.code READ) w v

-- The first of k places, from i on, at which there is a fault: f gives the fault's code at each place, READ where there is none.
unfoldable pub first_fault : (f : ℕ → ℕ) → (i k : ℕ) → Verdict
first_fault f i zero = verdict READ 0
first_fault f i (suc k) = verdict (f i) i or_else first_fault f (suc i) k

-- 01: "n or r out of range".
abbrev pub in_range : (count most : ℕ) → Bool
in_range count most = leb 1 count && leb count most

abbrev pub counts_fit : (n r : ℕ) → Bool
counts_fit n r = in_range n most_nodes && in_range r most_rules

-- 01: "slice length, bytes 1-2 and formula not all equal".
abbrev pub all_equal : ℕ → ℕ → ℕ → Bool
all_equal x y z = eqb x y && eqb x z

-- 01: "root not below n"; place "first such rule".
unfoldable pub root_fault : List ℕ → ℕ → ℕ
root_fault t a = cond (ltb (root_of t a) (nodes_of t)) READ ROOT

-- 01's table of kinds as a test: fields a and b of node i, by its kind, in a table of r rules.
unfoldable pub fields_fit : (r i kind a b : ℕ) → Bool
fields_fit r i zero a b = eqb a 0 && eqb b 0
fields_fit r i (suc zero) a b = leb a b && leb b 255
fields_fit r i (suc (suc zero)) a b = ltb a r && eqb b 0
fields_fit r i (suc (suc (suc zero))) a b = ltb a i && ltb b i
fields_fit r i (suc (suc (suc (suc zero)))) a b = ltb a i && ltb b i
fields_fit r i (suc (suc (suc (suc (suc zero))))) a b = ltb a i && eqb b 0
fields_fit r i (suc (suc (suc (suc (suc (suc zero)))))) a b = ltb a i && eqb b 0
fields_fit r i (suc (suc (suc (suc (suc (suc (suc kind))))))) a b = false

-- 01: "kind above 6"; "a field against the kinds above"; "kind before fields".
unfoldable pub fault_of : (r i kind a b : ℕ) → ℕ
fault_of r i kind a b = cond (leb kind 6) (cond (fields_fit r i kind a b) READ FIELD) KIND

unfoldable pub node_fault : List ℕ → ℕ → ℕ
node_fault t i = fault_of (rules_of t) i (kind_of t i) (a_of t i) (b_of t i)

-- 01's table of codes, in its order. 01: "Nodes are tested in rising order, kind before fields."
unfoldable pub layout_of : List ℕ → Verdict
layout_of t =
    unless (leb 7 (length t)) SHORT
    or_else unless (eqb (byte_at t 0) 1) VERSION
    or_else unless (counts_fit (nodes_of t) (rules_of t)) COUNT
    or_else unless (all_equal (length t) (length_of t) (formula t)) LENGTH
    or_else first_fault (root_fault t) 0 (rules_of t)
    or_else first_fault (node_fault t) 0 (nodes_of t)

-- None of these rows has anything to refuse.
unfoldable pub Laid : List ℕ → Type 0
Laid t = (layout_of t).code ≡ READ

-- Such a table has node i, and its nodes start at first.
abbrev pub HasNode : List ℕ → (first i : ℕ) → Type 0
HasNode t first i = Laid t × ((i < nodes_of t) × (first ≡ node_at (rules_of t) 0))
