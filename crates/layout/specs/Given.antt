-- 01, "What comes back": when each code from SHORT to FIELD is given, and at which place. A row's condition holds, and no earlier row's does.
use Rattle.std.specs.Prelude.{◌≡◌, ◌≢◌, List, ℕ, ◌≤◌, ◌<◌, length}
use Rattle.layout.specs.Table.{byte_at, length_of, nodes_of, most_nodes, rules_of, most_rules, root_of, formula, kind_of, NodeFits, WellLaid}
use Rattle.layout.specs.Layout.{READ, SHORT, VERSION, COUNT, LENGTH, ROOT, KIND, FIELD}

-- n and r are in range.
abbrev pub CountsFit : List ℕ → Type 0
CountsFit t = ((1 ≤ nodes_of t) × (nodes_of t ≤ most_nodes)) × ((1 ≤ rules_of t) × (rules_of t ≤ most_rules))

-- Slice length, bytes 1-2 and formula are all equal.
abbrev pub LengthsAgree : List ℕ → Type 0
LengthsAgree t = (length t ≡ length_of t) × (length t ≡ formula t)

-- No condition of the first four rows holds.
pub record HeaderFits (t : List ℕ) : Type 0 where
  pub long : 7 ≤ length t
  pub version : byte_at t 0 ≡ 1
  pub counts : CountsFit t
  pub lengths : LengthsAgree t

-- Every root before rule a's is below n.
abbrev pub RootsFit : List ℕ → ℕ → Type 0
RootsFit t a = (b : ℕ) → b < a → root_of t b < nodes_of t

-- Every node before node i is as the table of kinds says.
abbrev pub NodesFit : List ℕ → ℕ → Type 0
NodesFit t i = (j : ℕ) → j < i → NodeFits t j

pub data Given (t : List ℕ) : (code place : ℕ) → Type 0 where
  short : length t < 7 → Given t SHORT 0
  version : 7 ≤ length t → byte_at t 0 ≢ 1 → Given t VERSION 0
  count : 7 ≤ length t → byte_at t 0 ≡ 1 → ¬ CountsFit t → Given t COUNT 0
  lengths : 7 ≤ length t → byte_at t 0 ≡ 1 → CountsFit t → ¬ LengthsAgree t → Given t LENGTH 0
  root : HeaderFits t → {a : ℕ} → a < rules_of t → RootsFit t a → nodes_of t ≤ root_of t a → Given t ROOT a
  kind : HeaderFits t → RootsFit t (rules_of t) → {i : ℕ} → i < nodes_of t → NodesFit t i → 6 < kind_of t i → Given t KIND i
  field : HeaderFits t → RootsFit t (rules_of t) → {i : ℕ} → i < nodes_of t → NodesFit t i → kind_of t i ≤ 6 → ¬ NodeFits t i → Given t FIELD i
  read : WellLaid t → Given t READ 0
