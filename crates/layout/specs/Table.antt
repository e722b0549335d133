-- 01, "The table of a sheet": what stands where in a table, which tables are well formed, and which grammar a table is.
use Rattle.std.specs.Prelude.{◌≡◌, List, [], ◌∷◌, ℕ, zero, suc, ◌+◌, ◌*◌, ◌≤◌, ◌<◌, length, get_or}
use Rattle.meaning.specs.Grammar.{Node, empty, range, rule, seq, choice, not, rep, Grammar}

abbrev pub byte_at : List ℕ → ℕ → ℕ
byte_at t p = get_or t p 0

-- 01: "Big-endian." A number of two bytes.
abbrev pub pair_at : List ℕ → ℕ → ℕ
pair_at t p = byte_at t p * 256 + byte_at t (p + 1)

-- 01: "Bytes 1-2: length of the whole table."
unfoldable pub length_of : List ℕ → ℕ
length_of t = pair_at t 1

-- 01: "Bytes 3-4: node count n, 1 to 512."
unfoldable pub nodes_of : List ℕ → ℕ
nodes_of t = pair_at t 3

abbrev pub most_nodes : ℕ
most_nodes = 512

-- 01: "Bytes 5-6: rule count r, 1 to 64."
unfoldable pub rules_of : List ℕ → ℕ
rules_of t = pair_at t 5

abbrev pub most_rules : ℕ
most_rules = 64

-- 01: "Then r two-byte root nodes, one for each rule."
unfoldable pub root_of : List ℕ → ℕ → ℕ
root_of t a = pair_at t (7 + 2 * a)

-- 01: "Then n nodes of five bytes". Where node i of a table of r rules starts; node n would start at the table's end.
abbrev pub node_at : ℕ → ℕ → ℕ
node_at r i = 7 + 2 * r + 5 * i

-- 01: "The length is 7 + 2r + 5n."
unfoldable pub formula : List ℕ → ℕ
formula t = node_at (rules_of t) (nodes_of t)

-- 01: "kind, field a (two bytes), field b (two bytes)".
unfoldable pub kind_of : List ℕ → ℕ → ℕ
kind_of t i = byte_at t (node_at (rules_of t) i)

-- A field of node i, by where it stands in the node.
unfoldable pub field_of : List ℕ → ℕ → ℕ → ℕ
field_of t i at = pair_at t (node_at (rules_of t) i + at)

abbrev pub a_of : List ℕ → ℕ → ℕ
a_of t i = field_of t i 1

abbrev pub b_of : List ℕ → ℕ → ℕ
b_of t i = field_of t i 3

-- 01, the table of kinds, row by row: what fields a and b node i may have, by its kind, in a table of r rules.
-- 01: "A child's number is below its parent's."
pub data Fits (r i : ℕ) : (kind a b : ℕ) → Type 0 where
  is_empty : Fits r i 0 0 0
  is_range : {lowest highest : ℕ} → lowest ≤ highest → highest ≤ 255 → Fits r i 1 lowest highest
  is_rule : {a : ℕ} → a < r → Fits r i 2 a 0
  is_sequence : {a b : ℕ} → a < i → b < i → Fits r i 3 a b
  is_choice : {a b : ℕ} → a < i → b < i → Fits r i 4 a b
  is_not : {a : ℕ} → a < i → Fits r i 5 a 0
  is_repetition : {a : ℕ} → a < i → Fits r i 6 a 0

abbrev pub NodeFits : List ℕ → ℕ → Type 0
NodeFits t i = Fits (rules_of t) i (kind_of t i) (a_of t i) (b_of t i)

-- A table as 01 describes it.
pub record WellLaid (t : List ℕ) : Type 0 where
  pub version : byte_at t 0 ≡ 1
  pub some_node : 1 ≤ nodes_of t
  pub few_nodes : nodes_of t ≤ most_nodes
  pub some_rule : 1 ≤ rules_of t
  pub few_rules : rules_of t ≤ most_rules
  pub as_said : length t ≡ length_of t
  pub by_formula : length t ≡ formula t
  pub roots : (a : ℕ) → a < rules_of t → root_of t a < nodes_of t
  pub kinds : (i : ℕ) → i < nodes_of t → kind_of t i ≤ 6
  pub fields : (i : ℕ) → i < nodes_of t → NodeFits t i

-- What a node is, by its kind and fields. A kind above 6 is in no well-laid table.
abbrev pub decode : (kind a b : ℕ) → Node
decode zero a b = empty
decode (suc zero) a b = range a b
decode (suc (suc zero)) a b = rule a
decode (suc (suc (suc zero))) a b = seq a b
decode (suc (suc (suc (suc zero)))) a b = choice a b
decode (suc (suc (suc (suc (suc zero))))) a b = not a
decode (suc (suc (suc (suc (suc (suc zero)))))) a b = rep a
decode (suc (suc (suc (suc (suc (suc (suc kind))))))) a b = empty

unfoldable pub node_of : List ℕ → ℕ → Node
node_of t i = decode (kind_of t i) (a_of t i) (b_of t i)

-- What f gives at each of k numbers, from i on.
abbrev pub each {ℓ} : {A : Type ℓ} → (ℕ → A) → (i k : ℕ) → List A
each f i zero = []
each f i (suc k) = f i ∷ each f (suc i) k

unfoldable pub grammar_of : List ℕ → Grammar
grammar_of t = record { nodes = each (node_of t) 0 (nodes_of t); roots = each (root_of t) 0 (rules_of t) }
