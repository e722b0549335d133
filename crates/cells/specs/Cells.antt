-- Trees in the lent working numbers: cells of four words, cell k from word 2048 + 4k on: first, records, second, trees. A list of trees is 0, or 1 + its cell.
-- The two counts are no neighbours: the compiler would read them as one, and the processor stalls where two words just written are read back as one.
use Rattle.std.specs.Prelude.{cond, List, [], ◌∷◌, ◌++◌, ◌≡◌, ℕ, zero, suc, ◌+◌, ◌-◌, ◌*◌, ◌/◌, ◌%◌, min, get_or, ltb}
use Rattle.std.proofs.lemmas.List.Edits.{sets}
use Rattle.meaning.specs.Grammar.{Trees, no_trees, tree, ◌⋈◌}
use Rattle.stored.specs.Stored.{records_of, record_size, trees_bytes}

-- Where the cells start.
abbrev pub cells : ℕ
cells = 2048

-- The counts of list 0, its records and its trees, stand before the cells, where a cell of its own would have them.
abbrev pub records_from : ℕ
records_from = 2045

abbrev pub trees_from : ℕ
trees_from = 2047

-- A count in a cell goes no further.
abbrev pub most_counted : ℕ
most_counted = 1001

abbrev pub saturated : ℕ → ℕ
saturated n = min n most_counted

-- The second of a tree's cell is at least this; that of a join's is below.
abbrev pub mark : ℕ
mark = 1073741824

-- Rule, start and end in 6, 12 and 12 bits.
abbrev pub rule_unit : ℕ
rule_unit = 16777216

abbrev pub start_unit : ℕ
start_unit = 4096

abbrev pub packed : ℕ → ℕ → ℕ → ℕ
packed a x e = mark + a * rule_unit + x * start_unit + e

-- A cell by its first and second, over the lists below it: one tree, by its children and what is packed; or two lists joined.
unfoldable pub cell_trees : ℕ → ℕ → List Trees → Trees
cell_trees f s below = cond (ltb s mark) (get_or below f no_trees ⋈ get_or below s no_trees) (tree (s / rule_unit % 64) (s / start_unit % start_unit) (s % start_unit) (get_or below f no_trees) no_trees)

-- The trees of the lists 0 to k.
unfoldable pub lists : List ℕ → ℕ → List Trees
lists words zero = no_trees ∷ []
lists words (suc k) = let below = lists words k in below ++ (cell_trees (get_or words (cells + 4 * k) 0) (get_or words (cells + 2 + 4 * k) 0) below ∷ [])

-- The trees that a list stands for.
unfoldable pub trees_at : List ℕ → ℕ → Trees
trees_at words list = get_or (lists words list) list no_trees

-- The saturated counts of a list: its records, and its trees.
abbrev pub records_word : List ℕ → ℕ → ℕ
records_word words list = get_or words (records_from + 4 * list) 0

abbrev pub trees_word : List ℕ → ℕ → ℕ
trees_word words list = get_or words (trees_from + 4 * list) 0

-- Cell k written: its first, its records, its second, its trees.
unfoldable pub with_cell : List ℕ → ℕ → ℕ → ℕ → ℕ → ℕ → List ℕ
with_cell words k f s records trees = sets words (cells + 4 * k) (f ∷ records ∷ s ∷ trees ∷ [])

-- One tree written as cell k.
abbrev pub with_tree : List ℕ → ℕ → ℕ → ℕ → ℕ → ℕ → List ℕ
with_tree words k a x e children = with_cell words k children (packed a x e) (saturated (records_word words children + 1)) 1

-- Two lists joined, written as cell k.
abbrev pub with_join : List ℕ → ℕ → ℕ → ℕ → List ℕ
with_join words k f s = with_cell words k f s (saturated (records_word words f + records_word words s)) (saturated (trees_word words f + trees_word words s))

-- What joining two lists over the cells below top leaves; no cell is made where a side is empty.
pub record Joined : Type 0 where
  pub words : List ℕ
  pub list : ℕ
  pub top : ℕ

abbrev pub joined : List ℕ → ℕ → ℕ → Joined
joined words list top = record { words = words; list = list; top = top }

unfoldable pub join_of : List ℕ → ℕ → ℕ → ℕ → Joined
join_of words top zero s = joined words s top
join_of words top (suc f) zero = joined words (suc f) top
join_of words top (suc f) (suc s) = joined (with_join words top (suc f) (suc s)) (top + 1) (top + 1)

-- The records of a list of trees are written over the room from at on, as far as end.
abbrev pub Wrote : (room new : List ℕ) (width end : ℕ) → Trees → Type 0
Wrote room new width end ts = new ≡ sets room (end - record_size width * records_of ts) (trees_bytes width ts)
