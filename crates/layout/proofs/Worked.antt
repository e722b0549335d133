-- 01's sheets A and B, and B with a rule that nobody uses: their tables are well laid and are the grammars that 01 lists; and the order of refusals, on small tables.
use mathlib.Core.Path.{◌≡◌, refl}
use mathlib.Core.List.{List, [], ◌∷◌}
use Prim.Native.Nat.{ℕ}
use Rattle.meaning.specs.Grammar.{range, rule, seq, choice, Grammar}
use Rattle.layout.specs.Table.{length_of, nodes_of, rules_of, root_of, formula, kind_of, field_of, node_of, grammar_of}
use Rattle.layout.specs.Layout.{READ, COUNT, LENGTH, ROOT, KIND, FIELD, verdict, first_fault, root_fault, fields_fit, fault_of, node_fault, layout_of}

-- S <- S '+' D / D; D <- [0-9].
abbrev pub tableA : List ℕ
tableA =
    1 ∷ 0 ∷ 46 ∷ 0 ∷ 7 ∷ 0 ∷ 2 ∷ 0 ∷ 5 ∷ 0 ∷ 6
    ∷ 2 ∷ 0 ∷ 0 ∷ 0 ∷ 0
    ∷ 1 ∷ 0 ∷ 43 ∷ 0 ∷ 43
    ∷ 2 ∷ 0 ∷ 1 ∷ 0 ∷ 0
    ∷ 3 ∷ 0 ∷ 1 ∷ 0 ∷ 2
    ∷ 3 ∷ 0 ∷ 0 ∷ 0 ∷ 3
    ∷ 4 ∷ 0 ∷ 4 ∷ 0 ∷ 2
    ∷ 1 ∷ 0 ∷ 48 ∷ 0 ∷ 57 ∷ []

abbrev pub sheetA : Grammar
sheetA =
    record {
      nodes = rule 0 ∷ range 43 43 ∷ rule 1 ∷ seq 1 2 ∷ seq 0 3 ∷ choice 4 2 ∷ range 48 57 ∷ [];
      roots = 5 ∷ 6 ∷ [];
    }

-- N <- D ',' D / D; D <- [0-9].
abbrev pub tableB : List ℕ
tableB =
    1 ∷ 0 ∷ 41 ∷ 0 ∷ 6 ∷ 0 ∷ 2 ∷ 0 ∷ 4 ∷ 0 ∷ 5
    ∷ 2 ∷ 0 ∷ 1 ∷ 0 ∷ 0
    ∷ 1 ∷ 0 ∷ 44 ∷ 0 ∷ 44
    ∷ 3 ∷ 0 ∷ 1 ∷ 0 ∷ 0
    ∷ 3 ∷ 0 ∷ 0 ∷ 0 ∷ 2
    ∷ 4 ∷ 0 ∷ 3 ∷ 0 ∷ 0
    ∷ 1 ∷ 0 ∷ 48 ∷ 0 ∷ 57 ∷ []

abbrev pub sheetB : Grammar
sheetB =
    record {
      nodes = rule 1 ∷ range 44 44 ∷ seq 1 0 ∷ seq 0 2 ∷ choice 3 0 ∷ range 48 57 ∷ [];
      roots = 4 ∷ 5 ∷ [];
    }

-- Sheet B with a third rule that calls itself and that nobody uses: N <- D ',' D / D; D <- [0-9]; R <- R.
abbrev pub table_unused : List ℕ
table_unused =
    1 ∷ 0 ∷ 48 ∷ 0 ∷ 7 ∷ 0 ∷ 3 ∷ 0 ∷ 4 ∷ 0 ∷ 5 ∷ 0 ∷ 6
    ∷ 2 ∷ 0 ∷ 1 ∷ 0 ∷ 0
    ∷ 1 ∷ 0 ∷ 44 ∷ 0 ∷ 44
    ∷ 3 ∷ 0 ∷ 1 ∷ 0 ∷ 0
    ∷ 3 ∷ 0 ∷ 0 ∷ 0 ∷ 2
    ∷ 4 ∷ 0 ∷ 3 ∷ 0 ∷ 0
    ∷ 1 ∷ 0 ∷ 48 ∷ 0 ∷ 57
    ∷ 2 ∷ 0 ∷ 2 ∷ 0 ∷ 0 ∷ []

abbrev pub sheet_unused : Grammar
sheet_unused =
    record {
      nodes = rule 1 ∷ range 44 44 ∷ seq 1 0 ∷ seq 0 2 ∷ choice 3 0 ∷ range 48 57 ∷ rule 2 ∷ [];
      roots = 4 ∷ 5 ∷ 6 ∷ [];
    }

pub sheets : (layout_of tableA ≡ verdict READ 0) × (grammar_of tableA ≡ sheetA) × (layout_of tableB ≡ verdict READ 0) × (grammar_of tableB ≡ sheetB)
    × (layout_of table_unused ≡ verdict READ 0) × (grammar_of table_unused ≡ sheet_unused)
unfolding layout_of first_fault root_fault node_fault fault_of fields_fit grammar_of node_of kind_of field_of root_of length_of nodes_of rules_of formula
sheets = (refl, refl, refl, refl, refl, refl)

-- Of two faults the one that 01 tests first: a count before a length, a root before a node, a field of node 0 before the kind of node 1.
pub first_of_two :
    (layout_of (1 ∷ 0 ∷ 9 ∷ 0 ∷ 0 ∷ 0 ∷ 1 ∷ []) ≡ verdict COUNT 0)
    × (layout_of (1 ∷ 0 ∷ 15 ∷ 0 ∷ 1 ∷ 0 ∷ 1 ∷ 0 ∷ 0 ∷ 0 ∷ 0 ∷ 0 ∷ 0 ∷ 0 ∷ []) ≡ verdict LENGTH 0)
    × (layout_of (1 ∷ 0 ∷ 14 ∷ 0 ∷ 1 ∷ 0 ∷ 1 ∷ 0 ∷ 1 ∷ 9 ∷ 0 ∷ 0 ∷ 0 ∷ 0 ∷ []) ≡ verdict ROOT 0)
    × (layout_of (1 ∷ 0 ∷ 19 ∷ 0 ∷ 2 ∷ 0 ∷ 1 ∷ 0 ∷ 1 ∷ 0 ∷ 0 ∷ 1 ∷ 0 ∷ 0 ∷ 9 ∷ 0 ∷ 0 ∷ 0 ∷ 0 ∷ []) ≡ verdict FIELD 0)
    × (layout_of (1 ∷ 0 ∷ 19 ∷ 0 ∷ 2 ∷ 0 ∷ 1 ∷ 0 ∷ 1 ∷ 0 ∷ 0 ∷ 0 ∷ 0 ∷ 0 ∷ 9 ∷ 0 ∷ 0 ∷ 0 ∷ 9 ∷ []) ≡ verdict KIND 1)
unfolding layout_of first_fault root_fault node_fault fault_of fields_fit kind_of field_of root_of length_of nodes_of rules_of formula
first_of_two = (refl, refl, refl, refl, refl)
