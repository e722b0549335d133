-- 01's sheets A and B, and B with a rule that nobody uses, are accepted; small tables with repetitions of nothing are not.
use mathlib.Core.Path.{◌≡◌, refl}
use mathlib.Core.List.{List, [], ◌∷◌}
use Prim.Native.Nat.{ℕ}
use Rattle.meaning.specs.Decide.{empty_nodes}
use Rattle.layout.specs.Table.{length_of, nodes_of, rules_of, root_of, formula, kind_of, field_of, node_of, grammar_of}
use Rattle.layout.specs.Layout.{READ, KIND, FIELD, verdict, first_fault, root_fault, fields_fit, fault_of, node_fault, layout_of}
use Rattle.layout.proofs.Worked.{tableA, tableB, table_unused}
use Rattle.sheet.specs.Check.{LOOP, loop_fault, check_of}

pub sheets : (check_of tableA ≡ verdict READ 0) × (check_of tableB ≡ verdict READ 0) × (check_of table_unused ≡ verdict READ 0)
unfolding check_of loop_fault layout_of first_fault root_fault node_fault fault_of fields_fit grammar_of node_of kind_of field_of root_of length_of nodes_of rules_of formula
sheets = (refl, refl, refl)

-- ('kW'?)*: nodes 0 'k', 1 'W', 2 seq 0 1, 3 empty, 4 choice 2 3, 5 rep 4.
abbrev pub table_maybe : List ℕ
table_maybe =
    1 ∷ 0 ∷ 39 ∷ 0 ∷ 6 ∷ 0 ∷ 1 ∷ 0 ∷ 5
    ∷ 1 ∷ 0 ∷ 107 ∷ 0 ∷ 107
    ∷ 1 ∷ 0 ∷ 87 ∷ 0 ∷ 87
    ∷ 3 ∷ 0 ∷ 0 ∷ 0 ∷ 1
    ∷ 0 ∷ 0 ∷ 0 ∷ 0 ∷ 0
    ∷ 4 ∷ 0 ∷ 2 ∷ 0 ∷ 3
    ∷ 6 ∷ 0 ∷ 4 ∷ 0 ∷ 0 ∷ []

-- The same with node 5 repeating 'kW' itself.
abbrev pub table_often : List ℕ
table_often =
    1 ∷ 0 ∷ 39 ∷ 0 ∷ 6 ∷ 0 ∷ 1 ∷ 0 ∷ 5
    ∷ 1 ∷ 0 ∷ 107 ∷ 0 ∷ 107
    ∷ 1 ∷ 0 ∷ 87 ∷ 0 ∷ 87
    ∷ 3 ∷ 0 ∷ 0 ∷ 0 ∷ 1
    ∷ 0 ∷ 0 ∷ 0 ∷ 0 ∷ 0
    ∷ 4 ∷ 0 ∷ 2 ∷ 0 ∷ 3
    ∷ 6 ∷ 0 ∷ 2 ∷ 0 ∷ 0 ∷ []

-- Over a rule that may be empty by left recursion, S <- R*; R <- R 'a' / empty; two of them, the lower one named; kind 7, or a field, at a higher node goes first.
pub loops : (check_of table_maybe ≡ verdict LOOP 5) × (check_of table_often ≡ verdict READ 0)
    × (check_of (1 ∷ 0 ∷ 41 ∷ 0 ∷ 6 ∷ 0 ∷ 2 ∷ 0 ∷ 5 ∷ 0 ∷ 4 ∷ 2 ∷ 0 ∷ 1 ∷ 0 ∷ 0 ∷ 1 ∷ 0 ∷ 97 ∷ 0 ∷ 97 ∷ 3 ∷ 0 ∷ 0 ∷ 0 ∷ 1 ∷ 0 ∷ 0 ∷ 0 ∷ 0 ∷ 0 ∷ 4 ∷ 0 ∷ 2 ∷ 0 ∷ 3 ∷ 6 ∷ 0 ∷ 0 ∷ 0 ∷ 0 ∷ [])
    ≡ verdict LOOP 5)
    × (check_of (1 ∷ 0 ∷ 24 ∷ 0 ∷ 3 ∷ 0 ∷ 1 ∷ 0 ∷ 2 ∷ 0 ∷ 0 ∷ 0 ∷ 0 ∷ 0 ∷ 6 ∷ 0 ∷ 0 ∷ 0 ∷ 0 ∷ 6 ∷ 0 ∷ 1 ∷ 0 ∷ 0 ∷ []) ≡ verdict LOOP 1)
    × (check_of (1 ∷ 0 ∷ 24 ∷ 0 ∷ 3 ∷ 0 ∷ 1 ∷ 0 ∷ 2 ∷ 0 ∷ 0 ∷ 0 ∷ 0 ∷ 0 ∷ 6 ∷ 0 ∷ 0 ∷ 0 ∷ 0 ∷ 7 ∷ 0 ∷ 0 ∷ 0 ∷ 0 ∷ []) ≡ verdict KIND 2)
    × (check_of (1 ∷ 0 ∷ 24 ∷ 0 ∷ 3 ∷ 0 ∷ 1 ∷ 0 ∷ 2 ∷ 0 ∷ 0 ∷ 0 ∷ 0 ∷ 0 ∷ 6 ∷ 0 ∷ 0 ∷ 0 ∷ 0 ∷ 5 ∷ 0 ∷ 2 ∷ 0 ∷ 0 ∷ []) ≡ verdict FIELD 2)
unfolding check_of loop_fault empty_nodes layout_of first_fault root_fault node_fault fault_of fields_fit grammar_of node_of kind_of field_of root_of length_of nodes_of rules_of formula
loops = (refl, refl, refl, refl, refl, refl)
