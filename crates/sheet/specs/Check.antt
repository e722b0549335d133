-- 01, "What comes back", and 02's W-209: the codes of the table check with their places, in their order.
use Rattle.std.specs.Prelude.{◌≡◌, Bool, false, cond, List, ℕ, get_or, Result, Ok, Err}
use Rattle.meaning.specs.Grammar.{Node, empty, range, rule, seq, choice, not, rep, node}
use Rattle.meaning.specs.Decide.{empty_nodes}
use Rattle.layout.specs.Table.{nodes_of, grammar_of}
use Rattle.layout.specs.Layout.{Verdict, READ, verdict, ◌or_else◌, first_fault, layout_of}
use Rattle.layout.specs.Layout as layout
use Rattle.sheet.specs.declared.Refusal.{Refusal}
use Rattle.sheet.specs.declared.Refusal.TheVariants.{Layout, Loop}

-- 02: "17 LOOP".
abbrev pub LOOP : ℕ
LOOP = 17

-- A refusal's code.
abbrev pub code_of : Refusal → ℕ
code_of (Layout refusal) = layout.code_of refusal
code_of (Loop i) = LOOP

-- Its place: of LOOP the first such node.
abbrev pub place_of : Refusal → ℕ
place_of (Layout refusal) = layout.place_of refusal
place_of (Loop i) = i

-- The row that a check gives; READ where it refuses nothing.
abbrev pub verdict_of : Result (Unit {0}) Refusal → Verdict
verdict_of (Ok accepted) = verdict READ 0
verdict_of (Err refusal) = verdict (code_of refusal) (place_of refusal)

-- A repetition whose child is among the nodes that may be empty.
abbrev pub repeats_one_of : List Bool → Node → Bool
repeats_one_of es empty = false
repeats_one_of es (range lo hi) = false
repeats_one_of es (rule a) = false
repeats_one_of es (seq a b) = false
repeats_one_of es (choice a b) = false
repeats_one_of es (not a) = false
repeats_one_of es (rep a) = get_or es a false

-- W-209: "A repetition whose child may be empty".
unfoldable pub loop_fault : List ℕ → ℕ → ℕ
loop_fault t i = cond (repeats_one_of (empty_nodes (grammar_of t)) (node (grammar_of t) i)) LOOP READ

-- 01's rows from SHORT to FIELD; then W-209: "tested after every node has passed KIND and FIELD", place "the first such node".
unfoldable pub check_of : List ℕ → Verdict
check_of t = layout_of t or_else first_fault (loop_fault t) 0 (nodes_of t)

-- The check has nothing to refuse.
unfoldable pub Accepted : List ℕ → Type 0
Accepted t = (check_of t).code ≡ READ
