-- 01's worked lines that are marked P, with the visits of 02's W-205, two of a sheet with a rule that nobody uses, and the others of the program's example: a single table, under one claim, by computation. The claim is of every working room and every room that is large enough.
use mathlib.Core.Path.{◌≡◌, refl, ap, subst, ◌∙◌}
use mathlib.Core.Bool.{Bool, true, false, ◌&&◌, cond, and-eq-true_iff}
use mathlib.Core.List.{List, [], ◌∷◌, ◌++◌, map, head-eq_of_cons-eq, tail-eq_of_cons-eq}
use Prim.Native.Nat.{ℕ, zero, suc, ◌≤◌}
use native.Mathlib.Omega.{arith}
use borrow.Author.Tests.{leb-true, le-ltb}
use lib.Dec.{leb, ltb}
use lib.ListN.{length, drop, replicate}
use Rattle.meaning.specs.Grammar.{Trees, fail, ok, wrap, fits, look}
use Rattle.meaning.specs.Decide.{empty_nodes, led_to, led_rules, left_recursive, is_free}
use Rattle.meaning.specs.Reading.{made, Run, after, byte, joined, second, otherwise, repeat_from, repeated, wrapped, apply, longer, attempted, grow, first_attempt, use_live, keep, counted, use_by}
use Rattle.meaning.specs.Reading.{recall, visited, in_place, visit, read_by, read}
use Rattle.meaning.specs.Reading as reading
use Rattle.meaning.specs.Report.{bound}
use Rattle.meaning.proofs.Choose.{by_test_twice}
use Rattle.layout.specs.Table.{length_of, nodes_of, rules_of, root_of, formula, kind_of, field_of, node_of, grammar_of}
use Rattle.layout.specs.Layout.{READ, first_fault, root_fault, fields_fit, fault_of, node_fault, layout_of}
use Rattle.sheet.specs.Check.{loop_fault, check_of, Accepted}
use Rattle.sheet.proofs.Exact.{accepted_iff}
use Rattle.layout.proofs.Worked.{tableA, tableB, table_unused}
use Rattle.stored.specs.Version.{version_of}
use Rattle.stored.specs.Stored.{records_of, number_of, in_bytes, record_bytes, trees_bytes, stored_length, head_bytes, stored_of}
use Rattle.stored.proofs.Bytes.{length_stored}
use Rattle.reader.specs.Answer.{EFFORT, DEEP, FAIL, REST, RECORDS, most_records, longest_line, most_allowance, Numbers, Outcome, numbers, cleared, match_outcome, run_outcome}
use Rattle.koskorbelu.specs.Demands.{Call, back, run, needed, Taken}
use Rattle.koskorbelu.proofs.Demand1.{by_run}

-- A worked line: what is asked and lent, the six numbers that come back, and the bytes stored.
pub record Line : Type 0 where
  pub whole : Bool
  pub table : List ℕ
  pub line : List ℕ
  pub allowance : ℕ
  pub numbers : Numbers
  pub stored : List ℕ

abbrev pub call : Line → (work room : List ℕ) → Call
call l work room = record { whole = l.whole; table = l.table; line = l.line; allowance = l.allowance; work = work; room = room }

abbrev pub Holds : Line → Type 0
Holds l = (work room : List ℕ) → needed (call l work room) ≤ length work → length l.stored ≤ length room
    → back (call l work room) ≡ record { reading = l.numbers; work = cleared (needed (call l work room)) work; room = l.stored ++ drop (length l.stored) room }

abbrev pub AllHold : List Line → Type 0
AllHold [] = Unit {0}
AllHold (l ∷ ls) = Holds l × AllHold ls

-- 01's sheets A and B, and B with a rule that nobody uses, are tables of the crate sheet. B with its choice turned round: node 4 is choice 0 3.
abbrev pub turned : List ℕ
turned =
    1 ∷ 0 ∷ 41 ∷ 0 ∷ 6 ∷ 0 ∷ 2
    ∷ 0 ∷ 4 ∷ 0 ∷ 5
    ∷ 2 ∷ 0 ∷ 1 ∷ 0 ∷ 0 ∷ 1 ∷ 0 ∷ 44 ∷ 0 ∷ 44 ∷ 3 ∷ 0 ∷ 1 ∷ 0 ∷ 0 ∷ 3 ∷ 0 ∷ 0 ∷ 0 ∷ 2 ∷ 4 ∷ 0 ∷ 0 ∷ 0 ∷ 3 ∷ 1 ∷ 0 ∷ 48 ∷ 0 ∷ 57 ∷ []

-- S <- !S 'a'.
abbrev pub denied : List ℕ
denied =
    1 ∷ 0 ∷ 29 ∷ 0 ∷ 4 ∷ 0 ∷ 1
    ∷ 0 ∷ 3
    ∷ 2 ∷ 0 ∷ 0 ∷ 0 ∷ 0 ∷ 5 ∷ 0 ∷ 0 ∷ 0 ∷ 0 ∷ 1 ∷ 0 ∷ 97 ∷ 0 ∷ 97 ∷ 3 ∷ 0 ∷ 1 ∷ 0 ∷ 2 ∷ []

-- Nine rules, each the next one twice (one rule node used twice), the last empty; and ten.
abbrev pub nine : List ℕ
nine =
    1 ∷ 0 ∷ 110 ∷ 0 ∷ 17 ∷ 0 ∷ 9
    ∷ 0 ∷ 1 ∷ 0 ∷ 3 ∷ 0 ∷ 5 ∷ 0 ∷ 7 ∷ 0 ∷ 9 ∷ 0 ∷ 11 ∷ 0 ∷ 13 ∷ 0 ∷ 15 ∷ 0 ∷ 16
    ∷ 2 ∷ 0 ∷ 1 ∷ 0 ∷ 0 ∷ 3 ∷ 0 ∷ 0 ∷ 0 ∷ 0 ∷ 2 ∷ 0 ∷ 2 ∷ 0 ∷ 0 ∷ 3 ∷ 0 ∷ 2 ∷ 0 ∷ 2 ∷ 2 ∷ 0 ∷ 3 ∷ 0 ∷ 0 ∷ 3 ∷ 0 ∷ 4 ∷ 0 ∷ 4 ∷ 2 ∷ 0 ∷ 4 ∷ 0 ∷ 0 ∷ 3 ∷ 0 ∷ 6 ∷ 0 ∷ 6
    ∷ 2 ∷ 0 ∷ 5 ∷ 0 ∷ 0 ∷ 3 ∷ 0 ∷ 8 ∷ 0 ∷ 8 ∷ 2 ∷ 0 ∷ 6 ∷ 0 ∷ 0 ∷ 3 ∷ 0 ∷ 10 ∷ 0 ∷ 10 ∷ 2 ∷ 0 ∷ 7 ∷ 0 ∷ 0 ∷ 3 ∷ 0 ∷ 12 ∷ 0 ∷ 12 ∷ 2 ∷ 0 ∷ 8 ∷ 0 ∷ 0 ∷ 3 ∷ 0 ∷ 14 ∷ 0 ∷ 14
    ∷ 0 ∷ 0 ∷ 0 ∷ 0 ∷ 0 ∷ []

abbrev pub ten : List ℕ
ten =
    1 ∷ 0 ∷ 122 ∷ 0 ∷ 19 ∷ 0 ∷ 10
    ∷ 0 ∷ 1 ∷ 0 ∷ 3 ∷ 0 ∷ 5 ∷ 0 ∷ 7 ∷ 0 ∷ 9 ∷ 0 ∷ 11 ∷ 0 ∷ 13 ∷ 0 ∷ 15 ∷ 0 ∷ 17 ∷ 0 ∷ 18
    ∷ 2 ∷ 0 ∷ 1 ∷ 0 ∷ 0 ∷ 3 ∷ 0 ∷ 0 ∷ 0 ∷ 0 ∷ 2 ∷ 0 ∷ 2 ∷ 0 ∷ 0 ∷ 3 ∷ 0 ∷ 2 ∷ 0 ∷ 2 ∷ 2 ∷ 0 ∷ 3 ∷ 0 ∷ 0 ∷ 3 ∷ 0 ∷ 4 ∷ 0 ∷ 4 ∷ 2 ∷ 0 ∷ 4 ∷ 0 ∷ 0 ∷ 3 ∷ 0 ∷ 6 ∷ 0 ∷ 6
    ∷ 2 ∷ 0 ∷ 5 ∷ 0 ∷ 0 ∷ 3 ∷ 0 ∷ 8 ∷ 0 ∷ 8 ∷ 2 ∷ 0 ∷ 6 ∷ 0 ∷ 0 ∷ 3 ∷ 0 ∷ 10 ∷ 0 ∷ 10 ∷ 2 ∷ 0 ∷ 7 ∷ 0 ∷ 0 ∷ 3 ∷ 0 ∷ 12 ∷ 0 ∷ 12 ∷ 2 ∷ 0 ∷ 8 ∷ 0 ∷ 0 ∷ 3 ∷ 0 ∷ 14 ∷ 0 ∷ 14
    ∷ 2 ∷ 0 ∷ 9 ∷ 0 ∷ 0 ∷ 3 ∷ 0 ∷ 16 ∷ 0 ∷ 16 ∷ 0 ∷ 0 ∷ 0 ∷ 0 ∷ 0 ∷ []

-- The records of such rules, from rule a on, with k below it.
abbrev pub twice : (k a : ℕ) → List ℕ
twice zero a = a ∷ 0 ∷ 0 ∷ 0 ∷ 0 ∷ []
twice (suc k) a = twice k (suc a) ++ (twice k (suc a) ++ (a ∷ 0 ∷ 0 ∷ 0 ∷ 2 ∷ []))

abbrev case : (whole : Bool) (table line : List ℕ) (allowance : ℕ) → Numbers → (stored : List ℕ) → Line
case whole table line allowance numbers stored = record { whole = whole; table = table; line = line; allowance = allowance; numbers = numbers; stored = stored }

-- B on `1,5`.
abbrev pub comma_line : Line
comma_line = case true tableB (49 ∷ 44 ∷ 53 ∷ []) 2500 (numbers READ 0 3 8 3 2) (1 ∷ 0 ∷ 20 ∷ 0 ∷ 3 ∷ 1 ∷ 0 ∷ 1 ∷ 0 ∷ 0 ∷ 1 ∷ 2 ∷ 3 ∷ 0 ∷ 0 ∷ 0 ∷ 0 ∷ 3 ∷ 0 ∷ 2 ∷ [])

-- Bytes of `7+2`, `7`, `+`, `7+`; of `1,5`, `1`, `1.5`, `,5`; of `a`. A line that 01 gives no allowance has the program's, 2,500.
-- The numbers are code, place, matched, visits, records, furthest. 02, W-212: B matches one byte of 255 and of 256, and the line's length gives the version.
unfoldable pub worked : List Line
worked =
    case true tableA (55 ∷ 43 ∷ 50 ∷ []) 2500 (numbers READ 0 3 19 4 3)
    (1 ∷ 0 ∷ 25 ∷ 0 ∷ 4 ∷ 1 ∷ 0 ∷ 1 ∷ 0 ∷ 0 ∷ 0 ∷ 0 ∷ 1 ∷ 0 ∷ 1 ∷ 1 ∷ 2 ∷ 3 ∷ 0 ∷ 0 ∷ 0 ∷ 0 ∷ 3 ∷ 0 ∷ 2 ∷ [])
    ∷ case true tableA (55 ∷ 43 ∷ 50 ∷ []) 19 (numbers READ 0 3 19 4 3)
    (1 ∷ 0 ∷ 25 ∷ 0 ∷ 4 ∷ 1 ∷ 0 ∷ 1 ∷ 0 ∷ 0 ∷ 0 ∷ 0 ∷ 1 ∷ 0 ∷ 1 ∷ 1 ∷ 2 ∷ 3 ∷ 0 ∷ 0 ∷ 0 ∷ 0 ∷ 3 ∷ 0 ∷ 2 ∷ [])
    ∷ case true tableA (55 ∷ 43 ∷ 50 ∷ []) 18 (numbers EFFORT 0 0 18 0 3) []
    ∷ case true tableA (55 ∷ []) 2500 (numbers READ 0 1 12 2 1) (1 ∷ 0 ∷ 15 ∷ 0 ∷ 2 ∷ 1 ∷ 0 ∷ 1 ∷ 0 ∷ 0 ∷ 0 ∷ 0 ∷ 1 ∷ 0 ∷ 1 ∷ [])
    ∷ case true tableA [] 2500 (numbers FAIL 0 0 5 0 0) []
    ∷ case true tableA (43 ∷ []) 2500 (numbers FAIL 0 0 5 0 0) []
    ∷ case false tableA (55 ∷ 43 ∷ []) 2500 (numbers READ 0 1 14 2 2) (1 ∷ 0 ∷ 15 ∷ 0 ∷ 2 ∷ 1 ∷ 0 ∷ 1 ∷ 0 ∷ 0 ∷ 0 ∷ 0 ∷ 1 ∷ 0 ∷ 1 ∷ [])
    ∷ case true tableA (55 ∷ 43 ∷ []) 2500 (numbers REST 1 1 14 0 2) []
    ∷ comma_line
    ∷ case true tableB (49 ∷ []) 2500 (numbers READ 0 1 7 2 1) (1 ∷ 0 ∷ 15 ∷ 0 ∷ 2 ∷ 1 ∷ 0 ∷ 1 ∷ 0 ∷ 0 ∷ 0 ∷ 0 ∷ 1 ∷ 0 ∷ 1 ∷ [])
    ∷ case true tableB (49 ∷ 46 ∷ 53 ∷ []) 2500 (numbers REST 1 1 7 0 1) []
    ∷ case true tableB (44 ∷ 53 ∷ []) 2500 (numbers FAIL 0 0 5 0 0) []
    ∷ case true table_unused (49 ∷ 44 ∷ 53 ∷ []) 2500 (numbers READ 0 3 8 3 2) (1 ∷ 0 ∷ 20 ∷ 0 ∷ 3 ∷ 1 ∷ 0 ∷ 1 ∷ 0 ∷ 0 ∷ 1 ∷ 2 ∷ 3 ∷ 0 ∷ 0 ∷ 0 ∷ 0 ∷ 3 ∷ 0 ∷ 2 ∷ [])
    ∷ case true table_unused (49 ∷ []) 2500 (numbers READ 0 1 7 2 1) (1 ∷ 0 ∷ 15 ∷ 0 ∷ 2 ∷ 1 ∷ 0 ∷ 1 ∷ 0 ∷ 0 ∷ 0 ∷ 0 ∷ 1 ∷ 0 ∷ 1 ∷ [])
    ∷ case false tableB (replicate 255 49) 2500 (numbers READ 0 1 7 2 1) (1 ∷ 0 ∷ 15 ∷ 0 ∷ 2 ∷ 1 ∷ 0 ∷ 1 ∷ 0 ∷ 0 ∷ 0 ∷ 0 ∷ 1 ∷ 0 ∷ 1 ∷ [])
    ∷ case false tableB (replicate 256 49) 2500 (numbers READ 0 1 7 2 1) (2 ∷ 0 ∷ 19 ∷ 0 ∷ 2 ∷ 1 ∷ 0 ∷ 0 ∷ 0 ∷ 1 ∷ 0 ∷ 0 ∷ 0 ∷ 0 ∷ 0 ∷ 0 ∷ 1 ∷ 0 ∷ 1 ∷ [])
    ∷ case true turned (49 ∷ 44 ∷ 53 ∷ []) 2500 (numbers REST 1 1 3 0 0) []
    ∷ case true denied (97 ∷ []) 2500 (numbers READ 0 1 7 1 0) (1 ∷ 0 ∷ 10 ∷ 0 ∷ 1 ∷ 0 ∷ 0 ∷ 1 ∷ 0 ∷ 0 ∷ [])
    ∷ case true nine [] 2500 (numbers READ 0 0 25 511 0) (1 ∷ 10 ∷ 0 ∷ 1 ∷ 255 ∷ twice 8 0)
    ∷ case true ten [] 2500 (numbers RECORDS 0 0 28 1001 0) []
    ∷ []

-- ---- The claim, from what computes.
-- What comes back, and what is stored, where the room is large enough.
pub record Stored : Type 0 where
  pub numbers : Numbers
  pub bytes : List ℕ

abbrev only : Numbers → Stored
only r = record { numbers = r; bytes = [] }

unfoldable matched : (whole : Bool) (long e : ℕ) → Trees → (visits furthest : ℕ) → Stored
matched whole long e ts visits furthest =
    cond (whole && ltb e long) (only (numbers REST e e visits 0 furthest))
    (cond (ltb most_records (records_of ts)) (only (numbers RECORDS e e visits 1001 furthest)) (record { numbers = numbers READ 0 e visits (records_of ts) furthest; bytes = stored_of (version_of long) ts }))

unfoldable roomy : (whole : Bool) (long allowance : ℕ) → Run → Stored
roomy whole long allowance (Run.effort p s) = only (numbers EFFORT p 0 (made allowance s) 0 s.furthest)
roomy whole long allowance (Run.deep p s) = only (numbers DEEP p 0 (made allowance s) 0 s.furthest)
roomy whole long allowance (Run.done fail s) = only (numbers FAIL 0 0 (made allowance s) 0 s.furthest)
roomy whole long allowance (Run.done (ok e ts) s) = matched whole long e ts (made allowance s) s.furthest

-- An outcome has these numbers, and leaves these working numbers and these bytes at the room's front.
abbrev Same : (work room : List ℕ) → Stored → Outcome → Type 0
Same work room s o = length s.bytes ≤ length room → o ≡ record { reading = s.numbers; work = work; room = s.bytes ++ drop (length s.bytes) room }

module _ (whole : Bool) (long : ℕ) (work room : List ℕ) where
  of_match : (e : ℕ) (ts : Trees) (visits furthest : ℕ) → Same work room (matched whole long e ts visits furthest) (match_outcome whole long e ts visits furthest work room)
  unfolding matched match_outcome
  of_match e ts visits furthest =
      let l : length (stored_of (version_of long) ts) ≡ stored_length (version_of long) (records_of ts) = length_stored (version_of long) ts in
      by_test_twice (Same work room) (whole && ltb e long) _ _ _ _ (λ h. refl)
      (by_test_twice (Same work room) (ltb most_records (records_of ts)) _ _ _ _ (λ h. refl) (λ h. rw (le-ltb (length room) (stored_length (version_of long) (records_of ts)) (omega arith), l)))

  of_run : (allowance : ℕ) (m : Run) → Same work room (roomy whole long allowance m) (run_outcome whole long allowance m work room)
  unfolding roomy run_outcome
  of_run allowance (Run.effort p s) h = refl
  of_run allowance (Run.deep p s) h = refl
  of_run allowance (Run.done fail s) h = refl
  of_run allowance (Run.done (ok e ts) s) h = of_match e ts (made allowance s) s.furthest h

-- What computes of a line: the check's code, whether the line and the allowance are in range, and what comes back.
record Computed : Type 0 where
  code : ℕ
  small : Bool
  came : Stored

abbrev computed : Line → Computed
computed l =
    record {
      code = (check_of l.table).code;
      small = leb (length l.line) longest_line && leb 1 l.allowance && leb l.allowance most_allowance;
      came = roomy l.whole (length l.line) l.allowance (read (grammar_of l.table) l.line l.allowance);
    }

abbrev wanted : Line → Computed
wanted l = record { code = READ; small = true; came = record { numbers = l.numbers; bytes = l.stored } }

holds : (l : Line) → computed l ≡ wanted l → Holds l
unfolding Accepted
holds l h work room lent large =
    let e : (check_of l.table).code ≡ READ = ap (λ (x : Computed). x.code) h in
    let q = (and-eq-true_iff _ _).0 (ap (λ (x : Computed). x.small) h) in
    let p = (and-eq-true_iff _ _).0 q.0 in
    let some : 1 ≤ l.allowance = leb-true _ _ p.1 in
    let t : Taken (call l work room) =
    record { sheet = (accepted_iff l.table).0 e; short = leb-true _ _ p.0; allowed = (λ e. omega arith, leb-true _ _ q.1); lent = lent } in
    let m = run (call l work room) in
    let w = cleared (needed (call l work room)) work in
    by_run (call l work room) t refl
    ∙ subst (λ (s : Stored). Same w room s (run_outcome l.whole (length l.line) l.allowance m w room)) (ap (λ (x : Computed). x.came) h)
    (of_run l.whole (length l.line) w room l.allowance m) large

all_hold : (ls : List Line) → map computed ls ≡ map wanted ls → AllHold ls
all_hold [] h = tt
all_hold (l ∷ ls) h = (holds l (head-eq_of_cons-eq h), all_hold ls (tail-eq_of_cons-eq h))

all_computed : map computed worked ≡ map wanted worked
unfolding worked roomy matched version_of wrap fits look after byte joined second otherwise reading.denied repeat_from repeated wrapped apply longer attempted grow first_attempt use_live keep
    counted use_by recall visited in_place visit read_by read empty_nodes led_to led_rules left_recursive is_free check_of loop_fault layout_of first_fault root_fault node_fault fault_of fields_fit length_of
    nodes_of rules_of root_of formula kind_of field_of node_of grammar_of records_of number_of in_bytes record_bytes trees_bytes head_bytes stored_of
all_computed = refl

-- With demand 3's bound for B on `1,5`.
pub worked_lines : AllHold worked × (bound (grammar_of comma_line.table) comma_line.line ≡ 49)
unfolding grammar_of nodes_of
worked_lines = (all_hold worked all_computed, refl)
