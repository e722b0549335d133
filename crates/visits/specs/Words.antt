-- What the working numbers stand for: live uses from word 0 on, three words each; how many turns wait, how many cells are in use, how many visits are made and the
-- furthest position at which a range was visited; cells of trees; turns of rows that wait, two words each, from the far end of the cells down; kept answers, two words
-- a pair.
use Rattle.std.specs.Prelude.{ℕ, zero, suc, ◌+◌, ◌-◌, ◌*◌, ◌/◌, ◌<◌, ◌≤◌, max, ◌≡◌, ◌≢◌, ◌⊎◌, true, false, List, [], ◌∷◌, length, get_or, set, Result, Ok, Err}
use Rattle.std.proofs.Math.Option.{Option, none, some}
use Rattle.visits.specs.declared.Refusal.{Refusal}
use Rattle.visits.specs.declared.Refusal.TheVariants.{Effort, Deep}
use Rattle.std.proofs.lemmas.List.Edits.{sets}
use Rattle.meaning.specs.Grammar.{Trees, no_trees, tree, Answer, fail, ok, Note, look}
use Rattle.meaning.specs.Reading.{State, EFFORT, DEEP}
use Rattle.cells.specs.Cells.{records_from, trees_at}
use Rattle.cells.specs.Arena.{Arena}
use Rattle.visits.specs.Given.{Given, longest_line, most_allowance, nodes_in, kept_each_in, keeps_in, grows_in, base_in, allowance_in, room_in, left_in, live_in, pos_in}

-- The ends that are no position.
abbrev pub FAILED : ℕ
FAILED = 65535

abbrev pub STOPPED : ℕ
STOPPED = 65534

-- A pair of a rule and a position as one number.
abbrev pub key_of : ℕ → ℕ → ℕ
key_of a x = x * 64 + a

-- An answer of rule a at x as a live use holds it: list 0 is a failure; else the list is the tree of the match.
abbrev pub HeldAs : (end list : ℕ) → Trees → (a x : ℕ) → Answer → Type 0
HeldAs end list ts a x fail = list ≡ 0
HeldAs end list ts a x (ok e us) = (list ≢ 0) × (end ≡ e) × (ts ≡ tree a x e us no_trees)

-- Live use i is the note n.
pub record Entry (w : List ℕ) (i : ℕ) (n : Note) : Type 0 where
  pub key : get_or w (i * 3) 0 ≡ key_of n.number n.position
  pub small : n.number < 64
  pub held : HeldAs (get_or w (i * 3 + 1) 0) (get_or w (i * 3 + 2) 0) (trees_at w (get_or w (i * 3 + 2) 0)) n.number n.position n.answer

-- The first uses are the notes, the newest first; no pair is live twice.
abbrev pub Lives : List ℕ → ℕ → List Note → Type 0
Lives w live [] = live ≡ 0
Lives w live (n ∷ l) = (k : ℕ) × (live ≡ k + 1) × Entry w k n × (look l n.number n.position ≡ none) × Lives w k l

-- The words that hold how many turns wait, how many cells are in use, how many visits are made, and the furthest position at which a range was visited.
abbrev pub turns_word : ℕ
turns_word = 2041

abbrev pub top_word : ℕ
top_word = 2042

abbrev pub made_word : ℕ
made_word = 2043

abbrev pub furthest_word : ℕ
furthest_word = 2044

abbrev pub turns_in : List ℕ → ℕ
turns_in w = get_or w turns_word 0

abbrev pub top_in : List ℕ → ℕ
top_in w = get_or w top_word 0

abbrev pub made_in : List ℕ → ℕ
made_in w = get_or w made_word 0

abbrev pub furthest_in : List ℕ → ℕ
furthest_in w = get_or w furthest_word 0

-- The words after a range was visited at x.
abbrev pub reached_in : List ℕ → ℕ → List ℕ
reached_in w x = set w furthest_word (max (furthest_in w) x)

-- Where turn number n stands: its position, and the list of its child's trees.
abbrev pub turn_at : Given → ℕ → ℕ
turn_at given n = base_in given - 2 * n

abbrev pub turn_pos : Given → List ℕ → ℕ → ℕ
turn_pos given w n = get_or w (turn_at given n) 0

abbrev pub turn_list : Given → List ℕ → ℕ → ℕ
turn_list given w n = get_or w (turn_at given n + 1) 0

-- A turn of a row that waits for the row's end: where it was made, and its child's trees.
pub record Turn : Type 0 where
  pub pos : ℕ
  pub trees : Trees

-- Turn number n is t.
pub record IsTurn (given : Given) (line w : List ℕ) (top n : ℕ) (t : Turn) : Type 0 where
  pub pos : turn_pos given w n ≡ t.pos
  pub inside : t.pos ≤ length line
  pub below : turn_list given w n ≤ top
  pub trees : trees_at w (turn_list given w n) ≡ t.trees

-- The turns after number b up to number n, the newest first.
abbrev pub Waiting : (given : Given) (line w : List ℕ) (top b n : ℕ) → List Turn → Type 0
Waiting given line w top b n [] = n ≡ b
Waiting given line w top b n (t ∷ ts) = (m : ℕ) × (n ≡ m + 1) × IsTurn given line w top n t × Waiting given line w top b m ts

-- The words after turn n was written as the newest.
abbrev pub with_turn : Given → List ℕ → (n pos list : ℕ) → List ℕ
with_turn given w n pos list = set (set (set w (turn_at given n) pos) (turn_at given n + 1) list) turns_word n

-- There is room for turn n.
pub record HasTurn (given : Given) (w : List ℕ) (n : ℕ) : Type 0 where
  pub allowance : allowance_in given ≤ most_allowance
  pub some : 0 < n
  pub within : n ≤ allowance_in given
  pub room : base_in given ≤ length w

-- Where the answer of a pair is kept: those of one position lie together.
abbrev pub place_in : Given → ℕ → ℕ → ℕ
place_in given i x = base_in given + (x * kept_each_in given + i) * 2

-- A kept answer by its words: 0 none, 1 a failure, e + 2 a match that ends at e; and the list of its trees.
unfoldable pub kept_as : ℕ → Trees → Option Answer
kept_as zero ts = none
kept_as (suc zero) ts = some fail
kept_as (suc (suc e)) ts = some (ok e ts)

abbrev pub kept_at : List ℕ → ℕ → Option Answer
kept_at w p = kept_as (get_or w p 0) (trees_at w (get_or w (p + 1) 0))

-- What the words stand for, where so many visits are made: the live uses l, and the state s.
pub record Stands (given : Given) (line w : List ℕ) (live made : ℕ) (l : List Note) (s : State) : Type 0 where
  pub lives : Lives w live l
  pub left : s.left + made ≡ allowance_in given
  pub furthest : s.furthest ≡ furthest_in w
  pub kept : keeps_in given ≡ true → (i x : ℕ) → i < nodes_in given → x ≤ length line → look s.kept i x ≡ kept_at w (place_in given i x)

-- The words are in order: there is room, lists lie below top, ends lie inside the line.
pub record Words (given : Given) (line w : List ℕ) (live top : ℕ) : Type 0 where
  pub room : room_in given line ≤ length w
  pub arena : Arena w top
  pub held_lists : (i : ℕ) → i < live → get_or w (i * 3 + 2) 0 ≤ top
  pub held_ends : (i : ℕ) → i < live → get_or w (i * 3 + 1) 0 ≤ length line
  pub kept_lists : keeps_in given ≡ true → (i x : ℕ) → i < nodes_in given → x ≤ length line → get_or w (place_in given i x + 1) 0 ≤ top
  pub kept_ends : keeps_in given ≡ true → (i x : ℕ) → i < nodes_in given → x ≤ length line → get_or w (place_in given i x) 0 ≤ length line + 2

-- The words that a visit leaves as they are: those of the live uses, of the cells below top, of the turns that wait with their number, and all past the room.
pub record Same (given : Given) (line old new : List ℕ) (live top : ℕ) : Type 0 where
  pub uses : (i : ℕ) → i < live * 3 → get_or new i 0 ≡ get_or old i 0
  pub cells : (i : ℕ) → records_from ≤ i → i < 2048 + 4 * top → get_or new i 0 ≡ get_or old i 0
  pub turns : turns_in new ≡ turns_in old
  pub waiting : (i : ℕ) → 2048 ≤ i → base_in given ≤ i + 2 * turns_in old → i < base_in given → get_or new i 0 ≡ get_or old i 0
  pub past : (i : ℕ) → room_in given line ≤ i → get_or new i 0 ≡ get_or old i 0

-- The position of live use i.
abbrev pub use_at : List ℕ → ℕ → ℕ
use_at w i = get_or w (i * 3) 0 / 64

-- The live uses stand in the order of their positions.
abbrev pub Rising : List ℕ → ℕ → Type 0
Rising w live = (i j : ℕ) → i < j → j < live → use_at w i ≤ use_at w j

-- So they do, none is past x, and what one holds ends at or after its position.
pub record InOrder (w : List ℕ) (live x : ℕ) : Type 0 where
  pub rising : Rising w live
  pub newest : (i : ℕ) → i < live → use_at w i ≤ x
  pub ahead : (i : ℕ) → i < live → get_or w (i * 3 + 2) 0 ≢ 0 → use_at w i ≤ get_or w (i * 3 + 1) 0

-- The pair of a rule and a position is not live.
abbrev pub NotLive : List ℕ → (live key : ℕ) → Type 0
NotLive w live key = (i : ℕ) → i < live → get_or w (i * 3) 0 ≢ key

-- A search for the live use with a key found entry r - 1, or none where r is 0.
pub record Found (w : List ℕ) (live key r : ℕ) : Type 0 where
  pub within : r ≤ live
  pub is : 0 < r → get_or w ((r - 1) * 3) 0 ≡ key
  pub none : r ≡ 0 → NotLive w live key

-- A search for the live use of a rule where a visit stands: a rule that doesn't grow has none.
abbrev pub FoundUse : (given : Given) (w : List ℕ) (spot rule r : ℕ) → Type 0
FoundUse given w spot rule r =
    ((grows_in given rule ≡ false) × (r ≡ 0)) ⊎ ((grows_in given rule ≡ true) × Found w (live_in spot) (key_of rule (pos_in spot)) r)

-- The cells are in order, and a list is one of theirs, or two are; there is room for one cell more.
abbrev pub HasList : List ℕ → ℕ → Type 0
HasList w list = Arena w (top_in w) × (list ≤ top_in w)

abbrev pub HasLists : List ℕ → ℕ → ℕ → Type 0
HasLists w left right = Arena w (top_in w) × ((left ≤ top_in w) × (right ≤ top_in w))

abbrev pub HasCell : List ℕ → Type 0
HasCell w = (2048 + 4 * top_in w + 3 < length w) × (top_in w < 1073741823)

-- A list that stands for given trees was made with at most one cell, at top; beside it only the word of the cells in use changed.
pub record Added (old new : List ℕ) (top list top' : ℕ) (ts : Trees) : Type 0 where
  pub rise : top ≤ top'
  pub one : top' ≤ top + 1
  pub within : list ≤ top'
  pub is : trees_at new list ≡ ts
  pub arena : Arena new top'
  pub long : length new ≡ length old
  pub below : (i : ℕ) → i < 2048 + 4 * top → i ≢ top_word → get_or new i 0 ≡ get_or old i 0
  pub above : (i : ℕ) → 2048 + 4 * top' ≤ i → get_or new i 0 ≡ get_or old i 0

abbrev pub Adds : (old new : List ℕ) (list : ℕ) → Trees → Type 0
Adds old new list ts = Added old new (top_in old) list (top_in new) ts

-- 01's code of a refusal, and of what entering a visit answers: 0 where the visit is counted.
abbrev pub code_of : Refusal → ℕ
code_of Effort = EFFORT
code_of Deep = DEEP

abbrev pub code_in : Result (Unit) Refusal → ℕ
code_in (Ok _) = 0
code_in (Err refusal) = code_of refusal

-- How many visits are made, where the allowance is not spent.
abbrev pub Unspent : (given : Given) (w : List ℕ) → Result ℕ Refusal → Type 0
Unspent given w (Ok made) = (made ≡ made_in w) × (made < allowance_in given)
Unspent given w (Err refusal) = (refusal ≡ Effort) × (allowance_in given ≤ made_in w)

-- A visit from the words old is refused, for effort or for depth, by its code; else it is counted.
abbrev pub Entered : (given : Given) (old new : List ℕ) (spot code : ℕ) → Type 0
Entered given old new spot code =
    ((allowance_in given ≤ made_in old) × (code ≡ EFFORT) × (new ≡ old))
    ⊎ ((made_in old < allowance_in given) × (left_in spot ≡ 0) × (code ≡ DEEP) × (new ≡ old))
    ⊎ ((made_in old < allowance_in given) × (left_in spot ≢ 0) × (code ≡ 0) × (new ≡ set old made_word (made_in old + 1)))

-- The same of a visit that takes the place of the one before: it is never refused for depth.
abbrev pub EnteredInPlace : (given : Given) (old new : List ℕ) (code : ℕ) → Type 0
EnteredInPlace given old new code =
    ((allowance_in given ≤ made_in old) × (code ≡ EFFORT) × (new ≡ old))
    ⊎ ((made_in old < allowance_in given) × (code ≡ 0) × (new ≡ set old made_word (made_in old + 1)))

-- Node i and position x are a pair for which an answer may be kept.
abbrev pub HasPair : Given → (i x : ℕ) → Type 0
HasPair given i x = (kept_each_in given ≤ 512) × ((allowance_in given ≤ most_allowance) × ((i < 512) × (x ≤ longest_line)))

-- There is room for the kept answer of a pair, and its place is a small number.
pub record Roomy (given : Given) (w : List ℕ) (i x : ℕ) : Type 0 where
  pub each : kept_each_in given ≤ 512
  pub allowance : allowance_in given ≤ most_allowance
  pub node_in : i < 512
  pub pos_within : x ≤ longest_line
  pub room : place_in given i x + 1 < length w

-- What is kept once a pair is finished: a failure, or the end and the list of a match.
pub record Kept (given : Given) (old new : List ℕ) (i x end list : ℕ) : Type 0 where
  pub stopped : end ≡ STOPPED → new ≡ old
  pub failed : end ≡ FAILED → new ≡ sets old (place_in given i x) (1 ∷ 0 ∷ [])
  pub matched : end < STOPPED → new ≡ sets old (place_in given i x) ((end + 2) ∷ list ∷ [])
