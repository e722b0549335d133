-- What the functions of a visit ask, and what their results say of the reading.
use Rattle.std.specs.Prelude.{ℕ, suc, ◌+◌, ◌-◌, ◌*◌, ◌/◌, ◌%◌, ◌<◌, ◌≤◌, ◌≡◌, List, [], ◌∷◌, ◌≢◌, length, get_or, set, true, false, Option, Some, None}
use Rattle.meaning.specs.Grammar.{Answer, fail, ok, fits, Note, node}
use Rattle.meaning.specs.Reading.{State, Run, effort, deep, done, EFFORT, DEEP, Visit, after, byte, joined, second, otherwise, denied, wrapped, apply, keep, use_by, use_rule, visited, visit}
use Rattle.cells.specs.Cells.{trees_at}
use Rattle.visits.specs.Given.{Given, kind_in, a_in, b_in, nodes_in, keeps_in, way_in, allowance_in, root_in, grammar_in, Fit, left_in, live_in, pos_in}
pub use Rattle.visits.specs.Words.{FAILED, STOPPED}
use Rattle.visits.specs.Words.{turns_word, turns_in, top_in, made_in, furthest_in, place_in, Turn, Waiting, InOrder, Stands, Words, Same}

-- The reading that the functions follow: a visit with so many open visits left, a use of a rule, a use that becomes
-- live, a node's application, and a visit that is counted and open. A visit in place of an open one has its place too.
abbrev pub reading : Given → List ℕ → ℕ → List Note → Visit
reading given line left = visit (grammar_in given) line (way_in given) left

abbrev pub uses : Given → List ℕ → ℕ → List Note → Visit
uses given line left = use_rule (grammar_in given) line (way_in given) (reading given line left)

abbrev pub grows : Given → List ℕ → ℕ → List Note → Visit
grows given line left = use_by (grammar_in given) line true (reading given line left)

abbrev pub applies : Given → List ℕ → ℕ → List Note → Visit
applies given line left l i x s = apply line (reading given line left l) (reading given line (suc left) l) (uses given line left l) i x s (node (grammar_in given) i)

abbrev pub opens : Given → List ℕ → ℕ → List Note → Visit
opens given line left = visited (grammar_in given) line (way_in given) (reading given line left) (reading given line (suc left))

-- The steps that the functions take from a spot, on live uses and a state: a visit of a node, and what follows it for each kind of node.
abbrev pub Step : Type 0
Step = Given → List ℕ → ℕ → List Note → State → Run

abbrev pub here : (Given → List ℕ → ℕ → List Note → Visit) → ℕ → Step
here v i given line spot l s = v given line (left_in spot) l i (pos_in spot) s

abbrev pub sequencing : ℕ → ℕ → Step
sequencing x y given line spot l s = after (here reading x given line spot l s) (second (reading given line (left_in spot) l) y)

abbrev pub choosing : ℕ → ℕ → Step
choosing x y given line spot l s = after (here reading x given line spot l s) (otherwise (reading given line (left_in spot) l) y (pos_in spot))

abbrev pub denying : ℕ → Step
denying x given line spot l s = after (here reading x given line spot l s) (denied (pos_in spot))

abbrev pub rooting : ℕ → Step
rooting rule given line spot l s = after (here reading (root_in given rule) given line spot l s) (wrapped rule (pos_in spot))

-- Where an answer ends, as a result has it.
unfoldable pub end_of : Answer → ℕ
end_of fail = FAILED
end_of (ok e ts) = e

-- Where a match ends, FAILED where nothing matched.
abbrev pub ended : Option ℕ → ℕ
ended None = FAILED
ended (Some e) = e

-- What a visit answers, in one number: where it ends, and the list of its trees (or the refusal).
abbrev pub end_in : ℕ → ℕ
end_in r = r % 4294967296

abbrev pub list_in : ℕ → ℕ
list_in r = r / 4294967296

-- What range node i answers at x.
abbrev pub Ranges : (given : Given) (line : List ℕ) (i x r : ℕ) → Type 0
Ranges given line i x r = (end_in r ≡ end_of (byte x (fits line (a_in given i) (b_in given i) x))) × (list_in r ≡ 0)

-- What live use i holds, as an answer: list 0 is a failure.
pub record Holds (w : List ℕ) (i r : ℕ) : Type 0 where
  pub failed : get_or w (i * 3 + 2) 0 ≡ 0 → (end_in r ≡ FAILED) × (list_in r ≡ 0)
  pub matched : get_or w (i * 3 + 2) 0 ≢ 0 → (end_in r ≡ get_or w (i * 3 + 1) 0) × (list_in r ≡ get_or w (i * 3 + 2) 0)

-- The answer that is kept for a pair, by its word.
pub record KeptAnswer (given : Given) (w : List ℕ) (i x word r : ℕ) : Type 0 where
  pub failed : word ≡ 1 → (end_in r ≡ FAILED) × (list_in r ≡ 0)
  pub matched : 1 < word → (end_in r ≡ word - 2) × (list_in r ≡ get_or w (place_in given i x + 1) 0)

-- A search's answer as a number: one more than the use that it found, or 0.
abbrev pub found_in : Option ℕ → ℕ
found_in None = 0
found_in (Some i) = i + 1

-- What is kept for a pair, as an answer.
abbrev pub KeptIn : (given : Given) (w : List ℕ) (i x : ℕ) → Option ℕ → Type 0
KeptIn given w i x None = get_or w (place_in given i x) 0 ≡ 0
KeptIn given w i x (Some r) = (0 < get_or w (place_in given i x) 0) × KeptAnswer given w i x (get_or w (place_in given i x) 0) r

-- The answer with what the words say after it: the cells in use, the visits made.
pub record Visited : Type 0 where
  pub end : ℕ
  pub list : ℕ
  pub top : ℕ
  pub made : ℕ

abbrev pub after_visit : ℕ → List ℕ → Visited
after_visit r w = record { end = end_in r; list = list_in r; top = top_in w; made = made_in w }

-- A visit may start.
pub record Ready (given : Given) (line w : List ℕ) (left live made top node pos : ℕ) : Type 0 where
  pub fit : Fit given line
  pub words : Words given line w live top
  pub node_in : node < nodes_in given
  pub pos_within : pos ≤ length line
  pub open_in : live + left ≤ 513
  pub made_within : made ≤ allowance_in given
  pub top_within : top + turns_in w ≤ made
  pub order : keeps_in given ≡ false → InOrder w live pos

-- A refusal with its code, at a position, over the words w.
pub record Refused (allowance : ℕ) (w : List ℕ) (r : Visited) (code place : ℕ) (s : State) : Type 0 where
  pub end : r.end ≡ STOPPED
  pub list : r.list ≡ code * 4096 + place
  pub small : place < 4096
  pub left : s.left + r.made ≡ allowance
  pub furthest : s.furthest ≡ furthest_in w

pub record Failed (given : Given) (line w : List ℕ) (live : ℕ) (l : List Note) (r : Visited) (s : State) : Type 0 where
  pub end : r.end ≡ FAILED
  pub stands : Stands given line w live r.made l s

pub record Matched (given : Given) (line w : List ℕ) (live : ℕ) (l : List Note) (r : Visited) (a : ℕ) (s : State) : Type 0 where
  pub end : r.end ≡ a
  pub inside : a ≤ length line
  pub stands : Stands given line w live r.made l s

-- A result says how a run ends.
abbrev pub Says : (given : Given) (line w : List ℕ) (live : ℕ) (l : List Note) (r : Visited) → Run → Type 0
Says given line w live l r (effort p s) = Refused (allowance_in given) w r EFFORT p s
Says given line w live l r (deep p s) = Refused (allowance_in given) w r DEEP p s
Says given line w live l r (done fail s) = Failed given line w live l r s
Says given line w live l r (done (ok e ts) s) = (trees_at w r.list ≡ ts) × Matched given line w live l r e s

-- From the words old a step came to the words new and a result, which says how the run m ends.
pub record Came (given : Given) (line old new : List ℕ) (live made top : ℕ) (r : Visited) (m : List Note → State → Run) : Type 0 where
  pub same : Same given line old new live top
  pub words : Words given line new live r.top
  pub end_most : r.end ≤ FAILED
  pub end_within : r.end < STOPPED → r.end ≤ length line
  pub list_within : r.end < STOPPED → r.list ≤ r.top
  pub top_up : top ≤ r.top
  pub made_up : made ≤ r.made
  pub made_within : r.made ≤ allowance_in given
  pub says : (l : List Note) (s : State) → Stands given line old live made l s → Says given line new live l r (m l s)

-- What a node's application at x comes to makes no more cells than visits, and ends at or after x where nothing is kept; a visit that matches makes fewer.
pub record Applied (given : Given) (line old new : List ℕ) (live x made top : ℕ) (r : Visited) (m : List Note → State → Run) : Type 0 where
  pub came : Came given line old new live made top r m
  pub cells : r.top + made ≤ top + r.made
  pub ahead : keeps_in given ≡ false → x ≤ r.end

pub record Visits (given : Given) (line old new : List ℕ) (live x made top : ℕ) (r : Visited) (m : List Note → State → Run) : Type 0 where
  pub came : Came given line old new live made top r m
  pub cells : r.top + made ≤ top + r.made
  pub fewer : r.end < STOPPED → r.top + made < top + r.made
  pub ahead : keeps_in given ≡ false → x ≤ r.end

-- The same, where the numbers stand in the words and in what is passed.
abbrev pub Starts : (given : Given) (line w : List ℕ) (spot node pos : ℕ) → Type 0
Starts given line w spot node pos = Ready given line w (left_in spot) (live_in spot) (made_in w) (top_in w) node pos

abbrev pub StartsHere : (given : Given) (line w : List ℕ) (spot node : ℕ) → Type 0
StartsHere given line w spot node = Starts given line w spot node (pos_in spot)

abbrev pub StartsUse : (given : Given) (line w : List ℕ) (spot rule : ℕ) → Type 0
StartsUse given line w spot rule = StartsHere given line w spot (root_in given rule)

abbrev pub Ends : (given : Given) (line old new : List ℕ) (spot r : ℕ) (m : List Note → State → Run) → Type 0
Ends given line old new spot r m = Applied given line old new (live_in spot) (pos_in spot) (made_in old) (top_in old) (after_visit r new) m

abbrev pub EndsVisit : (given : Given) (line old new : List ℕ) (spot r : ℕ) (m : List Note → State → Run) → Type 0
EndsVisit given line old new spot r m = Visits given line old new (live_in spot) (pos_in spot) (made_in old) (top_in old) (after_visit r new) m

-- The same of a step at its spot.
abbrev pub Does : (given : Given) (line old new : List ℕ) (spot r : ℕ) → Step → Type 0
Does given line old new spot r m = Ends given line old new spot r (m given line spot)

abbrev pub DoesVisit : (given : Given) (line old new : List ℕ) (spot r : ℕ) → Step → Type 0
DoesVisit given line old new spot r m = EndsVisit given line old new spot r (m given line spot)

-- A node that is applied here is no rule's but where answers are kept, and then none is kept for it.
abbrev pub Unkept : (given : Given) (w : List ℕ) (spot node : ℕ) → Type 0
Unkept given w spot node = (kind_in given node ≡ 2 → keeps_in given ≡ true) × (keeps_in given ≡ true → get_or w (place_in given node (pos_in spot)) 0 ≡ 0)

-- From the answer of node i at x back over the turns that wait, the newest first: the answer is kept, and the turn's trees are joined before those of the one after it.
unfoldable pub going_back : ℕ → List Turn → ℕ → Answer → State → Run
going_back i [] x r s = done r s
going_back i (t ∷ ts) x r s = after (keep i x r s) (λ q u. after (joined t.trees q u) (going_back i ts t.pos))

-- A row may be gone back over from a spot, where node i answers r, until `before` turns wait.
pub record Returns (given : Given) (line w : List ℕ) (spot i before r : ℕ) : Type 0 where
  pub fit : Fit given line
  pub words : Words given line w (live_in spot) (top_in w)
  pub few : live_in spot ≤ 512
  pub free : keeps_in given ≡ true
  pub node_in : i < nodes_in given
  pub pos_within : pos_in spot ≤ length line
  pub end_most : end_in r ≤ FAILED
  pub end_is : end_in r ≢ STOPPED
  pub end_within : end_in r < STOPPED → end_in r ≤ length line
  pub list_within : list_in r ≤ top_in w
  pub room : top_in w + turns_in w ≤ allowance_in given
  pub turns : List Turn
  pub waiting : Waiting given line w (top_in w) before (turns_in w) turns

-- It was gone back over: what came to r before has now come to r', and the row's pairs are kept.
pub record Returned (given : Given) (line old new : List ℕ) (spot i before r r' : ℕ) : Type 0 where
  pub cells : top_in new + before ≤ top_in old + turns_in old
  pub made : made_in new ≡ made_in old
  pub says : (ts : List Turn) → Waiting given line old (top_in old) before (turns_in old) ts → (w : List ℕ) (made top : ℕ) (m : List Note → State → Run)
      → Came given line w (set old turns_word before) (live_in spot) made top (after_visit r old) m
      → Came given line w new (live_in spot) made top (after_visit r' new) (λ l s. after (m l s) (going_back i ts (pos_in spot)))
