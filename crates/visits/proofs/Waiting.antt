-- Turns that wait: their words, and what leaves them; a turn written as the newest.
use mathlib.Core.Path.{◌≡◌, refl, ap, ◌∙◌}
use mathlib.Core.Logic.{◌≢◌}
use mathlib.Core.List.{List, [], ◌∷◌}
use Prim.Native.Nat.{ℕ, ◌+◌, ◌*◌, ◌<◌, ◌≤◌}
use native.Mathlib.Omega.{arith}
use lib.ListN.{length, get_or, set, length-set}
use lib.Seq.{get_or-set_same, get_or-set_other, set-set, set_comm}
use Rattle.meaning.specs.Grammar.{Note}
use Rattle.meaning.specs.Reading.{State, Run, effort, deep, done, after, joined, keep}
use Rattle.cells.proofs.Frame.{SameCells, trees_same, arena_same}
use Rattle.visits.specs.Given.{Given, base_in, allowance_in}
use Rattle.visits.specs.Words.{turns_in, place_in, turn_at, turn_pos, turn_list, Turn, IsTurn, Waiting, with_turn, Stands, Words, Same}
use Rattle.visits.specs.Says.{going_back}
use Rattle.visits.proofs.Frame.{alike_stands}
use Rattle.visits.proofs.Lowering.{lowered}

-- No turn is left, or one is gone back over.
pub back_none : (i at : ℕ) (m : Run) → m ≡ after m (going_back i [] at)
unfolding after going_back
back_none i at (effort p s) = refl
back_none i at (deep p s) = refl
back_none i at (done r s) = refl

pub back_turn : (i at : ℕ) (t : Turn) (ts : List Turn) (m : Run) → after (after m (keep i at)) (λ q u. after (joined t.trees q u) (going_back i ts t.pos)) ≡ after m (going_back i (t ∷ ts) at)
unfolding after keep going_back
back_turn i at t ts (effort p s) = refl
back_turn i at t ts (deep p s) = refl
back_turn i at t ts (done r s) = refl

module _ (given : Given) (line : List ℕ) where
  pub waiting_least : (w : List ℕ) (top b n : ℕ) (ts : List Turn) → Waiting given line w top b n ts → b ≤ n
  waiting_least w top b n [] h = omega arith
  waiting_least w top b n (t ∷ ts) h = let e : n ≡ h.0 + 1 = h.1 in let z = waiting_least w top b h.0 ts h.3 in omega arith

  -- Their words and the cells below them stay.
  module _ (old new : List ℕ) (top top' n : ℕ) (some : n ≤ allowance_in given) (cells : SameCells old new top) (up : top ≤ top')
      (same : (j : ℕ) → 2048 ≤ j → base_in given ≤ j + 2 * n → j < base_in given → get_or new j 0 ≡ get_or old j 0) where
    turn_same : (k : ℕ) (t : Turn) → 0 < k → k ≤ n → IsTurn given line old top k t → IsTurn given line new top' k t
    turn_same k t lt le h =
        let list : turn_list given new k ≡ turn_list given old k = same _ (omega arith) (omega arith) (omega arith) in
        let below = h.below in
        record {
          pos = same _ (omega arith) (omega arith) (omega arith) ∙ h.pos;
          inside = h.inside;
          below = omega arith;
          trees = rw list (trees_same old new top (turn_list given old k) cells below ∙ h.trees);
        }

    pub waiting_same : (b k : ℕ) (ts : List Turn) → k ≤ n → Waiting given line old top b k ts → Waiting given line new top' b k ts
    waiting_same b k [] le h = h
    waiting_same b k (t ∷ ts) le h = let e : k ≡ h.0 + 1 = h.1 in (h.0, h.1, turn_same k t (omega arith) le h.2, waiting_same b h.0 ts (omega arith) h.3)

  -- Turn n is written between the cells and the turns that wait, and not yet counted.
  module _ (w : List ℕ) (n pos list : ℕ) {live top : ℕ} (few : live * 3 ≤ 2041) (some : 0 < n) (low : top + n ≤ allowance_in given) (words : Words given line w live top) where
    abbrev turned : List ℕ
    turned = set (set w (turn_at given n) pos) (turn_at given n + 1) list

    pub turned_other : (j : ℕ) → j ≢ turn_at given n → j ≢ turn_at given n + 1 → get_or turned j 0 ≡ get_or w j 0
    turned_other j a b = get_or-set_other (set w (turn_at given n) pos) (turn_at given n + 1) j list 0 b ∙ get_or-set_other w (turn_at given n) j pos 0 a

    pub turned_long : length turned ≡ length w
    turned_long = length-set (set w (turn_at given n) pos) (turn_at given n + 1) list ∙ length-set w (turn_at given n) pos

    pub turned_same : turns_in w < n → Same given line w turned live top
    turned_same new = record {
      uses = λ j h. turned_other j (omega arith) (omega arith);
      cells = λ j p q. turned_other j (omega arith) (omega arith);
      turns = turned_other 2041 (omega arith) (omega arith);
      waiting = λ j from p q. turned_other j (omega arith) (omega arith);
      past = λ j h. turned_other j (omega arith) (omega arith);
    }

    pub turned_cells : SameCells w turned top
    turned_cells j p q = turned_other j (omega arith) (omega arith)

    pub turned_words : Words given line turned live top
    turned_words = record {
      room = omega (arith, words.room, turned_long);
      arena = arena_same w turned top turned_cells turned_long words.arena;
      held_lists = λ j lt. omega (arith, turned_other (j * 3 + 2) (omega arith) (omega arith), words.held_lists j lt);
      held_ends = λ j lt. omega (arith, turned_other (j * 3 + 1) (omega arith) (omega arith), words.held_ends j lt);
      kept_lists = λ free j y lj ly. omega (arith, turned_other (place_in given j y + 1) (omega arith) (omega arith), words.kept_lists free j y lj ly);
      kept_ends = λ free j y lj ly. omega (arith, turned_other (place_in given j y) (omega arith) (omega arith), words.kept_ends free j y lj ly);
    }

    pub turned_stands : {made : ℕ} {l : List Note} {s : State} → Stands given line w live made l s → Stands given line turned live made l s
    turned_stands h =
        alike_stands given line (record { uses = λ j p. turned_other j (omega arith) (omega arith); cells = turned_cells }) (λ j p. turned_other j (omega arith) (omega arith)) words (turned_other 2044 (omega arith) (omega arith)) h

    pub turned_pos : turn_pos given turned n ≡ pos
    turned_pos = let r = words.room in get_or-set_other (set w (turn_at given n) pos) (turn_at given n + 1) (turn_at given n) list 0 (omega arith) ∙ get_or-set_same w (turn_at given n) pos 0 (omega arith)

    pub turned_list : turn_list given turned n ≡ list
    turned_list = let r = words.room in let e = length-set w (turn_at given n) pos in get_or-set_same (set w (turn_at given n) pos) (turn_at given n + 1) list 0 (omega arith)

  -- The turn's words and the word of the turns are written in either order.
  pub turned_lowered : (w : List ℕ) (n pos list b : ℕ) → n ≤ allowance_in given → 0 < n
      → lowered (with_turn given w n pos list) b ≡ set (set (lowered w b) (turn_at given n) pos) (turn_at given n + 1) list
  turned_lowered w n pos list b le some =
      set-set (set (set w (turn_at given n) pos) (turn_at given n + 1) list) 2041 n b
      ∙ set_comm (set w (turn_at given n) pos) (turn_at given n + 1) 2041 list b (omega arith)
      ∙ ap (λ u. set u (turn_at given n + 1) list) (set_comm w (turn_at given n) 2041 pos b (omega arith))
