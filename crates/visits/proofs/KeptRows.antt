-- A row where answers are kept: what the loop keeps true, and what each way out of it comes to. Over the words with the number of turns lowered to what it was before the row,
-- all that was done since is one step.
use mathlib.Core.Path.{◌≡◌, refl, sym, ap, ◌∙◌}
use mathlib.Core.Logic.{◌≢◌, ◌⊎◌, inl, inr}
use mathlib.Core.Bool.{true}
use mathlib.Core.List.{List, [], ◌∷◌}
use mathlib.Core.Option.{none}
use Prim.Native.Nat.{ℕ, suc, ◌+◌, ◌*◌, ◌<◌, ◌≤◌}
use native.Mathlib.Omega.{arith}
use lib.ListN.{length, get_or, set}
use lib.Seq.{get_or-set_same, get_or-set_other, set_comm, set-get_or}
use Rattle.meaning.specs.Grammar.{Trees, Answer, Note, node}
use Rattle.meaning.specs.Reading.{State, Run, after, joined, apply, keep, way_of, use_rule, recall, visited}
use Rattle.cells.specs.Cells.{trees_at}
use Rattle.cells.proofs.Frame.{SameCells, trees_same}
use Rattle.visits.specs.Given.{Given, kind_in, a_in, nodes_in, keeps_in, grows_in, allowance_in, grammar_in, Fit}
use Rattle.visits.specs.Words.{turns_in, place_in, kept_as, kept_at, turn_at, turn_list, Turn, Waiting, with_turn, Stands, Words}
use Rattle.visits.specs.Says.{Visited, FAILED, STOPPED, Came, reading, applies, opens, going_back}
use Rattle.visits.proofs.Frame.{alike_trees, written_alike, written_words}
use Rattle.visits.proofs.Steps.{came_after, came_when, came_as, stopped}
use Rattle.visits.proofs.Lowering.{lowered, low_words, low_came}
use Rattle.visits.proofs.Waiting.{back_none, back_turn, waiting_least, waiting_same, turned_other, turned_long, turned_same, turned_cells, turned_words, turned_stands, turned_pos, turned_list, turned_lowered}
use Rattle.visits.proofs.Nodes.{result}
use Rattle.visits.proofs.Rowing.{row_stop, row_none, row_empty, row_on, row_turn, turn_effort, turn_open}

module _ (given : Given) (line : List ℕ) (left i : ℕ) where
  -- The loop, from the words, position, visits and top with which it began, at those it has now; n turns wait.
  pub record KeptRow (live : ℕ) (w₀ : List ℕ) (x₀ made₀ top₀ : ℕ) (w : List ℕ) (x n made top : ℕ) : Type 0 where
    pub words : Words given line w live top
    pub turns_within : turns_in w ≡ n
    pub pos_within : x ≤ length line
    pub made_within : made ≤ allowance_in given
    pub cells : top + n + made₀ ≤ top₀ + turns_in w₀ + made
    pub turns : List Turn
    pub waiting : Waiting given line w top (turns_in w₀) n turns
    pub rest : {w' : List ℕ} {r : Visited} → Came given line (lowered w (turns_in w₀)) w' live made top r (λ l s. after (applies given line left l i x s) (going_back i turns x))
        → Came given line w₀ w' live made₀ top₀ r (λ l s. applies given line left l i x₀ s)

module _ (given : Given) (line : List ℕ) (fit : Fit given line) (left i : ℕ) (li : i < nodes_in given) (kind : kind_in given i ≡ 6) (free : keeps_in given ≡ true) {live : ℕ} (few : live * 3 ≤ 2041) where
  -- A visit of a pair for which nothing is kept.
  opens_new : {w : List ℕ} {made : ℕ} (x : ℕ) → x ≤ length line → get_or w (place_in given i x) 0 ≡ 0 → (l : List Note) (s : State) → Stands given line w live made l s
      → after (applies given line left l i x s) (keep i x) ≡ opens given line left l i x s
  unfolding visited recall kept_as
  opens_new {w} x inside new l s h =
      let e : kept_at w (place_in given i x) ≡ none = rw new refl in
      ap (λ b. after (apply line (reading given line left l) (reading given line (suc left) l) (use_rule (grammar_in given) line (way_of b (grows_in given)) (reading given line left) l) i x s (node (grammar_in given) i)) (keep i x)) free
      ∙ ap (recall (grammar_in given) line (reading given line left) (reading given line (suc left)) l i x s) (sym e ∙ sym (h.kept free i x li inside))
      ∙ ap (λ b. visited (grammar_in given) line (way_of b (grows_in given)) (reading given line left) (reading given line (suc left)) l i x s) (sym free)

  pub kept_begins : {w : List ℕ} {x made top : ℕ} → Words given line w live top → x ≤ length line → made ≤ allowance_in given → KeptRow given line left i live w x made top w x (turns_in w) made top
  kept_begins {w} {x} {made} {top} words inside le = record {
    words = words;
    turns_within = refl;
    pos_within = inside;
    made_within = le;
    cells = omega arith;
    turns = [];
    waiting = refl;
    rest = λ {w'} {r} c. came_as given line fit.short _ (rw (set-get_or w 2041 0) at c) (λ l s. sym (back_none i x (applies given line left l i x s)));
  }

  module _ {w₀ : List ℕ} {x₀ made₀ top₀ : ℕ} (start : top₀ + turns_in w₀ ≤ made₀) {w : List ℕ} {x n made top : ℕ} (g : KeptRow given line left i live w₀ x₀ made₀ top₀ w x n made top) {w₁ : List ℕ} {a : Visited}
      (A : Came given line w w₁ live made top a (λ l s. reading given line left l (a_in given i) x s)) (cells : a.top + made ≤ top + a.made) where
    -- How many turns waited before the row.
    abbrev b : ℕ
    b = turns_in w₀

    least : b ≤ n
    least = waiting_least given line w top b n g.turns g.waiting

    turns_now : turns_in w₁ ≡ n
    turns_now = A.same.turns ∙ g.turns_within

    pub room : a.top + turns_in w₁ ≤ a.made
    room = let c = g.cells in let t = turns_now in omega arith

    few_turns : n ≤ allowance_in given
    few_turns = omega (arith, room, turns_now, A.made_within)

    -- The child's visit, over lowered words.
    below : Came given line (lowered w b) (lowered w₁ b) live made top a (λ l s. reading given line left l (a_in given i) x s)
    below = low_came given line b few fit g.words (omega (arith, least, g.turns_within)) A

    pub waiting_now : Waiting given line w₁ a.top b n g.turns
    waiting_now = waiting_same given line w w₁ top a.top n few_turns A.same.cells A.top_up (λ j low p q. A.same.waiting j low (omega (arith, g.turns_within)) q) b n g.turns (omega arith) g.waiting

    -- The child was refused: so is the row.
    pub kept_refused : a.end ≡ STOPPED → Came given line w₀ (lowered w₁ b) live made₀ top₀ a (λ l s. applies given line left l i x₀ s)
    kept_refused h = g.rest (stopped given line fit.short (λ l. going_back i g.turns x) (row_stop given line fit left i li kind x g.pos_within below h) h)

    -- The row ends here: this is what it comes to before it is gone back over.
    pub kept_ends : (a.end ≡ FAILED) ⊎ (a.end ≡ x) → Came given line (lowered w b) (lowered w₁ b) live made top (result x 0 a.top a.made) (λ l s. applies given line left l i x s)
    kept_ends (inl h) = row_none given line fit left i li kind x g.pos_within below h
    kept_ends (inr h) = row_empty given line fit left i li kind x g.pos_within below h

    module _ (h : a.end < STOPPED) (ne : a.end ≢ x) where
      -- The child's trees.
      abbrev ts : Trees
      ts = trees_at (lowered w₁ b) a.list

      pub kept_effort : allowance_in given ≤ a.made → Came given line w₀ (lowered w₁ b) live made₀ top₀ (result STOPPED (11 * 4096 + a.end) a.top a.made) (λ l s. applies given line left l i x₀ s)
      kept_effort full =
          g.rest (stopped given line fit.short (λ l. going_back i g.turns x)
          (row_on given line fit left i li kind x g.pos_within below h ne (turn_effort given line fit left i li kind a.end (joined ts) below.words A.made_within (A.end_within h) full)) refl)

      -- The next visit is counted.
      module _ (lt : a.made < allowance_in given) where
        abbrev counted : List ℕ
        counted = set w₁ 2043 (a.made + 1)

        low : a.top + n < allowance_in given
        low = omega (arith, room, turns_now)

        counted_turns : turns_in counted ≡ n
        counted_turns = get_or-set_other w₁ 2043 2041 (a.made + 1) 0 (omega arith) ∙ turns_now

        counted_words : Words given line counted live a.top
        counted_words = written_words given line 2043 (omega arith) (omega arith) w₁ (a.made + 1) few A.words

        swapped : set (lowered w₁ b) 2043 (a.made + 1) ≡ lowered counted b
        swapped = set_comm w₁ 2041 2043 b (a.made + 1) (omega arith)

        trees_lowered : trees_at counted a.list ≡ ts
        trees_lowered =
            alike_trees given line (written_alike given line 2043 (omega arith) (omega arith) w₁ (a.made + 1) {live = live} few) a.list (A.list_within h)
            ∙ sym (alike_trees given line (written_alike given line 2041 (omega arith) (omega arith) w₁ b {live = live} few) a.list (A.list_within h))

        -- An answer is kept for it: this is what the row comes to before it is gone back over.
        module _ {w₂ : List ℕ} {r : Visited} (c : Came given line counted w₂ live (a.made + 1) a.top r (λ l s. after (opens given line left l i a.end s) (joined (trees_at counted a.list)))) where
          pub kept_found : Came given line (lowered w b) (lowered w₂ b) live made top r (λ l s. applies given line left l i x s)
          kept_found =
              row_on given line fit left i li kind x g.pos_within below h ne
              (turn_open given line fit left i li kind a.end (joined ts) below.words lt few
              (rw swapped (came_as given line fit.short _ (low_came given line b few fit counted_words (omega (arith, least, counted_turns)) c)
              (λ l s. ap (λ us. after (opens given line left l i a.end s) (joined us)) trees_lowered))))

        -- Nothing is kept for it: the turn waits, and the loop goes on.
        module _ (new : get_or counted (place_in given i a.end) 0 ≡ 0) (fewer : a.top + made < top + a.made) where
          abbrev put : List ℕ
          put = with_turn given counted (n + 1) x a.list

          abbrev turn : Turn
          turn = record { pos = x; trees = ts }

          -- Over lowered words the turn is written and not counted.
          low_counted : Words given line (lowered counted b) live a.top
          low_counted = low_words given line b few counted_words

          low_turns : turns_in (lowered counted b) < n + 1
          low_turns = let z = counted_words.room in let e : turns_in (lowered counted b) ≡ b = get_or-set_same counted 2041 b 0 (omega arith) in let l = least in omega arith

          new_lowered : get_or (lowered counted b) (place_in given i a.end) 0 ≡ 0
          new_lowered = get_or-set_other counted 2041 (place_in given i a.end) b 0 (omega arith) ∙ new

          -- What is done after the own next visit: the child's trees are joined to its own, and the turns before are gone back over.
          abbrev then_back : Answer → State → Run
          then_back q u = after (joined ts q u) (going_back i g.turns x)

          -- From lowered words with the turn back to those without it.
          unturned : {w' : List ℕ} {r : Visited} → Came given line (lowered put b) w' live (a.made + 1) a.top r (λ l s. after (applies given line left l i a.end s) (going_back i (turn ∷ g.turns) a.end))
              → Came given line (lowered counted b) w' live (a.made + 1) a.top r (λ l s. after (after (applies given line left l i a.end s) (keep i a.end)) then_back)
          unturned c =
              let d = came_as given line fit.short (λ l s. after (after (applies given line left l i a.end s) (keep i a.end)) then_back) (rw (turned_lowered given line counted (n + 1) x a.list b (omega (arith, low)) (omega arith)) at c)
              (λ l s. sym (back_turn i a.end turn g.turns (applies given line left l i a.end s))) in
              came_after given line fit.short _ (turned_same given line (lowered counted b) (n + 1) x a.list few (omega arith) (omega (arith, low)) low_counted low_turns) (omega arith) (omega arith) d
              (λ l s st. d.says l s (turned_stands given line (lowered counted b) (n + 1) x a.list few (omega arith) (omega (arith, low)) low_counted st))

          goes_on : {w' : List ℕ} {r : Visited} → Came given line (lowered put b) w' live (a.made + 1) a.top r (λ l s. after (applies given line left l i a.end s) (going_back i (turn ∷ g.turns) a.end))
              → Came given line w₀ w' live made₀ top₀ r (λ l s. applies given line left l i x₀ s)
          goes_on c =
              g.rest (row_turn given line fit left i li kind x g.pos_within below h ne (going_back i g.turns x)
              (turn_open given line fit left i li kind a.end then_back below.words lt few
              (rw swapped (came_when given line fit.short _ (unturned c) (λ l s st. ap (λ m. after m then_back) (opens_new a.end (A.end_within h) new_lowered l s st))))))

          abbrev turned : List ℕ
          turned = set (set counted (turn_at given (n + 1)) x) (turn_at given (n + 1) + 1) a.list

          put_cells : SameCells w₁ put a.top
          put_cells j p q =
              get_or-set_other turned 2041 j (n + 1) 0 (omega arith) ∙ turned_cells given line counted (n + 1) x a.list few (omega arith) (omega (arith, low)) counted_words j p q ∙ get_or-set_other w₁ 2043 j (a.made + 1) 0 (omega arith)

          older : Waiting given line put a.top b n g.turns
          older =
              waiting_same given line w₁ put a.top a.top n few_turns put_cells (omega arith)
              (λ j from p q. get_or-set_other turned 2041 j (n + 1) 0 (omega arith) ∙ turned_other given line counted (n + 1) x a.list few (omega arith) (omega (arith, low)) counted_words j (omega (arith, low)) (omega (arith, low)) ∙ get_or-set_other w₁ 2043 j (a.made + 1) 0 (omega arith))
              b n g.turns (omega arith) waiting_now

          put_list : turn_list given put (n + 1) ≡ a.list
          put_list = get_or-set_other turned 2041 (turn_at given (n + 1) + 1) (n + 1) 0 (omega (arith, low)) ∙ turned_list given line counted (n + 1) x a.list few (omega arith) (omega (arith, low)) counted_words

          put_trees : trees_at put a.list ≡ ts
          put_trees = trees_same w₁ put a.top a.list put_cells (A.list_within h) ∙ sym (alike_trees given line (written_alike given line 2041 (omega arith) (omega arith) w₁ b {live = live} few) a.list (A.list_within h))

          pub kept_turns : KeptRow given line left i live w₀ x₀ made₀ top₀ put a.end (n + 1) (a.made + 1) a.top
          kept_turns =
              let c = g.cells in
              let z = counted_words.room in
              let long = turned_long given line counted (n + 1) x a.list few (omega arith) (omega (arith, low)) counted_words in
              record {
                words = low_words given line (n + 1) few (turned_words given line counted (n + 1) x a.list few (omega arith) (omega (arith, low)) counted_words);
                turns_within = get_or-set_same turned 2041 (n + 1) 0 (omega arith);
                pos_within = A.end_within h;
                made_within = omega arith;
                cells = omega arith;
                turns = turn ∷ g.turns;
                waiting = (
                  n,
                  refl,
                  record {
                    pos = get_or-set_other turned 2041 (turn_at given (n + 1)) (n + 1) 0 (omega (arith, low)) ∙ turned_pos given line counted (n + 1) x a.list few (omega arith) (omega (arith, low)) counted_words;
                    inside = g.pos_within;
                    below = omega (arith, put_list, A.list_within h);
                    trees = rw put_list put_trees;
                  },
                  older,
                );
                rest = goes_on;
              }
