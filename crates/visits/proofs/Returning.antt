-- Going back over a row: each pair's answer is kept and the trees of the turn before are joined to it, until no more turns wait than waited before the row.
use mathlib.Core.Path.{◌≡◌, refl, sym, subst, ap, ◌∙◌}
use mathlib.Core.Logic.{◌≢◌}
use mathlib.Core.List.{List, [], ◌∷◌}
use Prim.Native.Nat.{ℕ, suc, ◌+◌, ◌-◌, ◌*◌, ◌<◌, ◌≤◌}
use native.Mathlib.Omega.{arith}
use lib.ListN.{length, get_or, set, length-set}
use lib.Seq.{get_or-set_same, get_or-set_other, set_comm}
use Rattle.meaning.specs.Grammar.{Trees, ◌⋈◌, Note}
use Rattle.meaning.specs.Reading.{State, Run, after, joined, keep}
use Rattle.cells.specs.Cells.{trees_at}
use Rattle.cells.specs.Arena.{Arena}
use Rattle.cells.proofs.Frame.{SameCells, same_below, trees_same, arena_same, arena_below}
use Rattle.visits.specs.Given.{Given, lent, base_in, allowance_in, room_in, live_in, pos_in}
use Rattle.visits.specs.Words.{turns_in, top_in, made_in, place_in, turn_pos, turn_list, Turn, IsTurn, Waiting, HasTurn, HasLists, HasCell, Words, Added, Roomy, Kept}
use Rattle.visits.specs.Says.{Visited, FAILED, STOPPED, end_in, list_in, after_visit, Came, going_back, Returns, Returned}
use Rattle.visits.proofs.Frame.{made_words}
use Rattle.visits.proofs.Steps.{came_as, came_at}
use Rattle.visits.proofs.Lowering.{lowered, lowered_top, lowered_made, low_words}
use Rattle.visits.proofs.Waiting.{back_none, back_turn, waiting_least, waiting_same}
use Rattle.visits.proofs.Nodes.{result, after_twice, came_joined}
use Rattle.visits.proofs.Keeping.{pair_put, by_same, kept_others, keep_words, kept_came}
use Rattle.visits.proofs.Opening.{roomy}

-- The word of the turns is written: what is said of the other words stays true.
module _ (b : ℕ) where
  lowered_trees : (w : List ℕ) (list : ℕ) → trees_at (lowered w b) list ≡ trees_at w list
  lowered_trees w list = trees_same w (lowered w b) list list (same_below w list 2041 (b ∷ []) (omega arith)) (omega arith)

  lowered_put : (w : List ℕ) (p x y : ℕ) → 2048 ≤ p → lowered (pair_put w p x y) b ≡ pair_put (lowered w b) p x y
  lowered_put w p x y h = set_comm (set w p x) (suc p) 2041 y b (omega arith) ∙ ap (λ u. set u (suc p) y) (set_comm w p 2041 x b (omega arith))

  lowered_kept : {given : Given} {old new : List ℕ} {i x end list : ℕ} → Kept given old new i x end list → Kept given (lowered old b) (lowered new b) i x end list
  lowered_kept {given} {old} {new} {i} {x} {end} {list} k = record {
    stopped = λ e. ap (λ u. lowered u b) (k.stopped e);
    failed = λ e. ap (λ u. lowered u b) (k.failed e) ∙ lowered_put old (place_in given i x) 1 0 (omega arith);
    matched = λ e. ap (λ u. lowered u b) (k.matched e) ∙ lowered_put old (place_in given i x) (end + 2) list (omega arith);
  }

  lowered_added : {old new : List ℕ} {top list top' : ℕ} {ts : Trees} → Added old new top list top' ts → Added (lowered old b) (lowered new b) top list top' ts
  lowered_added {old} {new} {top} {list} {top'} d = record {
    rise = d.rise;
    one = d.one;
    within = d.within;
    is = lowered_trees new list ∙ d.is;
    arena = arena_below new top' 2041 (b ∷ []) (omega arith) d.arena;
    long = length-set new 2041 b ∙ d.long ∙ sym (length-set old 2041 b);
    below = λ j h other. by_same j 2041 (λ e. let z = d.arena.long in let l = d.long in rw e (get_or-set_same new 2041 b 0 (omega arith) ∙ sym (get_or-set_same old 2041 b 0 (omega arith))))
        (λ n. get_or-set_other new 2041 j b 0 n ∙ d.below j h other ∙ sym (get_or-set_other old 2041 j b 0 n));
    above = λ j h. get_or-set_other new 2041 j b 0 (omega arith) ∙ d.above j h ∙ sym (get_or-set_other old 2041 j b 0 (omega arith));
  }

module _ (given : Given) (line : List ℕ) where
  -- The newest turn that waits.
  newest_below : (w : List ℕ) (top b n : ℕ) (ts : List Turn) → n ≢ b → Waiting given line w top b n ts → (turn_list given w n ≤ top) × (turn_pos given w n ≤ length line)
  newest_below w top b n [] more h = absurd (more h)
  newest_below w top b n (t ∷ ts) more h = (h.2.below, omega (arith, h.2.pos, h.2.inside))

module _ (given : Given) (line : List ℕ) (spot i before : ℕ) where
  -- What came to r over the words w has come to q over the words new, once the turns ts are gone back over from `at`.
  abbrev pub Back : (ts : List Turn) (at : ℕ) (w : List ℕ) (r : ℕ) (new : List ℕ) (q : Visited) → Type 0
  Back ts at w r new q =
      (v : List ℕ) (made top : ℕ) (m : List Note → State → Run) → Came given line v (lowered w before) (live_in spot) made top (after_visit r w) m
      → Came given line v new (live_in spot) made top q (λ l s. after (m l s) (going_back i ts at))

  -- From the words w₀ with the answer r₀ and the turns ts₀ so far: these turns are left, and it is enough to go back over them.
  pub record Left (w₀ : List ℕ) (r₀ : ℕ) (ts₀ : List Turn) (w : List ℕ) (n at r : ℕ) : Type 0 where
    pub turns : List Turn
    pub waiting : Waiting given line w (top_in w) before n turns
    pub enough : (new : List ℕ) (q : Visited) → Back turns at w r new q → Back ts₀ (pos_in spot) w₀ r₀ new q

  -- The loop, from the words w₀ with the answer r₀: now n turns wait, and the node answers r at `at`. (The word of the turns is written when it ends.)
  pub record Going (w₀ : List ℕ) (r₀ : ℕ) (w : List ℕ) (n at r : ℕ) : Type 0 where
    pub words : Words given line (lowered w before) (live_in spot) (top_in w)
    pub at_in : at ≤ length line
    pub end : end_in r ≡ end_in r₀
    pub list_within : list_in r ≤ top_in w
    pub cells : top_in w + n ≤ top_in w₀ + turns_in w₀
    pub made : made_in w ≡ made_in w₀
    pub left : (ts₀ : List Turn) → Waiting given line w₀ (top_in w₀) before (turns_in w₀) ts₀ → Left w₀ r₀ ts₀ w n at r

  module _ {w₀ : List ℕ} {r₀ : ℕ} (start : Returns given line w₀ spot i before r₀) where
    few : live_in spot * 3 ≤ 2041
    few = omega (arith, start.few)

    pub loop_begins : (at : ℕ) → at ≡ pos_in spot → Going w₀ r₀ w₀ (turns_in w₀) at r₀
    loop_begins at is = record {
      words = low_words given line before few start.words;
      at_in = omega (arith, is, start.pos_within);
      end = refl;
      list_within = start.list_within;
      cells = omega arith;
      made = refl;
      left = λ ts h. record { turns = ts; waiting = h; enough = λ new q b. rw is at b };
    }

    module _ {w : List ℕ} {n at r : ℕ} (go : Going w₀ r₀ w n at r) where
      low : top_in w + n ≤ allowance_in given
      low = omega (arith, go.cells, start.room)

      long : room_in given line ≤ length w
      long = omega (arith, go.words.room, length-set w 2041 before)

      waits : Waiting given line w (top_in w) before n (go.left start.turns start.waiting).turns
      waits = (go.left start.turns start.waiting).waiting

      least : before ≤ n
      least = waiting_least given line w (top_in w) before n (go.left start.turns start.waiting).turns waits

      pub keep_ready : {end : ℕ} → end ≡ end_in r → Roomy (lent [] given.numbers) w i at × (end ≤ FAILED)
      keep_ready {end} e = (roomy given line w i at start.fit start.free long start.node_in go.at_in, omega (arith, e, go.end, start.end_most))

      -- The answer is kept, which leaves the words w₁.
      module _ (more : n ≢ before) {end list : ℕ} (ends : end ≡ end_in r) (lists : list ≡ list_in r) {w₁ : List ℕ} (k : Kept (lent [] given.numbers) w w₁ i at end list) where
        kept : Kept (lent [] given.numbers) w w₁ i at (end_in r) (list_in r)
        kept = rw (ends, lists) at k

        most : end_in r ≤ FAILED
        most = omega (arith, go.end, start.end_most)

        as_kept : (j : ℕ) → j < base_in given → get_or w₁ j 0 ≡ get_or w j 0
        as_kept j h = kept_others (lent [] given.numbers) w w₁ i at (end_in r) (list_in r) j kept most h

        top_kept : top_in w₁ ≡ top_in w
        top_kept = as_kept 2042 (omega arith)

        words_kept : Words given line (lowered w₁ before) (live_in spot) (top_in w)
        words_kept =
            let t = low in
            let short = start.fit.short in
            let z : end_in r ≡ end_in r₀ = go.end in
            by_same (end_in r) FAILED
            (λ e. subst (λ u. Words given line u (live_in spot) (top_in w)) (sym ((lowered_kept before kept).failed e))
            (keep_words given line start.fit go.words start.free few (omega arith) i at start.node_in go.at_in 1 0 (omega arith) (omega arith)))
            (λ no. let lt : end_in r < STOPPED = omega (arith, most, start.end_is) in
            subst (λ u. Words given line u (live_in spot) (top_in w)) (sym ((lowered_kept before kept).matched lt))
            (keep_words given line start.fit go.words start.free few (omega arith) i at start.node_in go.at_in (end_in r + 2) (list_in r) (omega (arith, start.end_within (omega arith))) go.list_within))

        long_kept : room_in given line ≤ length w₁
        long_kept = omega (arith, words_kept.room, length-set w₁ 2041 before)

        pub has_turn : HasTurn (lent [] given.numbers) w₁ n
        has_turn = let t = low in record { allowance = start.fit.allowance; some = omega (arith, least); within = omega arith; room = omega (arith, long_kept) }

        turn_list_lem : turn_list given w₁ n ≡ turn_list given w n
        turn_list_lem = let t = low in let z = least in as_kept _ (omega arith)

        turn_pos_lem : turn_pos given w₁ n ≡ turn_pos given w n
        turn_pos_lem = let t = low in let z = least in as_kept _ (omega arith)

        newest : (turn_list given w n ≤ top_in w) × (turn_pos given w n ≤ length line)
        newest = newest_below given line w (top_in w) before n (go.left start.turns start.waiting).turns more waits

        arena_kept : Arena w₁ (top_in w)
        arena_kept = arena_same (lowered w₁ before) w₁ (top_in w) (λ j a b. sym (same_below w₁ (top_in w) 2041 (before ∷ []) (omega arith) j a b)) (sym (length-set w₁ 2041 before)) words_kept.arena

        room_left : top_in w < allowance_in given
        room_left = omega (arith, low, least)

        -- The newest turn is read; its trees may be joined to the answer.
        module _ (turn : ℕ) (pos : end_in turn ≡ turn_pos given w₁ n) (list-is : list_in turn ≡ turn_list given w₁ n) {w₂ : List ℕ} (is : w₂ ≡ w₁) {left right : ℕ} (lefts : left ≡ list_in turn) (rights : right ≡ list_in r) where
          pub join_ready : HasLists w₂ left right × HasCell w₂
          join_ready =
              let t = room_left in
              let a = start.fit.allowance in
              let z = long_kept in
              rw (is, top_kept) ((arena_kept, (omega (arith, lefts, list-is, turn_list_lem, newest.0), omega (arith, rights, go.list_within))), (omega arith, omega arith))

          -- They are joined, which leaves the words w₃.
          module _ {w₃ : List ℕ} (q : ℕ) {end₂ : ℕ} (ends₂ : end₂ ≡ end_in r) (end-q : end_in q ≡ end₂) (d : Added w₂ w₃ (top_in w₂) (list_in q) (top_in w₃) (trees_at w₂ left ⋈ trees_at w₂ right)) where
            lowest : top_in w + turns_in (lowered w₁ before) < allowance_in given
            lowest = let z = long_kept in omega (arith, low, least, get_or-set_same w₁ 2041 before 0 (omega arith))

            plain : Added w₁ w₃ (top_in w) (list_in q) (top_in w₃) (trees_at w₁ (turn_list given w₁ n) ⋈ trees_at (lowered w₁ before) (list_in r))
            plain = rw (lowered_trees before w₁ (list_in r)) (rw (is, top_kept, lefts, list-is, rights) at d)

            added : Added (lowered w₁ before) (lowered w₃ before) (top_in w) (list_in q) (top_in w₃) (trees_at w₁ (turn_list given w₁ n) ⋈ trees_at (lowered w₁ before) (list_in r))
            added = lowered_added before plain

            made_is : made_in w₃ ≡ made_in w
            made_is = plain.below 2043 (omega arith) (omega arith) ∙ as_kept 2043 (omega arith)

            cells_same : SameCells w w₃ (top_in w)
            cells_same j a b = let t = low in plain.below j b (omega arith) ∙ as_kept j (omega arith)

            turns_same : (j : ℕ) → 2048 ≤ j → base_in given ≤ j + 2 * (n - 1) → j < base_in given → get_or w₃ j 0 ≡ get_or w j 0
            turns_same j a b c = let t = low in let z = least in let one = plain.one in plain.above j (omega arith) ∙ as_kept j c

            -- Over the turn t.
            module _ (t : Turn) (turn_is : IsTurn given line w (top_in w) n t) where
              trees_is : trees_at w₁ (turn_list given w₁ n) ≡ t.trees
              trees_is = let l = low in rw turn_list_lem (trees_same w w₁ (top_in w) (turn_list given w n) (λ j a b. as_kept j (omega arith)) turn_is.below ∙ turn_is.trees)

              back_over : {v : List ℕ} {made top : ℕ} {m : List Note → State → Run} → Came given line v (lowered w before) (live_in spot) made top (after_visit r w) m
                  → Came given line v (lowered w₃ before) (live_in spot) made top (after_visit q w₃) (λ l s. after (after (m l s) (keep i at)) (joined t.trees))
              back_over {v} {made} {top} {m} c =
                  let z = low in
                  let c₁ : Came given line v (lowered w₁ before) (live_in spot) made top (result (end_in r) (list_in r) (top_in w) (made_in w)) (λ l s. after (m l s) (keep i at))
                  = kept_came given line start.fit start.free i at start.node_in go.at_in c few (omega arith) (lowered_kept before kept) in
                  let a : Added (lowered w₁ before) (lowered w₃ before) (top_in w) (list_in q) (top_in w₃) (t.trees ⋈ trees_at (lowered w₁ before) (list_in r)) = rw trees_is at added in
                  came_at given line start.fit.short (end_in q) (list_in q) (top_in w₃) (made_in w₃) (end-q ∙ ends₂) refl refl made_is
                  (came_joined given line start.fit few lowest t.trees c₁ (λ e. start.end_is (sym go.end ∙ e)) a)

            module _ {next : ℕ} (next-is : next ≡ end_in turn) where
              left_after : (ts₀ : List Turn) (ts : List Turn) → Waiting given line w (top_in w) before n ts
                  → ((new : List ℕ) (b : Visited) → Back ts at w r new b → Back ts₀ (pos_in spot) w₀ r₀ new b) → Left w₀ r₀ ts₀ w₃ (n - 1) next q
              left_after ts₀ [] h f = absurd (more h)
              left_after ts₀ (t ∷ ts) h f =
                  let l = low in
                  let e : n ≡ h.0 + 1 = h.1 in
                  let less : h.0 ≡ n - 1 = omega arith in
                  let there : next ≡ t.pos = next-is ∙ pos ∙ turn_pos_lem ∙ h.2.pos in
                  record {
                    turns = ts;
                    waiting = subst (λ k. Waiting given line w₃ (top_in w₃) before k ts) less (waiting_same given line w w₃ (top_in w) (top_in w₃) (n - 1) (omega arith) cells_same plain.rise turns_same before h.0 ts (omega arith) h.3);
                    enough = λ new b g. f new b (λ v made top m c. came_as given line start.fit.short _ ((rw there at g) v made top _ (back_over t h.2 c)) (λ l s. after_twice (after (m l s) (keep i at)) (joined t.trees) (going_back i ts t.pos) ∙ back_turn i at t ts (m l s)));
                  }

              pub loop_turns : Going w₀ r₀ w₃ (n - 1) next q
              loop_turns = record {
                words = made_words given line start.fit few lowest added words_kept;
                at_in = omega (arith, next-is, pos, turn_pos_lem, newest.1);
                end = end-q ∙ ends₂ ∙ go.end;
                list_within = plain.within;
                cells = omega (arith, plain.one, go.cells, least);
                made = made_is ∙ go.made;
                left = λ ts₀ h. left_after ts₀ (go.left ts₀ h).turns (go.left ts₀ h).waiting (go.left ts₀ h).enough;
              }

      -- No more turns wait than before, and the word of the turns is written.
      none_left : n ≡ before → (ts : List Turn) → Waiting given line w (top_in w) before n ts → Back ts at w r (lowered w before) (after_visit r w)
      none_left e [] h v made top m c = came_as given line start.fit.short _ c (λ l s. back_none i at (m l s))
      none_left e (t ∷ ts) h v made top m c = let z : n ≡ h.0 + 1 = h.1 in absurd (omega (arith, waiting_least given line w (top_in w) before h.0 ts h.3))

      pub gone_back : n ≤ before → {new : List ℕ} → new ≡ lowered w before → Returned given line w₀ new spot i before r₀ r
      gone_back none is =
          let e : n ≡ before = omega (arith, none, least) in
          let top : top_in (lowered w before) ≡ top_in w = lowered_top w before in
          let visits : made_in (lowered w before) ≡ made_in w = lowered_made w before in
          rw is (record {
            cells = omega (arith, top, e, go.cells);
            made = visits ∙ go.made;
            says = λ ts h v made top₀ m c. came_at given line start.fit.short (end_in r) (list_in r) _ _ refl refl top visits
                ((go.left ts h).enough (lowered w before) (after_visit r w) (none_left e (go.left ts h).turns (go.left ts h).waiting) v made top₀ m c);
          })
