-- A row where answers are kept, by the spot where its repetition stands: each turn's child may start, and each way out of the loop is the end of the repetition.
use mathlib.Core.Path.{◌≡◌, refl, sym, ap, ◌∙◌}
use mathlib.Core.Logic.{◌≢◌, ◌⊎◌, inl, inr}
use mathlib.Core.Bool.{true}
use mathlib.Core.List.{List, []}
use Prim.Native.Nat.{ℕ, ◌+◌, ◌-◌, ◌*◌, ◌<◌, ◌≤◌}
use native.Mathlib.Omega.{arith}
use lib.ListN.{length, get_or, set, length-set}
use lib.Seq.{get_or-set_other}
use Rattle.meaning.specs.Grammar.{◌⋈◌}
use Rattle.meaning.specs.Reading.{after, joined}
use Rattle.meaning.proofs.Answers.{clash}
use Rattle.cells.specs.Cells.{trees_at}
use Rattle.cells.specs.Arena.{Arena}
use Rattle.visits.specs.Given.{Given, lent, kind_in, a_in, nodes_in, keeps_in, allowance_in, left_in, live_in, pos_in, Moved}
use Rattle.visits.specs.Words.{turns_in, top_in, made_in, place_in, turn_at, Waiting, with_turn, HasTurn, Words, Added, Roomy, EnteredInPlace}
use Rattle.visits.specs.Says.{FAILED, STOPPED, end_in, list_in, KeptAnswer, after_visit, Came, Visits, reading, applies, opens, Starts, Ends, Returns, Returned}
use Rattle.visits.proofs.Keeping.{by_same}
use Rattle.visits.proofs.Frame.{count_made, written_top, written_words, written_same}
use Rattle.visits.proofs.Steps.{came_at}
use Rattle.visits.proofs.Nodes.{result, came_joined}
use Rattle.visits.proofs.Lowering.{lowered, lowered_top, lowered_made}
use Rattle.visits.proofs.Waiting.{waiting_least, waiting_same}
use Rattle.visits.proofs.Opening.{roomy, kept_answered}
use Rattle.visits.proofs.Pairs.{added_made}
use Rattle.visits.proofs.Attempts.{room_tree}
use Rattle.visits.proofs.KeptRows.{KeptRow, kept_begins, waiting_now, kept_refused, kept_ends, kept_effort, kept_found, kept_turns}

-- What the loop keeps true, where the numbers stand in the words.
abbrev pub KeptRowIn : (given : Given) (line : List ℕ) (spot i : ℕ) (w₀ w : List ℕ) (x n : ℕ) → Type 0
KeptRowIn given line spot i w₀ w x n = KeptRow given line (left_in spot) i (live_in spot) w₀ (pos_in spot) (made_in w₀) (top_in w₀) w x n (made_in w) (top_in w)

-- The repetition i stands at the spot, over the words w₀.
module _ (given : Given) (line : List ℕ) (spot i : ℕ) (w₀ : List ℕ) (ready : Starts given line w₀ spot i (pos_in spot)) (space : live_in spot + left_in spot ≤ 512) (kind : kind_in given i ≡ 6) (free : keeps_in given ≡ true) where
  few : live_in spot * 3 ≤ 2041
  few = omega arith

  pub begins : KeptRowIn given line spot i w₀ w₀ (pos_in spot) (turns_in w₀)
  begins = kept_begins given line ready.fit (left_in spot) i ready.node_in kind free few ready.words ready.pos_within ready.made_within

  module _ {w : List ℕ} {x n : ℕ} (g : KeptRowIn given line spot i w₀ w x n) where
    -- The child may be visited.
    pub child_starts : a_in given i < nodes_in given → Starts given line w spot (a_in given i) x
    child_starts inside = record {
      fit = ready.fit;
      words = g.words;
      node_in = inside;
      pos_within = g.pos_within;
      open_in = ready.open_in;
      made_within = g.made_within;
      top_within = omega (arith, ready.top_within, g.cells, g.turns_within);
      order = λ p. clash free p;
    }

    -- What the row has come to over the words w₃ is gone back over.
    module _ {w₃ : List ℕ} (last : ℕ) (there : ℕ) (m : Moved spot x there) (c : Came given line (lowered w (turns_in w₀)) (lowered w₃ (turns_in w₀)) (live_in spot) (made_in w) (top_in w) (after_visit last w₃) (λ l s. applies given line (left_in spot) l i x s))
        (words : Words given line w₃ (live_in spot) (top_in w₃)) (turns : turns_in w₃ ≡ n) (cells : top_in w₃ + n + made_in w₀ ≤ top_in w₀ + turns_in w₀ + made_in w₃) (made : made_in w₃ ≤ allowance_in given)
        (waiting : Waiting given line w₃ (top_in w₃) (turns_in w₀) n g.turns) where
      pub may_return : end_in last ≢ STOPPED → end_in last ≤ FAILED → (end_in last < STOPPED → end_in last ≤ length line) → list_in last ≤ top_in w₃ → Returns given line w₃ there i (turns_in w₀) last
      may_return on most inside below = record {
        fit = ready.fit;
        words = rw m.live words;
        few = omega (arith, m.live);
        free = free;
        node_in = ready.node_in;
        pos_within = rw m.there g.pos_within;
        end_most = most;
        end_is = on;
        end_within = inside;
        list_within = below;
        room = omega (arith, turns, cells, made, ready.top_within);
        turns = g.turns;
        waiting = rw turns waiting;
      }

      pub returns : {w₄ : List ℕ} (r : ℕ) → Returned given line w₃ w₄ there i (turns_in w₀) last r → Ends given line w₀ w₄ spot r (λ l s. applies given line (left_in spot) l i (pos_in spot) s)
      returns r back = record {
        came = g.rest (rw (m.there, m.live) at (back.says g.turns (rw turns waiting) (lowered w (turns_in w₀)) (made_in w) (top_in w) (λ l s. applies given line (left_in spot) l i x s) (rw m.live c)));
        cells = omega (arith, back.cells, back.made, cells, turns);
        ahead = λ p. clash free p;
      }

    -- The child was visited.
    module _ {w₁ : List ℕ} (a : ℕ) (A : Visits given line w w₁ (live_in spot) x (made_in w) (top_in w) (after_visit a w₁) (λ l s. reading given line (left_in spot) l (a_in given i) x s)) where
      turns_now : turns_in w₁ ≡ n
      turns_now = A.came.same.turns ∙ g.turns_within

      cells_now : top_in w₁ + n + made_in w₀ ≤ top_in w₀ + turns_in w₀ + made_in w₁
      cells_now = omega (arith, g.cells, A.cells)

      pub long : 2048 ≤ length w₁
      long = omega (arith, A.came.words.room)

      -- Entering the next visit changes no length.
      pub still_long : {w₂ : List ℕ} {code : ℕ} → EnteredInPlace (lent [] given.numbers) w₁ w₂ code → 2048 ≤ length w₂
      still_long (inl e) = rw e.2 long
      still_long (inr e) = rw e.2 (omega (arith, long, length-set w₁ 2043 (made_in w₁ + 1)))

      -- It was refused, and the word of the turns is written as before.
      pub refuses : end_in a ≡ STOPPED → {w₂ : List ℕ} → w₂ ≡ lowered w₁ (turns_in w₀) → Ends given line w₀ w₂ spot a (λ l s. applies given line (left_in spot) l i (pos_in spot) s)
      refuses h is = rw is (record {
        came = came_at given line ready.fit.short (end_in a) (list_in a) _ _ refl refl (lowered_top w₁ (turns_in w₀)) (lowered_made w₁ (turns_in w₀))
            (kept_refused given line ready.fit (left_in spot) i ready.node_in kind free few ready.top_within g A.came A.cells h);
        cells = omega (arith, cells_now, waiting_up, lowered_top w₁ (turns_in w₀), lowered_made w₁ (turns_in w₀));
        ahead = λ p. clash free p;
      })
        where
          waiting_up : turns_in w₀ ≤ n
          waiting_up = waiting_least given line w (top_in w) (turns_in w₀) n g.turns g.waiting

      -- The row ends: its last turn answers r.
      module _ (h : (end_in a ≡ FAILED) ⊎ (end_in a ≡ x)) (r : ℕ) (e : end_in r ≡ x) (f : list_in r ≡ 0) (there : ℕ) (m : Moved spot x there) where
        last_came : Came given line (lowered w (turns_in w₀)) (lowered w₁ (turns_in w₀)) (live_in spot) (made_in w) (top_in w) (after_visit r w₁) (λ l s. applies given line (left_in spot) l i x s)
        last_came = came_at given line ready.fit.short (end_in r) (list_in r) (top_in w₁) (made_in w₁) e f refl refl
            (kept_ends given line ready.fit (left_in spot) i ready.node_in kind free few ready.top_within g A.came A.cells h)

        waits : Waiting given line w₁ (top_in w₁) (turns_in w₀) n g.turns
        waits = waiting_now given line ready.fit (left_in spot) i ready.node_in kind free few ready.top_within g A.came A.cells

        pub end_ready : Returns given line w₁ there i (turns_in w₀) r
        end_ready =
            let p = g.pos_within in
            let s = ready.fit.short in
            may_return r there m last_came A.came.words turns_now cells_now A.came.made_within waits (λ z. absurd (omega arith)) (omega arith) (λ z. omega arith) (omega arith)

        pub ends : {w₂ : List ℕ} (q : ℕ) → Returned given line w₁ w₂ there i (turns_in w₀) r q → Ends given line w₀ w₂ spot q (λ l s. applies given line (left_in spot) l i (pos_in spot) s)
        ends q back = returns r there m last_came A.came.words turns_now cells_now A.came.made_within waits q back

      -- It matched.
      module _ (h : end_in a < STOPPED) (ne : end_in a ≢ x) where
        inside : end_in a ≤ length line
        inside = A.came.end_within h

        -- No visit is left for the own next one, and the word of the turns is written as before.
        pub full : {w₂ : List ℕ} {code : ℕ} → EnteredInPlace (lent [] given.numbers) w₁ w₂ code → code ≢ 0 → {w₃ : List ℕ} → w₃ ≡ lowered w₂ (turns_in w₀) → (r : ℕ) → end_in r ≡ STOPPED → list_in r ≡ code * 4096 + end_in a
            → Ends given line w₀ w₃ spot r (λ l s. applies given line (left_in spot) l i (pos_in spot) s)
        full {code = code} (inl e) on is r q f =
            let eleven : code ≡ 11 = e.1 in
            let words = is ∙ ap (λ u. lowered u (turns_in w₀)) e.2 in
            rw words (record {
              came = came_at given line ready.fit.short (end_in r) (list_in r) _ _ q (f ∙ ap (λ c. c * 4096 + end_in a) eleven) (lowered_top w₁ (turns_in w₀)) (lowered_made w₁ (turns_in w₀))
                  (kept_effort given line ready.fit (left_in spot) i ready.node_in kind free few ready.top_within g A.came A.cells h ne e.0);
              cells = omega (arith, cells_now, waiting_least given line w (top_in w) (turns_in w₀) n g.turns g.waiting, lowered_top w₁ (turns_in w₀), lowered_made w₁ (turns_in w₀));
              ahead = λ p. clash free p;
            })
        full (inr e) on is r q f = absurd (on e.1)

        -- The own next visit is counted.
        module _ (lt : made_in w₁ < allowance_in given) where
          abbrev counted : List ℕ
          counted = set w₁ 2043 (made_in w₁ + 1)

          words₂ : Words given line counted (live_in spot) (top_in w₁)
          words₂ = written_words given line 2043 (omega arith) (omega arith) w₁ (made_in w₁ + 1) few A.came.words

          top₂ : top_in counted ≡ top_in w₁
          top₂ = written_top given line 2043 (omega arith) (omega arith) w₁ (made_in w₁ + 1)

          made₂ : made_in counted ≡ made_in w₁ + 1
          made₂ = count_made given line w₁ (made_in w₁ + 1) long

          pub still_turns : turns_in counted ≡ n
          still_turns = (written_same given line 2043 (omega arith) (omega arith) w₁ (made_in w₁ + 1) {live = live_in spot} {top = 0} few).turns ∙ turns_now

          low₂ : top_in counted + turns_in counted < allowance_in given
          low₂ = omega (arith, cells_now, ready.top_within, top₂, still_turns)

          pub look_room : Roomy (lent [] given.numbers) counted i (end_in a)
          look_room = roomy given line counted i (end_in a) ready.fit free words₂.room ready.node_in inside

          starts₂ : Starts given line counted spot i (end_in a)
          starts₂ = record {
            fit = ready.fit;
            words = rw top₂ words₂;
            node_in = ready.node_in;
            pos_within = inside;
            open_in = ready.open_in;
            made_within = omega (arith, made₂);
            top_within = omega (arith, cells_now, ready.top_within, top₂, made₂, still_turns);
            order = λ p. clash free p;
          }

          -- An answer is kept for it, as `rest`: the row ends there.
          module _ (word : ℕ) (is : word ≡ get_or counted (place_in given i (end_in a)) 0) (some : word ≢ 0) (rest : ℕ) (kept : KeptAnswer (lent [] given.numbers) counted i (end_in a) word rest) where
            found : Ends given line counted counted spot rest (λ l s. opens given line (left_in spot) l i (end_in a) s)
            found = kept_answered given line counted spot i (end_in a) starts₂ space free counted refl rest word is some kept

            pair_end : end_in rest ≢ STOPPED
            pair_end = by_same word 1 (λ one. let e = (kept.failed one).0 in λ z. absurd (omega arith))
                (λ other. let e = (kept.matched (omega arith)).0 in let b = words₂.kept_ends free i (end_in a) ready.node_in inside in let s = ready.fit.short in λ z. absurd (omega arith))

            pair_list : list_in rest ≤ top_in counted
            pair_list = by_same word 1 (λ one. omega (arith, (kept.failed one).1))
                (λ other. omega (arith, top₂, (kept.matched (omega arith)).1, words₂.kept_lists free i (end_in a) ready.node_in inside))

            pub join_ready : (left right : ℕ) → left ≡ list_in a → right ≡ list_in rest
                → (Arena counted (top_in counted) × ((left ≤ top_in counted) × (right ≤ top_in counted))) × ((2048 + 4 * top_in counted + 3 < length counted) × (top_in counted < 1073741823))
            join_ready left right e f =
                let p = pair_list in
                let l = A.came.list_within h in
                ((rw top₂ words₂.arena, (omega (arith, top₂), omega arith)), room_tree given line ready.fit starts₂.words low₂)

            module _ {w₃ : List ℕ} (both : ℕ) (e : end_in both ≡ end_in rest) (d : Added counted w₃ (top_in counted) (list_in both) (top_in w₃) (trees_at counted (list_in a) ⋈ trees_at counted (list_in rest))) (there : ℕ) (m : Moved spot x there) where
              made₃ : made_in w₃ ≡ made_in w₁ + 1
              made₃ = added_made d ∙ made₂

              turns₃ : turns_in w₃ ≡ n
              turns₃ = d.below 2041 (omega arith) (omega arith) ∙ still_turns

              joined_came : Came given line counted w₃ (live_in spot) (made_in counted) (top_in counted) (result (end_in rest) (list_in both) (top_in w₃) (made_in counted)) (λ l s. after (opens given line (left_in spot) l i (end_in a) s) (joined (trees_at counted (list_in a))))
              joined_came = came_joined given line ready.fit few low₂ (trees_at counted (list_in a)) found.came pair_end d

              found_came : Came given line (lowered w (turns_in w₀)) (lowered w₃ (turns_in w₀)) (live_in spot) (made_in w) (top_in w) (after_visit both w₃) (λ l s. applies given line (left_in spot) l i x s)
              found_came = came_at given line ready.fit.short (end_in both) (list_in both) (top_in w₃) (made_in w₃) e refl refl made₃
                  (kept_found given line ready.fit (left_in spot) i ready.node_in kind free few ready.top_within g A.came A.cells h ne lt (rw (made₂, top₂) at joined_came))

              words₃ : Words given line w₃ (live_in spot) (top_in w₃)
              words₃ = joined_came.words

              cells₃ : top_in w₃ + n + made_in w₀ ≤ top_in w₀ + turns_in w₀ + made_in w₃
              cells₃ = omega (arith, cells_now, d.one, top₂, made₃)

              waits₃ : Waiting given line w₃ (top_in w₃) (turns_in w₀) n g.turns
              waits₃ =
                  let l = low₂ in
                  let t = still_turns in
                  let up = d.rise in
                  let one = d.one in
                  waiting_same given line w₁ w₃ (top_in w₁) (top_in w₃) n (omega arith)
                  (λ j p q. d.below j (omega (arith, top₂)) (omega arith) ∙ get_or-set_other w₁ 2043 j (made_in w₁ + 1) 0 (omega arith))
                  (omega (arith, top₂)) (λ j from p q. d.above j (omega arith) ∙ get_or-set_other w₁ 2043 j (made_in w₁ + 1) 0 (omega arith)) (turns_in w₀) n g.turns (omega arith)
                  (waiting_now given line ready.fit (left_in spot) i ready.node_in kind free few ready.top_within g A.came A.cells)

              pub found_ready : Returns given line w₃ there i (turns_in w₀) both
              found_ready =
                  let c = found.came in
                  may_return both there m found_came words₃ turns₃ cells₃ (omega (arith, made₃)) waits₃ (λ z. pair_end (sym e ∙ z)) (omega (arith, c.end_most, e)) (λ z. omega (arith, e, c.end_within (omega (arith, e, z)))) d.within

              pub found_ends : {w₄ : List ℕ} (q : ℕ) → Returned given line w₃ w₄ there i (turns_in w₀) both q → Ends given line w₀ w₄ spot q (λ l s. applies given line (left_in spot) l i (pos_in spot) s)
              found_ends q back = returns both there m found_came words₃ turns₃ cells₃ (omega (arith, made₃)) waits₃ q back

          -- Nothing is kept for it: the turn waits, and the loop goes on.
          module _ (new : get_or counted (place_in given i (end_in a)) 0 ≡ 0) where
            pub has_turn : HasTurn (lent [] given.numbers) counted (n + 1)
            has_turn = record { allowance = ready.fit.allowance; some = omega arith; within = omega (arith, low₂, still_turns); room = omega (arith, words₂.room) }

            -- The words that hold how many cells are in use and how many visits are made are those of before.
            put_other : (list j : ℕ) → 2041 < j → j < 2048 → get_or (with_turn given counted (n + 1) x list) j 0 ≡ get_or counted j 0
            put_other list j from to =
                let w = has_turn.within in
                let at : ℕ = turn_at given (n + 1) in
                get_or-set_other (set (set counted at x) (at + 1) list) 2041 j (n + 1) 0 (omega arith) ∙ get_or-set_other (set counted at x) (at + 1) j list 0 (omega arith) ∙ get_or-set_other counted at j x 0 (omega arith)

            put_top : (list : ℕ) → top_in (with_turn given counted (n + 1) x list) ≡ top_in w₁
            put_top list = put_other list 2042 (omega arith) (omega arith) ∙ top₂

            put_made : (list : ℕ) → made_in (with_turn given counted (n + 1) x list) ≡ made_in w₁ + 1
            put_made list = put_other list 2043 (omega arith) (omega arith) ∙ made₂

            module _ (list : ℕ) {w₃ : List ℕ} (is : w₃ ≡ with_turn (lent [] given.numbers) counted (n + 1) x list) where
              pub goes_on : list ≡ list_in a → KeptRowIn given line spot i w₀ w₃ (end_in a) (n + 1)
              goes_on e = rw (is, put_top list, put_made list, e) (kept_turns given line ready.fit (left_in spot) i ready.node_in kind free few ready.top_within g A.came A.cells h ne lt new (A.fewer h))

              pub nearer : allowance_in given - made_in w₃ < allowance_in given - made_in w
              nearer = let m : made_in w₃ ≡ made_in w₁ + 1 = rw is (put_made list) in omega (arith, m, A.came.made_up)
