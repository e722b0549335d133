-- A row where nothing is kept, by the spot where its repetition stands: each turn's child may start, and each way out of the loop is the end of the repetition.
use mathlib.Core.Path.{◌≡◌, refl, ap, ◌∙◌}
use mathlib.Core.Logic.{◌≢◌, ◌⊎◌, inl, inr}
use mathlib.Core.Bool.{false}
use mathlib.Core.List.{List, []}
use Prim.Native.Nat.{ℕ, ◌+◌, ◌-◌, ◌*◌, ◌<◌, ◌≤◌}
use native.Mathlib.Omega.{arith}
use lib.ListN.{length, set}
use Rattle.meaning.specs.Grammar.{◌⋈◌}
use Rattle.cells.specs.Cells.{trees_at}
use Rattle.cells.specs.Arena.{Arena}
use Rattle.visits.specs.Given.{Given, lent, kind_in, a_in, nodes_in, keeps_in, allowance_in, left_in, live_in, pos_in}
use Rattle.visits.specs.Words.{turns_in, top_in, made_in, Added, EnteredInPlace}
use Rattle.visits.specs.Says.{FAILED, STOPPED, end_in, list_in, after_visit, Visits, reading, applies, Starts, Ends}
use Rattle.visits.proofs.Frame.{count_made, written_top}
use Rattle.visits.proofs.Steps.{came_at}
use Rattle.visits.proofs.Living.{order_same}
use Rattle.visits.proofs.Pairs.{added_made}
use Rattle.visits.proofs.Attempts.{room_tree}
use Rattle.visits.proofs.Rowing.{Row, row_begins, row_refused, row_ends, row_effort, row_turns}

-- What the loop keeps true, where the numbers stand in the words.
abbrev pub RowIn : (given : Given) (line : List ℕ) (spot i : ℕ) (w₀ w : List ℕ) (x list : ℕ) → Type 0
RowIn given line spot i w₀ w x list = Row given line (left_in spot) i (live_in spot) w₀ (pos_in spot) (made_in w₀) (top_in w₀) w x list (made_in w) (top_in w)

-- A visit in place that is not refused is counted.
pub counts : (given : Given) (w w' : List ℕ) (code : ℕ) → EnteredInPlace given w w' code → code ≡ 0 → (made_in w < allowance_in given) × (w' ≡ set w 2043 (made_in w + 1))
counts given w w' code (inl e) z = let is : code ≡ 11 = e.1 in absurd (omega arith)
counts given w w' code (inr e) z = (e.0, e.2)

-- The repetition i stands at the spot, over the words w₀.
module _ (given : Given) (line : List ℕ) (spot i : ℕ) (w₀ : List ℕ) (ready : Starts given line w₀ spot i (pos_in spot)) (room : live_in spot + left_in spot ≤ 512) (kind : kind_in given i ≡ 6) (plain : keeps_in given ≡ false) where
  few : live_in spot * 3 ≤ 2041
  few = omega arith

  pub begins : RowIn given line spot i w₀ w₀ (pos_in spot) 0
  begins = row_begins given line ready.fit (left_in spot) i ready.node_in kind plain ready.words ready.pos_within ready.made_within

  module _ {w : List ℕ} {x list : ℕ} (g : RowIn given line spot i w₀ w x list) where
    -- The child may be visited.
    pub child_starts : a_in given i < nodes_in given → Starts given line w spot (a_in given i) x
    child_starts inside = record {
      fit = ready.fit;
      words = g.words;
      node_in = inside;
      pos_within = g.pos_within;
      open_in = ready.open_in;
      made_within = g.made_within;
      top_within = omega (arith, ready.top_within, g.cells, g.same.turns);
      order = λ p. order_same given line g.same g.pos_up (ready.order p);
    }

    -- It was.
    module _ {w₁ : List ℕ} (a : ℕ) (A : Visits given line w w₁ (live_in spot) x (made_in w) (top_in w) (after_visit a w₁) (λ l s. reading given line (left_in spot) l (a_in given i) x s)) where
      pub refuses : end_in a ≡ STOPPED → Ends given line w₀ w₁ spot a (λ l s. applies given line (left_in spot) l i (pos_in spot) s)
      refuses h = record {
        came = row_refused given line ready.fit (left_in spot) i ready.node_in kind plain g A.came h;
        cells = omega (arith, g.cells, A.cells);
        ahead = λ p. omega (arith, g.pos_up, A.ahead p);
      }

      pub ends : (end_in a ≡ FAILED) ⊎ (end_in a ≡ x) → (r : ℕ) → end_in r ≡ x → list_in r ≡ list → Ends given line w₀ w₁ spot r (λ l s. applies given line (left_in spot) l i (pos_in spot) s)
      ends h r e f = record {
        came = came_at given line ready.fit.short (end_in r) (list_in r) (top_in w₁) (made_in w₁) e f refl refl (row_ends given line ready.fit (left_in spot) i ready.node_in kind plain g A.came h);
        cells = omega (arith, g.cells, A.cells);
        ahead = λ p. omega (arith, g.pos_up);
      }

      -- It matched.
      module _ (h : end_in a < STOPPED) where
        low : top_in w₁ + turns_in w₁ < allowance_in given
        low = omega (arith, ready.top_within, g.cells, g.same.turns, A.fewer h, A.came.made_within, A.came.same.turns)

        pub join_ready : (right : ℕ) → right ≡ list_in a → (Arena w₁ (top_in w₁) × ((list ≤ top_in w₁) × (right ≤ top_in w₁))) × ((2048 + 4 * top_in w₁ + 3 < length w₁) × (top_in w₁ < 1073741823))
        join_ready right e =
            let u = g.list_within in
            let v = A.came.top_up in
            let z = A.came.list_within h in
            ((A.came.words.arena, (omega arith, omega arith)), room_tree given line ready.fit A.came.words low)

        module _ (ne : end_in a ≢ x) {w₂ : List ℕ} {list₂ : ℕ} (d : Added w₁ w₂ (top_in w₁) list₂ (top_in w₂) (trees_at w₁ list ⋈ trees_at w₁ (list_in a))) where
          made_stays : made_in w₂ ≡ made_in w₁
          made_stays = added_made d

          pub long : 2048 ≤ length w₂
          long = omega (arith, d.long, A.came.words.room)

          pub full : {w₃ : List ℕ} {code : ℕ} → EnteredInPlace (lent [] given.numbers) w₂ w₃ code → code ≢ 0 → (r : ℕ) → end_in r ≡ STOPPED → list_in r ≡ code * 4096 + end_in a
              → Ends given line w₀ w₃ spot r (λ l s. applies given line (left_in spot) l i (pos_in spot) s)
          full {code = code} (inl e) n r q f =
              let is : code ≡ 11 = e.1 in
              rw e.2 (record {
                came = came_at given line ready.fit.short (end_in r) (list_in r) (top_in w₂) (made_in w₂) q (f ∙ ap (λ c. c * 4096 + end_in a) is) refl made_stays
                    (row_effort given line ready.fit (left_in spot) i ready.node_in kind plain g A.came h ne few low d (omega (arith, e.0, made_stays)));
                cells = omega (arith, g.cells, A.fewer h, d.one, made_stays);
                ahead = λ p. omega (arith, q, ready.pos_within, ready.fit.short);
              })
          full (inr e) n r q f = absurd (n e.1)

          -- The next visit is counted, and the loop goes on.
          module _ {w₃ : List ℕ} {code : ℕ} (e : EnteredInPlace (lent [] given.numbers) w₂ w₃ code) (z : code ≡ 0) where
            counted : (made_in w₂ < allowance_in given) × (w₃ ≡ set w₂ 2043 (made_in w₂ + 1))
            counted = counts (lent [] given.numbers) w₂ w₃ code e z

            top_now : top_in w₃ ≡ top_in w₂
            top_now = rw counted.1 (written_top given line 2043 (omega arith) (omega arith) w₂ (made_in w₂ + 1))

            made_now : made_in w₃ ≡ made_in w₁ + 1
            made_now = rw counted.1 (count_made given line w₂ (made_in w₂ + 1) long) ∙ ap (λ n. n + 1) made_stays

            is_counted : w₃ ≡ set w₂ 2043 (made_in w₁ + 1)
            is_counted = counted.1 ∙ ap (λ n. set w₂ 2043 (n + 1)) made_stays

            pub goes_on : RowIn given line spot i w₀ w₃ (end_in a) list₂
            goes_on = rw (top_now, made_now, is_counted) (row_turns given line ready.fit (left_in spot) i ready.node_in kind plain g A.came h ne few low d (omega (arith, counted.0, made_stays)) (A.fewer h) (A.ahead plain))

            pub nearer : allowance_in given - made_in w₃ < allowance_in given - made_in w
            nearer = omega (arith, made_now, counted.0, made_stays, A.came.made_up)
