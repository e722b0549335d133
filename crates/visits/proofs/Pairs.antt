-- Two visits one after the other, of a sequence: where the second starts, and what comes of both.
use mathlib.Core.Path.{◌≡◌, refl, ◌∙◌}
use mathlib.Core.Logic.{◌≢◌}
use mathlib.Core.Bool.{false}
use mathlib.Core.List.{List}
use Prim.Native.Nat.{ℕ, ◌+◌, ◌*◌, ◌<◌, ◌≤◌}
use native.Mathlib.Omega.{arith}
use lib.ListN.{length}
use Rattle.meaning.specs.Grammar.{Trees, ◌⋈◌, Note}
use Rattle.meaning.specs.Reading.{State, Run, after, second}
use Rattle.cells.specs.Cells.{trees_at}
use Rattle.cells.specs.Arena.{Arena}
use Rattle.visits.specs.Given.{Given, nodes_in, keeps_in, allowance_in, left_in, live_in}
use Rattle.visits.specs.Words.{turns_in, top_in, made_in, Added}
use Rattle.visits.specs.Says.{FAILED, STOPPED, reading, end_in, list_in, after_visit, Came, Visits, Starts, Ends, EndsVisit}
use Rattle.visits.proofs.Steps.{came_at}
use Rattle.visits.proofs.Nodes.{seq_second, seq_join}
use Rattle.visits.proofs.Ready.{ready_next}

-- Cells that are added do not change how many visits are made.
pub added_made : {w w' : List ℕ} {top list top' : ℕ} {ts : Trees} → Added w w' top list top' ts → made_in w' ≡ made_in w
added_made d = d.below 2043 (omega arith) (λ z. absurd (omega arith))

-- Neither refused nor failed: matched.
pub matched : {end a : ℕ} → end ≡ a → a ≤ FAILED → end ≢ STOPPED → end ≢ FAILED → end < STOPPED
matched e h f g = omega arith

module _ (given : Given) (line : List ℕ) {w₀ w₁ : List ℕ} (spot x pos a : ℕ) (ready : Starts given line w₀ spot x pos)
    (first : EndsVisit given line w₀ w₁ spot a (λ l s. reading given line (left_in spot) l x pos s)) (end : ℕ) (ends : end ≡ end_in a) (match : end < STOPPED) (y : ℕ) where
  less : end_in a < STOPPED
  less = omega arith

  pub starts_second : y < nodes_in given → (keeps_in given ≡ false → pos ≤ end) → Starts given line w₁ spot y end
  starts_second inside up = ready_next y end ready first.came first.cells inside (rw ends (first.came.end_within less)) up

  abbrev sequence : List Note → State → Run
  sequence l s = after (reading given line (left_in spot) l x pos s) (second (reading given line (left_in spot) l) y)

  module _ {w₂ : List ℕ} (b : ℕ) (next : Visits given line w₁ w₂ (live_in spot) end (made_in w₁) (top_in w₁) (after_visit b w₂) (λ l s. reading given line (left_in spot) l y end s)) (last : ℕ) (lasts : last ≡ end_in b) where
    came_next : Came given line w₁ w₂ (live_in spot) (made_in w₁) (top_in w₁) (after_visit b w₂) (λ l s. reading given line (left_in spot) l y (end_in a) s)
    came_next = (rw ends at next).came

    -- The second did not match.
    module _ (stop : STOPPED ≤ last) where
      pub sequence_second : Ends given line w₀ w₂ spot b sequence
      sequence_second = record {
        came = seq_second given line ready.fit (reading given line (left_in spot)) x pos first.came y less came_next (omega arith);
        cells = omega (arith, first.cells, next.cells);
        ahead = λ p. omega (arith, first.ahead p, next.ahead p);
      }

    -- Both matched: each made fewer cells than visits, so that there is room for the cell that joins their trees.
    module _ (both : last < STOPPED) where
      reached : end_in b < STOPPED
      reached = omega arith

      cells_left : top_in w₂ + made_in w₀ + 2 ≤ top_in w₀ + made_in w₂
      cells_left = omega (arith, first.fewer less, next.fewer reached)

      low : top_in w₂ + turns_in w₂ < allowance_in given
      low = omega (arith, cells_left, ready.top_within, next.came.made_within, first.came.same.turns, next.came.same.turns)

      module _ {left right : ℕ} (lists : left ≡ list_in a) (listed : right ≡ list_in b) where
        pub join_ready : (Arena w₂ (top_in w₂) × ((left ≤ top_in w₂) × (right ≤ top_in w₂))) × ((2048 + 4 * top_in w₂ + 3 < length w₂) × (top_in w₂ < 1073741823))
        join_ready =
            let t = low in
            let m = ready.fit.allowance in
            let u = next.came.top_up in
            let v = first.came.list_within less in
            let w = next.came.list_within reached in
            let z = next.came.words.room in
            ((next.came.words.arena, (omega arith, omega arith)), (omega arith, omega arith))

        module _ (few : live_in spot + left_in spot ≤ 512) {w₃ : List ℕ} (r : ℕ) (is : end_in r ≡ last) (d : Added w₂ w₃ (top_in w₂) (list_in r) (top_in w₃) (trees_at w₂ left ⋈ trees_at w₂ right)) where
          added : Added w₂ w₃ (top_in w₂) (list_in r) (top_in w₃) (trees_at w₂ (list_in a) ⋈ trees_at w₂ (list_in b))
          added = rw (lists, listed) at d

          cells_joined : top_in w₃ + made_in w₀ ≤ top_in w₀ + made_in w₃
          cells_joined = omega (arith, cells_left, d.one, added_made d)

          pub sequence_joined : Ends given line w₀ w₃ spot r sequence
          sequence_joined = record {
            came = came_at given line ready.fit.short (end_in r) (list_in r) (top_in w₃) (made_in w₃) (is ∙ lasts) refl refl (added_made d)
                (seq_join given line ready.fit (reading given line (left_in spot)) x pos first.came y less came_next reached (omega arith) low added);
            cells = cells_joined;
            ahead = λ p. omega (arith, first.ahead p, next.ahead p);
          }
