-- A list of trees is made, and the number of cells in use is written in its word: no other word below the new cell changes.
use mathlib.Core.Path.{◌≡◌, sym, subst, ◌∙◌}
use mathlib.Core.List.{List, [], ◌∷◌}
use native.Mathlib.Omega.{arith}
use Prim.Native.Nat.{ℕ}
use lib.ListN.{set, length-set}
use lib.Seq.{get_or-set_same, get_or-set_other}
use Rattle.meaning.specs.Grammar.{Trees}
use Rattle.cells.specs.Arena.{Made}
use Rattle.cells.proofs.Frame.{same_below, trees_same, arena_below}
use Rattle.visits.specs.Words.{top_in, Added}

pub top_written : {old mid : List ℕ} {top list top' : ℕ} {ts : Trees} → Made old mid top list top' ts → top_in (set mid 2042 top') ≡ top'
top_written {mid = mid} {top' = top'} made = let long = made.arena.long in get_or-set_same mid 2042 top' 0 (omega arith)

pub added : {old mid : List ℕ} {top list top' : ℕ} {ts : Trees} → Made old mid top list top' ts
    → Added old (set mid 2042 top') top list (top_in (set mid 2042 top')) ts
added {old} {mid} {top} {list} {top'} {ts} made = subst (λ (n : ℕ). Added old (set mid 2042 top') top list n ts) (sym (top_written made)) (record {
  rise = made.rise;
  one = made.one;
  within = made.within;
  is = trees_same mid (set mid 2042 top') top' list (same_below mid top' 2042 (top' ∷ []) (omega arith)) made.within ∙ made.is;
  arena = arena_below mid top' 2042 (top' ∷ []) (omega arith) made.arena;
  long = length-set mid 2042 top' ∙ made.long;
  below = λ i h other. get_or-set_other mid 2042 i top' 0 other ∙ made.below i h;
  above = λ i h. get_or-set_other mid 2042 i top' 0 (λ e. absurd (omega arith)) ∙ made.above i h;
})
