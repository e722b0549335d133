-- What is kept true of the cells, and what making a list of trees leaves.
use Rattle.std.specs.Prelude.{◌≡◌, List, ℕ, ◌+◌, ◌*◌, ◌<◌, ◌≤◌, length, get_or}
use Rattle.meaning.specs.Grammar.{Trees}
use Rattle.stored.specs.Stored.{records_of, number_of}
use Rattle.cells.specs.Cells.{cells, mark, saturated, trees_at, records_word, trees_word}

-- The cells below top: each is made of lists below it, and the counts of each list are right.
pub record Arena (words : List ℕ) (top : ℕ) : Type 0 where
  pub long : cells + 4 * top ≤ length words
  pub first : (k : ℕ) → k < top → get_or words (cells + 4 * k) 0 ≤ k
  pub second : (k : ℕ) → k < top → get_or words (cells + 2 + 4 * k) 0 < mark → get_or words (cells + 2 + 4 * k) 0 ≤ k
  pub records : (list : ℕ) → list ≤ top → records_word words list ≡ saturated (records_of (trees_at words list))
  pub trees : (list : ℕ) → list ≤ top → trees_word words list ≡ saturated (number_of (trees_at words list))

-- A list that stands for given trees was made with at most one cell, at top; no other word changed.
pub record Made (old new : List ℕ) (top list top' : ℕ) (ts : Trees) : Type 0 where
  pub rise : top ≤ top'
  pub one : top' ≤ top + 1
  pub within : list ≤ top'
  pub is : trees_at new list ≡ ts
  pub arena : Arena new top'
  pub long : length new ≡ length old
  pub below : (i : ℕ) → i < cells + 4 * top → get_or new i 0 ≡ get_or old i 0
  pub above : (i : ℕ) → cells + 4 * top' ≤ i → get_or new i 0 ≡ get_or old i 0
