-- The trees of a list, and the frame: what lies below is not changed by any change above or beside the cells.
use mathlib.Core.Path.{◌≡◌, refl, sym, ◌∙◌}
use mathlib.Core.Logic.{⊎_elim}
use mathlib.Core.List.{List, []}
use native.Mathlib.Omega.{arith}
use native.Mathlib.Numerals.{add-one}
use native.Mathlib.Nat.{eq-or-lt_of_le}
use Prim.Native.Nat.{ℕ, zero, suc, ◌+◌, ◌-◌, ◌*◌, ◌/◌, ◌%◌, ◌<◌, ◌≤◌}
use lib.ListN.{length, get_or, length-append, get_or-append}
use lib.Seq.{sets, length-sets, get_or_at}
use borrow.Author.Tests.{le-ltb, lt-ltb}
use Rattle.meaning.specs.Grammar.{no_trees, tree, ◌⋈◌}
use Rattle.meaning.proofs.Sets.{sets_above}
use Rattle.cells.specs.Cells.{mark, cell_trees, lists, trees_at}
use Rattle.cells.specs.Arena.{Arena}

length_lists : (words : List ℕ) (k : ℕ) → length (lists words k) ≡ suc k
unfolding lists
length_lists words zero = refl
length_lists words (suc k) = length-append (lists words k) _ ∙ rw (length_lists words k) (add-one _)

-- List 0 is empty.
pub trees_none : (words : List ℕ) → trees_at words 0 ≡ no_trees
unfolding trees_at lists
trees_none words = refl

pub trees_zero : (words : List ℕ) (list : ℕ) → list ≡ 0 → trees_at words list ≡ no_trees
trees_zero words list z = rw z (trees_none words)

-- A list is the same however many lists are there.
pub lists_at : (words : List ℕ) (k list : ℕ) → list ≤ k → get_or (lists words k) list no_trees ≡ trees_at words list
unfolding trees_at lists
lists_at words zero list h = let e : list ≡ 0 = omega arith in rw e
lists_at words (suc k) list h =
    ⊎_elim (λ e. rw e) (λ l. get_or-append (lists words k) _ no_trees list (omega (arith, length_lists words k)) ∙ lists_at words k list (omega arith)) (eq-or-lt_of_le h)

-- The trees of a cell, by its first and second.
pub trees_cell : (words : List ℕ) (k : ℕ) → trees_at words (k + 1) ≡ cell_trees (get_or words (2048 + 4 * k) 0) (get_or words (2050 + 4 * k) 0) (lists words k)
unfolding trees_at lists
trees_cell words k = rw (add-one k) (get_or_at (lists words k) _ [] no_trees (suc k) (length_lists words k))

module _ (words : List ℕ) (top k : ℕ) (arena : Arena words top) (h : k < top) where
  pub trees_join : get_or words (2050 + 4 * k) 0 < mark → trees_at words (k + 1) ≡ trees_at words (get_or words (2048 + 4 * k) 0) ⋈ trees_at words (get_or words (2050 + 4 * k) 0)
  unfolding cell_trees
  trees_join m =
      trees_cell words k
      ∙ rw (lt-ltb (get_or words (2050 + 4 * k) 0) mark m, lists_at words k (get_or words (2048 + 4 * k) 0) (arena.first k h), lists_at words k (get_or words (2050 + 4 * k) 0) (arena.second k h m))

  pub trees_tree : mark ≤ get_or words (2050 + 4 * k) 0
      → trees_at words (k + 1)
      ≡ tree (get_or words (2050 + 4 * k) 0 / 16777216 % 64) (get_or words (2050 + 4 * k) 0 / 4096 % 4096) (get_or words (2050 + 4 * k) 0 % 4096) (trees_at words (get_or words (2048 + 4 * k) 0)) no_trees
  unfolding cell_trees
  trees_tree m = trees_cell words k ∙ rw (le-ltb (get_or words (2050 + 4 * k) 0) mark m, lists_at words k (get_or words (2048 + 4 * k) 0) (arena.first k h))

-- The trees of a list that is not empty, by the words of its cell.
module _ (words : List ℕ) (list : ℕ) (arena : Arena words list) (some : 0 < list) where
  at_first : 2048 + 4 * (list - 1) ≡ 2044 + 4 * list
  at_first = omega arith

  at_second : 2050 + 4 * (list - 1) ≡ 2044 + 4 * list + 2
  at_second = omega arith

  back : list - 1 + 1 ≡ list
  back = omega arith

  pub cell_join : get_or words (2044 + 4 * list + 2) 0 < mark → trees_at words (get_or words (2044 + 4 * list) 0) ⋈ trees_at words (get_or words (2044 + 4 * list + 2) 0) ≡ trees_at words list
  cell_join m = sym ((rw (back, at_first, at_second) at (trees_join words list (list - 1) arena (omega arith))) m)

  pub cell_tree : mark ≤ get_or words (2044 + 4 * list + 2) 0
      → tree (get_or words (2044 + 4 * list + 2) 0 / 16777216 % 64) (get_or words (2044 + 4 * list + 2) 0 / 4096 % 4096) (get_or words (2044 + 4 * list + 2) 0 % 4096) (trees_at words (get_or words (2044 + 4 * list) 0)) no_trees
      ≡ trees_at words list
  cell_tree m = sym ((rw (back, at_first, at_second) at (trees_tree words list (list - 1) arena (omega arith))) m)

-- The words of the cells below top, and those of list 0, are the same.
abbrev pub SameCells : List ℕ → List ℕ → ℕ → Type 0
SameCells old new top = (i : ℕ) → 2045 ≤ i → i < 2048 + 4 * top → get_or new i 0 ≡ get_or old i 0

-- Words are written below the cells.
pub same_below : (words : List ℕ) (top at : ℕ) (xs : List ℕ) → at + length xs ≤ 2045 → SameCells words (sets words at xs) top
same_below words top at xs h i a b = sets_above xs words at i (omega arith)

pub lists_same : (old new : List ℕ) (k : ℕ) → SameCells old new k → lists new k ≡ lists old k
unfolding lists
lists_same old new zero h = refl
lists_same old new (suc k) h =
    let a : lists new k ≡ lists old k = lists_same old new k (λ i l u. h i l (omega arith)) in
    let f : get_or new (2048 + 4 * k) 0 ≡ get_or old (2048 + 4 * k) 0 = h _ (omega arith) (omega arith) in
    let s : get_or new (2050 + 4 * k) 0 ≡ get_or old (2050 + 4 * k) 0 = h _ (omega arith) (omega arith) in
    rw (a, f, s)

-- Where the cells are the same, every list of them stands for the same trees, and what is kept true of them stays true.
pub trees_same : (old new : List ℕ) (top list : ℕ) → SameCells old new top → list ≤ top → trees_at new list ≡ trees_at old list
unfolding trees_at
trees_same old new top list h l = rw (lists_same old new list (λ i a b. h i a (omega arith)))

pub arena_same : (old new : List ℕ) (top : ℕ) → SameCells old new top → length new ≡ length old → Arena old top → Arena new top
arena_same old new top h e a = record {
  long = let z = a.long in omega arith;
  first = λ k u. rw (h (2048 + 4 * k) (omega arith) (omega arith)) (a.first k u);
  second = λ k u. rw (h (2050 + 4 * k) (omega arith) (omega arith)) (a.second k u);
  records = λ list u. rw (h (2045 + 4 * list) (omega arith) (omega arith), trees_same old new top list h u) (a.records list u);
  trees = λ list u. rw (h (2047 + 4 * list) (omega arith) (omega arith), trees_same old new top list h u) (a.trees list u);
}

pub arena_less : (words : List ℕ) (top k : ℕ) → k ≤ top → Arena words top → Arena words k
arena_less words top k h a = record {
  long = let z = a.long in omega arith;
  first = λ i u. a.first i (omega arith);
  second = λ i u. a.second i (omega arith);
  records = λ i u. a.records i (omega arith);
  trees = λ i u. a.trees i (omega arith);
}

pub arena_below : (words : List ℕ) (top at : ℕ) (xs : List ℕ) → at + length xs ≤ 2045 → Arena words top → Arena (sets words at xs) top
arena_below words top at xs h a = arena_same words (sets words at xs) top (same_below words top at xs h) (length-sets words at xs) a
