-- A new cell: what it leaves, and the trees of its list.
use mathlib.Core.Path.{◌≡◌, refl, sym, ◌∙◌}
use mathlib.Core.Logic.{⊎_elim}
use mathlib.Core.List.{List, [], ◌∷◌}
use native.Mathlib.Omega.{arith}
use native.Mathlib.Nat.{eq-or-lt_of_le}
use Prim.Native.Nat.{ℕ, zero, suc, ◌+◌, ◌*◌, ◌/◌, ◌%◌, ◌<◌, ◌≤◌}
use lib.ListN.{length, get_or}
use lib.Seq.{sets, sets-eq, length-sets, take-length}
use borrow.Rule.Slice.PartMut.{put_mid}
use Rattle.std.proofs.lemmas.Slice.{put_mid-paste}
use borrow.Author.Tests.{le-ltb, lt-ltb}
use Rattle.meaning.specs.Grammar.{Trees, no_trees, tree, ◌⋈◌}
use Rattle.stored.specs.Stored.{records_of, number_of}
use Rattle.meaning.proofs.Sets.{sets_below, sets_above, sets_at}
use Rattle.meaning.proofs.Answers.{join_none}
use Rattle.stored.proofs.Bytes.{records_join, number_join}
use Rattle.cells.specs.Cells.{saturated, mark, packed, cell_trees, lists, trees_at, records_word, trees_word, with_cell, with_tree, with_join, joined, join_of}
use Rattle.cells.specs.Arena.{Arena, Made}
use Rattle.cells.proofs.Frame.{SameCells, trees_none, trees_zero, lists_at, trees_cell, lists_same, trees_same}

-- Words copied to a place, all at once.
pub put_in_place : (words : List ℕ) (at k : ℕ) (xs copied : List ℕ) → copied ≡ xs → k ≡ length xs → at + length xs ≤ length words → put_mid at k words copied ≡ sets words at xs
put_in_place words at k xs copied c e h = rw c (put_mid-paste at k words xs xs (length xs) refl (sym e) refl ∙ rw (take-length xs) (sym (sets-eq xs words at h)))

-- A list that is there already.
pub made_old : (words : List ℕ) (top list : ℕ) (ts : Trees) → Arena words top → list ≤ top → trees_at words list ≡ ts → Made words words top list top ts
made_old words top list ts arena h e = record {
  rise = omega arith;
  one = omega arith;
  within = h;
  is = e;
  arena = arena;
  long = refl;
  below = λ i l. refl;
  above = λ i l. refl;
}

module _ (words : List ℕ) (k f s r t : ℕ) (room : 2048 + 4 * k + 3 < length words) (arena : Arena words k) where
  new : List ℕ
  new = with_cell words k f s r t

  below : (i : ℕ) → i < 2048 + 4 * k → get_or new i 0 ≡ get_or words i 0
  unfolding new with_cell
  below i h = sets_below (f ∷ r ∷ s ∷ t ∷ []) words (2048 + 4 * k) i h

  above : (i : ℕ) → 2048 + 4 * (k + 1) ≤ i → get_or new i 0 ≡ get_or words i 0
  unfolding new with_cell
  above i h = sets_above (f ∷ r ∷ s ∷ t ∷ []) words (2048 + 4 * k) i (omega arith)

  long : length new ≡ length words
  unfolding new with_cell
  long = length-sets words (2048 + 4 * k) (f ∷ r ∷ s ∷ t ∷ [])

  -- The word of the cell that stands at an index.
  word : (j i : ℕ) → j < 4 → i ≡ 2048 + 4 * k + j → get_or new i 0 ≡ get_or (f ∷ r ∷ s ∷ t ∷ []) j 0
  unfolding new with_cell
  word j i h e = rw e (sets_at (f ∷ r ∷ s ∷ t ∷ []) words (2048 + 4 * k) j h (omega arith))

  same : SameCells words new k
  same i a b = below i b

  is : trees_at new (k + 1) ≡ cell_trees f s (lists words k)
  is =
      let w0 : get_or new (2048 + 4 * k) 0 ≡ f = word 0 (2048 + 4 * k) (omega arith) (omega arith) in
      let w1 : get_or new (2050 + 4 * k) 0 ≡ s = word 2 (2050 + 4 * k) (omega arith) (omega arith) in
      trees_cell new k ∙ rw (w0, w1, lists_same words new k same)

  module _ (hf : f ≤ k) (hs : s < mark → s ≤ k) (ts : Trees) (e : cell_trees f s (lists words k) ≡ ts) (er : r ≡ saturated (records_of ts)) (et : t ≡ saturated (number_of ts)) where
    older : (list : ℕ) → list ≤ k → trees_at new list ≡ trees_at words list
    older list h = trees_same words new k list same h

    first : (i : ℕ) → i ≤ k → get_or new (2048 + 4 * i) 0 ≤ i
    first i h =
        ⊎_elim (λ q. rw (q, word 0 (2048 + 4 * k) (omega arith) (omega arith)) hf) (λ l. rw (below (2048 + 4 * i) (omega arith)) (arena.first i l)) (eq-or-lt_of_le h)

    second : (i : ℕ) → i ≤ k → get_or new (2050 + 4 * i) 0 < mark → get_or new (2050 + 4 * i) 0 ≤ i
    second i h =
        ⊎_elim (λ q. rw (q, word 2 (2050 + 4 * k) (omega arith) (omega arith)) hs) (λ l. rw (below (2050 + 4 * i) (omega arith)) (arena.second i l)) (eq-or-lt_of_le h)

    records : (list : ℕ) → list ≤ k + 1 → records_word new list ≡ saturated (records_of (trees_at new list))
    records list h =
        ⊎_elim (λ q. rw (q, word 1 (2045 + 4 * (k + 1)) (omega arith) (omega arith), is, e) er)
        (λ l. rw (below (2045 + 4 * list) (omega arith), older list (omega arith)) (arena.records list (omega arith)))
        (eq-or-lt_of_le h)

    trees : (list : ℕ) → list ≤ k + 1 → trees_word new list ≡ saturated (number_of (trees_at new list))
    trees list h =
        ⊎_elim (λ q. rw (q, word 3 (2047 + 4 * (k + 1)) (omega arith) (omega arith), is, e) et)
        (λ l. rw (below (2047 + 4 * list) (omega arith), older list (omega arith)) (arena.trees list (omega arith)))
        (eq-or-lt_of_le h)

    pub made_cell : Made words (with_cell words k f s r t) k (k + 1) (k + 1) ts
    unfolding new
    made_cell = record {
      rise = omega arith;
      one = omega arith;
      within = omega arith;
      is = is ∙ e;
      arena = record { long = omega (arith, long); first = λ i h. first i (omega arith); second = λ i h. second i (omega arith); records = records; trees = trees };
      long = long;
      below = below;
      above = above;
    }

-- What is packed is unpacked.
module _ (a x e : ℕ) (ha : a < 64) (hx : x < 4096) (he : e < 4096) where
  rule_is : packed a x e / 16777216 % 64 ≡ a
  rule_is = omega arith

  start_is : packed a x e / 4096 % 4096 ≡ x
  start_is = omega arith

  end_is : packed a x e % 4096 ≡ e
  end_is = omega arith

-- Saturated counts of two lists give that of both.
saturated_sum : (a b p q n m : ℕ) → p ≡ saturated a → q ≡ saturated b → n ≡ saturated (p + q) → m ≡ a + b → n ≡ saturated m
saturated_sum a b p q n m ep eq en em = omega arith

module _ (words : List ℕ) (k : ℕ) (room : 2048 + 4 * k + 3 < length words) (arena : Arena words k) where
  pub made_tree : (a x e children : ℕ) → a < 64 → x < 4096 → e < 4096 → children ≤ k → Made words (with_tree words k a x e children) k (k + 1) (k + 1) (tree a x e (trees_at words children) no_trees)
  unfolding cell_trees records_of number_of
  made_tree a x e children ha hx he hc =
      made_cell words k children (packed a x e) (saturated (records_word words children + 1)) 1 room arena hc (λ h. omega arith) (tree a x e (trees_at words children) no_trees)
      (rw (le-ltb (packed a x e) mark (omega arith), rule_is a x e ha hx he, start_is a x e ha hx he, end_is a x e ha hx he, lists_at words k children hc))
      (omega (arith, arena.records children hc))
      refl

  pub made_join : (f s : ℕ) → f ≤ k → s ≤ k → k < mark → Made words (with_join words k f s) k (k + 1) (k + 1) (trees_at words f ⋈ trees_at words s)
  unfolding cell_trees
  made_join f s hf hs hk =
      made_cell words k f s _ _ room arena hf (λ h. hs) (trees_at words f ⋈ trees_at words s)
      (rw (lt-ltb s mark (omega arith), lists_at words k f hf, lists_at words k s hs))
      (saturated_sum _ _ _ _ _ _ (arena.records f hf) (arena.records s hs) refl (records_join (trees_at words f) (trees_at words s)))
      (saturated_sum _ _ _ _ _ _ (arena.trees f hf) (arena.trees s hs) refl (number_join (trees_at words f) (trees_at words s)))

-- Before the first cell.
pub no_cells : (words : List ℕ) → 2048 ≤ length words → Arena (sets words 2045 (0 ∷ 0 ∷ 0 ∷ [])) 0
unfolding records_of number_of
no_cells words h =
    let new = sets words 2045 (0 ∷ 0 ∷ 0 ∷ []) in
    record {
      long = omega (arith, length-sets words 2045 (0 ∷ 0 ∷ 0 ∷ []));
      first = λ k u. absurd (omega arith);
      second = λ k u. absurd (omega arith);
      records = λ list u. let z : list ≡ 0 = omega arith in rw z (rw (trees_none new) (sets_at (0 ∷ 0 ∷ 0 ∷ []) words 2045 0 (omega arith) (omega arith)));
      trees = λ list u. let z : list ≡ 0 = omega arith in rw z (rw (trees_none new) (sets_at (0 ∷ 0 ∷ 0 ∷ []) words 2045 2 (omega arith) (omega arith)));
    }

-- Joining, where a side is empty and where none is.
words_left : (words : List ℕ) (top f s : ℕ) → (f ≡ 0 → ⊥) → s ≡ 0 → joined words f top ≡ join_of words top f s
unfolding join_of
words_left words top zero s n z = absurd (n refl)
words_left words top (suc f) s n z = rw z

words_both : (words : List ℕ) (top f s : ℕ) → (f ≡ 0 → ⊥) → (s ≡ 0 → ⊥) → joined (with_join words top f s) (top + 1) (top + 1) ≡ join_of words top f s
unfolding join_of
words_both words top zero s n m = absurd (n refl)
words_both words top (suc f) zero n m = absurd (m refl)
words_both words top (suc f) (suc s) n m = refl

module _ (words : List ℕ) (top f s : ℕ) (arena : Arena words top) (hf : f ≤ top) (hs : s ≤ top) where
  pub join_right : f ≡ 0 → (joined words s top ≡ join_of words top f s) × Made words words top s top (trees_at words f ⋈ trees_at words s)
  unfolding join_of
  join_right z = (rw z, made_old words top s _ arena hs (rw (trees_zero words f z)))

  pub join_left : (f ≡ 0 → ⊥) → s ≡ 0 → (joined words f top ≡ join_of words top f s) × Made words words top f top (trees_at words f ⋈ trees_at words s)
  join_left n z = (words_left words top f s n z, made_old words top f _ arena hf (rw (trees_zero words s z) (sym (join_none (trees_at words f)))))

  pub join_both : (new : List ℕ) → (f ≡ 0 → ⊥) → (s ≡ 0 → ⊥) → 2048 + 4 * top + 3 < length words → top < mark → new ≡ with_join words top f s
      → (joined new (top + 1) (top + 1) ≡ join_of words top f s) × Made words new top (top + 1) (top + 1) (trees_at words f ⋈ trees_at words s)
  join_both new n m room h e = (rw e (words_both words top f s n m), rw e (made_join words top room arena f s hf hs h))
