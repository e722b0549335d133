-- Writing the records of a list from its end to its front, cell by cell, and the whole stored reading of one tree.
use mathlib.Core.Path.{◌≡◌, refl, sym, ap, ◌∙◌}
use mathlib.Core.List.{List, [], ◌∷◌, ◌++◌, append-nil}
use native.Mathlib.Omega.{arith}
use native.Mathlib.Nat.{mul-add, mul-one}
use Prim.Native.Nat.{ℕ, zero, suc, ◌+◌, ◌-◌, ◌*◌, ◌<◌, ◌≤◌}
use lib.ListN.{length, set}
use lib.Seq.{sets, length-sets, set_comm}
use Rattle.meaning.specs.Grammar.{Trees, no_trees, tree, ◌⋈◌}
use Rattle.stored.specs.Stored.{records_of, number_of, record_size, record_bytes, trees_bytes, stored_length, head_bytes, stored_of, with_stored}
use Rattle.meaning.proofs.Sets.{sets_on, sets_front}
use Rattle.stored.proofs.Bytes.{length_head, length_trees, length_stored, bytes_join, records_join, records_tree, number_few}
use Rattle.cells.specs.Cells.{saturated, trees_at, Wrote}
use Rattle.cells.proofs.Frame.{trees_none, trees_zero}

-- What is written in front of what was written behind is as good as both written at once.
set_front : (ys room : List ℕ) (at next x : ℕ) → at < next → set (sets room next ys) at x ≡ sets (set room at x) next ys
set_front [] room at next x h = refl
set_front (y ∷ ys) room at next x h = set_front ys (set room next y) at (suc next) x (omega arith) ∙ rw (set_comm room next at y x (λ e. omega arith))

sets_behind : (xs ys room : List ℕ) (at next : ℕ) → next ≡ at + length xs → sets (sets room next ys) at xs ≡ sets room at (xs ++ ys)
sets_behind [] ys room at next e = let z : next ≡ at = omega arith in rw z
sets_behind (x ∷ xs) ys room at next e = rw (set_front ys room at next x (omega arith)) (sets_behind xs ys (set room at x) (suc at) next (omega arith))

-- A join: the records of the left side, then those of the right.
module _ (ts left right : Trees) (is : left ⋈ right ≡ ts) where
  pub records_both : records_of ts ≡ records_of left + records_of right
  records_both = ap records_of (sym is) ∙ records_join left right

  pub bytes_both : (width : ℕ) → record_size width * records_of ts ≡ record_size width * records_of left + record_size width * records_of right
  bytes_both width = ap (λ (n : ℕ). record_size width * n) records_both ∙ mul-add (record_size width) _ _

  join_bytes : (width : ℕ) → trees_bytes width ts ≡ trees_bytes width left ++ trees_bytes width right
  join_bytes width = ap (trees_bytes width) (sym is) ∙ bytes_join width left right

-- A tree: the records of its children, then its own.
module _ (ts children : Trees) (a x y : ℕ) (is : tree a x y children no_trees ≡ ts) where
  pub records_one : records_of ts ≡ 1 + records_of children
  records_one = ap records_of (sym is) ∙ records_tree a x y children

  pub bytes_one : (width : ℕ) → record_size width * records_of ts ≡ record_size width + record_size width * records_of children
  bytes_one width = ap (λ (n : ℕ). record_size width * n) records_one ∙ mul-add (record_size width) 1 _ ∙ rw (mul-one (record_size width))

  tree_bytes : (width : ℕ) → trees_bytes width ts ≡ trees_bytes width children ++ record_bytes width a x y (number_of children)
  unfolding trees_bytes
  tree_bytes width = ap (trees_bytes width) (sym is) ∙ rw (append-nil (record_bytes width a x y (number_of children)))

-- Along a list, from its end to its front: what is left to write, as far as a place, gives the whole.
pub record Along (words room₀ room : List ℕ) (width list end rest to : ℕ) : Type 0 where
  pub within : rest ≤ list
  pub few : records_of (trees_at words rest) ≤ 1000
  pub long : length room ≡ length room₀
  pub order : to ≤ end
  pub start : ℕ
  pub left : to ≡ start + record_size width * records_of (trees_at words rest)
  pub same : Wrote room₀ (sets room start (trees_bytes width (trees_at words rest))) width end (trees_at words list)

pub along_all : (words room : List ℕ) (width list end : ℕ) → records_of (trees_at words list) ≤ 1000 → record_size width * records_of (trees_at words list) ≤ end → Along words room room width list end list end
along_all words room width list end few h = record {
  within = omega arith;
  few = few;
  long = refl;
  order = omega arith;
  start = end - record_size width * records_of (trees_at words list);
  left = omega arith;
  same = refl;
}

module _ {words room₀ room : List ℕ} {width list end rest to : ℕ} (along : Along words room₀ room width list end rest to) where
  pub along_none : rest ≡ 0 → Wrote room₀ room width end (trees_at words list)
  unfolding trees_bytes
  along_none z = let n : trees_at words rest ≡ no_trees = trees_zero words rest z in rw n at along.same

  abbrev whole : Trees
  whole = trees_at words rest

  -- What stands behind the first list is written: the first list is left.
  first_left : (front : ℕ) (xs mid : List ℕ) (next : ℕ) → front < rest → trees_bytes width whole ≡ trees_bytes width (trees_at words front) ++ xs → mid ≡ sets room next xs
      → records_of (trees_at words front) ≤ 1000 → next ≤ to → next ≡ along.start + record_size width * records_of (trees_at words front)
      → Along words room₀ mid width list end front next
  first_left front xs mid next below b e few h en =
      let l = length_trees width (trees_at words front) in
      let s : sets mid along.start (trees_bytes width (trees_at words front)) ≡ sets room along.start (trees_bytes width whole) =
      rw (e, b) (sets_behind (trees_bytes width (trees_at words front)) xs room along.start next (omega arith)) in
      record {
        within = omega (arith, along.within);
        few = few;
        long = rw e (length-sets room next xs ∙ along.long);
        order = omega (arith, along.order);
        start = along.start;
        left = en;
        same = s ∙ along.same;
      }

  -- One tree: its record is written, its children are left.
  pub along_tree : (a x y children : ℕ) → tree a x y (trees_at words children) no_trees ≡ whole → children < rest → (mid : List ℕ) (next n : ℕ)
      → n ≡ saturated (number_of (trees_at words children)) → to ≡ next + record_size width → mid ≡ sets room next (record_bytes width a x y n) → Along words room₀ mid width list end children next
  along_tree a x y children is below mid next n en et e =
      let r = records_one whole (trees_at words children) a x y is in
      let c = number_few (trees_at words children) in
      let n' : n ≡ number_of (trees_at words children) = omega (arith, along.few) in
      first_left children _ mid next below (tree_bytes whole (trees_at words children) a x y is width) (rw n' at e) (omega (arith, along.few)) (omega arith)
      (omega (arith, along.left, bytes_one whole (trees_at words children) a x y is width))

  -- Two lists joined, and where the second starts, by its count.
  module _ (left right : ℕ) (is : trees_at words left ⋈ trees_at words right ≡ whole) (below : (left < rest) × (right < rest)) (count : ℕ)
      (counted : count ≡ saturated (records_of (trees_at words right))) where
    few_both : records_of (trees_at words left) + records_of (trees_at words right) ≤ 1000
    few_both = omega (arith, along.few, records_both whole (trees_at words left) (trees_at words right) is)

    right_is : record_size width * count ≡ record_size width * records_of (trees_at words right)
    right_is = let e : count ≡ records_of (trees_at words right) = omega (arith, counted, few_both) in rw e

    pub between_is : to ≡ along.start + record_size width * records_of (trees_at words left) + record_size width * count
    between_is = omega (arith, along.left, bytes_both whole (trees_at words left) (trees_at words right) is width, right_is)

    -- The second is written, the first is left.
    pub along_first : (mid : List ℕ) → Wrote room mid width to (trees_at words right) → Along words room₀ mid width list end left (to - record_size width * count)
    along_first mid w =
        first_left left _ mid (to - record_size width * count) below.0 (join_bytes whole (trees_at words left) (trees_at words right) is width) (rw right_is w)
        (omega (arith, few_both)) (omega arith) (omega (arith, between_is))

    -- The first is written, the second is left.
    pub along_second : (between : ℕ) (mid : List ℕ) → between ≡ to - record_size width * count → Wrote room mid width between (trees_at words left) → Along words room₀ mid width list end right to
    along_second between mid eb wrote =
        let w : Wrote room mid width (to - record_size width * count) (trees_at words left) = rw eb at wrote in
        let front = trees_bytes width (trees_at words left) in
        let at : to - record_size width * count - record_size width * records_of (trees_at words left) ≡ along.start = omega (arith, between_is) in
        let e : mid ≡ sets room along.start front = w ∙ rw at in
        let next : to - record_size width * count ≡ along.start + length front = omega (arith, between_is, length_trees width (trees_at words left)) in
        let s = sets_on room along.start (to - record_size width * count) front (trees_bytes width (trees_at words right)) mid (sets mid (to - record_size width * count) (trees_bytes width (trees_at words right))) next e refl in
        record {
          within = omega (arith, along.within, below);
          few = omega (arith, few_both);
          long = rw e (length-sets room along.start front ∙ along.long);
          order = along.order;
          start = to - record_size width * count;
          left = omega (arith, between_is, right_is);
          same = (s ∙ rw (join_bytes whole (trees_at words left) (trees_at words right) is width)) ∙ along.same;
        }

-- One record is one tree without children.
no_records : (ts : Trees) → records_of ts ≡ 0 → ts ≡ no_trees
unfolding records_of
no_records no_trees e = refl
no_records (tree a x e cs ts) h = absurd (omega arith)

one_record : (ts : Trees) → 1 ≡ saturated (records_of ts) → records_of ts ≡ 1
one_record ts one = omega arith

pub one_size : (ts : Trees) → 1 ≡ saturated (records_of ts) → (width : ℕ) → record_size width * records_of ts ≡ record_size width
one_size ts one width = rw (one_record ts one) (mul-one (record_size width))

-- A list with a record is not empty.
pub some_list : (words : List ℕ) (list : ℕ) → 1 ≡ saturated (records_of (trees_at words list)) → 0 < list
unfolding records_of
some_list words zero one = let e : records_of no_trees ≡ 1 = rw (trees_none words) at (one_record (trees_at words 0) one) in absurd (omega arith)
some_list words (suc list) one = omega arith

pub leaf_wrote : (ts children : Trees) (a x y : ℕ) → tree a x y children no_trees ≡ ts → 1 ≡ saturated (records_of ts) → (room new : List ℕ) (width end : ℕ)
    → new ≡ sets room (end - record_size width) (record_bytes width a x y 0) → Wrote room new width end ts
unfolding trees_bytes number_of
leaf_wrote ts children a x y is one room new width end e =
    let none : children ≡ no_trees = no_records children (omega (arith, one_record ts one, records_one ts children a x y is)) in
    let bytes = rw none at (tree_bytes ts children a x y is width) in
    rw (one_record ts one, mul-one (record_size width), bytes) e

-- Of few records the count is right, and so is the end that is taken from it.
pub end_is : (width n : ℕ) (ts : Trees) → records_of ts ≤ 1000 → n ≡ saturated (records_of ts) → stored_length width n ≡ stored_length width (records_of ts)
end_is width n ts few e = let n' : n ≡ records_of ts = omega arith in rw n'

-- The whole stored reading: the head, then the records.
pub all_wrote : (room r₁ r₂ : List ℕ) (width n end : ℕ) (ts : Trees) → records_of ts ≤ 1000 → stored_length width (records_of ts) ≤ length room
    → n ≡ saturated (records_of ts) → r₁ ≡ sets room 0 (head_bytes width n) → end ≡ stored_length width n → Wrote r₁ r₂ width end ts → r₂ ≡ with_stored room width ts
unfolding stored_of
all_wrote room r₁ r₂ width n end ts few fits en e₁ ee w₂ =
    let h = head_bytes width (records_of ts) in
    let xs = trees_bytes width ts in
    let n' : n ≡ records_of ts = omega arith in
    let lh : length h ≡ 5 = length_head width (records_of ts) in
    let s : r₂ ≡ sets room 0 (h ++ xs) = sets_on room 0 (end - record_size width * records_of ts) h xs r₁ r₂ (omega (arith, ee, end_is width n ts few en)) (rw n' at e₁) w₂ in
    let l : length (h ++ xs) ≡ stored_length width (records_of ts) = length_stored width ts in
    s ∙ sets_front room (h ++ xs) (omega arith) ∙ rw l
