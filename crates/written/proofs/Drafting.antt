-- The numbers that the code keeps are a picture of what is written: over both the machine does the same.
use mathlib.Core.Path.{◌≡◌, refl, sym, ap, ◌∙◌, subst}
use mathlib.Core.List.{List, [], ◌∷◌}
use mathlib.Core.Option.{map}
use Prim.Native.Nat.{ℕ, suc, ◌+◌, ◌*◌, ◌-◌, ◌/◌, ◌%◌, ◌<◌}
use native.Mathlib.Numerals.{add-one}
use native.Mathlib.Omega.{arith}
use lib.ListN.{length, length-append}
use lib.Dec.{leb, leb-suc-zero}
use Rattle.meaning.proofs.Choose.{by_test_twice}
use Rattle.written.specs.Written.{Name, Written, name, range, star, plus, maybe, deny, then, or, Line}
use Rattle.written.specs.Numbered.{last}
use Rattle.written.specs.Machine.{between, Outcome, refused, read, run}
use Rattle.written.specs.Draft.{Mark, Draft, drafts, blank, holding, join_from, joined, leave, ended_line}
use Rattle.written.specs.Flat.{word}
use Rattle.written.proofs.Trees.{Frame, bracket, row_of, item_of, bang, Tree, Grown, with_frames, Pair, gather, gathered, hold_as, leave_in, end_in, trees, bare}
use Rattle.written.proofs.Mapped.{Maps, OfSome, map_outcome, ClearOutcome, same_run, clear_run}

-- The nodes of what is written, newest first, each as b, a and kind, put on those before; the first has number s.
unfoldable pub onto : ℕ → Written → List ℕ → List ℕ
onto s (name n) ns = 0 ∷ word n ∷ 2 ∷ ns
onto s (range lowest highest) ns = highest ∷ lowest ∷ 1 ∷ ns
onto s (star e) ns = 0 ∷ last s e ∷ 6 ∷ onto s e ns
onto s (plus e) ns = suc (last s e) ∷ last s e ∷ 3 ∷ 0 ∷ last s e ∷ 6 ∷ onto s e ns
onto s (maybe e) ns = suc (last s e) ∷ last s e ∷ 4 ∷ 0 ∷ 0 ∷ 0 ∷ onto s e ns
onto s (deny e) ns = 0 ∷ last s e ∷ 5 ∷ onto s e ns
onto s (then a b) ns = last (suc (last s a)) b ∷ last s a ∷ 3 ∷ onto (suc (last s a)) b (onto s a ns)
onto s (or a b) ns = last (suc (last s a)) b ∷ last s a ∷ 4 ∷ onto (suc (last s a)) b (onto s a ns)

-- Of the lines that are done, newest first: how many nodes they have, their nodes, and of each its root and its name.
unfoldable pub done_count : List Line → ℕ
done_count [] = 0
done_count (l ∷ ls) = suc (last (done_count ls) l.alternatives)

unfoldable pub done_nodes : List Line → List ℕ
done_nodes [] = []
done_nodes (l ∷ ls) = onto (done_count ls) l.alternatives (done_nodes ls)

unfoldable pub done_words : List Line → List ℕ
done_words [] = []
done_words (l ∷ ls) = last (done_count ls) l.alternatives ∷ word l.name ∷ done_words ls

-- With what is held back, newest first, where s nodes were made before.
unfoldable pub held_count : ℕ → List Frame → ℕ
held_count s [] = s
held_count s (bracket ∷ fs) = held_count s fs
held_count s (row_of v ∷ fs) = suc (last (held_count s fs) v)
held_count s (item_of v ∷ fs) = suc (last (held_count s fs) v)
held_count s (bang ∷ fs) = held_count s fs

unfoldable pub held_nodes : ℕ → List ℕ → List Frame → List ℕ
held_nodes s ns [] = ns
held_nodes s ns (bracket ∷ fs) = held_nodes s ns fs
held_nodes s ns (row_of v ∷ fs) = onto (held_count s fs) v (held_nodes s ns fs)
held_nodes s ns (item_of v ∷ fs) = onto (held_count s fs) v (held_nodes s ns fs)
held_nodes s ns (bang ∷ fs) = held_nodes s ns fs

unfoldable pub held_words : ℕ → List Frame → List ℕ
held_words s [] = []
held_words s (bracket ∷ fs) = 0 ∷ held_words s fs
held_words s (row_of v ∷ fs) = (last (held_count s fs) v * 4 + 1) ∷ held_words s fs
held_words s (item_of v ∷ fs) = (last (held_count s fs) v * 4 + 2) ∷ held_words s fs
held_words s (bang ∷ fs) = 3 ∷ held_words s fs

abbrev pub mark_of : Name → Mark
mark_of n = record { place = n.place; count = length n.letters }

abbrev pub draft_of : Tree → Draft
draft_of t = record {
  line = word t.name;
  held = held_words (done_count t.done) t.frames;
  made = held_count (done_count t.done) t.frames;
  nodes = held_nodes (done_count t.done) (done_nodes t.done) t.frames;
  done = done_words t.done;
  count = length t.done;
}

-- The same with an item that has just been read.
abbrev pub draft_with : Tree → Written → Draft
draft_with t w = record {
  line = word t.name;
  held = (draft_of t).held;
  made = suc (last (draft_of t).made w);
  nodes = onto (draft_of t).made w (draft_of t).nodes;
  done = done_words t.done;
  count = length t.done;
}

abbrev pub full_of : Grown → Draft
full_of p = draft_with p.tree p.current

less_one : (n : ℕ) → suc n - 1 ≡ n
less_one n = omega arith

-- A number below 4 put behind another.
rest : (n r : ℕ) → r < 4 → (n * 4 + r) % 4 ≡ r
rest n r h = omega arith

quarter : (n r : ℕ) → r < 4 → (n * 4 + r) / 4 ≡ n
quarter n r h = omega arith

abbrev regrown : Tree → Pair → Draft
regrown t p = draft_with (with_frames t p.frames) p.current

-- To join what is held back is to put it around the item.
joins : (r : ℕ) (t : Tree) (fs : List Frame) (w : Written) (hs : List ℕ)
    → join_from (suc r) (held_words (done_count t.done) fs) (holding hs (draft_with (with_frames t fs) w)) ≡ regrown t (gather (suc r) fs w)
unfolding join_from gather held_words held_count held_nodes onto
joins r t [] w hs = refl
joins r t (bracket ∷ fs) w hs = rw (leb-suc-zero r) refl
joins r t (row_of v ∷ fs) w hs =
    let k = held_count (done_count t.done) fs in
    rw (rest (last k v) 1 (omega arith), quarter (last k v) 1 (omega arith), less_one (last (suc (last k v)) w))
    (by_test_twice (λ x p. x ≡ regrown t p) (leb (suc r) 1) _ _ _ _ (joins r t fs (or v w) hs) refl)
joins r t (item_of v ∷ fs) w hs =
    let k = held_count (done_count t.done) fs in
    rw (rest (last k v) 2 (omega arith), quarter (last k v) 2 (omega arith), less_one (last (suc (last k v)) w))
    (by_test_twice (λ x p. x ≡ regrown t p) (leb (suc r) 2) _ _ _ _ (joins r t fs (then v w) hs) refl)
joins r t (bang ∷ fs) w hs =
    rw (less_one (last (held_count (done_count t.done) fs) w))
    (by_test_twice (λ x p. x ≡ regrown t p) (leb (suc r) 3) _ _ _ _ (joins r t fs (deny w) hs) refl)

joined_is : (r : ℕ) (p : Grown) → joined (suc r) (full_of p) ≡ regrown p.tree (gathered (suc r) p)
joined_is r p = joins r p.tree p.tree.frames p.current (draft_of p.tree).held

held_item : (p : Grown) → drafts.hold_item (full_of p) ≡ draft_of (hold_as item_of p.tree (gathered 3 p))
unfolding held_words held_count held_nodes
held_item p = rw (joined_is 2 p, less_one (last (draft_of (with_frames p.tree (gathered 3 p).frames)).made (gathered 3 p).current)) refl

held_row : (p : Grown) → drafts.hold_row (full_of p) ≡ draft_of (hold_as row_of p.tree (gathered 2 p))
unfolding held_words held_count held_nodes
held_row p = rw (joined_is 1 p, less_one (last (draft_of (with_frames p.tree (gathered 2 p).frames)).made (gathered 2 p).current)) refl

-- What is left of what is held back, when all but brackets is put around the item: a bracket is the newest.
abbrev Bracketed : List Frame → Type 0
Bracketed [] = Unit {0}
Bracketed (bracket ∷ fs) = Unit {0}
Bracketed (row_of v ∷ fs) = ⊥
Bracketed (item_of v ∷ fs) = ⊥
Bracketed (bang ∷ fs) = ⊥

bracketed : (fs : List Frame) (w : Written) → Bracketed (gather 1 fs w).frames
unfolding gather
bracketed [] w = tt
bracketed (bracket ∷ fs) w = tt
bracketed (row_of v ∷ fs) w = bracketed fs (or v w)
bracketed (item_of v ∷ fs) w = bracketed fs (then v w)
bracketed (bang ∷ fs) w = bracketed fs (deny w)

left : (t : Tree) (fs : List Frame) (w : Written) → Bracketed fs
    → leave (draft_of (with_frames t fs)).held (draft_with (with_frames t fs) w) ≡ map full_of (leave_in t fs w)
unfolding held_words held_count held_nodes
left t [] w b = refl
left t (bracket ∷ fs) w b = refl
left t (row_of v ∷ fs) w b = elim b [ ]
left t (item_of v ∷ fs) w b = elim b [ ]
left t (bang ∷ fs) w b = elim b [ ]

closed : (p : Grown) → drafts.close (full_of p) ≡ map full_of (trees.close p)
closed p = rw (joined_is 0 p) (left p.tree (gathered 1 p).frames (gathered 1 p).current (bracketed p.tree.frames p.current))

ended : (t : Tree) (fs : List Frame) (w : Written) → ended_line (draft_of (with_frames t fs)).held (draft_with (with_frames t fs) w) ≡ map draft_of (end_in t fs w)
unfolding held_words held_count held_nodes done_words done_count done_nodes
ended t [] w = rw (less_one (last (done_count t.done) w)) refl
ended t (bracket ∷ fs) w = refl
ended t (row_of v ∷ fs) w = refl
ended t (item_of v ∷ fs) w = refl
ended t (bang ∷ fs) w = refl

line_ended : (p : Grown) → drafts.end_line (full_of p) ≡ map draft_of (trees.end_line p)
line_ended p = rw (joined_is 0 p) (ended p.tree (gathered 1 p).frames (gathered 1 p).current)

clear_ended : (t : Tree) (fs : List Frame) (w : Written) → OfSome (λ u. u.frames ≡ []) (end_in t fs w)
clear_ended t [] w = refl
clear_ended t (f ∷ fs) w = tt

-- What is written, and the numbers of it.
drafting : Maps trees drafts
unfolding held_count held_nodes held_words onto
drafting = record {
  Clear = λ t. t.frames ≡ [];
  on_name = mark_of;
  on_open = draft_of;
  on_full = full_of;
  first_letter = λ i c. refl;
  next_letter = λ n c. rw (length-append n.letters (c ∷ []), add-one (length n.letters)) refl;
  letters = λ n. refl;
  begin_line = λ n t e. rw e refl;
  use_name = λ n t. refl;
  add_range = λ lowest highest t. refl;
  hold_not = λ t. refl;
  hold_bracket = λ t. refl;
  hold_item = held_item;
  hold_row = held_row;
  add_star = λ p. rw (less_one (last (draft_of p.tree).made p.current)) refl;
  add_plus = λ p. rw (less_one (last (draft_of p.tree).made p.current)) refl;
  add_maybe = λ p. rw (less_one (last (draft_of p.tree).made p.current)) refl;
  close = closed;
  end_line = line_ended;
  clear_after = λ p. clear_ended p.tree (gathered 1 p).frames (gathered 1 p).current;
  lines = λ t. refl;
}

-- Over the numbers the machine says of a text what it says over what is written.
same : (text : List ℕ) → run drafts (between blank) 0 text ≡ map_outcome drafting (run trees (between bare) 0 text)
unfolding drafting done_count done_nodes done_words
same text = same_run drafting (between bare) 0 text refl

pub drafted : (text : List ℕ) (t : Tree) → run trees (between bare) 0 text ≡ read t → run drafts (between blank) 0 text ≡ read (draft_of t)
unfolding drafting
drafted text t e = same text ∙ ap (map_outcome drafting) e

pub stopped : (text : List ℕ) (p : ℕ) → run trees (between bare) 0 text ≡ refused p → run drafts (between blank) 0 text ≡ refused p
stopped text p e = same text ∙ ap (map_outcome drafting) e

-- And the other way round.
pub from_draft : (text : List ℕ) (d : Draft) → run drafts (between blank) 0 text ≡ read d
    → (t : Tree) × (run trees (between bare) 0 text ≡ read t) × (draft_of t ≡ d)
unfolding drafting
from_draft text d e = go (run trees (between bare) 0 text) refl (sym (same text) ∙ e)
  where
    go : (o : Outcome trees) → run trees (between bare) 0 text ≡ o → map_outcome drafting o ≡ read d
        → (t : Tree) × (run trees (between bare) 0 text ≡ read t) × (draft_of t ≡ d)
    go (refused p) f h = let z : ◌≡◌ {A = ℕ} 0 1 = cc in absurd (omega arith)
    go (read t) f h = (t, f, cc)

pub from_stop : (text : List ℕ) (p : ℕ) → run drafts (between blank) 0 text ≡ refused p → run trees (between bare) 0 text ≡ refused p
unfolding drafting
from_stop text p e = go (run trees (between bare) 0 text) refl (sym (same text) ∙ e)
  where
    go : (o : Outcome trees) → run trees (between bare) 0 text ≡ o → map_outcome drafting o ≡ refused p → run trees (between bare) 0 text ≡ refused p
    go (refused q) f h = f ∙ cc
    go (read t) f h = let z : ◌≡◌ {A = ℕ} 0 1 = cc in absurd (omega arith)

-- When a text is read to its end, nothing is held back.
pub no_frames : (text : List ℕ) (t : Tree) → run trees (between bare) 0 text ≡ read t → t.frames ≡ []
unfolding drafting
no_frames text t e = subst (ClearOutcome drafting) e (clear_run drafting (between bare) 0 text refl)
