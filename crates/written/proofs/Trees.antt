-- What the machine builds as it is written: the lines that are done, and around the item that is read what is held back.
use mathlib.Core.Bool.{cond}
use mathlib.Core.List.{List, [], ◌∷◌, ◌++◌}
use mathlib.Core.Option.{Option, none, some}
use Prim.Native.Nat.{ℕ}
use lib.ListN.{length}
use lib.Dec.{leb}
use Rattle.written.specs.Written.{Name, Written, name, range, star, plus, maybe, deny, then, or, Line}
use Rattle.written.specs.Machine.{Builder}

-- What is held back: a bracket, a row that others may follow, an item that others follow, and `!`.
pub data Frame : Type 0 where
  bracket : Frame
  row_of : Written → Frame
  item_of : Written → Frame
  bang : Frame

abbrev pub rank_of : Frame → ℕ
rank_of bracket = 0
rank_of (row_of v) = 1
rank_of (item_of v) = 2
rank_of bang = 3

abbrev pub put : Frame → Written → Written
put bracket w = w
put (row_of v) w = or v w
put (item_of v) w = then v w
put bang w = deny w

-- The lines that are done, newest first, the name of the line that is read, and what is held back in it, newest first.
pub record Tree : Type 0 where
  pub done : List Line
  pub name : Name
  pub frames : List Frame

-- The same with the item that has just been read.
pub record Grown : Type 0 where
  pub tree : Tree
  pub current : Written

abbrev pub with_frames : Tree → List Frame → Tree
with_frames t fs = record { done = t.done; name = t.name; frames = fs }

abbrev pub grown : Tree → List Frame → Written → Grown
grown t fs w = record { tree = with_frames t fs; current = w }

pub record Pair : Type 0 where
  pub frames : List Frame
  pub current : Written

abbrev pub pair : List Frame → Written → Pair
pair fs w = record { frames = fs; current = w }

-- What is held back with this rank or a higher one is put around an item.
unfoldable pub gather : (rank : ℕ) → List Frame → Written → Pair
gather rank [] w = pair [] w
gather rank (f ∷ fs) w = cond (leb rank (rank_of f)) (gather rank fs (put f w)) (pair (f ∷ fs) w)

abbrev pub gathered : (rank : ℕ) → Grown → Pair
gathered rank p = gather rank p.tree.frames p.current

abbrev pub hold_as : (Written → Frame) → Tree → Pair → Tree
hold_as f t p = with_frames t (f p.current ∷ p.frames)

abbrev pub leave_in : Tree → List Frame → Written → Option Grown
leave_in t [] w = none
leave_in t (f ∷ fs) w = some (grown t fs w)

abbrev pub new_line : Tree → Written → Tree
new_line t w = record { done = record { name = t.name; alternatives = w } ∷ t.done; name = t.name; frames = [] }

abbrev pub end_in : Tree → List Frame → Written → Option Tree
end_in t [] w = some (new_line t w)
end_in t (f ∷ fs) w = none

abbrev pub trees : Builder
trees = record {
  Named = Name;
  Open = Tree;
  Full = Grown;
  first_letter = λ i c. record { place = i; letters = c ∷ [] };
  next_letter = λ n c. record { place = n.place; letters = n.letters ++ (c ∷ []) };
  letters = λ n. length n.letters;
  begin_line = λ n t. record { done = t.done; name = n; frames = [] };
  use_name = λ n t. record { tree = t; current = name n };
  add_range = λ lowest highest t. record { tree = t; current = range lowest highest };
  hold_not = λ t. with_frames t (bang ∷ t.frames);
  hold_bracket = λ t. with_frames t (bracket ∷ t.frames);
  hold_item = λ p. hold_as item_of p.tree (gathered 3 p);
  hold_row = λ p. hold_as row_of p.tree (gathered 2 p);
  add_star = λ p. record { tree = p.tree; current = star p.current };
  add_plus = λ p. record { tree = p.tree; current = plus p.current };
  add_maybe = λ p. record { tree = p.tree; current = maybe p.current };
  close = λ p. leave_in p.tree (gathered 1 p).frames (gathered 1 p).current;
  end_line = λ p. end_in p.tree (gathered 1 p).frames (gathered 1 p).current;
  lines = λ t. length t.done;
}

abbrev pub no_name : Name
no_name = record { place = 0; letters = [] }

abbrev pub bare : Tree
bare = record { done = []; name = no_name; frames = [] }
