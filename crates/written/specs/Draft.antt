-- What the contracts of the code's own functions cite: the numbers that the code keeps while it reads a text, newest first. Nothing here has to be believed.
use Rattle.std.specs.Prelude.{cond, List, [], ◌∷◌, ℕ, zero, suc, ◌+◌, ◌*◌, ◌-◌, ◌/◌, ◌%◌, get_or, leb}
use Rattle.std.proofs.Math.Option.{Option, none, some}
use Rattle.written.specs.Machine.{Builder}

-- A name: its place, and how many letters of it are read.
pub record Mark : Type 0 where
  pub place : ℕ
  pub count : ℕ

-- The two in one number.
abbrev pub word_of : Mark → ℕ
word_of m = m.place * 64 + m.count

-- The name of the line; what is held back: 0 for a bracket, 3 for `!`, and for an item or a row that others follow four times its last node and 2 or 1;
-- how many nodes are made, and of each kind, a and b; of each line its name and its root; and how many lines there are.
pub record Draft : Type 0 where
  pub line : ℕ
  pub held : List ℕ
  pub made : ℕ
  pub nodes : List ℕ
  pub done : List ℕ
  pub count : ℕ

abbrev pub emit : (kind a b : ℕ) → Draft → Draft
emit kind a b d = record { line = d.line; held = d.held; made = suc d.made; nodes = b ∷ a ∷ kind ∷ d.nodes; done = d.done; count = d.count }

abbrev pub hold : ℕ → Draft → Draft
hold h d = record { line = d.line; held = h ∷ d.held; made = d.made; nodes = d.nodes; done = d.done; count = d.count }

abbrev pub holding : List ℕ → Draft → Draft
holding hs d = record { line = d.line; held = hs; made = d.made; nodes = d.nodes; done = d.done; count = d.count }

-- The number of the last node made.
abbrev pub newest : Draft → ℕ
newest d = d.made - 1

-- The node that is made of what was held back and the last node.
abbrev pub join : (rank root : ℕ) → Draft → Draft
join zero root d = d
join (suc zero) root d = emit 4 root (newest d) d
join (suc (suc zero)) root d = emit 3 root (newest d) d
join (suc (suc (suc rank))) root d = emit 5 (newest d) 0 d

-- What is held back with this rank or a higher one is joined, the newest first.
unfoldable pub join_from : (rank : ℕ) → List ℕ → Draft → Draft
join_from rank [] d = holding [] d
join_from rank (h ∷ hs) d = cond (leb rank (h % 4)) (join_from rank hs (join (h % 4) (h / 4) d)) (holding (h ∷ hs) d)

abbrev pub joined : (rank : ℕ) → Draft → Draft
joined rank d = join_from rank d.held d

-- Out of the innermost bracket, if there is one.
abbrev pub leave : (held : List ℕ) → Draft → Option Draft
leave [] d = none
leave (h ∷ hs) d = some (holding hs d)

abbrev pub line_done : Draft → Draft
line_done d = record { line = d.line; held = []; made = d.made; nodes = d.nodes; done = newest d ∷ d.line ∷ d.done; count = suc d.count }

-- The line is done, if no bracket is open.
abbrev pub ended_line : (held : List ℕ) → Draft → Option Draft
ended_line [] d = some (line_done d)
ended_line (h ∷ hs) d = none

abbrev pub drafts : Builder
drafts = record {
  Named = Mark;
  Open = Draft;
  Full = Draft;
  first_letter = λ i c. record { place = i; count = 1 };
  next_letter = λ m c. record { place = m.place; count = suc m.count };
  letters = λ m. m.count;
  begin_line = λ m d. record { line = word_of m; held = []; made = d.made; nodes = d.nodes; done = d.done; count = d.count };
  use_name = λ m d. emit 2 (word_of m) 0 d;
  add_range = λ lowest highest d. emit 1 lowest highest d;
  hold_not = λ d. hold 3 d;
  hold_bracket = λ d. hold 0 d;
  hold_item = λ d. hold (newest (joined 3 d) * 4 + 2) (joined 3 d);
  hold_row = λ d. hold (newest (joined 2 d) * 4 + 1) (joined 2 d);
  add_star = λ d. emit 6 (newest d) 0 d;
  add_plus = λ d. emit 3 (newest d) d.made (emit 6 (newest d) 0 d);
  add_maybe = λ d. emit 4 (newest d) d.made (emit 0 0 0 d);
  close = λ d. leave (joined 1 d).held (joined 1 d);
  end_line = λ d. ended_line (joined 1 d).held (joined 1 d);
  lines = λ d. d.count;
}

abbrev pub blank : Draft
blank = record { line = 0; held = []; made = 0; nodes = []; done = []; count = 0 }

-- The first k numbers of a list, newest first.
unfoldable pub held_in : List ℕ → (k : ℕ) → List ℕ
held_in ns zero = []
held_in ns (suc k) = get_or ns k 0 ∷ held_in ns k
