-- Where the machine reads a text to its end, the text shows the sheet that was built.
use mathlib.Core.Path.{◌≡◌, refl, subst}
use mathlib.Core.Bool.{Bool, true, false, ◌&&◌, cond, and-eq-true_iff}
use mathlib.Core.List.{List, [], ◌∷◌, ◌++◌, reverse, reverse-cons}
use mathlib.Core.Option.{Option, none, some}
use Prim.Native.Nat.{ℕ, suc, ◌≤◌, ◌<◌}
use native.Mathlib.Omega.{arith}
use lib.ListN.{length, length-append}
use lib.Dec.{ltb, eqb}
use borrow.Author.Tests.{eqb-true, ltb-true}
use Rattle.meaning.proofs.Choose.{by_test}
use Rattle.written.specs.Written.{Name, Written, range, deny, then, or, Line}
use Rattle.written.specs.Shown.{is_letter, is_part, is_quotable, Spot, spot, Takes, takes, Spaces, Sign, sign, NoLetter, Letters, longest_name, Names, names}
use Rattle.written.specs.Shown.{Quoted, one_byte, byte_then, Part, from_to, Parts, one_part, part_or, Level, Shows, ShowsLine, line, ShowsLines, ShowsSheet, sheet}
use Rattle.written.specs.Shown.{by_name, by_quote, by_class, by_brackets, by_star, by_plus, by_maybe, as_item, by_not, as_row, by_then, as_choice, by_or}
use Rattle.written.specs.Machine.{State, between, defining, defined, arrow, expecting, naming, quote_start, quoting, class_start, single, ranging, parted, after}
use Rattle.written.specs.Machine.{Outcome, refused, read, step, step_after, step_defined, begin_item, longer, to_after, to_between, finish, last_line, go_on, run}
use Rattle.written.proofs.Trees.{Frame, bracket, row_of, item_of, bang, Tree, Grown, grown, Pair, gather, gathered, leave_in, end_in, new_line, trees, bare}

-- One byte of a quote, and one part of a class.
data Byte : Written → Spot → Spot → Type 0 where
  byte : {c : ℕ} {p q : Spot} → is_quotable c ≡ true → Takes c p q → Byte (range c c) p q

data OnePart : Written → Spot → Spot → Type 0 where
  one : {c d : ℕ} {p q : Spot} → Part c d p q → OnePart (range c d) p q

-- What may come at a place of a line.
data Place : Type 0 where
  at-choice at_row at_item at_byte at_part : Place

abbrev Fits : Place → Written → Spot → Spot → Type 0
Fits at-choice = Shows Level.choice
Fits at_row = Shows Level.row
Fits at_item = Shows Level.item
Fits at_byte = Quoted
Fits at_part = Parts

-- From the text's start on the lines that are done are shown, then the line's name n, `<-` and what is held back, so that something may come here.
data Held (text : List ℕ) (done : List Line) (n : Name) : Place → List Frame → Spot → Type 0 where
  bottom : {p q r s : Spot} → ShowsLines (reverse done) (spot 0 text) p → Names n p q → Sign 60 q r → Takes 45 r s → Held text done n at-choice [] s
  in_bracket : {fs : List Frame} {p q : Spot} → Held text done n at_item fs p → Sign 40 p q → Held text done n at-choice (bracket ∷ fs) q
  in_quote : {fs : List Frame} {p q : Spot} → Held text done n at_item fs p → Sign 39 p q → Held text done n at_byte (bracket ∷ fs) q
  in_class : {fs : List Frame} {p q : Spot} → Held text done n at_item fs p → Sign 91 p q → Held text done n at_part (bracket ∷ fs) q
  after_row : {fs : List Frame} {v : Written} {p q r : Spot} → Held text done n at-choice fs p → Shows Level.row v p q → Sign 47 q r
      → Held text done n at-choice (row_of v ∷ fs) r
  after_item : {fs : List Frame} {v : Written} {p q : Spot} → Held text done n at_row fs p → Shows Level.item v p q → Held text done n at_row (item_of v ∷ fs) q
  after_bang : {fs : List Frame} {p q : Spot} → Held text done n at_item fs p → Sign 33 p q → Held text done n at_item (bang ∷ fs) q
  after_byte : {fs : List Frame} {v : Written} {p q : Spot} → Held text done n at_byte fs p → Byte v p q → Held text done n at_byte (item_of v ∷ fs) q
  after_part : {fs : List Frame} {v : Written} {p q : Spot} → Held text done n at_part fs p → OnePart v p q → Held text done n at_part (row_of v ∷ fs) q
  begin_row : {fs : List Frame} {p : Spot} → Held text done n at-choice fs p → Held text done n at_row fs p
  begin_item_lem : {fs : List Frame} {p : Spot} → Held text done n at_row fs p → Held text done n at_item fs p

-- What closes the bracket, the quote or the class around a place.
abbrev Closes : Place → Spot → Spot → Type 0
Closes at-choice = Sign 41
Closes at_row = Sign 41
Closes at_item = Sign 41
Closes at_byte = Takes 39
Closes at_part = Takes 93

-- Where all that is held back up to a bracket is put around w: after what closes, w is an item that may be signed, and at a line's end the line is shown.
abbrev Whole : List ℕ → List Line → Name → (closed : Spot → Spot → Type 0) → List Frame → Written → Spot → Type 0
Whole text done n closed [] w q = (r : Spot) → Sign 10 q r → ShowsLines (reverse (record { name = n; alternatives = w } ∷ done)) (spot 0 text) r
Whole text done n closed (bracket ∷ fs) w q = (r : Spot) → closed q r → (p : Spot) × Held text done n at_item fs p × Shows Level.signed w p r
Whole text done n closed (row_of v ∷ fs) w q = ⊥
Whole text done n closed (item_of v ∷ fs) w q = ⊥
Whole text done n closed (bang ∷ fs) w q = ⊥

abbrev WholeOf : List ℕ → List Line → Name → Place → Pair → Spot → Type 0
WholeOf text done n l p q = Whole text done n (Closes l) p.frames p.current q

-- One more line at the end.
more_lines : {l : Line} {ls : List Line} {p q r : Spot} → ShowsLines ls p q → ShowsLine l q r → ShowsLines (ls ++ (l ∷ [])) p r
more_lines ShowsLines.none k = ShowsLines.more k ShowsLines.none
more_lines (ShowsLines.more h t) k = ShowsLines.more h (more_lines t k)

then_byte : {v w : Written} {p q r : Spot} → Byte v p q → Quoted w q r → Quoted (then v w) p r
then_byte (byte e t) k = byte_then e t k

or_part : {v w : Written} {p q r : Spot} → OnePart v p q → Parts w q r → Parts (or v w) p r
or_part (one h) k = part_or h k

one_quoted : {v : Written} {p q : Spot} → Byte v p q → Quoted v p q
one_quoted (byte e t) = one_byte e t

one_in_class : {v : Written} {p q : Spot} → OnePart v p q → Parts v p q
one_in_class (one h) = one_part h

-- Whatever fits its place is a whole when all that is held back up to the innermost bracket is put around it.
gather_1 : {text : List ℕ} {done : List Line} {n : Name} {l : Place} {fs : List Frame} {p : Spot} (w : Written) (q : Spot)
    → Held text done n l fs p → Fits l w p q → WholeOf text done n l (gather 1 fs w) q
unfolding gather
gather_1 {done} {n} w q (bottom ls m s t) k = λ r e. rw (reverse-cons (record { name = n; alternatives = w }) done) (more_lines ls (line m s t k e))
gather_1 w q (in_bracket h s) k = λ r c. (_, h, by_brackets s k c)
gather_1 w q (in_quote h s) k = λ r c. (_, h, by_quote s k c)
gather_1 w q (in_class h s) k = λ r c. (_, h, by_class s k c)
gather_1 w q (after_row {v} h a s) k = gather_1 (or v w) q h (by_or a s k)
gather_1 w q (after_item {v} h a) k = gather_1 (then v w) q h (by_then a k)
gather_1 w q (after_bang h s) k = gather_1 (deny w) q h (by_not s k)
gather_1 w q (after_byte {v} h a) k = gather_1 (then v w) q h (then_byte a k)
gather_1 w q (after_part {v} h a) k = gather_1 (or v w) q h (or_part a k)
gather_1 w q (begin_row h) k = gather_1 w q h (as_choice k)
gather_1 w q (begin_item_lem h) k = gather_1 w q h (as_row k)

-- Before an item stands a row's place, once all `!` are put around it; in a quote or a class nothing of rank 3 is held back.
abbrev BeforeItem : Place → Place
BeforeItem at-choice = at_row
BeforeItem at_row = at_row
BeforeItem at_item = at_row
BeforeItem at_byte = at_byte
BeforeItem at_part = at_part

abbrev ItemAt : Place → Written → Spot → Spot → Type 0
ItemAt at-choice = Shows Level.item
ItemAt at_row = Shows Level.item
ItemAt at_item = Shows Level.item
ItemAt at_byte = Byte
ItemAt at_part = OnePart

-- Before a row stands a choice's place, once all items are put around it; in a class nothing of rank 2 is held back.
abbrev BeforeRow : Place → Place
BeforeRow at-choice = at-choice
BeforeRow at_row = at-choice
BeforeRow at_item = at-choice
BeforeRow at_byte = at_byte
BeforeRow at_part = at_part

abbrev RowAt : Place → Written → Spot → Spot → Type 0
RowAt at-choice = Shows Level.row
RowAt at_row = Shows Level.row
RowAt at_item = Shows Level.item
RowAt at_byte = Quoted
RowAt at_part = OnePart

-- What is left held back, and what was put together from s to q.
abbrev Apart : List ℕ → List Line → Name → Place → (Place → Written → Spot → Spot → Type 0) → Pair → Spot → Type 0
Apart text done n l r p q = (s : Spot) × Held text done n l p.frames s × r l p.current s q

gather_2 : {text : List ℕ} {done : List Line} {n : Name} {l : Place} {fs : List Frame} {p : Spot} (w : Written) (q : Spot)
    → Held text done n l fs p → RowAt l w p q → Apart text done n (BeforeRow l) RowAt (gather 2 fs w) q
unfolding gather
gather_2 w q (bottom ls m s t) k = (_, bottom ls m s t, k)
gather_2 w q (in_bracket h s) k = (_, in_bracket h s, k)
gather_2 w q (in_quote h s) k = (_, in_quote h s, k)
gather_2 w q (in_class h s) k = (_, in_class h s, k)
gather_2 w q (after_row h a s) k = (_, after_row h a s, k)
gather_2 w q (after_item {v} h a) k = gather_2 (then v w) q h (by_then a k)
gather_2 w q (after_bang h s) k = gather_2 (deny w) q h (by_not s k)
gather_2 w q (after_byte {v} h a) k = gather_2 (then v w) q h (then_byte a k)
gather_2 w q (after_part h a) k = (_, after_part h a, k)
gather_2 w q (begin_row h) k = gather_2 w q h k
gather_2 w q (begin_item_lem h) k = gather_2 w q h (as_row k)

gather_3 : {text : List ℕ} {done : List Line} {n : Name} {l : Place} {fs : List Frame} {p : Spot} (w : Written) (q : Spot)
    → Held text done n l fs p → ItemAt l w p q → Apart text done n (BeforeItem l) ItemAt (gather 3 fs w) q
unfolding gather
gather_3 w q (bottom ls m s t) k = (_, begin_row (bottom ls m s t), k)
gather_3 w q (in_bracket h s) k = (_, begin_row (in_bracket h s), k)
gather_3 w q (in_quote h s) k = (_, in_quote h s, k)
gather_3 w q (in_class h s) k = (_, in_class h s, k)
gather_3 w q (after_row h a s) k = (_, begin_row (after_row h a s), k)
gather_3 w q (after_item h a) k = (_, after_item h a, k)
gather_3 w q (after_bang h s) k = gather_3 (deny w) q h (by_not s k)
gather_3 w q (after_byte h a) k = (_, after_byte h a, k)
gather_3 w q (after_part h a) k = (_, after_part h a, k)
gather_3 w q (begin_row h) k = gather_3 w q h k
gather_3 w q (begin_item_lem h) k = gather_3 w q h k

-- The letters of a name that are read so far.
data SoFar : List ℕ → Spot → Spot → Type 0 where
  first : {c : ℕ} {p q : Spot} → is_letter c ≡ true → Takes c p q → SoFar (c ∷ []) p q
  further : {c : ℕ} {cs : List ℕ} {p q r : Spot} → is_letter c ≡ true → Takes c p q → SoFar cs q r → SoFar (c ∷ cs) p r

one_more : {c : ℕ} {cs : List ℕ} {p q r : Spot} → SoFar cs p q → is_letter c ≡ true → Takes c q r → SoFar (cs ++ (c ∷ [])) p r
one_more (first e t) f u = further e t (first f u)
one_more (further e t h) f u = further e t (one_more h f u)

whole_run : {cs : List ℕ} {p q : Spot} → SoFar cs p q → NoLetter q → Letters cs p q
whole_run (first e t) m = Letters.last e t m
whole_run (further e t h) m = Letters.more e t (whole_run h m)

more_spaces : {p q r : Spot} → Spaces p q → Takes 32 q r → Spaces p r
more_spaces Spaces.none k = Spaces.more k Spaces.none
more_spaces (Spaces.more t h) k = Spaces.more t (more_spaces h k)

-- Spaces, and then the letters so far of a name.
abbrev Naming : Name → Spot → Spot → Type 0
Naming n p q = (cs : List ℕ) × Spaces p (spot n.place cs) × SoFar n.letters (spot n.place cs) q × length n.letters ≤ longest_name

abbrev Done : List ℕ → Tree → Spot → Type 0
Done text t q = ShowsLines (reverse t.done) (spot 0 text) q

abbrev Open : List ℕ → Tree → Place → Spot → Type 0
Open text t l q = Held text t.done t.name l t.frames q

-- What of the text is shown up to q where the machine is in a state.
abbrev Stood : List ℕ → State trees → Spot → Type 0
Stood text (between t) q = (p : Spot) × Done text t p × Spaces p q
Stood text (defining t n) q = (p : Spot) × Done text t p × Naming n p q
Stood text (defined t) q = (p o : Spot) × Done text t p × Names t.name p o × Spaces o q × t.frames ≡ []
Stood text (arrow t) q = (p o : Spot) × Done text t p × Names t.name p o × Sign 60 o q × t.frames ≡ []
Stood text (expecting t) q = (p : Spot) × Open text t at_item p × Spaces p q
Stood text (naming t n) q = (p : Spot) × Open text t at_item p × Naming n p q
Stood text (quote_start t) q = Open text t at_byte q
Stood text (quoting g) q = (p : Spot) × Open text g.tree at_byte p × Byte g.current p q
Stood text (class_start t) q = Open text t at_part q
Stood text (single t c) q = (p : Spot) × Open text t at_part p × is_part c ≡ true × Takes c p q
Stood text (ranging t c) q = (p o : Spot) × Open text t at_part p × is_part c ≡ true × Takes c p o × Takes 45 o q
Stood text (parted g) q = (p : Spot) × Open text g.tree at_part p × OnePart g.current p q
Stood text (after g) q = (p o : Spot) × Open text g.tree at_item p × Shows Level.signed g.current p o × Spaces o q

-- The same after a step, if there is one.
data Kept (text : List ℕ) : Option (State trees) → Spot → Type 0 where
  stopped : {q : Spot} → Kept text none q
  kept : {s : State trees} {q : Spot} → Stood text s q → Kept text (some s) q

-- One step, at the byte x, keeps what its state says, or there is no step.
module _ (text : List ℕ) (i x : ℕ) (xs : List ℕ) where
  abbrev here : Spot
  here = spot i (x ∷ xs)

  abbrev next : Spot
  next = spot (suc i) xs

  on : (b : Bool) (u v : Option (State trees)) → (b ≡ true → Kept text u next) → (b ≡ false → Kept text v next) → Kept text (cond b u v) next
  on b u v f g = by_test (λ o. Kept text o next) b u v f g

  on_byte : (c : ℕ) (u v : Option (State trees)) → (Takes c here next → Kept text u next) → Kept text v next → Kept text (cond (eqb x c) u v) next
  on_byte c u v f g = on (eqb x c) u v (λ e. f (rw (eqb-true x c e) takes)) (λ e. g)

  first_letter : {p : Spot} → Spaces p here → is_letter x ≡ true → Naming (trees.first_letter i x) p next
  first_letter s e = (x ∷ xs, s, first e takes, omega arith)

  next_letter : {p : Spot} (f : Name → State trees) (n : Name) → Naming n p here → is_letter x ≡ true → ((m : Name) → Naming m p next → Stood text (f m) next)
      → Kept text (longer trees f n x) next
  next_letter f n h e g =
      on (ltb (length n.letters) longest_name) _ _
      (λ b. let l : length n.letters < longest_name = ltb-true _ _ b in
      kept (g (trees.next_letter n x) (h.0, h.1, one_more h.2 e takes, rw (length-append n.letters (x ∷ [])) (omega arith)))) (λ b. stopped)

  named : {p : Spot} (n : Name) → Naming n p here → is_letter x ≡ false → Names n p here
  named n h e = names h.1 (whole_run h.2 e) h.3

  item_begun : (t : Tree) → Stood text (expecting t) here → Kept text (begin_item trees t i x) next
  unfolding begin_item
  item_begun t h =
      on (is_letter x) _ _ (λ e. kept (h.0, h.1, first_letter h.2 e))
      (λ e. on_byte 33 _ _ (λ k. kept (next, after_bang h.1 (sign h.2 k), Spaces.none))
      (on_byte 40 _ _ (λ k. kept (next, begin_item_lem (begin_row (in_bracket h.1 (sign h.2 k))), Spaces.none))
      (on_byte 39 _ _ (λ k. kept (in_quote h.1 (sign h.2 k)))
      (on_byte 91 _ _ (λ k. kept (in_class h.1 (sign h.2 k))) stopped))))

  -- Out of a bracket, a quote or a class: what closes it has just been read.
  closed : (l : Place) (t : Tree) (fs : List Frame) (w : Written) (q : Spot) → Whole text t.done t.name (Closes l) fs w q → Closes l q next
      → Kept text (to_after trees (leave_in t fs w)) next
  closed l t [] w q h k = stopped
  closed l t (bracket ∷ fs) w q h k = let g = h next k in kept {s = after (grown t fs w)} (g.0, next, g.1, g.2, Spaces.none)
  closed l t (row_of v ∷ fs) w q h k = absurd h
  closed l t (item_of v ∷ fs) w q h k = absurd h
  closed l t (bang ∷ fs) w q h k = absurd h

  closing : {p : Spot} (l : Place) (g : Grown) (q : Spot) → Open text g.tree l p → Fits l g.current p q → Closes l q next
      → Kept text (to_after trees (trees.close g)) next
  closing l g q h k c = closed l g.tree (gathered 1 g).frames (gathered 1 g).current q (gather_1 g.current q h k) c

  line_ended : (t : Tree) (fs : List Frame) (w : Written) (q : Spot) → Whole text t.done t.name (Sign 41) fs w q → Sign 10 q next
      → Kept text (to_between trees (end_in t fs w)) next
  line_ended t [] w q h k = kept {s = between (new_line t w)} (next, h next k, Spaces.none)
  line_ended t (f ∷ fs) w q h k = stopped

  stepped_after : (g : Grown) → Stood text (after g) here → Kept text (step_after trees g i x) next
  unfolding step_after
  stepped_after g h =
      on_byte 32 _ _ (λ k. kept (h.0, h.1, h.2, h.3, more_spaces h.4 k))
      (on_byte 42 _ _ (λ k. kept (h.0, next, h.2, by_star h.3 (sign h.4 k), Spaces.none))
      (on_byte 43 _ _ (λ k. kept (h.0, next, h.2, by_plus h.3 (sign h.4 k), Spaces.none))
      (on_byte 63 _ _ (λ k. kept (h.0, next, h.2, by_maybe h.3 (sign h.4 k), Spaces.none))
      (on_byte 47 _ _ (λ k. let r = gather_2 g.current h.1 h.2 (as_item h.3) in
      kept (next, begin_item_lem (begin_row (after_row r.1 r.2 (sign h.4 k))), Spaces.none))
      (on_byte 41 _ _ (λ k. closing at_item g h.1 h.2 (as_item h.3) (sign h.4 k))
      (on_byte 10 _ _ (λ k. line_ended g.tree (gathered 1 g).frames (gathered 1 g).current h.1 (gather_1 g.current h.1 h.2 (as_item h.3)) (sign h.4 k))
      (let r = gather_3 g.current h.1 h.2 (as_item h.3) in item_begun (trees.hold_item g) (h.1, begin_item_lem (after_item r.1 r.2), h.4))))))))

  stepped_defined : (t : Tree) → Stood text (defined t) here → Kept text (step_defined trees t x) next
  unfolding step_defined
  stepped_defined t h =
      on_byte 32 _ _ (λ k. kept (h.0, h.1, h.2, h.3, more_spaces h.4 k, h.5))
      (on_byte 60 _ _ (λ k. kept (h.0, h.1, h.2, h.3, sign h.4 k, h.5)) stopped)

  stepped : (s : State trees) → Stood text s here → Kept text (step trees s i x) next
  unfolding step
  stepped (between t) h =
      on_byte 32 _ _ (λ k. kept (h.0, h.1, more_spaces h.2 k)) (on (is_letter x) _ _ (λ e. kept (h.0, h.1, first_letter h.2 e)) (λ e. stopped))
  stepped (defining t n) h =
      on (is_letter x) _ _ (λ e. next_letter (defining t) n h.2 e (λ m k. (h.0, h.1, k)))
      (λ e. stepped_defined (trees.begin_line n t) (h.0, here, h.1, named n h.2 e, Spaces.none, refl))
  stepped (defined t) h = stepped_defined t h
  stepped (arrow t) h = on_byte 45 _ _ (λ k. kept (next, begin_item_lem (begin_row (rw h.5 (bottom h.2 h.3 h.4 k))), Spaces.none)) stopped
  stepped (expecting t) h = on_byte 32 _ _ (λ k. kept (h.0, h.1, more_spaces h.2 k)) (item_begun t h)
  stepped (naming t n) h =
      on (is_letter x) _ _ (λ e. next_letter (naming t) n h.2 e (λ m k. (h.0, h.1, k)))
      (λ e. stepped_after (trees.use_name n t) (h.0, here, h.1, by_name (named n h.2 e), Spaces.none))
  stepped (quote_start t) h = on (is_quotable x) _ _ (λ e. kept (here, h, byte e takes)) (λ e. stopped)
  stepped (quoting g) h =
      on (is_quotable x) _ _ (λ e. let r = gather_3 g.current here h.1 h.2 in kept (here, after_byte r.1 r.2, byte e takes))
      (λ e. on_byte 39 _ _ (λ k. closing at_byte g here h.1 (one_quoted h.2) k) stopped)
  stepped (class_start t) h = on (is_part x) _ _ (λ e. kept (here, h, e, takes)) (λ e. stopped)
  stepped (single t c) h =
      let o : OnePart (range c c) h.0 here = one (Part.single h.2 h.3) in
      on (is_part x) _ _ (λ e. let r = gather_2 (range c c) here h.1 o in kept (here, after_part r.1 r.2, e, takes))
      (λ e. on_byte 45 _ _ (λ k. on (ltb c 122) _ _ (λ l. kept (h.0, here, h.1, h.2, h.3, k)) (λ l. stopped))
      (on_byte 93 _ _ (λ k. closing at_part (trees.add_range c c t) here h.1 (one_in_class o) k) stopped))
  stepped (ranging t c) h =
      on (is_part x && ltb c x) _ _
      (λ e. let b = (and-eq-true_iff (is_part x) (ltb c x)).0 e in kept (h.0, h.2, one (from_to h.3 b.0 (ltb-true c x b.1) h.4 h.5 takes))) (λ e. stopped)
  stepped (parted g) h =
      on (is_part x) _ _ (λ e. let r = gather_2 g.current here h.1 h.2 in kept (here, after_part r.1 r.2, e, takes))
      (λ e. on_byte 93 _ _ (λ k. closing at_part g here h.1 (one_in_class h.2) k) stopped)
  stepped (after g) h = stepped_after g h

-- Lines of which l is the last are a sheet.
sheet_of : {text : List ℕ} {i : ℕ} {q : Spot} (l : Line) (ls : List Line) → ShowsLines (ls ++ (l ∷ [])) (spot 0 text) q → Spaces q (spot i [])
    → ShowsSheet (ls ++ (l ∷ [])) text
sheet_of l [] h s = sheet h s
sheet_of l (m ∷ ls) h s = sheet h s

-- What is claimed of how a text ends.
abbrev pub Ends : List ℕ → Outcome trees → Type 0
Ends text (refused p) = Unit {0}
Ends text (read t) = ShowsSheet (reverse t.done) text

last_line_lem : {text : List ℕ} {q : Spot} (i : ℕ) (done : List Line) (n : Name) (fs : List Frame) → ShowsLines (reverse done) (spot 0 text) q → Spaces q (spot i [])
    → Ends text (last_line trees i (record { done = done; name = n; frames = fs }) (length done))
last_line_lem i [] n fs h s = tt
last_line_lem i (l ∷ ls) n fs h s = rw (reverse-cons l ls) (sheet_of l (reverse ls) (rw (reverse-cons l ls) at h) s)

finished : (text : List ℕ) (i : ℕ) (s : State trees) → Stood text s (spot i []) → Ends text (finish trees s i)
unfolding finish
finished text i (between t) h = last_line_lem i t.done t.name t.frames h.1 h.2
finished text i (defining t n) h = tt
finished text i (defined t) h = tt
finished text i (arrow t) h = tt
finished text i (expecting t) h = tt
finished text i (naming t n) h = tt
finished text i (quote_start t) h = tt
finished text i (quoting g) h = tt
finished text i (class_start t) h = tt
finished text i (single t c) h = tt
finished text i (ranging t c) h = tt
finished text i (parted g) h = tt
finished text i (after g) h = tt

goes_on : {text : List ℕ} (i : ℕ) {o : Option (State trees)} {q : Spot} (f : State trees → Outcome trees) → Kept text o q
    → ((s : State trees) → Stood text s q → Ends text (f s)) → Ends text (go_on trees i o f)
goes_on i f stopped g = tt
goes_on i f (kept {s} h) g = g s h

-- What is left of the text, by induction.
goes : (text : List ℕ) (s : State trees) (i : ℕ) (xs : List ℕ) → Stood text s (spot i xs) → Ends text (run trees s i xs)
unfolding run
goes text s i [] h = finished text i s h
goes text s i (x ∷ xs) h = goes_on i (λ t. run trees t (suc i) xs) (stepped text i x xs s h) (λ t k. goes text t (suc i) xs k)

-- A text that is read to its end shows the sheet that was built.
pub sound : (text : List ℕ) → Ends text (run trees (between bare) 0 text)
sound text = goes text (between bare) 0 text (spot 0 text, ShowsLines.none, Spaces.none)

pub sound_read : (text : List ℕ) (t : Tree) → run trees (between bare) 0 text ≡ read t → ShowsSheet (reverse t.done) text
sound_read text t e = subst (Ends text) e (sound text)
