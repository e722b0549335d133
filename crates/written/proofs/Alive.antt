-- Where the machine stops, what stands before can be completed to a text that it reads, and no longer beginning can.
use mathlib.Core.Path.{◌≡◌, refl, sym, ap, ◌∙◌, subst}
use mathlib.Core.Bool.{Bool, true, false, ◌&&◌, cond}
use mathlib.Core.List.{List, [], ◌∷◌, ◌++◌, reverse}
use mathlib.Core.Option.{Option, none, some}
use Prim.Native.Nat.{ℕ, zero, suc, pred, ◌+◌, ◌≤◌, ◌<◌}
use lib.ListN.{length, take}
use lib.Dec.{leb, ltb, eqb, leb-suc-zero}
use borrow.Author.Tests.{lt-ltb, ltb-true, leb-true, leb-false}
use native.Mathlib.Omega.{arith}
use Rattle.meaning.proofs.Choose.{by_test}
use Rattle.written.specs.Written.{Name, Written, then, or, deny, Line}
use Rattle.written.specs.Shown.{is_letter, is_part, is_quotable, longest_name, ShowsSheet}
use Rattle.written.specs.Tabulated.{Shaped, shaped, Begins, Longest}
use Rattle.written.specs.Machine.{State, between, defining, defined, arrow, expecting, naming, quote_start, quoting, class_start, single, ranging, parted, after}
use Rattle.written.specs.Machine.{to_after, to_between, begin_item, step_after, step_defined, step, Outcome, refused, read, last_line, finish, go_on, run}
use Rattle.written.proofs.Trees.{Frame, bracket, row_of, item_of, bang, Pair, gather, gathered, Tree, Grown, grown, new_line, trees, bare}

-- How many brackets are open.
abbrev depth : List Frame → ℕ
depth [] = 0
depth (bracket ∷ fs) = suc (depth fs)
depth (row_of v ∷ fs) = depth fs
depth (item_of v ∷ fs) = depth fs
depth (bang ∷ fs) = depth fs

-- To put around an item what is no bracket leaves the brackets open.
gather_depth : (r : ℕ) (fs : List Frame) (w : Written) → depth (gather (suc r) fs w).frames ≡ depth fs
unfolding gather
gather_depth r [] w = refl
gather_depth r (bracket ∷ fs) w = rw (leb-suc-zero r) refl
gather_depth r (row_of v ∷ fs) w =
    by_test (λ (p : Pair). depth p.frames ≡ depth fs) (leb (suc r) 1) _ _ (λ e. gather_depth r fs (or v w)) (λ e. refl)
gather_depth r (item_of v ∷ fs) w =
    by_test (λ (p : Pair). depth p.frames ≡ depth fs) (leb (suc r) 2) _ _ (λ e. gather_depth r fs (then v w)) (λ e. refl)
gather_depth r (bang ∷ fs) w =
    by_test (λ (p : Pair). depth p.frames ≡ depth fs) (leb (suc r) 3) _ _ (λ e. gather_depth r fs (deny w)) (λ e. refl)

-- What is left around an item after all that is no bracket: nothing, or the innermost bracket and what is around it.
no_bracket : (fs : List Frame) (w : Written) → depth fs ≡ 0 → (gather 1 fs w).frames ≡ []
unfolding gather
no_bracket [] w e = refl
no_bracket (bracket ∷ fs) w e = absurd (omega arith)
no_bracket (row_of v ∷ fs) w e = no_bracket fs (or v w) e
no_bracket (item_of v ∷ fs) w e = no_bracket fs (then v w) e
no_bracket (bang ∷ fs) w e = no_bracket fs (deny w) e

innermost : (fs : List Frame) (w : Written) (d : ℕ) → depth fs ≡ suc d → (gs : List Frame) × ((gather 1 fs w).frames ≡ bracket ∷ gs) × (depth gs ≡ d)
unfolding gather
innermost [] w d e = absurd (omega arith)
innermost (bracket ∷ fs) w d e = (fs, refl, omega arith)
innermost (row_of v ∷ fs) w d e = innermost fs (or v w) d e
innermost (item_of v ∷ fs) w d e = innermost fs (then v w) d e
innermost (bang ∷ fs) w d e = innermost fs (deny w) d e

-- With no open bracket the line can be ended; else the innermost can be closed.
can_end : (p : Grown) → depth p.tree.frames ≡ 0 → (w : Written) × (trees.end_line p ≡ some (new_line p.tree w))
can_end p e = ((gathered 1 p).current, rw (no_bracket p.tree.frames p.current e) refl)

can_close : (p : Grown) (d : ℕ) → depth p.tree.frames ≡ suc d → (q : Grown) × (trees.close p ≡ some q) × (depth q.tree.frames ≡ d)
can_close p d e =
    let h = innermost p.tree.frames p.current d e in
    (grown p.tree h.0 (gathered 1 p).current, rw h.1 refl, h.2)

abbrev inside : Tree → Type 0
inside t = 0 < depth t.frames

-- What holds of each state that the machine gets to: in a quote or a class a bracket is open, and a range has begun below `z`.
abbrev Good : State trees → Type 0
Good (between t) = Unit {0}
Good (defining t n) = Unit {0}
Good (defined t) = Unit {0}
Good (arrow t) = Unit {0}
Good (expecting t) = Unit {0}
Good (naming t n) = Unit {0}
Good (quote_start t) = inside t
Good (quoting p) = inside p.tree
Good (class_start t) = inside t
Good (single t c) = inside t
Good (ranging t c) = inside t × (c < 122)
Good (parted p) = inside p.tree
Good (after p) = Unit {0}

-- What a step gives: nothing, or again such a state.
data Kept : Option (State trees) → Type 0 where
  stops : Kept none
  goes : {s : State trees} → Good s → Kept (some s)

both : (b : Bool) {x y : Option (State trees)} → Kept x → Kept y → Kept (cond b x y)
both true k l = k
both false k l = l

kept_after : (o : Option Grown) → Kept (to_after trees o)
kept_after none = stops
kept_after (some p) = goes tt

kept_between : (o : Option Tree) → Kept (to_between trees o)
kept_between none = stops
kept_between (some t) = goes tt

kept_item : (t : Tree) (i x : ℕ) → Kept (begin_item trees t i x)
unfolding begin_item
kept_item t i x =
    both (is_letter x) (goes tt)
    (both (eqb x 33) (goes tt)
    (both (eqb x 40) (goes tt)
    (both (eqb x 39) (goes (omega arith))
    (both (eqb x 91) (goes (omega arith)) stops))))

kept_step_after : (p : Grown) (i x : ℕ) → Kept (step_after trees p i x)
unfolding step_after
kept_step_after p i x =
    both (eqb x 32) (goes tt)
    (both (eqb x 42) (goes tt)
    (both (eqb x 43) (goes tt)
    (both (eqb x 63) (goes tt)
    (both (eqb x 47) (goes tt)
    (both (eqb x 41) (kept_after (trees.close p))
    (both (eqb x 10) (kept_between (trees.end_line p)) (kept_item (trees.hold_item p) i x)))))))

kept_defined : (t : Tree) (x : ℕ) → Kept (step_defined trees t x)
unfolding step_defined
kept_defined t x = both (eqb x 32) (goes tt) (both (eqb x 60) (goes tt) stops)

-- Each step from such a state leads to such a state.
kept : (s : State trees) → Good s → (i x : ℕ) → Kept (step trees s i x)
unfolding step
kept (between t) g i x = both (eqb x 32) (goes tt) (both (is_letter x) (goes tt) stops)
kept (defining t n) g i x = both (is_letter x) (both (ltb (length n.letters) longest_name) (goes tt) stops) (kept_defined (trees.begin_line n t) x)
kept (defined t) g i x = kept_defined t x
kept (arrow t) g i x = both (eqb x 45) (goes tt) stops
kept (expecting t) g i x = both (eqb x 32) (goes tt) (kept_item t i x)
kept (naming t n) g i x = both (is_letter x) (both (ltb (length n.letters) longest_name) (goes tt) stops) (kept_step_after (trees.use_name n t) i x)
kept (quote_start t) g i x = both (is_quotable x) (goes g) stops
kept (quoting p) g i x =
    both (is_quotable x) (goes (rw (gather_depth 2 p.tree.frames p.current) g)) (both (eqb x 39) (kept_after (trees.close p)) stops)
kept (class_start t) g i x = both (is_part x) (goes g) stops
kept (single t c) g i x =
    both (is_part x) (goes (rw (gather_depth 1 t.frames (Written.range c c)) g))
    (both (eqb x 45) (by_test Kept (ltb c 122) _ _ (λ e. goes (g, ltb-true c 122 e)) (λ e. stops))
    (both (eqb x 93) (kept_after (trees.close (trees.add_range c c t))) stops))
kept (ranging t c) g i x = both (is_part x && ltb c x) (goes g.0) stops
kept (parted p) g i x =
    both (is_part x) (goes (rw (gather_depth 1 p.tree.frames p.current) g)) (both (eqb x 93) (kept_after (trees.close p)) stops)
kept (after p) g i x = kept_step_after p i x

-- From this state and place on, some bytes are read to the end.
abbrev Ends : State trees → ℕ → Type 0
Ends s i = (rest : List ℕ) × (t : Tree) × (run trees s i rest ≡ read t)

-- One byte leads to a state from which it is so.
by_byte : (s : State trees) (i x : ℕ) (s' : State trees) → step trees s i x ≡ some s' → Ends s' (suc i) → Ends s i
unfolding run
by_byte s i x s' e h = (x ∷ h.0, h.1, rw e h.2)

-- Where what is open can be closed and the line be ended as after an item, the text can be completed.
closes : (d : ℕ) (s : State trees) (i : ℕ) (p : Grown) → depth p.tree.frames ≡ d → step trees s i 41 ≡ to_after trees (trees.close p)
    → step trees s i 10 ≡ to_between trees (trees.end_line p) → Ends s i
unfolding run finish step step_after
closes zero s i p e c l =
    let h = can_end p e in
    by_byte s i 10 (between (new_line p.tree h.0)) (l ∙ ap (to_between trees) h.1) ([], new_line p.tree h.0, refl)
closes (suc d) s i p e c l =
    let h = can_close p d e in
    by_byte s i 41 (after h.0) (c ∙ ap (to_after trees) h.1) (closes d (after h.0) (suc i) h.0 h.2 refl refl)

end_after : (p : Grown) (i : ℕ) → Ends (after p) i
unfolding step step_after
end_after p i = closes _ (after p) i p refl refl refl

end_naming : (t : Tree) (n : Name) (i : ℕ) → Ends (naming t n) i
unfolding step step_after is_letter
end_naming t n i = closes _ (naming t n) i (trees.use_name n t) refl refl refl

end_expecting : (t : Tree) (i : ℕ) → Ends (expecting t) i
unfolding step begin_item is_letter
end_expecting t i = by_byte (expecting t) i 65 _ refl (end_naming t _ (suc i))

end_arrow : (t : Tree) (i : ℕ) → Ends (arrow t) i
unfolding step
end_arrow t i = by_byte (arrow t) i 45 _ refl (end_expecting t (suc i))

end_defining : (t : Tree) (n : Name) (i : ℕ) → Ends (defining t n) i
unfolding step step_defined is_letter
end_defining t n i = by_byte (defining t n) i 60 _ refl (end_arrow _ (suc i))

-- Where a byte closes a bracket that is open.
by_close : (s : State trees) (i x : ℕ) (p : Grown) → inside p.tree → step trees s i x ≡ to_after trees (trees.close p) → Ends s i
by_close s i x p g e =
    let h = can_close p (pred (depth p.tree.frames)) (omega arith) in
    by_byte s i x (after h.0) (e ∙ ap (to_after trees) h.1) (end_after h.0 (suc i))

end_quoting : (p : Grown) → inside p.tree → (i : ℕ) → Ends (quoting p) i
unfolding step is_quotable
end_quoting p g i = by_close (quoting p) i 39 p g refl

end_single : (t : Tree) (c : ℕ) → inside t → (i : ℕ) → Ends (single t c) i
unfolding step is_part is_letter
end_single t c g i = by_close (single t c) i 93 (trees.add_range c c t) g refl

end_parted : (p : Grown) → inside p.tree → (i : ℕ) → Ends (parted p) i
unfolding step is_part is_letter
end_parted p g i = by_close (parted p) i 93 p g refl

-- From each such state a text can be completed.
ends : (s : State trees) → Good s → (i : ℕ) → Ends s i
unfolding step step_defined is_quotable is_part is_letter
ends (between t) g i = by_byte (between t) i 65 _ refl (end_defining t _ (suc i))
ends (defining t n) g i = end_defining t n i
ends (defined t) g i = by_byte (defined t) i 60 _ refl (end_arrow t (suc i))
ends (arrow t) g i = end_arrow t i
ends (expecting t) g i = end_expecting t i
ends (naming t n) g i = end_naming t n i
ends (quote_start t) g i = by_byte (quote_start t) i 97 _ refl (end_quoting (trees.add_range 97 97 t) g (suc i))
ends (quoting p) g i = end_quoting p g i
ends (class_start t) g i = by_byte (class_start t) i 97 _ refl (end_single t 97 g (suc i))
ends (single t c) g i = end_single t c g i
ends (ranging t c) g i =
    by_byte (ranging t c) i 122 (parted (trees.add_range c 122 t)) (rw (lt-ltb c 122 g.1) refl) (end_parted (trees.add_range c 122 t) g.0 (suc i))
ends (parted p) g i = end_parted p g i
ends (after p) g i = end_after p i

-- What holds where the machine stops at a place, having begun in a state at place i: how many bytes it has taken, what can follow these, and that nothing can follow more.
record Stop (s : State trees) (i : ℕ) (xs : List ℕ) (p : ℕ) : Type 0 where
  taken : ℕ
  place : p ≡ i + taken
  within : taken ≤ length xs
  rest : List ℕ
  tree : Tree
  lives : run trees s i (take taken xs ++ rest) ≡ read tree
  dead : (q : ℕ) → taken < q → q ≤ length xs → (others : List ℕ) → run trees s i (take q xs ++ others) ≡ refused p

abbrev Stops : State trees → ℕ → List ℕ → Outcome trees → Type 0
Stops s i xs (refused p) = Stop s i xs p
Stops s i xs (read t) = Unit {0}

-- Where no byte is taken.
stops_here : (s : State trees) (i : ℕ) (xs : List ℕ) → Good s
    → ((q : ℕ) → 0 < q → q ≤ length xs → (others : List ℕ) → run trees s i (take q xs ++ others) ≡ refused i) → Stop s i xs i
stops_here s i xs g f =
    let h = ends s g i in
    record { taken = 0; place = omega arith; within = omega arith; rest = h.0; tree = h.1; lives = h.2; dead = f }

-- Where a byte is taken and the run from the next state stops so.
stops_after : (s t : State trees) (i x : ℕ) (xs : List ℕ) → step trees s i x ≡ some t → (o : Outcome trees) → Stops t (suc i) xs o → Stops s i (x ∷ xs) o
unfolding run
stops_after s t i x xs e (read u) h = tt
stops_after s t i x xs e (refused p) h =
    record {
      taken = suc h.taken;
      place = omega (arith, h.place);
      within = omega (arith, h.within);
      rest = h.rest;
      tree = h.tree;
      lives = rw e h.lives;
      dead = dead;
    }
  where
    dead : (q : ℕ) → suc h.taken < q → q ≤ suc (length xs) → (others : List ℕ) → run trees s i (take q (x ∷ xs) ++ others) ≡ refused p
    dead zero l m others = absurd (omega arith)
    dead (suc q) l m others = rw e (h.dead q (omega arith) (omega arith) others)

at_end : (s : State trees) (i : ℕ) → Stop s i [] i → Stops s i [] (finish trees s i)
unfolding finish
at_end (between t) i h = go (length t.done)
  where
    go : (n : ℕ) → Stops (between t) i [] (last_line trees i t n)
    go zero = h
    go (suc n) = tt
at_end (defining t n) i h = h
at_end (defined t) i h = h
at_end (arrow t) i h = h
at_end (expecting t) i h = h
at_end (naming t n) i h = h
at_end (quote_start t) i h = h
at_end (quoting p) i h = h
at_end (class_start t) i h = h
at_end (single t c) i h = h
at_end (ranging t c) i h = h
at_end (parted p) i h = h
at_end (after p) i h = h

at_byte : (s : State trees) (i x : ℕ) (xs : List ℕ) → Good s → (o : Option (State trees)) → step trees s i x ≡ o → Kept o
    → ((t : State trees) → Good t → Stops t (suc i) xs (run trees t (suc i) xs)) → Stops s i (x ∷ xs) (go_on trees i o (λ t. run trees t (suc i) xs))
unfolding run
at_byte s i x xs g none e k f = stops_here s i (x ∷ xs) g dead
  where
    dead : (q : ℕ) → 0 < q → q ≤ suc (length xs) → (others : List ℕ) → run trees s i (take q (x ∷ xs) ++ others) ≡ refused i
    dead zero l m others = absurd (omega arith)
    dead (suc q) l m others = rw e refl
at_byte s i x xs g (some t) e (goes h) f = stops_after s t i x xs e (run trees t (suc i) xs) (f t h)

-- A run from such a state is read to the end, or stops so.
stops_in : (s : State trees) → Good s → (i : ℕ) (xs : List ℕ) → Stops s i xs (run trees s i xs)
unfolding run
stops_in s g i [] = at_end s i (stops_here s i [] g (λ q l m others. absurd (omega arith)))
stops_in s g i (x ∷ xs) = at_byte s i x xs g (step trees s i x) refl (kept s g i x) (λ t h. stops_in t h (suc i) xs)

stopped : (text : List ℕ) (p : ℕ) → run trees (between bare) 0 text ≡ refused p → Stop (between bare) 0 text p
stopped text p e = subst (Stops (between bare) 0 text) e (stops_in (between bare) tt 0 text)

-- The place is in the text or at its end.
pub place_in : (text : List ℕ) (p : ℕ) → run trees (between bare) 0 text ≡ refused p → p ≤ length text
place_in text p e = let h = stopped text p e in omega (arith, h.place, h.within)

-- The bytes before the place can be completed to a text that is read.
pub alive : (text : List ℕ) (p : ℕ) → run trees (between bare) 0 text ≡ refused p
    → (rest : List ℕ) × (t : Tree) × (run trees (between bare) 0 (take p text ++ rest) ≡ read t)
alive text p e =
    let h = stopped text p e in
    let at : p ≡ h.taken = omega (arith, h.place) in
    (h.rest, h.tree, ap (λ k. run trees (between bare) 0 (take k text ++ h.rest)) at ∙ h.lives)

-- Once more bytes stand there, the machine stops at the same place, whatever follows.
pub no_longer : (text : List ℕ) (p : ℕ) → run trees (between bare) 0 text ≡ refused p → (q : ℕ) → p < q → q ≤ length text → (rest : List ℕ)
    → run trees (between bare) 0 (take q text ++ rest) ≡ refused p
no_longer text p e q l m rest = let h = stopped text p e in h.dead q (omega (arith, h.place)) m rest

abbrev is_read : Outcome trees → Type 0
is_read (refused p) = ⊥
is_read (read t) = Unit {0}

not_both : {o : Outcome trees} {p : ℕ} {t : Tree} → o ≡ refused p → o ≡ read t → ⊥
not_both e f = subst is_read (sym f ∙ e) tt

-- No two places are where the longest beginning ends.
pub one_place : {text : List ℕ} {p q : ℕ} → Longest text p → Longest text q → p ≡ q
one_place {p} {q} h k = omega (arith, h.longest q k.begins, k.longest p h.begins)

module _ (sound_read : (text : List ℕ) (t : Tree) → run trees (between bare) 0 text ≡ read t → ShowsSheet (reverse t.done) text)
    (complete : (ls : List Line) (text : List ℕ) → ShowsSheet ls text → (t : Tree) × (run trees (between bare) 0 text ≡ read t) × (reverse t.done ≡ ls)) where
  refused_not_shaped : (text : List ℕ) (p : ℕ) → run trees (between bare) 0 text ≡ refused p → ¬ Shaped text
  refused_not_shaped text p e (shaped h) = not_both e (complete _ text h).1

  -- Where the machine stops, the longest beginning of a text of the shape ends.
  pub longest : (text : List ℕ) (p : ℕ) → run trees (between bare) 0 text ≡ refused p → (¬ Shaped text) × Longest text p
  longest text p e = (refused_not_shaped text p e, record { begins = begins; longest = longest_is })
    where
      begins : Begins text p
      begins = let h = alive text p e in record { within = place_in text p e; rest = h.0; shape = shaped (sound_read _ h.1 h.2) }

      by_order : (q : ℕ) → Begins text q → (b : Bool) → leb q p ≡ b → q ≤ p
      by_order q h true l = leb-true q p l
      by_order q h false l = absurd (refused_not_shaped _ p (no_longer text p e q (leb-false q p l) h.within h.rest) h.shape)

      longest_is : (q : ℕ) → Begins text q → q ≤ p
      longest_is q h = by_order q h (leb q p) refl
