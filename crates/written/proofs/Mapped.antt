-- Two builders of which one is a picture of the other: over both the machine does the same. Said once, of any two.
use mathlib.Core.Path.{◌≡◌, refl, ap}
use mathlib.Core.Bool.{Bool, cond, ◌&&◌}
use mathlib.Core.List.{List, [], ◌∷◌}
use mathlib.Core.Option.{Option, none, some, map}
use Prim.Native.Nat.{ℕ, zero, suc}
use lib.Dec.{ltb, eqb}
use Rattle.meaning.proofs.Choose.{by_test_twice}
use Rattle.written.specs.Shown.{is_letter, is_part, is_quotable, longest_name}
use Rattle.written.specs.Machine.{Builder, State, between, defining, defined, arrow, expecting, naming, quote_start, quoting, class_start, single, ranging, parted, after}
use Rattle.written.specs.Machine.{longer, to_after, to_between, begin_item, step_after, step_defined, step, Outcome, refused, read, last_line, finish, go_on, run}

-- What is built, if anything is, is so.
abbrev pub OfSome : {A : Type 0} → (A → Type 0) → Option A → Type 0
OfSome P none = Unit {0}
OfSome P (some x) = P x

-- What a builder makes is carried over to what another makes, and each operation of the one to that of the other; between two lines only what is clear.
pub record Maps (a b : Builder) : Type 1 where
  pub Clear : a.Open → Type 0
  pub on_name : a.Named → b.Named
  pub on_open : a.Open → b.Open
  pub on_full : a.Full → b.Full
  pub first_letter : (i c : ℕ) → b.first_letter i c ≡ on_name (a.first_letter i c)
  pub next_letter : (n : a.Named) (c : ℕ) → b.next_letter (on_name n) c ≡ on_name (a.next_letter n c)
  pub letters : (n : a.Named) → b.letters (on_name n) ≡ a.letters n
  pub begin_line : (n : a.Named) (p : a.Open) → Clear p → b.begin_line (on_name n) (on_open p) ≡ on_open (a.begin_line n p)
  pub use_name : (n : a.Named) (p : a.Open) → b.use_name (on_name n) (on_open p) ≡ on_full (a.use_name n p)
  pub add_range : (lowest highest : ℕ) (p : a.Open) → b.add_range lowest highest (on_open p) ≡ on_full (a.add_range lowest highest p)
  pub hold_not : (p : a.Open) → b.hold_not (on_open p) ≡ on_open (a.hold_not p)
  pub hold_bracket : (p : a.Open) → b.hold_bracket (on_open p) ≡ on_open (a.hold_bracket p)
  pub hold_item : (p : a.Full) → b.hold_item (on_full p) ≡ on_open (a.hold_item p)
  pub hold_row : (p : a.Full) → b.hold_row (on_full p) ≡ on_open (a.hold_row p)
  pub add_star : (p : a.Full) → b.add_star (on_full p) ≡ on_full (a.add_star p)
  pub add_plus : (p : a.Full) → b.add_plus (on_full p) ≡ on_full (a.add_plus p)
  pub add_maybe : (p : a.Full) → b.add_maybe (on_full p) ≡ on_full (a.add_maybe p)
  pub close : (p : a.Full) → b.close (on_full p) ≡ map on_full (a.close p)
  pub end_line : (p : a.Full) → b.end_line (on_full p) ≡ map on_open (a.end_line p)
  pub clear_after : (p : a.Full) → OfSome Clear (a.end_line p)
  pub lines : (p : a.Open) → b.lines (on_open p) ≡ a.lines p

abbrev pub map_state : {a b : Builder} → Maps a b → State a → State b
map_state m (between p) = between (m.on_open p)
map_state m (defining p n) = defining (m.on_open p) (m.on_name n)
map_state m (defined p) = defined (m.on_open p)
map_state m (arrow p) = arrow (m.on_open p)
map_state m (expecting p) = expecting (m.on_open p)
map_state m (naming p n) = naming (m.on_open p) (m.on_name n)
map_state m (quote_start p) = quote_start (m.on_open p)
map_state m (quoting p) = quoting (m.on_full p)
map_state m (class_start p) = class_start (m.on_open p)
map_state m (single p c) = single (m.on_open p) c
map_state m (ranging p c) = ranging (m.on_open p) c
map_state m (parted p) = parted (m.on_full p)
map_state m (after p) = after (m.on_full p)

abbrev pub map_outcome : {a b : Builder} → Maps a b → Outcome a → Outcome b
map_outcome m (refused i) = refused i
map_outcome m (read p) = read (m.on_open p)

abbrev pub ClearState : {a b : Builder} → Maps a b → State a → Type 0
ClearState m (between p) = m.Clear p
ClearState m (defining p n) = m.Clear p
ClearState m (defined p) = Unit {0}
ClearState m (arrow p) = Unit {0}
ClearState m (expecting p) = Unit {0}
ClearState m (naming p n) = Unit {0}
ClearState m (quote_start p) = Unit {0}
ClearState m (quoting p) = Unit {0}
ClearState m (class_start p) = Unit {0}
ClearState m (single p c) = Unit {0}
ClearState m (ranging p c) = Unit {0}
ClearState m (parted p) = Unit {0}
ClearState m (after p) = Unit {0}

abbrev pub ClearOutcome : {a b : Builder} → Maps a b → Outcome a → Type 0
ClearOutcome m (refused i) = Unit {0}
ClearOutcome m (read p) = m.Clear p

module _ {a b : Builder} (m : Maps a b) where
  -- The two machines go on to the same state, which is clear between two lines, or neither goes on.
  abbrev Alike : Option (State a) → Option (State b) → Type 0
  Alike o q = (q ≡ map (map_state m) o) × OfSome (ClearState m) o

  chosen : (t : Bool) (o o' : Option (State a)) (q q' : Option (State b)) → Alike o q → Alike o' q' → Alike (cond t o o') (cond t q q')
  chosen t o o' q q' x y = by_test_twice Alike t o o' q q' x y

  alike_longer : (f : a.Named → State a) (g : b.Named → State b) → ((n : a.Named) → g (m.on_name n) ≡ map_state m (f n))
      → ((n : a.Named) → ClearState m (f n)) → (n : a.Named) (x : ℕ) → Alike (longer a f n x) (longer b g (m.on_name n) x)
  alike_longer f g e c n x =
      rw (m.letters n, m.next_letter n x) (chosen (ltb (a.letters n) longest_name) _ _ _ _ (ap some (e (a.next_letter n x)), c (a.next_letter n x)) (refl, tt))

  alike_after : (o : Option a.Full) → Alike (to_after a o) (to_after b (map m.on_full o))
  alike_after none = (refl, tt)
  alike_after (some p) = (refl, tt)

  alike_between : (o : Option a.Open) → OfSome m.Clear o → Alike (to_between a o) (to_between b (map m.on_open o))
  alike_between none c = (refl, tt)
  alike_between (some p) c = (refl, c)

  alike_close : (p : a.Full) → Alike (to_after a (a.close p)) (to_after b (b.close (m.on_full p)))
  alike_close p = rw (m.close p) (alike_after (a.close p))

  alike_end : (p : a.Full) → Alike (to_between a (a.end_line p)) (to_between b (b.end_line (m.on_full p)))
  alike_end p = rw (m.end_line p) (alike_between (a.end_line p) (m.clear_after p))

  alike_begin : (p : a.Open) (i x : ℕ) → Alike (begin_item a p i x) (begin_item b (m.on_open p) i x)
  unfolding begin_item
  alike_begin p i x =
      rw (m.first_letter i x, m.hold_not p, m.hold_bracket p)
      (chosen (is_letter x) _ _ _ _ (refl, tt)
      (chosen (eqb x 33) _ _ _ _ (refl, tt)
      (chosen (eqb x 40) _ _ _ _ (refl, tt)
      (chosen (eqb x 39) _ _ _ _ (refl, tt)
      (chosen (eqb x 91) _ _ _ _ (refl, tt) (refl, tt))))))

  alike_step_after : (p : a.Full) (i x : ℕ) → Alike (step_after a p i x) (step_after b (m.on_full p) i x)
  unfolding step_after
  alike_step_after p i x =
      rw (m.add_star p, m.add_plus p, m.add_maybe p, m.hold_row p, m.hold_item p)
      (chosen (eqb x 32) _ _ _ _ (refl, tt)
      (chosen (eqb x 42) _ _ _ _ (refl, tt)
      (chosen (eqb x 43) _ _ _ _ (refl, tt)
      (chosen (eqb x 63) _ _ _ _ (refl, tt)
      (chosen (eqb x 47) _ _ _ _ (refl, tt)
      (chosen (eqb x 41) _ _ _ _ (alike_close p)
      (chosen (eqb x 10) _ _ _ _ (alike_end p) (alike_begin (a.hold_item p) i x))))))))

  alike_step_defined : (p : a.Open) (x : ℕ) → Alike (step_defined a p x) (step_defined b (m.on_open p) x)
  unfolding step_defined
  alike_step_defined p x = chosen (eqb x 32) _ _ _ _ (refl, tt) (chosen (eqb x 60) _ _ _ _ (refl, tt) (refl, tt))

  alike_step : (s : State a) (i x : ℕ) → ClearState m s → Alike (step a s i x) (step b (map_state m s) i x)
  unfolding step
  alike_step (between p) i x c = rw (m.first_letter i x) (chosen (eqb x 32) _ _ _ _ (refl, c) (chosen (is_letter x) _ _ _ _ (refl, c) (refl, tt)))
  alike_step (defining p n) i x c =
      rw (m.begin_line n p c)
      (chosen (is_letter x) _ _ _ _ (alike_longer (defining p) (defining (m.on_open p)) (λ k. refl) (λ k. c) n x) (alike_step_defined (a.begin_line n p) x))
  alike_step (defined p) i x c = alike_step_defined p x
  alike_step (arrow p) i x c = chosen (eqb x 45) _ _ _ _ (refl, tt) (refl, tt)
  alike_step (expecting p) i x c = chosen (eqb x 32) _ _ _ _ (refl, tt) (alike_begin p i x)
  alike_step (naming p n) i x c =
      rw (m.use_name n p)
      (chosen (is_letter x) _ _ _ _ (alike_longer (naming p) (naming (m.on_open p)) (λ k. refl) (λ k. tt) n x) (alike_step_after (a.use_name n p) i x))
  alike_step (quote_start p) i x c = rw (m.add_range x x p) (chosen (is_quotable x) _ _ _ _ (refl, tt) (refl, tt))
  alike_step (quoting p) i x c =
      rw (m.hold_item p, m.add_range x x (a.hold_item p))
      (chosen (is_quotable x) _ _ _ _ (refl, tt) (chosen (eqb x 39) _ _ _ _ (alike_close p) (refl, tt)))
  alike_step (class_start p) i x c = chosen (is_part x) _ _ _ _ (refl, tt) (refl, tt)
  alike_step (single p d) i x c =
      rw (m.add_range d d p, m.hold_row (a.add_range d d p))
      (chosen (is_part x) _ _ _ _ (refl, tt)
      (chosen (eqb x 45) _ _ _ _ (chosen (ltb d 122) _ _ _ _ (refl, tt) (refl, tt)) (chosen (eqb x 93) _ _ _ _ (alike_close (a.add_range d d p)) (refl, tt))))
  alike_step (ranging p d) i x c = rw (m.add_range d x p) (chosen (is_part x && ltb d x) _ _ _ _ (refl, tt) (refl, tt))
  alike_step (parted p) i x c =
      rw (m.hold_row p) (chosen (is_part x) _ _ _ _ (refl, tt) (chosen (eqb x 93) _ _ _ _ (alike_close p) (refl, tt)))
  alike_step (after p) i x c = alike_step_after p i x

  -- The two machines say the same, and what is read is clear.
  abbrev pub AlikeEnd : Outcome a → Outcome b → Type 0
  AlikeEnd o q = (q ≡ map_outcome m o) × ClearOutcome m o

  alike_last : (i : ℕ) (p : a.Open) → m.Clear p → (n : ℕ) → AlikeEnd (last_line a i p n) (last_line b i (m.on_open p) n)
  alike_last i p c zero = (refl, tt)
  alike_last i p c (suc n) = (refl, c)

  alike_finish : (s : State a) (i : ℕ) → ClearState m s → AlikeEnd (finish a s i) (finish b (map_state m s) i)
  unfolding finish
  alike_finish (between p) i c = rw (m.lines p) (alike_last i p c (a.lines p))
  alike_finish (defining p n) i c = (refl, tt)
  alike_finish (defined p) i c = (refl, tt)
  alike_finish (arrow p) i c = (refl, tt)
  alike_finish (expecting p) i c = (refl, tt)
  alike_finish (naming p n) i c = (refl, tt)
  alike_finish (quote_start p) i c = (refl, tt)
  alike_finish (quoting p) i c = (refl, tt)
  alike_finish (class_start p) i c = (refl, tt)
  alike_finish (single p d) i c = (refl, tt)
  alike_finish (ranging p d) i c = (refl, tt)
  alike_finish (parted p) i c = (refl, tt)
  alike_finish (after p) i c = (refl, tt)

  alike_go_on : (i : ℕ) (f : State a → Outcome a) (g : State b → Outcome b) → ((s : State a) → ClearState m s → AlikeEnd (f s) (g (map_state m s)))
      → (o : Option (State a)) → OfSome (ClearState m) o → AlikeEnd (go_on a i o f) (go_on b i (map (map_state m) o) g)
  alike_go_on i f g e none c = (refl, tt)
  alike_go_on i f g e (some s) c = e s c

  alike_run : (s : State a) (i : ℕ) (xs : List ℕ) → ClearState m s → AlikeEnd (run a s i xs) (run b (map_state m s) i xs)
  unfolding run
  alike_run s i [] c = alike_finish s i c
  alike_run s i (x ∷ xs) c =
      let next = alike_step s i x c in
      rw next.0 (alike_go_on i (λ t. run a t (suc i) xs) (λ t. run b t (suc i) xs) (λ t d. alike_run t (suc i) xs d) (step a s i x) next.1)

  -- So of any text both say the same.
  pub same_run : (s : State a) (i : ℕ) (xs : List ℕ) → ClearState m s → run b (map_state m s) i xs ≡ map_outcome m (run a s i xs)
  same_run s i xs c = (alike_run s i xs c).0

  -- And what is read is clear.
  pub clear_run : (s : State a) (i : ℕ) (xs : List ℕ) → ClearState m s → ClearOutcome m (run a s i xs)
  clear_run s i xs c = (alike_run s i xs c).1
