-- What the contracts of the code's own functions cite: a machine that reads a text byte by byte. Nothing here has to be believed.
-- What it builds is a parameter: what is written (proofs/Trees), or the numbers that the code keeps (specs/Draft).
use Rattle.std.specs.Prelude.{◌&&◌, cond, List, [], ◌∷◌, ℕ, zero, suc, ltb, eqb}
use Rattle.std.proofs.Math.Option.{Option, none, some}
use Rattle.written.specs.Shown.{is_letter, is_part, is_quotable, longest_name}

-- What is built. Open: an item, or a line, is to come. Full: an item has just been built.
pub record Builder : Type 1 where
  pub Named : Type 0
  pub Open : Type 0
  pub Full : Type 0
  pub first_letter : (place c : ℕ) → Named
  pub next_letter : Named → ℕ → Named
  pub letters : Named → ℕ
  pub begin_line : Named → Open → Open
  pub use_name : Named → Open → Full
  pub add_range : (lowest highest : ℕ) → Open → Full
  pub hold_not : Open → Open
  pub hold_bracket : Open → Open
  pub hold_item : Full → Open
  pub hold_row : Full → Open
  pub add_star : Full → Full
  pub add_plus : Full → Full
  pub add_maybe : Full → Full
  pub close : Full → Option Full
  pub end_line : Full → Option Open
  pub lines : Open → ℕ

pub data State (b : Builder) : Type 0 where
  between : b.Open → State b
  defining : b.Open → b.Named → State b
  defined : b.Open → State b
  arrow : b.Open → State b
  expecting : b.Open → State b
  naming : b.Open → b.Named → State b
  quote_start : b.Open → State b
  quoting : b.Full → State b
  class_start : b.Open → State b
  single : b.Open → ℕ → State b
  ranging : b.Open → ℕ → State b
  parted : b.Full → State b
  after : b.Full → State b

-- One more letter of a name, unless it has as many as a name may have.
abbrev pub longer : (b : Builder) → (b.Named → State b) → b.Named → ℕ → Option (State b)
longer b f n x = cond (ltb (b.letters n) longest_name) (some (f (b.next_letter n x))) none

abbrev pub to_after : (b : Builder) → Option b.Full → Option (State b)
to_after b none = none
to_after b (some p) = some (after p)

abbrev pub to_between : (b : Builder) → Option b.Open → Option (State b)
to_between b none = none
to_between b (some p) = some (between p)

-- The first byte of an item, at place i.
unfoldable pub begin_item : (b : Builder) → b.Open → (i x : ℕ) → Option (State b)
begin_item b p i x =
    cond (is_letter x) (some (naming p (b.first_letter i x)))
    (cond (eqb x 33) (some (expecting (b.hold_not p)))
    (cond (eqb x 40) (some (expecting (b.hold_bracket p)))
    (cond (eqb x 39) (some (quote_start (b.hold_bracket p)))
    (cond (eqb x 91) (some (class_start (b.hold_bracket p))) none))))

unfoldable pub step_after : (b : Builder) → b.Full → (i x : ℕ) → Option (State b)
step_after b p i x =
    cond (eqb x 32) (some (after p))
    (cond (eqb x 42) (some (after (b.add_star p)))
    (cond (eqb x 43) (some (after (b.add_plus p)))
    (cond (eqb x 63) (some (after (b.add_maybe p)))
    (cond (eqb x 47) (some (expecting (b.hold_row p)))
    (cond (eqb x 41) (to_after b (b.close p))
    (cond (eqb x 10) (to_between b (b.end_line p))
    (begin_item b (b.hold_item p) i x)))))))

unfoldable pub step_defined : (b : Builder) → b.Open → (x : ℕ) → Option (State b)
step_defined b p x = cond (eqb x 32) (some (defined p)) (cond (eqb x 60) (some (arrow p)) none)

-- What the machine does at the byte x, which stands at place i; none where the text can't go on so.
unfoldable pub step : (b : Builder) → State b → (i x : ℕ) → Option (State b)
step b (between p) i x = cond (eqb x 32) (some (between p)) (cond (is_letter x) (some (defining p (b.first_letter i x))) none)
step b (defining p n) i x = cond (is_letter x) (longer b (defining p) n x) (step_defined b (b.begin_line n p) x)
step b (defined p) i x = step_defined b p x
step b (arrow p) i x = cond (eqb x 45) (some (expecting p)) none
step b (expecting p) i x = cond (eqb x 32) (some (expecting p)) (begin_item b p i x)
step b (naming p n) i x = cond (is_letter x) (longer b (naming p) n x) (step_after b (b.use_name n p) i x)
step b (quote_start p) i x = cond (is_quotable x) (some (quoting (b.add_range x x p))) none
step b (quoting p) i x = cond (is_quotable x) (some (quoting (b.add_range x x (b.hold_item p)))) (cond (eqb x 39) (to_after b (b.close p)) none)
step b (class_start p) i x = cond (is_part x) (some (single p x)) none
step b (single p c) i x =
    cond (is_part x) (some (single (b.hold_row (b.add_range c c p)) x))
    (cond (eqb x 45) (cond (ltb c 122) (some (ranging p c)) none) (cond (eqb x 93) (to_after b (b.close (b.add_range c c p))) none))
step b (ranging p c) i x = cond (is_part x && ltb c x) (some (parted (b.add_range c x p))) none
step b (parted p) i x = cond (is_part x) (some (single (b.hold_row p) x)) (cond (eqb x 93) (to_after b (b.close p)) none)
step b (after p) i x = step_after b p i x

-- How a text ends: it can't go on from a place, or all lines are read.
pub data Outcome (b : Builder) : Type 0 where
  refused : ℕ → Outcome b
  read : b.Open → Outcome b

abbrev pub last_line : (b : Builder) → ℕ → b.Open → (lines : ℕ) → Outcome b
last_line b i p zero = refused i
last_line b i p (suc n) = read p

-- At the text's end, at place i: only between two lines, and after at least one, a text may end.
unfoldable pub finish : (b : Builder) → State b → ℕ → Outcome b
finish b (between p) i = last_line b i p (b.lines p)
finish b (defining p n) i = refused i
finish b (defined p) i = refused i
finish b (arrow p) i = refused i
finish b (expecting p) i = refused i
finish b (naming p n) i = refused i
finish b (quote_start p) i = refused i
finish b (quoting p) i = refused i
finish b (class_start p) i = refused i
finish b (single p c) i = refused i
finish b (ranging p c) i = refused i
finish b (parted p) i = refused i
finish b (after p) i = refused i

abbrev pub go_on : (b : Builder) → ℕ → Option (State b) → (State b → Outcome b) → Outcome b
go_on b i none f = refused i
go_on b i (some s) f = f s

unfoldable pub run : (b : Builder) → State b → ℕ → List ℕ → Outcome b
run b s i [] = finish b s i
run b s i (x ∷ xs) = go_on b i (step b s i x) (λ t. run b t (suc i) xs)

-- From a state, if there is one.
abbrev pub step_from : (b : Builder) → Option (State b) → (i x : ℕ) → Option (State b)
step_from b none i x = none
step_from b (some s) i x = step b s i x

abbrev pub finish_from : (b : Builder) → Option (State b) → ℕ → Outcome b
finish_from b none i = refused i
finish_from b (some s) i = finish b s i

abbrev pub run_from : (b : Builder) → Option (State b) → ℕ → List ℕ → Outcome b
run_from b none i xs = refused i
run_from b (some s) i xs = run b s i xs
