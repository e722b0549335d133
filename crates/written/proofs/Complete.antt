-- The machine reads every text that shows a sheet, and ends with that sheet; so a text shows at most one.
use mathlib.Core.Path.{◌≡◌, refl, sym, ◌∙◌, ap}
use mathlib.Core.Logic.{⊎_elim}
use mathlib.Core.Bool.{true, false, and-eq-true_iff, true≢false}
use mathlib.Core.List.{List, [], ◌∷◌, ◌++◌, append_assoc, reverse, reverse_aux, reverse-reverse}
use mathlib.Core.Option.{some}
use Prim.Native.Nat.{ℕ, suc, ◌≤◌, ◌<◌}
use native.Mathlib.Omega.{arith}
use lib.ListN.{length, length-append}
use lib.Dec.{leb, ltb, eqb}
use borrow.Author.Tests.{leb-true, le-leb, lt-leb, lt-ltb, ne_eqb}
use Rattle.meaning.proofs.Choose.{by_test, or_split}
use Rattle.written.specs.Written.{Name, Written, name, range, star, plus, maybe, Line}
use Rattle.written.specs.Shown as shown
use Rattle.written.specs.Shown.{within, is_letter, is_part, is_quotable, Spot, spot, Takes, takes, Spaces, Sign, sign, NoLetter, Letters, longest_name, Names, names}
use Rattle.written.specs.Shown.{Quoted, one_byte, byte_then, Part, from_to, Parts, one_part, part_or, Level, signed, item, row, choice}
use Rattle.written.specs.Shown.{Shows, by_name, by_quote, by_class, by_brackets, by_star, by_plus, by_maybe, as_item, by_not, as_row, by_then, as_choice, by_or}
use Rattle.written.specs.Shown.{ShowsLine, line, ShowsLines, ShowsSheet, sheet}
use Rattle.written.specs.Machine.{State, between, defining, defined, arrow, expecting, naming, quote_start, quoting, class_start, single, ranging, parted, after}
use Rattle.written.specs.Machine.{Outcome, refused, read, longer, to_after, to_between, begin_item, step_after, step_defined, step, last_line, finish, go_on, run}
use Rattle.written.proofs.Trees.{Frame, bracket, row_of, item_of, bang, rank_of, put, Tree, Grown, with_frames, grown, pair, gather}
use Rattle.written.proofs.Trees.{hold_as, leave_in, end_in, trees, bare}

-- ---- Bytes.
-- A letter is no byte that is no letter.
letter_not : (k x : ℕ) → is_letter k ≡ false → is_letter x ≡ true → eqb x k ≡ false
letter_not k x f e = ne_eqb x k (λ h. true≢false (sym e ∙ (ap is_letter h ∙ f)))

within_low : (lowest highest c : ℕ) → highest ≤ 122 → within lowest highest c ≡ true → c ≤ 122
within_low lowest highest c h e = let l = leb-true c highest ((and-eq-true_iff (leb lowest c) (leb c highest)).0 e).1 in omega arith

-- No part is past `z`, so a range that ends in one begins before `z`.
part_low : (c : ℕ) → is_part c ≡ true → c ≤ 122
unfolding is_part is_letter
part_low c e =
    ⊎_elim
    (λ l. ⊎_elim (within_low 65 90 c (omega arith)) (within_low 97 122 c (omega arith)) (or_split (within 65 90 c) _ l))
    (within_low 48 57 c (omega arith))
    (or_split (is_letter c) _ e)

-- ---- The machine from a spot on.
abbrev runs : State trees → Spot → Outcome trees
runs s (spot i cs) = run trees s i cs

-- The item w has been read, and nothing is held back for it that was not before.
abbrev just : Tree → Written → Grown
just t w = grown t t.frames w

abbrev place_of : Spot → ℕ
place_of (spot i cs) = i

-- Two states that step alike at the next byte.
alike : {c : ℕ} {p q : Spot} (s : State trees) (u : ℕ → State trees) → ((i : ℕ) → step trees s i c ≡ step trees (u i) i c) → Takes c p q
    → runs s p ≡ runs (u (place_of p)) p
unfolding run
alike s u h (takes {i = i} {cs = cs}) = ap (λ o. go_on trees i o (λ t. run trees t (suc i) cs)) (h i)

by_letter : {cs : List ℕ} {p q : Spot} (s : State trees) (u : ℕ → State trees) → ((i x : ℕ) → is_letter x ≡ true → step trees s i x ≡ step trees (u i) i x)
    → Letters cs p q → runs s p ≡ runs (u (place_of p)) p
by_letter s u h (shown.last {c = c} e byte no-letter) = alike s u (λ i. h i c e) byte
by_letter s u h (shown.more {c = c} e byte rest) = alike s u (λ i. h i c e) byte

-- A byte read.
one : {c : ℕ} {p q : Spot} (s u : State trees) → ((i : ℕ) → step trees s i c ≡ some u) → Takes c p q → runs s p ≡ runs u q
unfolding run
one s u h (takes {i = i} {cs = cs}) = ap (λ o. go_on trees i o (λ t. run trees t (suc i) cs)) (h i)

-- A state that passes spaces.
abbrev Waits : State trees → Type 0
Waits s = (i : ℕ) → step trees s i 32 ≡ some s

pass : {p q : Spot} (s : State trees) → Waits s → Spaces p q → runs s p ≡ runs s q
pass s w shown.none = refl
pass s w (shown.more h rest) = one s s w h ∙ pass s w rest

by_sign : {c : ℕ} {p q : Spot} (s u : State trees) → Waits s → ((i : ℕ) → step trees s i c ≡ some u) → Sign c p q → runs s p ≡ runs u q
by_sign s u w h (sign spaces byte) = pass s w spaces ∙ one s u h byte

waits_between : (t : Tree) → Waits (between t)
unfolding step
waits_between t i = refl

waits_expecting : (t : Tree) → Waits (expecting t)
unfolding step
waits_expecting t i = refl

waits_after : (g : Grown) → Waits (after g)
unfolding step step_after
waits_after g i = refl

-- ---- A name, read from the state s on in the states f to the state g.
abbrev named : ℕ → List ℕ → Name
named i cs = record { place = i; letters = cs }

module _ (s : State trees) (f g : Name → State trees)
    (waits : Waits s)
    (begins : (i x : ℕ) → is_letter x ≡ true → step trees s i x ≡ some (f (named i (x ∷ []))))
    (goes_on : (n : Name) (i x : ℕ) → is_letter x ≡ true → step trees (f n) i x ≡ longer trees f n x)
    (ends : (n : Name) (q : Spot) → NoLetter q → runs (f n) q ≡ runs (g n) q) where
  letter : {c : ℕ} {p q : Spot} (j : ℕ) (pre cs : List ℕ) → is_letter c ≡ true → length (pre ++ (c ∷ cs)) ≤ longest_name → Takes c p q
      → runs (f (named j pre)) p ≡ runs (f (named j (pre ++ (c ∷ [])))) q
  letter {c = c} j pre cs e h byte =
      let l = length-append pre (c ∷ cs) in
      let t : ltb (length pre) longest_name ≡ true = lt-ltb (length pre) longest_name (omega arith) in
      one (f (named j pre)) (f (named j (pre ++ (c ∷ [])))) (λ i. goes_on (named j pre) i c e ∙ rw t refl) byte

  letters : {cs : List ℕ} {p q : Spot} (j : ℕ) (pre : List ℕ) → Letters cs p q → length (pre ++ cs) ≤ longest_name
      → runs (f (named j pre)) p ≡ runs (g (named j (pre ++ cs))) q
  letters j pre (shown.last {c = c} {q = q} e byte no-letter) h = letter j pre [] e h byte ∙ ends (named j (pre ++ (c ∷ []))) q no-letter
  letters j pre (shown.more {c = c} {cs = cs} {r = r} e byte rest) h =
      let a : pre ++ (c ∷ []) ++ cs ≡ pre ++ (c ∷ cs) = append_assoc pre (c ∷ []) cs in
      letter j pre cs e h byte ∙ letters j (pre ++ (c ∷ [])) rest (rw a h) ∙ ap (λ l. runs (g (named j l)) r) a

  a_name : {n : Name} {p q : Spot} → Names n p q → runs s p ≡ runs (g n) q
  a_name (names {i = i} spaces l h) =
      pass s waits spaces ∙ (by_letter s (λ j. f (named j [])) (λ j x e. begins j x e ∙ sym (goes_on (named j []) j x e)) l ∙ letters i [] l h)

-- A name that is used.
used : {n : Name} {p q : Spot} (t : Tree) → Names n p q → runs (expecting t) p ≡ runs (after (just t (name n))) q
unfolding run step finish begin_item is_letter
used t = a_name (expecting t) (naming t) (λ n. after (just t (name n))) (waits_expecting t) begins goes_on ends
  where
    begins : (i x : ℕ) → is_letter x ≡ true → step trees (expecting t) i x ≡ some (naming t (named i (x ∷ [])))
    begins i x e = rw (letter_not 32 x refl e, e) refl

    goes_on : (n : Name) (i x : ℕ) → is_letter x ≡ true → step trees (naming t n) i x ≡ longer trees (naming t) n x
    goes_on n i x e = rw e refl

    ends : (n : Name) (q : Spot) → NoLetter q → runs (naming t n) q ≡ runs (after (just t (name n))) q
    ends n (spot i []) h = refl
    ends n (spot i (x ∷ xs)) h = rw h refl

-- The name of a line.
defines : {n : Name} {p q : Spot} (t : Tree) → Names n p q → runs (between t) p ≡ runs (defined (trees.begin_line n t)) q
unfolding run step finish is_letter
defines t = a_name (between t) (defining t) (λ n. defined (trees.begin_line n t)) (waits_between t) begins goes_on ends
  where
    begins : (i x : ℕ) → is_letter x ≡ true → step trees (between t) i x ≡ some (defining t (named i (x ∷ [])))
    begins i x e = rw (letter_not 32 x refl e, e) refl

    goes_on : (n : Name) (i x : ℕ) → is_letter x ≡ true → step trees (defining t n) i x ≡ longer trees (defining t) n x
    goes_on n i x e = rw e refl

    ends : (n : Name) (q : Spot) → NoLetter q → runs (defining t n) q ≡ runs (defined (trees.begin_line n t)) q
    ends n (spot i []) h = refl
    ends n (spot i (x ∷ xs)) h = rw h refl

-- ---- What is held back.
-- The newest frame has a rank below this one.
abbrev Below : ℕ → List Frame → Type 0
Below rank [] = Unit {0}
Below rank (f ∷ fs) = rank_of f < rank

-- Then nothing is put around an item.
kept : (rank : ℕ) (fs : List Frame) (w : Written) → Below rank fs → gather rank fs w ≡ pair fs w
unfolding gather
kept rank [] w h = refl
kept rank (f ∷ fs) w h = let e : leb rank (rank_of f) ≡ false = lt-leb rank (rank_of f) h in rw e refl

below_more : (rank : ℕ) (fs : List Frame) → Below rank fs → Below (suc rank) fs
below_more rank [] h = tt
below_more rank (f ∷ fs) h = omega arith

-- What is gathered with a higher rank first is gathered with a lower one all the same.
regather : (rank : ℕ) (fs : List Frame) (w : Written) → gather rank (gather (suc rank) fs w).frames (gather (suc rank) fs w).current ≡ gather rank fs w
unfolding gather
regather rank [] w = refl
regather rank (f ∷ fs) w =
    by_test (λ x. gather rank x.frames x.current ≡ gather rank (f ∷ fs) w) (leb (suc rank) (rank_of f)) (gather (suc rank) fs (put f w)) (pair (f ∷ fs) w)
    (λ e.
    let h = leb-true (suc rank) (rank_of f) e in
    let l : leb rank (rank_of f) ≡ true = le-leb rank (rank_of f) (omega arith) in
    regather rank fs (put f w) ∙ rw l refl)
    (λ e. refl)

-- From the state s at p the machine comes to the state f at q, with what is w around the frames of t.
record Arrives (s : State trees) (f : Grown → State trees) (rank : ℕ) (t : Tree) (w : Written) (p q : Spot) : Type 0 where
  frames : List Frame
  current : Written
  way : runs s p ≡ runs (f (grown t frames current)) q
  same : gather rank frames current ≡ gather rank t.frames w

-- So what arrives with a higher rank arrives with a lower one.
lower : {s : State trees} {f : Grown → State trees} {rank : ℕ} {t : Tree} {w : Written} {p q : Spot} → Arrives s f (suc rank) t w p q → Arrives s f rank t w p q
lower {rank = rank} {t = t} {w = w} a = record {
  frames = a.frames;
  current = a.current;
  way = a.way;
  same = sym (regather rank a.frames a.current) ∙ (ap (λ x. gather rank x.frames x.current) a.same ∙ regather rank t.frames w);
}

abbrev held : Frame → Tree → Tree
held f t = with_frames t (f ∷ t.frames)

-- With one more frame held back.
around : {s u : State trees} {e : Grown → State trees} {rank : ℕ} {w : Written} {p q r : Spot} (f : Frame) (t : Tree) → leb rank (rank_of f) ≡ true
    → runs s p ≡ runs u q → Arrives u e rank (held f t) w q r → Arrives s e rank t (put f w) p r
unfolding gather
around f t h way a = record { frames = a.frames; current = a.current; way = way ∙ a.way; same = a.same ∙ rw h refl }

-- Past the spaces after it.
past : {s : State trees} {rank : ℕ} {t : Tree} {w : Written} {p q r : Spot} → Arrives s after rank t w p q → Spaces q r → Arrives s after rank t w p r
past {t = t} a spaces =
    let g = grown t a.frames a.current in
    record { frames = a.frames; current = a.current; way = a.way ∙ pass (after g) (waits_after g) spaces; same = a.same }

-- Out of a bracket by the byte c.
leaves : {c : ℕ} {p q r : Spot} {s : State trees} {w : Written} (t : Tree) (f : Grown → State trees)
    → ((g : Grown) (i : ℕ) → step trees (f g) i c ≡ to_after trees (trees.close g))
    → Arrives s f 1 (held bracket t) w p q → Takes c q r → runs s p ≡ runs (after (just t w)) r
unfolding gather
leaves {w = w} t f h a byte =
    let g = grown t a.frames a.current in
    a.way ∙ one (f g) (after (just t w)) (λ i. h g i ∙ ap (λ x. to_after trees (leave_in g.tree x.frames x.current)) a.same) byte

-- ---- Quotes.
-- A byte of a quote that follows another is read as the first one is, the other held back.
quote_on : {w : Written} {p q : Spot} (g : Grown) → Quoted w p q → runs (quoting g) p ≡ runs (quote_start (trees.hold_item g)) p
unfolding step
quote_on g (one_byte e byte) = alike (quoting g) (λ i. quote_start (trees.hold_item g)) (λ i. rw e refl) byte
quote_on g (byte_then e byte rest) = alike (quoting g) (λ i. quote_start (trees.hold_item g)) (λ i. rw e refl) byte

quoted : {w : Written} {p q : Spot} (t : Tree) → Below 3 t.frames → Quoted w p q → Arrives (quote_start t) quoting 1 t w p q
unfolding step gather
quoted t h (one_byte {c = c} e byte) = record {
  frames = t.frames;
  current = range c c;
  way = one (quote_start t) (quoting (just t (range c c))) (λ i. rw e refl) byte;
  same = refl;
}
quoted t h (byte_then {c = c} {q = q} e byte rest) =
    let g = just t (range c c) in
    around (item_of (range c c)) t refl
    (one (quote_start t) (quoting g) (λ i. rw e refl) byte
    ∙ (quote_on g rest ∙ ap (λ x. runs (quote_start (hold_as item_of t x)) q) (kept 3 t.frames (range c c) h)))
    (quoted (held (item_of (range c c)) t) (omega arith) rest)

-- ---- Classes.
-- Two states that step alike at what a part may begin with.
abbrev PartsAlike : State trees → State trees → Type 0
PartsAlike s u = (i x : ℕ) → is_part x ≡ true → step trees s i x ≡ step trees u i x

by_part : {c d : ℕ} {p q : Spot} (s u : State trees) → PartsAlike s u → Part c d p q → runs s p ≡ runs u p
by_part s u h (shown.single {c = c} e byte) = alike s (λ i. u) (λ i. h i c e) byte
by_part s u h (from_to {c = c} e f l byte dash last) = alike s (λ i. u) (λ i. h i c e) byte

by_parts : {w : Written} {p q : Spot} (s u : State trees) → PartsAlike s u → Parts w p q → runs s p ≡ runs u p
by_parts s u h (one_part first) = by_part s u h first
by_parts s u h (part_or first rest) = by_part s u h first

-- A part, after which a single byte is the range from itself to itself.
part : {c d : ℕ} {p q : Spot} (t : Tree) → Part c d p q → runs (single t c) q ≡ runs (parted (just t (range c c))) q
    → runs (class_start t) p ≡ runs (parted (just t (range c d))) q
unfolding step is_part is_letter
part t (shown.single {c = c} e byte) h = one (class_start t) (single t c) (λ i. rw e refl) byte ∙ h
part t (from_to {c = c} {d = d} e f l byte dash last) h =
    let b = part_low d f in
    let low : ltb c 122 ≡ true = lt-ltb c 122 (omega arith) in
    let up : ltb c d ≡ true = lt-ltb c d l in
    one (class_start t) (single t c) (λ i. rw e refl) byte
    ∙ (one (single t c) (ranging t c) (λ i. rw low refl) dash ∙ one (ranging t c) (parted (just t (range c d))) (λ i. rw (f, up) refl) last)

-- A class is read up to its `]`.
class : {w : Written} {p q r : Spot} (t : Tree) → Below 2 t.frames → Parts w p q → Takes 93 q r → Arrives (class_start t) parted 1 t w p q
unfolding step gather is_part is_letter
class t h (one_part {c = c} {d = d} first) close = record {
  frames = t.frames;
  current = range c d;
  way = part t first (alike (single t c) (λ i. parted (just t (range c c))) (λ i. refl) close);
  same = refl;
}
class t h (part_or {c = c} {d = d} {q = q} first rest) close =
    let g = just t (range c d) in
    around (row_of (range c d)) t refl
    (part t first (by_parts (single t c) (parted (just t (range c c))) (λ i x e. rw e refl) rest)
    ∙ (by_parts (parted g) (class_start (trees.hold_row g)) (λ i x e. rw e refl) rest
    ∙ ap (λ x. runs (class_start (hold_as row_of t x)) q) (kept 2 t.frames (range c d) h)))
    (class (held (row_of (range c d)) t) (omega arith) rest close)

-- ---- Where an item may begin, one may follow an item.
passing : {p q : Spot} (g : Grown) → Spaces p q → runs (after g) q ≡ runs (expecting (trees.hold_item g)) q
    → runs (after g) p ≡ runs (expecting (trees.hold_item g)) p
passing g spaces e = pass (after g) (waits_after g) spaces ∙ (e ∙ sym (pass (expecting (trees.hold_item g)) (waits_expecting _) spaces))

sign_starts : {c : ℕ} {p q : Spot} (g : Grown) → ((i : ℕ) → step trees (after g) i c ≡ step trees (expecting (trees.hold_item g)) i c) → Sign c p q
    → runs (after g) p ≡ runs (expecting (trees.hold_item g)) p
sign_starts g h (sign spaces byte) = passing g spaces (alike (after g) (λ i. expecting (trees.hold_item g)) h byte)

starts : {l : Level} {w : Written} {p q : Spot} (g : Grown) → Shows l w p q → runs (after g) p ≡ runs (expecting (trees.hold_item g)) p
unfolding step step_after begin_item is_letter
starts g (by_name (names spaces l h)) = passing g spaces (by_letter (after g) (λ i. expecting (trees.hold_item g)) begins l)
  where
    begins : (i x : ℕ) → is_letter x ≡ true → step trees (after g) i x ≡ step trees (expecting (trees.hold_item g)) i x
    begins i x e = rw (
      letter_not 32 x refl e,
      letter_not 42 x refl e,
      letter_not 43 x refl e,
      letter_not 63 x refl e,
      letter_not 47 x refl e,
      letter_not 41 x refl e,
      letter_not 10 x refl e,
    ) refl
starts g (by_quote first inside close) = sign_starts g (λ i. refl) first
starts g (by_class first inside close) = sign_starts g (λ i. refl) first
starts g (by_brackets first inside close) = sign_starts g (λ i. refl) first
starts g (by_star first last) = starts g first
starts g (by_plus first last) = starts g first
starts g (by_maybe first last) = starts g first
starts g (as_item first) = starts g first
starts g (by_not first rest) = sign_starts g (λ i. refl) first
starts g (as_row first) = starts g first
starts g (by_then first rest) = starts g first
starts g (as_choice first) = starts g first
starts g (by_or first slash rest) = starts g first

-- ---- What shows something leads from where it is expected to after it. A row follows no `!`, and a choice follows neither `!` nor an item.
abbrev Came : Level → Written → Spot → Spot → Type 0
Came signed w p q = (t : Tree) → runs (expecting t) p ≡ runs (after (just t w)) q
Came item w p q = (t : Tree) → Arrives (expecting t) after 3 t w p q
Came row w p q = (t : Tree) → Below 3 t.frames → Arrives (expecting t) after 2 t w p q
Came choice w p q = (t : Tree) → Below 2 t.frames → Arrives (expecting t) after 1 t w p q

-- By the way it is shown.
came : {l : Level} {w : Written} {p q : Spot} → Shows l w p q → Came l w p q
unfolding step step_after begin_item is_letter is_quotable is_part gather
came (by_name n) = λ t. used t n
came (by_quote first inside close) = λ t.
    by_sign (expecting t) (quote_start (held bracket t)) (waits_expecting t) (λ i. refl) first
    ∙ leaves t quoting (λ g i. refl) (quoted (held bracket t) (omega arith) inside) close
came (by_class first inside close) = λ t.
    by_sign (expecting t) (class_start (held bracket t)) (waits_expecting t) (λ i. refl) first
    ∙ leaves t parted (λ g i. refl) (class (held bracket t) (omega arith) inside close) close
came (by_brackets first inside (sign spaces close)) = λ t.
    by_sign (expecting t) (expecting (held bracket t)) (waits_expecting t) (λ i. refl) first
    ∙ leaves t after (λ g i. refl) (past (came inside (held bracket t) (omega arith)) spaces) close
came (by_star {w = w} inside last) = λ t.
    came inside t ∙ by_sign (after (just t w)) (after (just t (star w))) (waits_after _) (λ i. refl) last
came (by_plus {w = w} inside last) = λ t.
    came inside t ∙ by_sign (after (just t w)) (after (just t (plus w))) (waits_after _) (λ i. refl) last
came (by_maybe {w = w} inside last) = λ t.
    came inside t ∙ by_sign (after (just t w)) (after (just t (maybe w))) (waits_after _) (λ i. refl) last
came (as_item {w = w} inside) = λ t. record { frames = t.frames; current = w; way = came inside t; same = refl }
came (by_not first inside) = λ t.
    around bang t refl (by_sign (expecting t) (expecting (held bang t)) (waits_expecting t) (λ i. refl) first) (came inside (held bang t))
came (as_row inside) = λ t h. lower (came inside t)
came (by_then {v = v} {q = q} inside rest) = λ t h.
    let a = came inside t in
    around (item_of v) t refl
    (a.way ∙ (starts (grown t a.frames a.current) rest ∙ ap (λ x. runs (expecting (hold_as item_of t x)) q) (a.same ∙ kept 3 t.frames v h)))
    (came rest (held (item_of v) t) (omega arith))
came (as_choice inside) = λ t h. lower (came inside t (below_more 2 t.frames h))
came (by_or {v = v} {r = r} inside slash rest) = λ t h.
    let a = came inside t (below_more 2 t.frames h) in
    let g = grown t a.frames a.current in
    around (row_of v) t refl
    (a.way
    ∙ (by_sign (after g) (expecting (trees.hold_row g)) (waits_after g) (λ i. refl) slash
    ∙ ap (λ x. runs (expecting (hold_as row_of t x)) r) (a.same ∙ kept 2 t.frames v h)))
    (came rest (held (row_of v) t) (omega arith))

-- ---- Lines.
abbrev with_line : Line → Tree → Tree
with_line l t = record { done = l ∷ t.done; name = l.name; frames = [] }

abbrev with_lines : List Line → Tree → Tree
with_lines [] t = t
with_lines (l ∷ ls) t = with_lines ls (with_line l t)

lines_done : (ls : List Line) (t : Tree) → (with_lines ls t).done ≡ reverse_aux ls t.done
lines_done [] t = refl
lines_done (l ∷ ls) t = lines_done ls (with_line l t)

a_line : {l : Line} {p q : Spot} (t : Tree) → ShowsLine l p q → runs (between t) p ≡ runs (between (with_line l t)) q
unfolding step step_defined step_after is_letter gather
a_line t (line {n = n} {w = w} title less dash inside end) =
    let u = trees.begin_line n t in
    let a = came inside u tt in
    let g = grown u a.frames a.current in
    let v = with_line (record { name = n; alternatives = w }) t in
    defines t title
    ∙ (by_sign (defined u) (arrow u) (λ i. refl) (λ i. refl) less
    ∙ (one (arrow u) (expecting u) (λ i. refl) dash
    ∙ (a.way
    ∙ by_sign (after g) (between v) (waits_after g) (λ i. ap (λ x. to_between trees (end_in g.tree x.frames x.current)) a.same) end)))

all_lines : {ls : List Line} {p q : Spot} (t : Tree) → ShowsLines ls p q → runs (between t) p ≡ runs (between (with_lines ls t)) q
all_lines t shown.none = refl
all_lines t (shown.more {l = l} first rest) = a_line t first ∙ all_lines (with_line l t) rest

-- A text with a line does not end too early.
some_line : (i : ℕ) (t : Tree) (ls : List Line) (l : Line) (ms : List Line) → last_line trees i t (length (reverse_aux ls (l ∷ ms))) ≡ read t
some_line i t [] l ms = refl
some_line i t (k ∷ ls) l ms = some_line i t ls k (l ∷ ms)

-- The machine reads every text that shows a sheet, and ends with the sheet's lines, newest first.
pub complete : {ls : List Line} {text : List ℕ} → ShowsSheet ls text → (t : Tree) × (run trees (between bare) 0 text ≡ read t) × (reverse t.done ≡ ls)
unfolding run finish
complete (sheet {l = l} {ls = ls} {i = i} shows spaces) =
    let t = with_lines (l ∷ ls) bare in
    let d = lines_done (l ∷ ls) bare in (
      t,
      all_lines bare shows ∙ (pass (between t) (waits_between t) spaces ∙ (ap (λ x. last_line trees i t (length x)) d ∙ some_line i t ls l [])),
      ap reverse d ∙ reverse-reverse (l ∷ ls),
    )

abbrev lines_of : Outcome trees → List Line
lines_of (refused i) = []
lines_of (read t) = reverse t.done

-- A text shows at most one written sheet.
pub one_sheet : {ls ms : List Line} {text : List ℕ} → ShowsSheet ls text → ShowsSheet ms text → ls ≡ ms
one_sheet a b =
    let c = complete a in
    let d = complete b in
    sym c.2 ∙ (ap lines_of (sym c.1 ∙ d.1) ∙ d.2)
