-- 02, W-201: which texts show a written sheet.
use Rattle.std.specs.Prelude.{◌≡◌, Bool, true, false, ◌&&◌, ◌||◌, List, [], ◌∷◌, ℕ, suc, ◌≤◌, ◌<◌, length, leb, eqb}
use Rattle.std.proofs.Math.Bool as B
use Rattle.written.specs.Written.{Name, Written, name, range, star, plus, maybe, deny, then, or, Line}

abbrev pub within : (lowest highest c : ℕ) → Bool
within lowest highest c = leb lowest c && leb c highest

-- A-Z, a-z.
unfoldable pub is_letter : ℕ → Bool
is_letter c = within 65 90 c || within 97 122 c

-- "letters, digits".
unfoldable pub is_part : ℕ → Bool
is_part c = is_letter c || within 48 57 c

-- "bytes 33 to 126 but `'`".
unfoldable pub is_quotable : ℕ → Bool
is_quotable c = within 33 126 c && B.not (eqb c 39)

-- A place in a text, and what is left of the text from there on.
pub data Spot : Type 0 where
  spot : (place : ℕ) → (left : List ℕ) → Spot

-- The byte c stands between two places.
pub data Takes : ℕ → Spot → Spot → Type 0 where
  takes : {c i : ℕ} {cs : List ℕ} → Takes c (spot i (c ∷ cs)) (spot (suc i) cs)

-- None or more spaces.
pub data Spaces : Spot → Spot → Type 0 where
  none : {p : Spot} → Spaces p p
  more : {p q r : Spot} → Takes 32 p q → Spaces q r → Spaces p r

-- "spaces may stand anywhere outside names, quotes, `[ ]` and `<-`": before each sign.
pub data Sign (c : ℕ) : Spot → Spot → Type 0 where
  sign : {p q r : Spot} → Spaces p q → Takes c q r → Sign c p r

abbrev pub NoLetter : Spot → Type 0
NoLetter (spot i []) = Unit {0}
NoLetter (spot i (c ∷ cs)) = is_letter c ≡ false

-- One or more letters, after which there is none: "a whole run".
pub data Letters : List ℕ → Spot → Spot → Type 0 where
  last : {c : ℕ} {p q : Spot} → is_letter c ≡ true → Takes c p q → NoLetter q → Letters (c ∷ []) p q
  more : {c : ℕ} {cs : List ℕ} {p q r : Spot} → is_letter c ≡ true → Takes c p q → Letters cs q r → Letters (c ∷ cs) p r

-- "A name is a whole run of 1 to 32 letters."
abbrev pub longest_name : ℕ
longest_name = 32

pub data Names : Name → Spot → Spot → Type 0 where
  names : {i : ℕ} {cs letters : List ℕ} {p q : Spot} → Spaces p (spot i cs) → Letters letters (spot i cs) q → length letters ≤ longest_name
      → Names (record { place = i; letters = letters }) p q

-- "Quotes (`'`) hold one or more bytes 33 to 126 but `'`, read as a sequence".
pub data Quoted : Written → Spot → Spot → Type 0 where
  one_byte : {c : ℕ} {p q : Spot} → is_quotable c ≡ true → Takes c p q → Quoted (range c c) p q
  byte_then : {c : ℕ} {w : Written} {p q r : Spot} → is_quotable c ≡ true → Takes c p q → Quoted w q r → Quoted (then (range c c) w) p r

-- "letters, digits or ranges from one of them to one with a higher byte".
pub data Part : (lowest highest : ℕ) → Spot → Spot → Type 0 where
  single : {c : ℕ} {p q : Spot} → is_part c ≡ true → Takes c p q → Part c c p q
  from_to : {c d : ℕ} {p q r s : Spot} → is_part c ≡ true → is_part d ≡ true → c < d → Takes c p q → Takes 45 q r → Takes d r s → Part c d p s

-- "`[ ]` holds one or more [..], read as a choice".
pub data Parts : Written → Spot → Spot → Type 0 where
  one_part : {c d : ℕ} {p q : Spot} → Part c d p q → Parts (range c d) p q
  part_or : {c d : ℕ} {w : Written} {p q r : Spot} → Part c d p q → Parts w q r → Parts (or (range c d) w) p r

-- "The signs after an item, any number, bind tightest, then `!`, any number, then [..] sequence, then choice."
pub data Level : Type 0 where
  signed : Level
  item : Level
  row : Level
  choice : Level

pub data Shows : Level → Written → Spot → Spot → Type 0 where
  by_name : {n : Name} {p q : Spot} → Names n p q → Shows signed (name n) p q
  by_quote : {w : Written} {p q r s : Spot} → Sign 39 p q → Quoted w q r → Takes 39 r s → Shows signed w p s
  by_class : {w : Written} {p q r s : Spot} → Sign 91 p q → Parts w q r → Takes 93 r s → Shows signed w p s
  by_brackets : {w : Written} {p q r s : Spot} → Sign 40 p q → Shows choice w q r → Sign 41 r s → Shows signed w p s
  by_star : {w : Written} {p q r : Spot} → Shows signed w p q → Sign 42 q r → Shows signed (star w) p r
  by_plus : {w : Written} {p q r : Spot} → Shows signed w p q → Sign 43 q r → Shows signed (plus w) p r
  by_maybe : {w : Written} {p q r : Spot} → Shows signed w p q → Sign 63 q r → Shows signed (maybe w) p r
  as_item : {w : Written} {p q : Spot} → Shows signed w p q → Shows item w p q
  by_not : {w : Written} {p q r : Spot} → Sign 33 p q → Shows item w q r → Shows item (deny w) p r
  as_row : {w : Written} {p q : Spot} → Shows item w p q → Shows row w p q
  by_then : {v w : Written} {p q r : Spot} → Shows item v p q → Shows row w q r → Shows row (then v w) p r
  as_choice : {w : Written} {p q : Spot} → Shows row w p q → Shows choice w p q
  by_or : {v w : Written} {p q r s : Spot} → Shows row v p q → Sign 47 q r → Shows choice w r s → Shows choice (or v w) p s

-- "name, `<-`, alternatives of at least one item, LF".
pub data ShowsLine : Line → Spot → Spot → Type 0 where
  line : {n : Name} {w : Written} {p q r s t u : Spot} → Names n p q → Sign 60 q r → Takes 45 r s → Shows choice w s t → Sign 10 t u
      → ShowsLine (record { name = n; alternatives = w }) p u

pub data ShowsLines : List Line → Spot → Spot → Type 0 where
  none : {p : Spot} → ShowsLines [] p p
  more : {l : Line} {ls : List Line} {p q r : Spot} → ShowsLine l p q → ShowsLines ls q r → ShowsLines (l ∷ ls) p r

-- "one or more lines"; spaces may stand after the last.
pub data ShowsSheet : List Line → List ℕ → Type 0 where
  sheet : {l : Line} {ls : List Line} {text : List ℕ} {q : Spot} {i : ℕ} → ShowsLines (l ∷ ls) (spot 0 text) q → Spaces q (spot i [])
      → ShowsSheet (l ∷ ls) text
