-- 02, W-201: when each code is given, and at which place. A row's condition holds, and no earlier row's does.
use Rattle.std.specs.Prelude.{◌≡◌, List, ◌∷◌, ◌++◌, ◌≢◌, ℕ, ◌+◌, ◌≤◌, ◌<◌, length, take, drop}
use Rattle.layout.specs.Table.{most_nodes, most_rules}
use Rattle.layout.specs.Layout.{READ, verdict}
use Rattle.sheet.specs.Check.{LOOP, check_of}
use Rattle.written.specs.Written.{Name, Written, name, star, plus, maybe, deny, then, or, Line}
use Rattle.written.specs.Shown.{ShowsSheet}
use Rattle.written.specs.Numbered.{nodes_of, table_of}

abbrev pub ROOM : ℕ
ROOM = 16

abbrev pub LONG : ℕ
LONG = 18

abbrev pub TEXT : ℕ
TEXT = 19

abbrev pub NAME : ℕ
NAME = 20

abbrev pub BIG : ℕ
BIG = 21

-- "over 8,000 bytes".
abbrev pub longest_text : ℕ
longest_text = 8000

-- A text "of this shape, of any length".
pub data Shaped (text : List ℕ) : Type 0 where
  shaped : {ls : List Line} → ShowsSheet ls text → Shaped text

-- The first p bytes of the text are "a beginning of some text of this shape".
pub record Begins (text : List ℕ) (p : ℕ) : Type 0 where
  pub within : p ≤ length text
  pub rest : List ℕ
  pub shape : Shaped (take p text ++ rest)

-- "the place where the longest beginning of a text of this shape, of any length, ends".
pub record Longest (text : List ℕ) (p : ℕ) : Type 0 where
  pub begins : Begins text p
  pub longest : (q : ℕ) → Begins text q → q ≤ p

-- A name that stands in what is written.
pub data Uses (n : Name) : Written → Type 0 where
  here : Uses n (name n)
  in_star : {e : Written} → Uses n e → Uses n (star e)
  in_plus : {e : Written} → Uses n e → Uses n (plus e)
  in_maybe : {e : Written} → Uses n e → Uses n (maybe e)
  in_deny : {e : Written} → Uses n e → Uses n (deny e)
  then_first : {a b : Written} → Uses n a → Uses n (then a b)
  then_second : {a b : Written} → Uses n b → Uses n (then a b)
  or_first : {a b : Written} → Uses n a → Uses n (or a b)
  or_second : {a b : Written} → Uses n b → Uses n (or a b)

-- Line number k of a sheet is l.
pub data LineAt : List Line → (k : ℕ) → Line → Type 0 where
  first : {l : Line} {ls : List Line} → LineAt (l ∷ ls) 0 l
  later : {l m : Line} {ls : List Line} {k : ℕ} → LineAt ls k l → LineAt (m ∷ ls) (1 + k) l

-- A name "that a line defines again or no line defines": that of a line, where an earlier line has the same letters; or one that is used, where no line has them.
pub data Wrong (ls : List Line) : Name → Type 0 where
  again : {j k : ℕ} {l m : Line} → LineAt ls j l → LineAt ls k m → j < k → l.name.letters ≡ m.name.letters → Wrong ls m.name
  unknown : {k : ℕ} {m : Line} {n : Name} → LineAt ls k m → Uses n m.alternatives → ((j : ℕ) (l : Line) → LineAt ls j l → l.name.letters ≢ n.letters) → Wrong ls n

-- "the first name": no wrong name stands before it.
pub record FirstWrong (ls : List Line) (p : ℕ) : Type 0 where
  pub wrong : Name
  pub is_wrong : Wrong ls wrong
  pub there : wrong.place ≡ p
  pub first : (n : Name) → Wrong ls n → p ≤ n.place

abbrev pub NamesRight : List Line → Type 0
NamesRight ls = (n : Name) → Wrong ls n → ⊥

-- Not over "document 01's limits".
pub record FitsIn (ls : List Line) : Type 0 where
  pub nodes : length (nodes_of ls) ≤ most_nodes
  pub rules : length ls ≤ most_rules

-- A sheet that a text of at most 8,000 bytes shows, with right names, and within the limits.
pub record Sheet (text : List ℕ) (ls : List Line) : Type 0 where
  pub short : length text ≤ longest_text
  pub shown : ShowsSheet ls text
  pub right : NamesRight ls
  pub fits : FitsIn ls

-- What comes back of a text and a lent room: code, place, length of the table; and what the room is left with. "A refusal writes nothing."
pub data Tabulated (text room : List ℕ) : (code place size : ℕ) → (left : List ℕ) → Type 0 where
  long : longest_text < length text → Tabulated text room LONG 0 0 room
  no_text : {p : ℕ} → length text ≤ longest_text → ¬ Shaped text → Longest text p → Tabulated text room TEXT p 0 room
  bad_name : {ls : List Line} {p : ℕ} → length text ≤ longest_text → ShowsSheet ls text → FirstWrong ls p → Tabulated text room NAME p 0 room
  big : {ls : List Line} → length text ≤ longest_text → ShowsSheet ls text → NamesRight ls → ¬ FitsIn ls → Tabulated text room BIG 0 0 room
  loop : {ls : List Line} {p : ℕ} → Sheet text ls → check_of (table_of ls) ≡ verdict LOOP p → Tabulated text room LOOP p 0 room
  no_room : {ls : List Line} → Sheet text ls → check_of (table_of ls) ≡ verdict READ 0 → length room < length (table_of ls) → Tabulated text room ROOM 0 0 room
  read : {ls : List Line} → Sheet text ls → check_of (table_of ls) ≡ verdict READ 0 → length (table_of ls) ≤ length room
      → Tabulated text room READ 0 (length (table_of ls)) (table_of ls ++ drop (length (table_of ls)) room)
