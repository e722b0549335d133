-- 01: "A line ends at LF, which is dropped". What is printed for bytes of the input, and which line they leave begun.
use Rattle.std.specs.Prelude.{◌≡◌, false, cond, List, [], ◌∷◌, ◌++◌, ℕ, ◌+◌, ◌≤◌, length, take, eqb}
use Rattle.page.specs.declared.Page.{Page}
use Rattle.page.specs.Page.{Puts, has_failed}
use Rattle.stored.specs.Version.{longest_line}
use Rattle.answers.specs.Printed.{line_text}

abbrev pub LF : ℕ
LF = 10

unfoldable pub text_of : (table begun bytes : List ℕ) → List ℕ
text_of table begun [] = []
text_of table begun (byte ∷ bytes) = cond (eqb byte LF) (line_text table begun ++ text_of table [] bytes) (text_of table (begun ++ (byte ∷ [])) bytes)

unfoldable pub begun_by : (begun bytes : List ℕ) → List ℕ
begun_by begun [] = begun
begun_by begun (byte ∷ bytes) = cond (eqb byte LF) (begun_by [] bytes) (begun_by (begun ++ (byte ∷ [])) bytes)

-- 01: "a last line without LF counts if it has a byte".
unfoldable pub last_text : (table begun : List ℕ) → List ℕ
last_text table begun = cond (eqb (length begun) 0) [] (line_text table begun)

-- All that is printed for an input.
unfoldable pub all_text : (table input : List ℕ) → List ℕ
all_text table input = text_of table [] input ++ last_text table (begun_by [] input)

-- Of a line that is longer than the longest, one byte more is kept: it is refused, whatever follows.
abbrev pub kept : ℕ
kept = longest_line + 1

-- The line on its place has a byte more, if there is room.
pub record Lengthened (line : List ℕ) (byte : ℕ) (after : List ℕ) : Type 0 where
  pub within : length after ≤ kept
  pub begun : after ≡ take kept (line ++ (byte ∷ []))

-- Bytes of the input were taken: what they print is put on the page, and the line that they leave begun is kept.
pub record Taken (table line bytes : List ℕ) (page : Page) (line_after : List ℕ) (page_after : Page) : Type 0 where
  pub within : length line_after ≤ kept
  pub begun : line_after ≡ take kept (begun_by line bytes)
  pub printed : Puts page (text_of table line bytes) page_after

-- All were taken, unless a write has failed.
pub record TakenUnlessFailed (table line bytes : List ℕ) (page : Page) (line_after : List ℕ) (page_after : Page) : Type 0 where
  pub keeps : length line_after ≤ kept
  pub taken : has_failed page_after ≡ false → Taken table line bytes page line_after page_after
