-- A page of text on its way out: what stands on it after a byte and after many, and whether a write of it has failed.
use Rattle.std.specs.Prelude.{◌≡◌, Bool, true, false, cond, List, [], ◌∷◌, ℕ, ◌+◌, set, replicate, ltb}
use Rattle.page.specs.declared.Page.{Page as Lent}

-- How many bytes of text a page has.
abbrev pub size : ℕ
size = 4096

-- A page: all its bytes of text, and how many of them, from the front, are used.
pub record Page : Type 0 where
  pub bytes : List ℕ
  pub used : ℕ

abbrev pub page : Lent → Page
page lent = record { bytes = lent.bytes; used = lent.used }

-- No byte is used, and no write has failed.
abbrev pub blank_page : Lent
blank_page = record { bytes = replicate size 0; used = 0; failed = false }

abbrev pub has_failed : Lent → Bool
has_failed lent = lent.failed

-- What is left of a page by a write that was done or not.
abbrev pub marked : Lent → Bool → Lent
marked lent done = record { bytes = lent.bytes; used = lent.used; failed = cond done lent.failed true }

-- Where the next byte goes: a full page, once it is written out, is filled from its front.
abbrev pub next : ℕ → ℕ
next used = cond (ltb used size) used 0

abbrev pub with_byte : Page → ℕ → Page
with_byte p byte = record { bytes = set p.bytes (next p.used) byte; used = next p.used + 1 }

unfoldable pub with_bytes : Page → List ℕ → Page
with_bytes p [] = p
with_bytes p (byte ∷ bytes) = with_bytes (with_byte p byte) bytes

-- A page was written out: its bytes stand, none is used any more, and a failure is not forgotten.
pub record Sends (before after : Lent) : Type 0 where
  pub stands : after.bytes ≡ before.bytes
  pub unused : after.used ≡ 0
  pub remembers : has_failed before ≡ true → has_failed after ≡ true

-- A text was put on a page: it stands there, and a failure is not forgotten.
pub record Puts (before : Lent) (text : List ℕ) (after : Lent) : Type 0 where
  pub stands : page after ≡ with_bytes (page before) text
  pub remembers : has_failed before ≡ true → has_failed after ≡ true
