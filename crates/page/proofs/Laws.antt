-- Texts put on a page one after the other.
use mathlib.Core.Path.{◌≡◌, refl, ap, ◌∙◌}
use mathlib.Core.List.{List, [], ◌∷◌, ◌++◌}
use Prim.Native.Nat.{ℕ, ◌+◌, ◌≤◌, ◌<◌}
use native.Mathlib.Numerals.{add-one}
use lib.ListN.{length, take, get_or, set}
use lib.Seq.{take-suc}
use borrow.Author.Tests.{lt-ltb, le-ltb}
use Rattle.page.specs.declared.Page.{Page as Lent}
use Rattle.page.specs.Page.{Page, page, size, with_byte, with_bytes, Sends, Puts}

-- one text after another
with_both : (p : Page) (xs ys : List ℕ) → with_bytes (with_bytes p xs) ys ≡ with_bytes p (xs ++ ys)
unfolding with_bytes
with_both p [] ys = refl
with_both p (x ∷ xs) ys = with_both (with_byte p x) xs ys

module _ {a b c : Lent} {xs ys : List ℕ} where
  pub puts_both : Puts a xs b → Puts b ys c → Puts a (xs ++ ys) c
  puts_both h k = record {
    stands = k.stands ∙ ap (λ (p : Page). with_bytes p ys) h.stands ∙ with_both (page a) xs ys;
    remembers = λ e. k.remembers (h.remembers e);
  }

pub puts_none : (a : Lent) → Puts a [] a
unfolding with_bytes
puts_none a = record { stands = refl; remembers = λ e. e }

-- a byte that finds room
pub put_inside : (a : Lent) (byte : ℕ) → a.used < size → Puts a (byte ∷ []) record { bytes = set a.bytes a.used byte; used = a.used + 1; failed = a.failed }
unfolding with_bytes
put_inside a byte h = record { stands = simp (lt-ltb a.used size h); remembers = λ e. e }

-- a byte on a page that was full and is written out
pub put_anew : (a b : Lent) (byte : ℕ) → size ≤ a.used → Sends a b → Puts a (byte ∷ []) record { bytes = set b.bytes b.used byte; used = b.used + 1; failed = b.failed }
unfolding with_bytes
put_anew a b byte h s = record { stands = simp (le-ltb a.used size h, s.stands, s.unused); remembers = s.remembers }

-- of a longer text, one byte more
pub puts_one : {a b c : Lent} (bytes : List ℕ) (i : ℕ) → i < length bytes
    → Puts a (take i bytes) b → Puts b (get_or bytes i 0 ∷ []) c → Puts a (take (i + 1) bytes) c
puts_one bytes i h k l = rw (add-one i, take-suc bytes i 0 h) (puts_both k l)
