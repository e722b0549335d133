-- Bytes of the input, one after the other.
use mathlib.Core.Path.{◌≡◌, refl, sym, ap, ◌∙◌}
use mathlib.Core.Bool.{Bool, true, false, cond}
use mathlib.Core.List.{List, [], ◌∷◌, ◌++◌, append_assoc, append-nil}
use Prim.Native.Nat.{ℕ, zero, suc, ◌+◌, ◌≤◌, ◌<◌}
use native.Mathlib.Nat.{le_refl}
use native.Mathlib.Omega.{arith}
use native.Mathlib.Numerals.{add-one}
use lib.Dec.{eqb, leb}
use lib.ListN.{length, take, get_or, replicate, length-append}
use lib.Seq.{take-suc, take-length, take_all, take-append-le, length-take-le}
use borrow.Author.Tests.{lt-ltb, leb-true, leb-false, eq-eqb, ne_eqb}
use Rattle.page.specs.declared.Page.{Page}
use Rattle.page.specs.Page.{Puts}
use Rattle.page.proofs.Laws.{puts_both, puts_none}
use Rattle.reader.specs.Answer.{Outcome, longest_line, reading_of}
use Rattle.answers.specs.Printed.{working_numbers, room_bytes, answer_text, outcome_of, line_text}
use Rattle.lesson.specs.Lines.{LF, kept, Lengthened, text_of, begun_by, last_text, Taken}

-- what is cut off twice is cut off once
cut_twice : (k : ℕ) (xs ys : List ℕ) → take k (take k xs ++ ys) ≡ take k (xs ++ ys)
cut_twice zero xs ys = refl
cut_twice (suc k) [] ys = refl
cut_twice (suc k) (x ∷ xs) ys = ap (λ (l : List ℕ). x ∷ l) (cut_twice k xs ys)

-- a line that is too long is refused, whatever it holds
too_long : (table line line' work room : List ℕ) → longest_line < length line → longest_line < length line' → outcome_of table line work room ≡ outcome_of table line' work room
unfolding reading_of
too_long table line line' work room h h' = simp (lt-ltb longest_line (length line) h, lt-ltb longest_line (length line') h')

cut_line : (table line : List ℕ) → line_text table (take kept line) ≡ line_text table line
unfolding line_text
cut_line table line = by (leb (length line) longest_line) refl
  where
    by : (b : Bool) → leb (length line) longest_line ≡ b
        → answer_text (outcome_of table (take kept line) (replicate working_numbers 0) (replicate room_bytes 0)).reading
        ≡ answer_text (outcome_of table line (replicate working_numbers 0) (replicate room_bytes 0)).reading
    by true e = rw (take_all kept line (omega (arith, leb-true (length line) longest_line e)))
    by false e =
        let h : longest_line < length line = leb-false (length line) longest_line e in
        let h' : longest_line < length (take kept line) = rw (length-take-le kept line (omega arith)) (omega arith) in
        ap (λ (o : Outcome). answer_text o.reading) (too_long table (take kept line) line (replicate working_numbers 0) (replicate room_bytes 0) h' h)

cut_begun : (begun bytes : List ℕ) → take kept (begun_by (take kept begun) bytes) ≡ take kept (begun_by begun bytes)
unfolding begun_by
cut_begun begun [] = cut_twice_none begun
  where
    cut_twice_none : (xs : List ℕ) → take kept (take kept xs) ≡ take kept xs
    cut_twice_none xs = ap (take kept) (sym (append-nil (take kept xs))) ∙ cut_twice kept xs [] ∙ ap (take kept) (append-nil xs)
cut_begun begun (x ∷ xs) =
    by (eqb x LF) (sym (cut_begun (take kept begun ++ (x ∷ [])) xs) ∙ ap (λ (l : List ℕ). take kept (begun_by l xs)) (cut_twice kept begun (x ∷ [])) ∙ cut_begun (begun ++ (x ∷ [])) xs)
  where
    by : (b : Bool) → take kept (begun_by (take kept begun ++ (x ∷ [])) xs) ≡ take kept (begun_by (begun ++ (x ∷ [])) xs)
        → take kept (cond b (begun_by [] xs) (begun_by (take kept begun ++ (x ∷ [])) xs)) ≡ take kept (cond b (begun_by [] xs) (begun_by (begun ++ (x ∷ [])) xs))
    by true p = refl
    by false p = p

cut_text : (table begun bytes : List ℕ) → text_of table (take kept begun) bytes ≡ text_of table begun bytes
unfolding text_of
cut_text table begun [] = refl
cut_text table begun (x ∷ xs) =
    by (eqb x LF) (sym (cut_text table (take kept begun ++ (x ∷ [])) xs) ∙ ap (λ (l : List ℕ). text_of table l xs) (cut_twice kept begun (x ∷ [])) ∙ cut_text table (begun ++ (x ∷ [])) xs)
  where
    by : (b : Bool) → text_of table (take kept begun ++ (x ∷ [])) xs ≡ text_of table (begun ++ (x ∷ [])) xs
        → cond b (line_text table (take kept begun) ++ text_of table [] xs) (text_of table (take kept begun ++ (x ∷ [])) xs)
        ≡ cond b (line_text table begun ++ text_of table [] xs) (text_of table (begun ++ (x ∷ [])) xs)
    by true p = rw (cut_line table begun)
    by false p = p

pub begun_both : (begun xs ys : List ℕ) → begun_by begun (xs ++ ys) ≡ begun_by (begun_by begun xs) ys
unfolding begun_by
begun_both begun [] ys = refl
begun_both begun (x ∷ xs) ys = by (eqb x LF) (begun_both [] xs ys) (begun_both (begun ++ (x ∷ [])) xs ys)
  where
    by : (b : Bool) → begun_by [] (xs ++ ys) ≡ begun_by (begun_by [] xs) ys → begun_by (begun ++ (x ∷ [])) (xs ++ ys) ≡ begun_by (begun_by (begun ++ (x ∷ [])) xs) ys
        → cond b (begun_by [] (xs ++ ys)) (begun_by (begun ++ (x ∷ [])) (xs ++ ys)) ≡ begun_by (cond b (begun_by [] xs) (begun_by (begun ++ (x ∷ [])) xs)) ys
    by true p q = p
    by false p q = q

pub text_both : (table begun xs ys : List ℕ) → text_of table begun (xs ++ ys) ≡ text_of table begun xs ++ text_of table (begun_by begun xs) ys
unfolding begun_by text_of
text_both table begun [] ys = refl
text_both table begun (x ∷ xs) ys = by (eqb x LF) (text_both table [] xs ys) (text_both table (begun ++ (x ∷ [])) xs ys)
  where
    by : (b : Bool) → text_of table [] (xs ++ ys) ≡ text_of table [] xs ++ text_of table (begun_by [] xs) ys
        → text_of table (begun ++ (x ∷ [])) (xs ++ ys) ≡ text_of table (begun ++ (x ∷ [])) xs ++ text_of table (begun_by (begun ++ (x ∷ [])) xs) ys
        → cond b (line_text table begun ++ text_of table [] (xs ++ ys)) (text_of table (begun ++ (x ∷ [])) (xs ++ ys))
        ≡ cond b (line_text table begun ++ text_of table [] xs) (text_of table (begun ++ (x ∷ [])) xs) ++ text_of table (cond b (begun_by [] xs) (begun_by (begun ++ (x ∷ [])) xs)) ys
    by true p q = rw (p, append_assoc (line_text table begun) (text_of table [] xs) (text_of table (begun_by [] xs) ys))
    by false p q = q

module _ {table l m n xs ys : List ℕ} {a b c : Page} where
  taken_both : Taken table l xs a m b → Taken table m ys b n c → Taken table l (xs ++ ys) a n c
  taken_both s t =
      let left : List ℕ = begun_by l xs in
      record {
        within = t.within;
        begun = t.begun ∙ ap (λ (x : List ℕ). take kept (begun_by x ys)) s.begun ∙ cut_begun left ys ∙ ap (take kept) (sym (begun_both l xs ys));
        printed = rw (text_both table l xs ys, ← cut_text table left ys, ← s.begun) (puts_both s.printed t.printed);
      }

pub taken_none : (table line : List ℕ) (page : Page) → length line ≤ kept → Taken table line [] page line page
unfolding begun_by text_of
taken_none table line page h = record { within = h; begun = sym (take_all kept line h); printed = puts_none page }

pub taken_one : {table l m n : List ℕ} {a b c : Page} (bytes : List ℕ) (at : ℕ) → at < length bytes
    → Taken table l (take at bytes) a m b → Taken table m (get_or bytes at 0 ∷ []) b n c → Taken table l (take (at + 1) bytes) a n c
taken_one bytes at h s t = rw (add-one at, take-suc bytes at 0 h) (taken_both s t)

-- LF ends the line
pub line_ends : (table line : List ℕ) (byte : ℕ) {page after : Page} → byte ≡ LF → Puts page (line_text table line) after → Taken table line (byte ∷ []) page [] after
unfolding begun_by text_of
line_ends table line byte e p = record { within = omega arith; begun = simp (eq-eqb byte LF e); printed = simp (eq-eqb byte LF e, append-nil) p }

module _ (line : List ℕ) (byte : ℕ) where
  pub one_longer : length line < kept → Lengthened line byte (line ++ (byte ∷ []))
  one_longer h =
      let short : length (line ++ (byte ∷ [])) ≤ kept = simp length-append (omega arith) in
      record { within = short; begun = sym (take_all kept (line ++ (byte ∷ [])) short) }

  pub no_longer : length line ≡ kept → Lengthened line byte line
  no_longer e =
      let whole : length line ≤ length line = le_refl _ in
      record { within = omega arith; begun = rw (← e, take-append-le, take-length) }

-- any byte but LF belongs to it
pub line_grows : (table line after : List ℕ) (byte : ℕ) (page : Page) → (byte ≡ LF → ⊥) → Lengthened line byte after → Taken table line (byte ∷ []) page after page
unfolding begun_by text_of
line_grows table line after byte page ne l = record { within = l.within; begun = simp (ne_eqb byte LF ne) l.begun; printed = simp (ne_eqb byte LF ne) (puts_none page) }

module _ (table line : List ℕ) (page : Page) where
  pub no_last : length line ≡ 0 → Puts page (last_text table line) page
  unfolding last_text
  no_last h = rw (eq-eqb (length line) 0 h) (puts_none page)

  pub a_last : {after : Page} → (length line ≡ 0 → ⊥) → Puts page (line_text table line) after → Puts page (last_text table line) after
  unfolding last_text
  a_last h p = rw (ne_eqb (length line) 0 h) p
