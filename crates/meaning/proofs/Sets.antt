-- A run of numbers written into a list: one after another, at the front, and what stands where afterwards.
use mathlib.Core.Path.{◌≡◌, refl, sym, ◌∙◌}
use mathlib.Core.Bool.{Bool, true, false}
use mathlib.Core.List.{List, [], ◌∷◌, ◌++◌}
use native.Mathlib.Omega.{arith}
use native.Mathlib.Nat.{add-zero, add-suc, suc-add, zero-add}
use native.Mathlib.Numerals.{add-one}
use Prim.Native.Nat.{ℕ, zero, suc, ◌+◌, ◌<◌, ◌≤◌}
use borrow.Author.Tests.{ltb-true, ltb-false}
use lib.Dec.{ltb}
use lib.ListN.{length, get_or, set, drop, length-set}
use lib.Seq.{sets, sets-eq, get_or-set_same, get_or-set_other}

pub sets_append : (room : List ℕ) (at : ℕ) (xs ys : List ℕ) → sets room at (xs ++ ys) ≡ sets (sets room at xs) (at + length xs) ys
sets_append room at [] ys = rw (add-zero at)
sets_append room at (x ∷ xs) ys = sets_append (set room at x) (suc at) xs ys ∙ rw (add-suc at (length xs), suc-add at (length xs))

pub sets_on : (room : List ℕ) (at next : ℕ) (xs ys r s : List ℕ) → next ≡ at + length xs → r ≡ sets room at xs → s ≡ sets r next ys → s ≡ sets room at (xs ++ ys)
sets_on room at next xs ys r s en er es = es ∙ rw (en, er) (sym (sets_append room at xs ys))

pub sets_front : (room xs : List ℕ) → length xs ≤ length room → sets room 0 xs ≡ xs ++ drop (length xs) room
sets_front room xs h = sets-eq xs room 0 (omega arith) ∙ rw (zero-add (length xs))

pub sets_below : (xs room : List ℕ) (at i : ℕ) → i < at → get_or (sets room at xs) i 0 ≡ get_or room i 0
sets_below [] room at i h = refl
sets_below (x ∷ xs) room at i h = sets_below xs (set room at x) (suc at) i (omega arith) ∙ get_or-set_other room at i x 0 (omega arith)

pub sets_above : (xs room : List ℕ) (at i : ℕ) → at + length xs ≤ i → get_or (sets room at xs) i 0 ≡ get_or room i 0
sets_above [] room at i h = refl
sets_above (x ∷ xs) room at i h = sets_above xs (set room at x) (suc at) i (omega arith) ∙ get_or-set_other room at i x 0 (omega arith)

-- Nothing is written at i.
pub sets_apart : (xs room : List ℕ) (at i : ℕ) → (at ≤ i → at + length xs ≤ i) → get_or (sets room at xs) i 0 ≡ get_or room i 0
sets_apart xs room at i h = by (ltb i at) refl
  where
    by : (b : Bool) → ltb i at ≡ b → get_or (sets room at xs) i 0 ≡ get_or room i 0
    by true e = sets_below xs room at i (ltb-true i at e)
    by false e = sets_above xs room at i (h (ltb-false i at e))

pub sets_at : (xs room : List ℕ) (at k : ℕ) → k < length xs → at + k < length room → get_or (sets room at xs) (at + k) 0 ≡ get_or xs k 0
sets_at [] room at k h l = absurd (omega arith)
sets_at (x ∷ xs) room at zero h l = rw (add-zero at) (sets_below xs (set room at x) (suc at) at (omega arith) ∙ get_or-set_same room at x 0 (omega arith))
sets_at (x ∷ xs) room at (suc k) h l =
    let e : at + suc k ≡ suc at + k = omega arith in
    rw e (sets_at xs (set room at x) (suc at) k (omega arith) (omega (arith, length-set room at x)))

-- Numbers stored one by one as code stores them, at + k, at + k + 1 and so on.
abbrev pub stores : List ℕ → ℕ → ℕ → List ℕ → List ℕ
stores room at k [] = room
stores room at k (x ∷ xs) = stores (set room (at + k) x) at (suc k) xs

stores_from : (room : List ℕ) (at k : ℕ) (xs : List ℕ) → stores room at k xs ≡ sets room (at + k) xs
stores_from room at k [] = refl
stores_from room at k (x ∷ xs) = stores_from (set room (at + k) x) at (suc k) xs ∙ rw (add-suc at k)

-- The first at `at` itself.
pub one_by_one : (room : List ℕ) (at x : ℕ) (xs : List ℕ) → stores (set room at x) at 1 xs ≡ sets room at (x ∷ xs)
one_by_one room at x xs = stores_from (set room at x) at 1 xs ∙ rw (add-one at)
