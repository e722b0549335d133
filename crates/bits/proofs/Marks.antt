-- Sets of nodes in words: one mark added, none, and all.
use mathlib.Core.Path.{◌≡◌, refl, sym, ap, ◌∙◌}
use mathlib.Core.Bool.{Bool, true, false, ◌||◌, or-false}
use mathlib.Core.List.{List, [], ◌∷◌}
use Prim.Native.Nat.{ℕ, zero, suc, ◌+◌, ◌*◌, ◌/◌, ◌%◌, ◌^◌, ◌<◌}
use native.Mathlib.Nat.{pow-suc}
use native.Mathlib.Omega.{arith}
use borrow.Author.Tests.{eqb-true, eqb-false, eq-eqb, ne_eqb}
use lib.Dec.{eqb}
use lib.ListN.{length, get_or, set, length-set}
use lib.Seq.{get_or-set_same, get_or-set_other, ext_get_or}
use Rattle.bits.specs.Mask.{digit, has, Added}
use Rattle.bits.specs.Marks.{marked, WithMark}
use Rattle.bits.proofs.Laws.{has_none, same_mask}

place_in_word : (i j : ℕ) → i / 64 ≡ j / 64 → eqb (i % 64) (j % 64) ≡ eqb i j
place_in_word i j w = by (eqb (i % 64) (j % 64)) refl
  where
    by : (b : Bool) → eqb (i % 64) (j % 64) ≡ b → eqb (i % 64) (j % 64) ≡ eqb i j
    by true e = let same = eqb-true (i % 64) (j % 64) e in e ∙ sym (eq-eqb i j (omega arith))
    by false e = let other = eqb-false (i % 64) (j % 64) e in e ∙ sym (ne_eqb i j (λ (z : i ≡ j). other (ap (λ k. k % 64) z)))

module _ (ms : List ℕ) (i v : ℕ) (there : i / 64 < length ms) (added : Added (get_or ms (i / 64) 0) (i % 64) v) where
  -- Where one word has one bit more, the set has one node more.
  pub with_mark : WithMark ms i (set ms (i / 64) v)
  unfolding marked
  with_mark = record { same_length = simp length-set; bits = λ j. by j (eqb (j / 64) (i / 64)) refl }
    where
      by : (j : ℕ) (b : Bool) → eqb (j / 64) (i / 64) ≡ b → has (get_or (set ms (i / 64) v) (j / 64) 0) (j % 64) ≡ (has (get_or ms (j / 64) 0) (j % 64) || eqb j i)
      by j true e =
          let same : j / 64 ≡ i / 64 = eqb-true _ _ e in
          rw (same, get_or-set_same ms (i / 64) v 0 there) (added.bits (j % 64) ∙ ap (λ t. has (get_or ms (i / 64) 0) (j % 64) || t) (place_in_word j i same))
      by j false e =
          let other = eqb-false (j / 64) (i / 64) e in
          let apart : eqb j i ≡ false = ne_eqb j i (λ (z : j ≡ i). other (ap (λ k. k / 64) z)) in
          rw (get_or-set_other ms (i / 64) (j / 64) v 0 other, apart) (sym (or-false (has (get_or ms (j / 64) 0) (j % 64))))

-- ---- None, and all.
-- Every word of a list is m.
abbrev Each : ℕ → List ℕ → Type 0
Each m [] = Unit {0}
Each m (w ∷ ws) = (w ≡ m) × Each m ws

each_at : (m : ℕ) (ws : List ℕ) → Each m ws → (k : ℕ) → k < length ws → get_or ws k 0 ≡ m
each_at m [] e k h = absurd (omega arith)
each_at m (w ∷ ws) e zero h = e.0
each_at m (w ∷ ws) e (suc k) h = each_at m ws e.1 k (omega arith)

each_zero : (ws : List ℕ) → Each 0 ws → (k : ℕ) → get_or ws k 0 ≡ 0
each_zero [] e k = refl
each_zero (w ∷ ws) e zero = e.0
each_zero (w ∷ ws) e (suc k) = each_zero ws e.1 k

-- Eight words that are one number.
abbrev pub eight_of : ℕ → List ℕ
eight_of m = m ∷ m ∷ m ∷ m ∷ m ∷ m ∷ m ∷ m ∷ []

each_eight : (m : ℕ) → Each m (eight_of m)
each_eight m = (refl, (refl, (refl, (refl, (refl, (refl, (refl, (refl, tt))))))))

pub none_marked : (i : ℕ) → marked (eight_of 0) i ≡ false
unfolding marked
none_marked i = ap (λ (w : ℕ). has w (i % 64)) (each_zero (eight_of 0) (each_eight 0) (i / 64)) ∙ has_none (i % 64)

-- Every binary digit of 2 ^ k - 1 is 1.
digit_full : (k m : ℕ) → m + 1 ≡ 2 ^ k → (i : ℕ) → i < k → digit m i ≡ 1
unfolding digit
digit_full zero m e i h = absurd (omega arith)
digit_full (suc k) m e zero h = let p : 2 ^ suc k ≡ 2 ^ k * 2 = pow-suc 2 k in omega arith
digit_full (suc k) m e (suc i) h = let p : 2 ^ suc k ≡ 2 ^ k * 2 = pow-suc 2 k in digit_full k (m / 2) (omega arith) i (omega arith)

pub all_marked : (i : ℕ) → i < 512 → marked (eight_of 18446744073709551615) i ≡ true
unfolding marked has
all_marked i h =
    let full : digit 18446744073709551615 (i % 64) ≡ 1 = digit_full 64 18446744073709551615 refl (i % 64) (omega arith) in
    ap (λ (w : ℕ). eqb (digit w (i % 64)) 1) (each_at 18446744073709551615 (eight_of 18446744073709551615) (each_eight 18446744073709551615) (i / 64) (omega arith))
    ∙ ap (λ (d : ℕ). eqb d 1) full

-- ---- Words with the same marks are the same words.
pub same_marks : (ms ns : List ℕ) → length ms ≡ length ns → ((k : ℕ) → get_or ms k 0 < 2 ^ 64) → ((k : ℕ) → get_or ns k 0 < 2 ^ 64) → ((i : ℕ) → marked ms i ≡ marked ns i) → ms ≡ ns
unfolding marked
same_marks ms ns long fits fits' same = ext_get_or 0 ms ns long (λ k h. same_mask 64 (get_or ms k 0) (get_or ns k 0) (fits k) (fits' k) (λ j l. bit k j l))
  where
    bit : (k j : ℕ) → j < 64 → has (get_or ms k 0) j ≡ has (get_or ns k 0) j
    bit k j l =
        let word : (64 * k + j) / 64 ≡ k = omega arith in
        let place : (64 * k + j) % 64 ≡ j = omega arith in
        rw (word, place) at (same (64 * k + j))
