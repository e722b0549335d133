-- Different numbers below n are at most n.
use mathlib.Core.Path.{◌≡◌, refl, sym, ap, ◌∙◌}
use mathlib.Core.Logic.{◌≢◌, ◌⊎◌, inl, inr}
use Prim.Native.Nat.{ℕ, zero, suc, ◌<◌, ◌≤◌}
use mathlib.Core.Bool.{Bool, true, false}
use mathlib.Core.List.{List, [], ◌∷◌, ◌++◌}
use lib.ListN.{length}
use lib.Dec.{eqb}
use borrow.Author.Tests.{eqb-true, eqb-false}
use native.Mathlib.Omega.{arith}

abbrev pub Absent : ℕ → List ℕ → Type 0
Absent a [] = Unit {0}
Absent a (b ∷ s) = (a ≢ b) × Absent a s

abbrev pub In : ℕ → List ℕ → Type 0
In a [] = ⊥
In a (b ∷ s) = (a ≡ b) ⊎ In a s

-- Different numbers, each below n.
abbrev pub Distinct : ℕ → List ℕ → Type 0
Distinct n [] = Unit {0}
Distinct n (a ∷ s) = (a < n) × Absent a s × Distinct n s

pub seek : (a : ℕ) (s : List ℕ) → Absent a s ⊎ In a s
seek a [] = inl tt
seek a (b ∷ s) = at_head (eqb a b) refl (seek a s)
  where
    at_head : (t : Bool) → eqb a b ≡ t → Absent a s ⊎ In a s → Absent a (b ∷ s) ⊎ In a (b ∷ s)
    at_head true e h = inr (inl (eqb-true a b e))
    at_head false e (inl h) = inl (eqb-false a b e, h)
    at_head false e (inr h) = inr (inr h)

apart : (a b : ℕ) (s : List ℕ) → Absent a s → In b s → a ≢ b
apart a b (c ∷ s) h (inl e) = λ q. h.0 (q ∙ e)
apart a b (c ∷ s) h (inr i) = apart a b s h.1 i
apart a b [] h x'' = elim x'' [ ]

narrow : (n : ℕ) (s : List ℕ) → Distinct (suc n) s → Absent n s → Distinct n s
narrow n [] h k = tt
narrow n (a ∷ s) h k = let z : a < suc n = h.0 in let y : n ≢ a = k.0 in (omega arith, h.1, narrow n s h.2 k.1)

-- The list without its greatest number.
record Without (n : ℕ) (s : List ℕ) : Type 0 where
  rest : List ℕ
  distinct : Distinct n rest
  shorter : length s ≡ suc (length rest)
  absent : (a : ℕ) → Absent a s → Absent a rest

without : (n : ℕ) (s : List ℕ) → Distinct (suc n) s → In n s → Without n s
without n (b ∷ s) h (inl e) = record { rest = s; distinct = narrow n s h.2 (rw e h.1); shorter = refl; absent = λ a k. k.1 }
without n (b ∷ s) h (inr i) =
    let w = without n s h.2 i in
    let z : b < suc n = h.0 in
    let y : b ≢ n = apart b n s h.1 i in
    record {
      rest = b ∷ w.rest;
      distinct = (omega arith, w.absent b h.1, w.distinct);
      shorter = ap suc w.shorter;
      absent = λ a k. (k.0, w.absent a k.1);
    }
without n [] h x'' = elim x'' [ ]

at_most_seek : (n : ℕ) (s : List ℕ) → ((t : List ℕ) → Distinct n t → length t ≤ n) → Distinct (suc n) s → Absent n s ⊎ In n s → length s ≤ suc n
at_most_seek n s ih h (inl k) = let z : length s ≤ n = ih s (narrow n s h k) in omega arith
at_most_seek n s ih h (inr k) = let w = without n s h k in let z : length w.rest ≤ n = ih w.rest w.distinct in let y = w.shorter in omega arith

pub at_most : (n : ℕ) (s : List ℕ) → Distinct n s → length s ≤ n
at_most zero [] h = omega arith
at_most zero (a ∷ s) h = let z : a < 0 = h.0 in absurd (omega arith)
at_most (suc n) s h = at_most_seek n s (at_most n) h (seek n s)

-- A number put in the middle of a list.
absent_mid : (a c : ℕ) (s t : List ℕ) → a ≢ c → Absent a (s ++ t) → Absent a (s ++ (c ∷ t))
absent_mid a c [] t n h = (n, h)
absent_mid a c (b ∷ s) t n h = (h.0, absent_mid a c s t n h.1)

pub distinct_mid : (n c : ℕ) (s t : List ℕ) → c < n → Absent c (s ++ t) → Distinct n (s ++ t) → Distinct n (s ++ (c ∷ t))
distinct_mid n c [] t lt h d = (lt, h, d)
distinct_mid n c (b ∷ s) t lt h d = (d.0, absent_mid b c s t (λ e. h.0 (sym e)) d.1, distinct_mid n c s t lt h.1 d.2)

pub absent_both : (a : ℕ) (s t : List ℕ) → Absent a s → Absent a t → Absent a (s ++ t)
absent_both a [] t h k = k
absent_both a (b ∷ s) t h k = (h.0, absent_both a s t h.1 k)
