-- A pair (node, position) as one number: different pairs have different numbers, and a pair that is not found is not among the kept ones.
use mathlib.Core.Path.{◌≡◌, refl, sym, ap}
use Prim.Native.Nat.{ℕ, suc, ◌+◌, ◌*◌, ◌<◌, ◌≤◌}
use mathlib.Core.Bool.{Bool, true, false, ◌&&◌, cond}
use mathlib.Core.List.{List, [], ◌∷◌}
use mathlib.Core.Option.{none, some}
use lib.ListN.{length}
use lib.Dec.{eqb}
use borrow.Author.Tests.{eq-eqb}
use native.Mathlib.Nat.{mul-le-mul_right}
use native.Mathlib.Omega.{arith}
use Rattle.meaning.specs.Grammar.{Note, look}
use Rattle.meaning.proofs.Answers.{found, clash}
use Rattle.meaning.proofs.Pigeon.{Absent}

-- Of positions 0 to L.
pub code : ℕ → ℕ → ℕ → ℕ
code L i x = i * suc L + x

module _ (L : ℕ) where
  pub code_below : (n i x : ℕ) → i < n → x ≤ L → code L i x < n * suc L
  unfolding code
  code_below n i x li lx = let z : suc i * suc L ≤ n * suc L = mul-le-mul_right (suc L) li in omega arith

  not_below : (i x j y : ℕ) → y ≤ L → code L i x ≡ code L j y → ¬ (j < i)
  unfolding code
  not_below i x j y ly e lt = let z : suc j * suc L ≤ i * suc L = mul-le-mul_right (suc L) lt in omega arith

  pub code_number : (i x j y : ℕ) → x ≤ L → y ≤ L → code L i x ≡ code L j y → i ≡ j
  code_number i x j y lx ly e = let f : ¬ (j < i) = not_below i x j y ly e in let b : ¬ (i < j) = not_below j y i x lx (sym e) in omega arith

  pub code_position : (i x j y : ℕ) → x ≤ L → y ≤ L → code L i x ≡ code L j y → x ≡ y
  unfolding code
  code_position i x j y lx ly e =
      let z : i * suc L ≡ j * suc L = ap (λ n. n * suc L) (code_number i x j y lx ly e) in omega arith

  abbrev pub codes : List Note → List ℕ
  codes [] = []
  codes (n ∷ ns) = code L n.number n.position ∷ codes ns

  pub length_codes : (ns : List Note) → length (codes ns) ≡ length ns
  length_codes [] = refl
  length_codes (n ∷ ns) = ap suc (length_codes ns)

  -- Every position is one of the line's.
  abbrev pub Inside : List Note → Type 0
  Inside [] = Unit {0}
  Inside (n ∷ ns) = (n.position ≤ L) × Inside ns

  pub missing : (ns : List Note) (i x : ℕ) → x ≤ L → Inside ns → look ns i x ≡ none → Absent (code L i x) (codes ns)
  unfolding look
  missing [] i x lx h e = tt
  missing (n ∷ ns) i x lx h e = at_head (eqb n.number i && eqb n.position x) refl e (missing ns i x lx h.1)
    where
      at_head : (b : Bool) → (eqb n.number i && eqb n.position x) ≡ b → cond b (some n.answer) (look ns i x) ≡ none
          → (look ns i x ≡ none → Absent (code L i x) (codes ns)) → Absent (code L i x) (codes (n ∷ ns))
      at_head true t e ih = found e refl
      at_head false t e ih = (λ c. differ c, ih e)
        where
          differ : code L i x ≡ code L n.number n.position → ⊥
          differ c =
              let p : n.number ≡ i = sym (code_number i x n.number n.position lx h.0 c) in
              let q : n.position ≡ x = sym (code_position i x n.number n.position lx h.0 c) in
              let z : (eqb n.number i && eqb n.position x) ≡ true = rw (eq-eqb n.number i p, eq-eqb n.position x q) in
              clash z t
