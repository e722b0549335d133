-- What the code tests of a slice's head, and what the definition says of it.
use mathlib.Core.Path.{◌≡◌, sym, ◌∙◌}
use mathlib.Core.List.{List, []}
use mathlib.Core.Bool.{true, false, and-false, and-eq-true_iff}
use native.Mathlib.Omega.{arith}
use native.Mathlib.Nat.{mul-le-mul_right}
use Prim.Native.Nat.{ℕ, ◌+◌, ◌*◌, ◌<◌, ◌≤◌}
use lib.ListN.{length, get_or}
use borrow.Author.Tests.{ne_eqb, eqb-true}
use Rattle.stored.specs.Stored.{record_size, stored_length}
use Rattle.stored.specs.WellFormed.{number_at, records_at, well_formed_of}
use Rattle.stored.specs.Scratch.{head_agrees}
use Rattle.stored.proofs.Goes.{rest}

module _ (w r l : ℕ) (bytes : List ℕ) where
  pub judged_short : length bytes < 5 → false ≡ well_formed_of w r l bytes
  unfolding well_formed_of
  judged_short h = simp (ne_eqb (stored_length w (number_at 2 bytes 3)) (length bytes) (λ q. omega arith), and-false)

  pub judged_version : (v : ℕ) → v ≡ get_or bytes 0 0 → (v ≡ w → ⊥) → false ≡ well_formed_of w r l bytes
  unfolding well_formed_of
  judged_version v e n = simp (ne_eqb (get_or bytes 0 0) w (λ q. n (e ∙ q)))

  pub judged_head : false ≡ head_agrees w bytes → false ≡ well_formed_of w r l bytes
  unfolding well_formed_of
  judged_head e = rw (sym e)

  pub judged_rest : true ≡ head_agrees w bytes → rest r l (records_at w bytes 5 (number_at 2 bytes 3)) [] ≡ well_formed_of w r l bytes
  unfolding well_formed_of
  judged_rest e = rw (sym e)

-- Where the head agrees, the records are there, and no more than the scratch has: the slice's length stands in two bytes.
number_low : (bytes : List ℕ) (p : ℕ) → ((i : ℕ) → get_or bytes i 0 < 256) → number_at 2 bytes p < 65536
unfolding number_at
number_low bytes p low = omega (arith, low (p + 0), low (p + 1))

pub head_records : (w n : ℕ) (bytes : List ℕ) → 0 < w → ((i : ℕ) → get_or bytes i 0 < 256) → n ≡ number_at 2 bytes 3 → true ≡ head_agrees w bytes
    → (5 + record_size w * n ≤ length bytes) × (n ≤ 13106)
head_records w n bytes hw low en e =
    let a = (and-eq-true_iff _ _).0 (sym e) in
    let b = (and-eq-true_iff _ _).0 a.0 in
    let c = (and-eq-true_iff _ _).0 b.0 in
    let f : stored_length w (number_at 2 bytes 3) ≡ length bytes = eqb-true _ _ b.1 in
    let m : number_at 2 bytes 1 ≡ length bytes = eqb-true _ _ c.1 in
    let k : 5 ≤ 3 + 2 * w = omega arith in
    let z : 5 * number_at 2 bytes 3 ≤ (3 + 2 * w) * number_at 2 bytes 3 = mul-le-mul_right (number_at 2 bytes 3) k in
    rw en (omega arith, omega (arith, number_low bytes 1 low))
