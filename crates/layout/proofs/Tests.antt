-- Each test of the check holds exactly if what 01 says of that row does.
use mathlib.Core.Path.{◌≡◌, refl, sym}
use mathlib.Core.Logic.Iff
use mathlib.Core.Logic.{◌↔◌}
use mathlib.Core.Bool.{Bool, true, false, ◌&&◌, cond, and-eq-true_iff, false≢true}
use mathlib.Core.List.{List}
use Prim.Native.Nat.{ℕ, zero, suc, ◌≤◌, ◌<◌}
use native.Mathlib.Omega.{arith}
use borrow.Author.Tests.{leb-true, le-leb, ltb-true, lt-ltb, eqb-true, eq-eqb}
use lib.Dec.{leb, ltb, eqb}
use Rattle.layout.specs.Table.{nodes_of, most_nodes, most_rules, root_of, Fits, is_empty, is_range, is_rule, is_sequence, is_choice, is_not, is_repetition}
use Rattle.layout.specs.Layout.{READ, in_range, counts_fit, all_equal, root_fault, fields_fit}

leb_iff : (a b : ℕ) → (leb a b ≡ true) ↔ (a ≤ b)
leb_iff a b = (leb-true a b, le-leb a b)

pub ltb_iff : (a b : ℕ) → (ltb a b ≡ true) ↔ (a < b)
ltb_iff a b = (ltb-true a b, lt-ltb a b)

eqb_iff : (a b : ℕ) → (eqb a b ≡ true) ↔ (a ≡ b)
eqb_iff a b = (eqb-true a b, eq-eqb a b)

pub both {ℓ} : {P Q : Type ℓ} (p q : Bool) → (p ≡ true) ↔ P → (q ≡ true) ↔ Q → ((p && q) ≡ true) ↔ (P × Q)
both p q e f = Iff.trans (and-eq-true_iff p q) (Iff.and e f)

in_range_iff : (count most : ℕ) → (in_range count most ≡ true) ↔ ((1 ≤ count) × (count ≤ most))
in_range_iff count most = both _ _ (leb_iff 1 count) (leb_iff count most)

pub counts_iff : (n r : ℕ) → (counts_fit n r ≡ true) ↔ (((1 ≤ n) × (n ≤ most_nodes)) × ((1 ≤ r) × (r ≤ most_rules)))
counts_iff n r = both _ _ (in_range_iff n most_nodes) (in_range_iff r most_rules)

pub all_equal_iff : (x y z : ℕ) → (all_equal x y z ≡ true) ↔ ((x ≡ y) × (x ≡ z))
all_equal_iff x y z = both _ _ (eqb_iff x y) (eqb_iff x z)

-- What a failed test says.
pub failed-iff {ℓ} : {P : Type ℓ} {b : Bool} → (b ≡ true) ↔ P → (b ≡ false) ↔ (¬ P)
failed-iff {b = true} e = ((λ f p. false≢true (sym f)), (λ n. absurd (n (e.0 refl))))
failed-iff {b = false} e = ((λ f p. false≢true (e.1 p)), (λ n. refl))

-- A test with a code for its failure.
passed_iff : (b : Bool) (code : ℕ) → (cond b READ (suc code) ≡ READ) ↔ (b ≡ true)
passed_iff true code = ((λ e. refl), (λ e. refl))
passed_iff false code = ((λ (e : suc code ≡ 0). absurd (omega arith)), (λ e. absurd (false≢true e)))

pub root_iff : (t : List ℕ) (a : ℕ) → (root_fault t a ≡ READ) ↔ (root_of t a < nodes_of t)
unfolding root_fault
root_iff t a = Iff.trans (passed_iff _ 4) (ltb_iff (root_of t a) (nodes_of t))

-- ---- Fields pass exactly if they are as the table of kinds says.
module _ (r i : ℕ) where
  fits : (kind a b : ℕ) → fields_fit r i kind a b ≡ true → Fits r i kind a b
  unfolding fields_fit
  fits zero a b e = let h = (both _ _ (eqb_iff a 0) (eqb_iff b 0)).0 e in rw (h.0, h.1) is_empty
  fits (suc zero) a b e = let h = (both _ _ (leb_iff a b) (leb_iff b 255)).0 e in is_range h.0 h.1
  fits (suc (suc zero)) a b e = let h = (both _ _ (ltb_iff a r) (eqb_iff b 0)).0 e in rw h.1 (is_rule h.0)
  fits (suc (suc (suc zero))) a b e = let h = (both _ _ (ltb_iff a i) (ltb_iff b i)).0 e in is_sequence h.0 h.1
  fits (suc (suc (suc (suc zero)))) a b e = let h = (both _ _ (ltb_iff a i) (ltb_iff b i)).0 e in is_choice h.0 h.1
  fits (suc (suc (suc (suc (suc zero))))) a b e = let h = (both _ _ (ltb_iff a i) (eqb_iff b 0)).0 e in rw h.1 (is_not h.0)
  fits (suc (suc (suc (suc (suc (suc zero)))))) a b e = let h = (both _ _ (ltb_iff a i) (eqb_iff b 0)).0 e in rw h.1 (is_repetition h.0)
  fits (suc (suc (suc (suc (suc (suc (suc kind))))))) a b e = absurd (false≢true e)

  passes : {kind a b : ℕ} → Fits r i kind a b → fields_fit r i kind a b ≡ true
  unfolding fields_fit
  passes is_empty = refl
  passes (is_range {lowest = a} {highest = b} h l) = (both _ _ (leb_iff a b) (leb_iff b 255)).1 (h, l)
  passes (is_rule {a} h) = (both _ _ (ltb_iff a r) (eqb_iff 0 0)).1 (h, refl)
  passes (is_sequence {a} {b} h l) = (both _ _ (ltb_iff a i) (ltb_iff b i)).1 (h, l)
  passes (is_choice {a} {b} h l) = (both _ _ (ltb_iff a i) (ltb_iff b i)).1 (h, l)
  passes (is_not {a} h) = (both _ _ (ltb_iff a i) (eqb_iff 0 0)).1 (h, refl)
  passes (is_repetition {a} h) = (both _ _ (ltb_iff a i) (eqb_iff 0 0)).1 (h, refl)

  pub fits_iff : (kind a b : ℕ) → (fields_fit r i kind a b ≡ true) ↔ Fits r i kind a b
  fits_iff kind a b = (fits kind a b, passes)

pub kind_fits : {r i kind a b : ℕ} → Fits r i kind a b → kind ≤ 6
kind_fits is_empty = omega arith
kind_fits (is_range h l) = omega arith
kind_fits (is_rule h) = omega arith
kind_fits (is_sequence h l) = omega arith
kind_fits (is_choice h l) = omega arith
kind_fits (is_not h) = omega arith
kind_fits (is_repetition h) = omega arith
