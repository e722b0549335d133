-- What a row of the check, a search for the first fault and the fault of a node come to, by cases.
use mathlib.Core.Path.{◌≡◌, refl, sym, ap, ◌∙◌}
use mathlib.Core.Logic.{◌↔◌, ◌≢◌, ⊎_elim}
use mathlib.Core.Bool.{Bool, true, false}
use mathlib.Core.List.{List}
use Prim.Native.Nat.{ℕ, zero, suc, ◌+◌, ◌≤◌, ◌<◌}
use native.Mathlib.Nat.{eq-or-lt_of_le}
use native.Mathlib.Omega.{arith}
use borrow.Author.Tests.{leb-true, leb-false, eqb-true, eqb-false, ne_eqb}
use lib.Dec.{leb, eqb}
use Rattle.meaning.proofs.Choose.{by_test}
use Rattle.layout.specs.Table.{kind_of, Fits, NodeFits}
use Rattle.layout.specs.Layout.{Verdict, READ, KIND, FIELD, verdict, unless, ◌or_else◌, first_fault, fields_fit, fault_of, node_fault}
use Rattle.layout.proofs.Tests.{failed-iff, fits_iff, kind_fits}

pub row_cases : (P : Verdict → Type 0) (b : Bool) (code : ℕ) (w : Verdict) → (b ≡ false → P (verdict (suc code) 0)) → (b ≡ true → P w) → P (unless b (suc code) or_else w)
row_cases P true code w refused passed = passed refl
row_cases P false code w refused passed = rw (ne_eqb (suc code) READ (λ e. omega arith)) (refused refl)

none_from : (f : ℕ → ℕ) (i m : ℕ) → f i ≡ READ → ((j : ℕ) → suc i ≤ j → j < m → f j ≡ READ) → (j : ℕ) → i ≤ j → j < m → f j ≡ READ
none_from f i m e after j h l = ⊎_elim (λ (q : i ≡ j). ap f (sym q) ∙ e) (λ (q : i < j). after j q l) (eq-or-lt_of_le h)

pub search_cases : (P : Verdict → Type 0) (f : ℕ → ℕ) (i k : ℕ)
    → ((j : ℕ) → i ≤ j → j < i + k → ((l : ℕ) → i ≤ l → l < j → f l ≡ READ) → f j ≢ READ → P (verdict (f j) j))
    → (((j : ℕ) → i ≤ j → j < i + k → f j ≡ READ) → P (verdict READ 0)) → P (first_fault f i k)
unfolding first_fault
search_cases P f i zero found none = none (λ j h l. absurd (omega arith))
search_cases P f i (suc k) found none =
    by_test P (eqb (f i) READ) _ _
    (λ q. let e = eqb-true _ _ q in search_cases P f (suc i) k (λ j h l before. found j (omega arith) (omega arith) (none_from f i j e before))
    (λ after. none (none_from f i (i + suc k) e (λ j h l. after j h (omega arith)))))
    (λ q. found i (omega arith) (omega arith) (λ l h m. absurd (omega arith)) (eqb-false _ _ q))

module _ (f : ℕ → ℕ) (n : ℕ) where
  pub search_none : ((j : ℕ) → j < n → f j ≡ READ) → first_fault f 0 n ≡ verdict READ 0
  search_none all = search_cases (λ v. v ≡ verdict READ 0) f 0 n (λ j h l before z. absurd (z (all j (omega arith)))) (λ after. refl)

  pub search_found : (j : ℕ) → j < n → ((l : ℕ) → l < j → f l ≡ READ) → (code : ℕ) → f j ≡ suc code → first_fault f 0 n ≡ verdict (suc code) j
  search_found j h before code e = search_cases (λ v. v ≡ verdict (suc code) j) f 0 n first (λ after. let z = after j (omega arith) (omega arith) in absurd (omega arith))
    where
      first : (i : ℕ) → 0 ≤ i → i < 0 + n → ((l : ℕ) → 0 ≤ l → l < i → f l ≡ READ) → f i ≢ READ → verdict (f i) i ≡ verdict (suc code) j
      first i g l none z =
          let not_before : ¬ (i < j) = λ k. z (before i k) in
          let not_after : ¬ (j < i) = λ k. let y = none j (omega arith) k in omega arith in
          let q : i ≡ j = omega arith in
          rw (q, e)

fault_cases : (P : ℕ → Type 0) (r i kind a b : ℕ) → (Fits r i kind a b → P READ) → (6 < kind → P KIND) → (kind ≤ 6 → ¬ Fits r i kind a b → P FIELD) → P (fault_of r i kind a b)
unfolding fault_of
fault_cases P r i kind a b passed above against =
    by_test P (leb kind 6) _ _
    (λ q. by_test P (fields_fit r i kind a b) _ _ (λ p. passed ((fits_iff r i kind a b).0 p)) (λ p. against (leb-true _ _ q) ((failed-iff (fits_iff r i kind a b)).0 p)))
    (λ q. above (leb-false _ _ q))

module _ (t : List ℕ) where
  pub node_cases : (P : ℕ → Type 0) (i : ℕ) → (NodeFits t i → P READ) → (6 < kind_of t i → P KIND) → (kind_of t i ≤ 6 → ¬ NodeFits t i → P FIELD) → P (node_fault t i)
  unfolding node_fault
  node_cases P i = fault_cases P _ i _ _ _

  pub node_iff : (i : ℕ) → (node_fault t i ≡ READ) ↔ NodeFits t i
  node_iff i = (
    node_cases (λ x. x ≡ READ → NodeFits t i) i (λ h e. h) (λ h e. absurd (omega arith)) (λ h n e. absurd (omega arith)),
    (λ h. node_cases (λ x. x ≡ READ) i (λ g. refl) (λ g. let k = kind_fits h in absurd (omega arith)) (λ g n. absurd (n h))),
  )

  pub node_kind : (i : ℕ) → 6 < kind_of t i → node_fault t i ≡ KIND
  node_kind i h = node_cases (λ x. x ≡ KIND) i (λ g. let k = kind_fits g in absurd (omega arith)) (λ g. refl) (λ g n. absurd (omega arith))

  pub node_field : (i : ℕ) → kind_of t i ≤ 6 → ¬ NodeFits t i → node_fault t i ≡ FIELD
  node_field i h n = node_cases (λ x. x ≡ FIELD) i (λ g. absurd (n g)) (λ g. absurd (omega arith)) (λ g m. refl)
