-- 003's "L[(A, x) ↦ X](B, y) = L(B, y) if B ≠ A or y ≠ x", and X otherwise: the laws of what is noted.
use mathlib.Core.Path.{◌≡◌, refl, sym}
use mathlib.Core.Logic.{◌≢◌, ◌⊎◌, inl, inr}
use Prim.Native.Nat.{ℕ}
use mathlib.Core.Bool.{Bool, true, false, ◌&&◌, cond, and-false, and-eq-true_iff}
use mathlib.Core.List.{List}
use mathlib.Core.Option.{some}
use lib.Dec.{eqb}
use borrow.Author.Tests.{eq-eqb, ne_eqb, eqb-true}
use Rattle.meaning.specs.Grammar.{Answer, Note, noted, look}

module _ (l : List Note) (a x : ℕ) (r : Answer) where
  pub look_same : look (noted a x r l) a x ≡ some r
  unfolding look
  look_same = rw (eq-eqb a a refl, eq-eqb x x refl)

  pub look_other : (b y : ℕ) → (b ≢ a) ⊎ (y ≢ x) → look (noted a x r l) b y ≡ look l b y
  unfolding look
  look_other b y h = rw (differs h)
    where
      differs : (b ≢ a) ⊎ (y ≢ x) → (eqb a b && eqb x y) ≡ false
      differs (inl n) = rw (ne_eqb a b (λ e. n (sym e)))
      differs (inr n) = rw (ne_eqb x y (λ e. n (sym e)), and-false)

  -- What is found is what was noted last, or was there before.
  pub look_cases : (b y : ℕ) {q : Answer} → look (noted a x r l) b y ≡ some q → ((a ≡ b) × (x ≡ y) × (r ≡ q)) ⊎ (look l b y ≡ some q)
  unfolding look
  look_cases b y {q} = at_head (eqb a b && eqb x y) refl
    where
      at_head : (t : Bool) → (eqb a b && eqb x y) ≡ t → cond t (some r) (look l b y) ≡ some q → ((a ≡ b) × (x ≡ y) × (r ≡ q)) ⊎ (look l b y ≡ some q)
      at_head true e h = let both = (and-eq-true_iff (eqb a b) (eqb x y)).0 e in inl (eqb-true a b both.0, eqb-true x y both.1, cc)
      at_head false e h = inr h

-- What two tables have in common, they have in common with the same noted in both.
pub look_both : (l m : List Note) (a x : ℕ) (r : Answer) (b y : ℕ) → look l b y ≡ look m b y → look (noted a x r l) b y ≡ look (noted a x r m) b y
unfolding look
look_both l m a x r b y e = rw e
