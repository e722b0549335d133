-- Rules gathered one by one.
use mathlib.Core.Path.{◌≡◌, refl, sym, ◌∙◌}
use mathlib.Core.Bool.{Bool, true, false, ◌&&◌, ◌||◌, or-true, or-false}
use mathlib.Core.Logic.{◌≢◌}
use Prim.Native.Nat.{ℕ, ◌+◌, ◌<◌}
use native.Mathlib.Omega.{arith}
use borrow.Author.Tests.{ltb-true, ltb-false, lt-ltb, le-ltb, eqb-true, eqb-false}
use lib.Dec.{eqb, ltb}
use Rattle.bits.specs.Mask.{has}
use Rattle.empties.specs.Pass.{Gathered}

pub below_next : (a k : ℕ) → a ≢ k → ltb a (k + 1) ≡ ltb a k
below_next a k other = by (ltb a k) refl
  where
    by : (b : Bool) → ltb a k ≡ b → ltb a (k + 1) ≡ ltb a k
    by true e = let l = ltb-true a k e in rw e (lt-ltb a (k + 1) (omega arith))
    by false e = let l = ltb-false a k e in rw e (le-ltb a (k + 1) (omega arith))

module _ (test : ℕ → Bool) (base : ℕ) where
  pub gathered_none : Gathered test base 0 base
  unfolding Gathered
  gathered_none a = rw (le-ltb a 0 (omega arith)) (sym (or-false (has base a)))

  module _ (k mask : ℕ) (so_far : Gathered test base k mask) where
    others : (a : ℕ) → eqb a k ≡ false → has mask a ≡ (has base a || ltb a (k + 1) && test a)
    unfolding Gathered
    others a e = rw (below_next a k (eqb-false a k e)) (so_far a)

    pub gathered_out : test k ≡ false → Gathered test base (k + 1) mask
    unfolding Gathered
    gathered_out out a = by (eqb a k) refl
      where
        by : (b : Bool) → eqb a k ≡ b → has mask a ≡ (has base a || ltb a (k + 1) && test a)
        by true e =
            let same = eqb-true a k e in
            so_far a ∙ rw (same, out, le-ltb k k (omega arith), lt-ltb k (k + 1) (omega arith))
        by false e = others a e

    pub gathered_in : (more : ℕ) → test k ≡ true → ((a : ℕ) → has more a ≡ (has mask a || eqb a k)) → Gathered test base (k + 1) more
    unfolding Gathered
    gathered_in more into h a = h a ∙ by (eqb a k) refl
      where
        by : (b : Bool) → eqb a k ≡ b → (has mask a || eqb a k) ≡ (has base a || ltb a (k + 1) && test a)
        by true e =
            let same = eqb-true a k e in
            rw e (or-true (has mask a) ∙ rw (same, into, lt-ltb k (k + 1) (omega arith)) (sym (or-true (has base k))))
        by false e = rw e (or-false (has mask a) ∙ others a e)

-- Where a round adds nothing, no rule is left to add.
pub nothing_new : (test : ℕ → Bool) (known r : ℕ) → Gathered test known r known → (a : ℕ) → a < r → test a ≡ true → has known a ≡ true
unfolding Gathered
nothing_new test known r gathered a h e = gathered a ∙ rw (lt-ltb a r h, e) (or-true (has known a))
