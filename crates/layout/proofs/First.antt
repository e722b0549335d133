-- The first number that passes a test: a search goes on while none has passed, and finds one.
use mathlib.Core.Path.{◌≡◌, sym, ◌∙◌}
use mathlib.Core.Bool.{Bool, true, false, false≢true}
use mathlib.Core.Logic.{⊎_elim}
use Prim.Native.Nat.{ℕ, ◌+◌, ◌≤◌, ◌<◌}
use native.Mathlib.Nat.{eq-or-lt_of_le}
use native.Mathlib.Omega.{arith}
use Rattle.layout.specs.Survey.{FirstOf}

-- None has passed, from one number up to another.
abbrev pub None : (test : ℕ → Bool) (from i : ℕ) → Type 0
None test from i = (j : ℕ) → from ≤ j → j < i → test j ≡ false

module _ (test : ℕ → Bool) (from : ℕ) where
  pub none_yet : None test from from
  none_yet j h l = absurd (omega arith)

  pub one_more : (i : ℕ) → None test from i → test i ≡ false → None test from (i + 1)
  one_more i so_far here j h l = ⊎_elim (λ (e : j ≡ i). rw e here) (λ (k : j < i). so_far j h k) (eq-or-lt_of_le (omega arith))

  pub first_here : (i to : ℕ) → from ≤ i → i ≤ to → None test from i → test i ≡ true → FirstOf test from to i
  first_here i to h l none e = record { least = h; most = l; before = none; there = λ k. e }

  pub first_nowhere : (i to : ℕ) → from ≤ to → to ≤ i → None test from i → FirstOf test from to to
  first_nowhere i to h l none = record { least = h; most = omega arith; before = λ j g k. none j g (omega arith); there = λ k. absurd (omega arith) }

  pub one_first : (to p q : ℕ) → FirstOf test from to p → FirstOf test from to q → p ≡ q
  one_first to p q a b =
      let not_before : ¬ (p < q) = λ l. let m = b.most in false≢true (sym (b.before p a.least l) ∙ a.there (omega arith)) in
      let not_after : ¬ (q < p) = λ l. let m = a.most in false≢true (sym (a.before q b.least l) ∙ b.there (omega arith)) in
      omega arith
