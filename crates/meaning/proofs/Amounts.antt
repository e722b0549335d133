-- What a reading spends and reaches on its way from one state to another, by what a derivation amounts to.
use mathlib.Core.Path.{◌≡◌, refl}
use Prim.Native.Nat.{ℕ, suc, ◌+◌, ◌≤◌, max}
use native.Mathlib.Omega.{arith}
use Rattle.meaning.specs.Reading.{State, starting, spent, asked, made}
use Rattle.meaning.specs.Rules.{Amount, nothing, asking, ◌⊕◌, visiting}

-- The visits of n were made between s and t, and the furthest position rose by n's.
pub record Spends (n : Amount) (s t : State) : Type 0 where
  pub left : s.left ≡ n.visits + t.left
  pub furthest : t.furthest ≡ max s.furthest n.furthest

pub spends_nothing : (s : State) → Spends nothing s s
spends_nothing s = record { left = omega arith; furthest = omega arith }

pub spends_asking : (x : ℕ) (s : State) → Spends (asking x) s (asked x s)
spends_asking x s = record { left = omega arith; furthest = refl }

-- One after the other.
pub spends_both : {n m : Amount} {s t u : State} → Spends n s t → Spends m t u → Spends (n ⊕ m) s u
spends_both h k =
    let a = h.left in
    let b = k.left in
    let c = h.furthest in
    let d = k.furthest in
    record { left = omega arith; furthest = omega arith }

-- The visit itself is one more.
pub spends_visit : {n : Amount} {l : ℕ} {s t : State} → s.left ≡ suc l → Spends n (spent l s) t → Spends (visiting n) s t
spends_visit e h = let a = h.left in record { left = omega arith; furthest = h.furthest }

-- What a whole reading amounts to that ended with the state t, with so many visits allowed: those made, as far as it got, and never more open than 512.
pub record Amounts (allowance : ℕ) (n : Amount) (t : State) : Type 0 where
  pub visits : n.visits ≡ made allowance t
  pub furthest : n.furthest ≡ t.furthest
  pub depth : n.depth ≤ 512

pub amounts : {allowance : ℕ} {n : Amount} {t : State} → Spends n (starting allowance) t → n.depth ≤ 512 → Amounts allowance n t
amounts h d = let v = h.left in let f = h.furthest in record { visits = omega arith; furthest = omega arith; depth = d }
