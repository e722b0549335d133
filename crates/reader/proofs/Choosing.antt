-- A value by one test or the other.
use mathlib.Core.Path.{◌≡◌}
use mathlib.Core.Bool.{Bool, true, false, cond}

pub by_true : {A : Type 0} {b : Bool} {v x : A} (y : A) → b ≡ true → v ≡ x → v ≡ cond b x y
by_true y b e = rw b e

pub by_false : {A : Type 0} {b : Bool} {v y : A} (x : A) → b ≡ false → v ≡ y → v ≡ cond b x y
by_false x b e = rw b e
