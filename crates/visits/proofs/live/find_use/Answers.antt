-- `find_use` finds the live use of a key, or none: the loop keeps that no use after i has it, and none before one of an earlier position has it.
use Prim.Native.Nat.{ℕ, ◌+◌, ◌*◌, ◌-◌, ◌/◌, ◌≤◌, ◌<◌}
use mathlib.Core.Logic.{◌≢◌, ⊎_elim}
use mathlib.Core.List.{List}
use lib.ListN.{get_or}
use native.Mathlib.Nat.{eq-or-lt_of_le}
use native.Mathlib.Omega.{arith}
use mathlib.Core.Path.{◌≡◌, refl, subst}
use Rattle.visits.specs.Words.{use_at, Rising, NotLive}
use Rattle.visits.proofs.live.find_use.Goals as goal

-- What holds after i and at i holds from i on.
from-here : (P : ℕ → Type 0) (live i : ℕ) → ((k : ℕ) → i < k → k < live → P k) → P i → (k : ℕ) → i ≤ k → k < live → P k
from-here P live i after here k h l = ⊎_elim (λ e. subst P e here) (λ more. after k more l) (eq-or-lt_of_le h)

-- No use has a key that none has from a use of an earlier position on.
none-earlier : (w : List ℕ) (live key i : ℕ) → Rising w live → i < live → use_at w i < key / 64 → ((k : ℕ) → i ≤ k → k < live → get_or w (k * 3) 0 ≢ key) → NotLive w live key
none-earlier w live key i order lt low after k l e =
    let p : ¬ (i ≤ k) = λ h. after k h l e in
    let q : ¬ (k < i) = λ h. absurd (omega (arith, order k i h lt)) in
    omega arith

pub loop-i-init : goal.loop-i-init
loop-i-init c = (omega arith, λ k h l. absurd (omega arith))

pub returns-then-work-i : goal.returns-then-work-i
returns-then-work-i c =
    let at-loop = c.loop-i in
    let after = from-here _ _ _ at-loop.invariant.1 c.loop-i-test.true in
    (record { within = omega arith; is = λ z. absurd (omega arith); none = λ z. none-earlier c.args.work.now.now _ c.args.key at-loop.i c.requires.order at-loop.invariant.0 (omega (arith, c.if-work-i.true)) after }, refl)

pub loop-i-preserved : goal.loop-i-preserved
loop-i-preserved c =
    let none = from-here _ _ _ c.loop-i.invariant.1 c.loop-i-test.true in
    (omega arith, λ k h l. none k (omega arith) l)

pub returns : goal.returns
returns c =
    let i = c.loop-i.i in
    let e : i + 1 - 1 ≡ i = omega arith in
    (record { within = omega arith; is = λ z. rw e c.loop-i-test.false; none = λ z. absurd (omega arith) }, refl)
