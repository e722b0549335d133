-- Facts about how a run ends, and how they pass from a run to what is done after it.
use mathlib.Core.Path.{◌≡◌, refl}
use Prim.Native.Nat.{ℕ, zero, suc}
use Rattle.meaning.specs.Grammar.{Answer}
use Rattle.meaning.specs.Reading.{State, spent, Run, effort, deep, done, after, counted}

-- E holds of the state of a run refused for effort, D of one refused for depth, P of the answer and the state of one that is done.
abbrev pub Ends : (State → Type 0) → (State → Type 0) → (Answer → State → Type 0) → Run → Type 0
Ends E D P (effort p s) = E s
Ends E D P (deep p s) = D s
Ends E D P (done r s) = P r s

-- P holds of a run that is not refused.
abbrev pub All : (Answer → State → Type 0) → Run → Type 0
All P m = Ends (λ s. Unit {0}) (λ s. Unit {0}) P m

module _ {E D E' D' : State → Type 0} {P : Answer → State → Type 0} where
  -- From a run to what is done after it: a refusal is passed on, and Q holds in the end.
  pub ends_after : (Q : Answer → State → Type 0) (m : Run) (k : Answer → State → Run) → Ends E D P m → ((s : State) → E s → E' s) → ((s : State) → D s → D' s)
      → ((r : Answer) (s : State) → P r s → Ends E' D' Q (k r s)) → Ends E' D' Q (after m k)
  unfolding after
  ends_after Q (effort p s) k h f d c = f s h
  ends_after Q (deep p s) k h f d c = d s h
  ends_after Q (done r s) k h f d c = c r s h

  pub ends_map : {Q : Answer → State → Type 0} (m : Run) → Ends E D P m → ((s : State) → E s → E' s) → ((s : State) → D s → D' s)
      → ((r : Answer) (s : State) → P r s → Q r s) → Ends E' D' Q m
  ends_map (effort p s) h f d c = f s h
  ends_map (deep p s) h f d c = d s h
  ends_map (done r s) h f d c = c r s h

-- Two facts about one run, as a third.
pub ends_both : {E D E' D' E'' D'' : State → Type 0} {P P' P'' : Answer → State → Type 0} (m : Run) → Ends E D P m → Ends E' D' P' m
    → ((s : State) → E s → E' s → E'' s) → ((s : State) → D s → D' s → D'' s) → ((r : Answer) (s : State) → P r s → P' r s → P'' r s) → Ends E'' D'' P'' m
ends_both (effort p s) h k f d c = f s h k
ends_both (deep p s) h k f d c = d s h k
ends_both (done r s) h k f d c = c r s h k

-- Before a visit: none is left, or k makes it with one less.
pub ends_counted : (E D : State → Type 0) (P : Answer → State → Type 0) (n x : ℕ) (s : State) (k : State → Run) → (n ≡ 0 → E s)
    → ((l : ℕ) → n ≡ suc l → Ends E D P (k (spent l s))) → Ends E D P (counted n x s k)
unfolding counted
ends_counted E D P zero x s k e c = e refl
ends_counted E D P (suc l) x s k e c = c l refl

module _ {P : Answer → State → Type 0} where
  pub all_after : (Q : Answer → State → Type 0) (m : Run) (k : Answer → State → Run) → All P m → ((r : Answer) (s : State) → P r s → All Q (k r s)) → All Q (after m k)
  all_after Q m k h c = ends_after Q m k h (λ s u. u) (λ s u. u) c

  pub all_map : {Q : Answer → State → Type 0} (m : Run) → All P m → ((r : Answer) (s : State) → P r s → Q r s) → All Q m
  all_map m h c = ends_map m h (λ s u. u) (λ s u. u) c
