-- A use that is live answers what it holds.
use mathlib.Core.Path.{◌≡◌, refl}
use mathlib.Core.Bool.{true, false}
use mathlib.Core.Logic.{◌≢◌, inl, inr}
use mathlib.Core.List.{List}
use Prim.Native.Nat.{ℕ, ◌+◌, ◌-◌, ◌*◌, ◌<◌}
use native.Mathlib.Omega.{arith}
use lib.ListN.{get_or}
use Rattle.meaning.proofs.Answers.{clash}
use Rattle.visits.specs.Given.{Given, keeps_in, grows_in, left_in, live_in, pos_in}
use Rattle.visits.specs.Words.{key_of, top_in, made_in, NotLive, Found, FoundUse}
use Rattle.visits.specs.Says.{end_in, list_in, Holds, reading, uses, Starts, Ends}
use Rattle.visits.proofs.Steps.{came_at}
use Rattle.visits.proofs.Keeping.{by_same}
use Rattle.visits.proofs.Living.{held_fail, held_match}
use Rattle.visits.proofs.ByKind.{uses_grows}

-- What a search found is a live use of a rule that grows; where it found none, a rule that grows has none.
pub found_some : (given : Given) (w : List ℕ) (spot rule r : ℕ) → FoundUse given w spot rule r → r ≢ 0 → (grows_in given rule ≡ true) × Found w (live_in spot) (key_of rule (pos_in spot)) r
found_some given w spot rule r (inl still) some = absurd (some still.1)
found_some given w spot rule r (inr found) some = found

pub found_none : (given : Given) (w : List ℕ) (spot rule r : ℕ) → FoundUse given w spot rule r → r ≡ 0 → grows_in given rule ≡ true → NotLive w (live_in spot) (key_of rule (pos_in spot))
found_none given w spot rule r (inl still) none grows = clash grows still.0
found_none given w spot rule r (inr found) none grows = found.1.none none

module _ (given : Given) (line w : List ℕ) (spot root rule pos i r : ℕ) (ready : Starts given line w spot root pos) (plain : keeps_in given ≡ false) (growing : grows_in given rule ≡ true) (small : rule < 64)
    (search : Found w (live_in spot) (key_of rule pos) (i + 1)) (holds : Holds w i r) (there : pos ≡ pos_in spot) where
  live : i < live_in spot
  live = omega (arith, search.within)

  key : get_or w (i * 3) 0 ≡ key_of rule pos
  key = let e : i + 1 - 1 ≡ i = omega arith in rw e at (search.is (omega arith))

  pub answers_held : Ends given line w w spot r (λ l s. uses given line (left_in spot) l rule pos s)
  answers_held = record {
    came = by_same (get_or w (i * 3 + 2) 0) 0
        (λ e.
        came_at given line ready.fit.short (end_in r) (list_in r) (top_in w) (made_in w) (holds.failed e).0 (holds.failed e).1 refl refl
        (uses_grows given line ready.fit (left_in spot) rule pos plain growing (held_fail given line ready.fit (reading given line (left_in spot)) rule pos i ready.words ready.made_within small live (key) e)))
        (λ n.
        came_at given line ready.fit.short (end_in r) (list_in r) (top_in w) (made_in w) (holds.matched n).0 (holds.matched n).1 refl refl
        (uses_grows given line ready.fit (left_in spot) rule pos plain growing (held_match given line ready.fit (reading given line (left_in spot)) rule pos i ready.words ready.made_within small live (key) n)));
    cells = omega arith;
    ahead = λ p. by_same (get_or w (i * 3 + 2) 0) 0
        (λ e. omega (arith, (holds.failed e).0, there, ready.pos_within, ready.fit.short))
        (λ n. omega (arith, (holds.matched n).0, there, (ready.order p).ahead i live n, key));
  }
