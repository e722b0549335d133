-- Rounds of marks come to rest: in the end a node is marked exactly if the test, seeing these marks, says so.
use mathlib.Core.Path.{◌≡◌, refl, sym, ap, ◌∙◌}
use mathlib.Core.Logic.{◌⊎◌, inl, inr, ⊎_elim}
use Prim.Native.Nat.{ℕ, zero, suc, ◌<◌, ◌≤◌}
use mathlib.Core.Bool.{Bool, true, false, ◌||◌, false≢true}
use mathlib.Core.List.{List, [], ◌∷◌}
use mathlib.Mathlib.Data.Bool.Basic.{or_inr}
use lib.ListN.{length, get_or, replicate, length-replicate}
use native.Mathlib.Omega.{arith}
use Rattle.meaning.specs.Grammar.{Node, empty}
use Rattle.meaning.specs.Decide.{mark, rounds, settled}
use Rattle.meaning.proofs.Choose.{or_split}

unmarked : List Bool → ℕ
unmarked [] = 0
unmarked (true ∷ ms) = unmarked ms
unmarked (false ∷ ms) = suc (unmarked ms)

-- A round changes nothing, or leaves fewer unmarked.
abbrev Fewer : List Bool → List Bool → Type 0
Fewer ms ns = (ns ≡ ms) ⊎ (unmarked ns < unmarked ms)

at_most : (ms ns : List Bool) → Fewer ms ns → unmarked ns ≤ unmarked ms
at_most ms ns (inl e) = rw e (omega arith)
at_most ms ns (inr h) = omega arith

fewer_after : (m b : Bool) (ms ns : List Bool) → Fewer ms ns → Fewer (m ∷ ms) ((m || b) ∷ ns)
unfolding unmarked
fewer_after true b ms ns (inl e) = inl (ap (λ x. true ∷ x) e)
fewer_after true b ms ns (inr h) = inr h
fewer_after false false ms ns (inl e) = inl (ap (λ x. false ∷ x) e)
fewer_after false false ms ns (inr h) = inr (omega arith)
fewer_after false true ms ns h = let le = at_most ms ns h in inr (omega arith)

all_unmarked : (n : ℕ) → unmarked (replicate n false) ≡ n
unfolding unmarked
all_unmarked zero = refl
all_unmarked (suc n) = ap suc (all_unmarked n)

none_marked : (n i : ℕ) → get_or (replicate n false) i false ≡ true → ⊥
none_marked zero i e = false≢true e
none_marked (suc n) zero e = false≢true e
none_marked (suc n) (suc i) e = none_marked n i e

module _ (test : Node → Bool) where
  fewer : (ps : List Node) (ms : List Bool) → Fewer ms (mark test ps ms)
  fewer ps [] = inl refl
  fewer [] (m ∷ ms) = inl refl
  fewer (p ∷ ps) (m ∷ ms) = fewer_after m (test p) ms (mark test ps ms) (fewer ps ms)

  mark_length : (ps : List Node) (ms : List Bool) → length (mark test ps ms) ≡ length ms
  mark_length ps [] = refl
  mark_length [] (m ∷ ms) = refl
  mark_length (p ∷ ps) (m ∷ ms) = ap suc (mark_length ps ms)

  in_mark : (ps : List Node) (ms : List Bool) (i : ℕ) → get_or (mark test ps ms) i false ≡ true → (get_or ms i false ≡ true) ⊎ (test (get_or ps i empty) ≡ true)
  in_mark ps [] i e = inl e
  in_mark [] (m ∷ ms) i e = inl e
  in_mark (p ∷ ps) (m ∷ ms) zero e = or_split m (test p) e
  in_mark (p ∷ ps) (m ∷ ms) (suc i) e = in_mark ps ms i e

  mark_in_lem : (ps : List Node) (ms : List Bool) (i : ℕ) → i < length ps → i < length ms → test (get_or ps i empty) ≡ true → get_or (mark test ps ms) i false ≡ true
  mark_in_lem ps [] i lp lm e = absurd (omega arith)
  mark_in_lem [] (m ∷ ms) i lp lm e = absurd (omega arith)
  mark_in_lem (p ∷ ps) (m ∷ ms) zero lp lm e = or_inr m (test p) e
  mark_in_lem (p ∷ ps) (m ∷ ms) (suc i) lp lm e = mark_in_lem ps ms i (omega arith) (omega arith) e

module _ (ps : List Node) (test : List Bool → Node → Bool) where
  abbrev next : List Bool → List Bool
  next ms = mark (test ms) ps ms

  stay : (k : ℕ) (ms : List Bool) → next ms ≡ ms → next (rounds k next ms) ≡ rounds k next ms
  stay zero ms e = e
  stay (suc k) ms e = stay k (next ms) (ap next e)

  -- As many rounds as are unmarked are enough.
  settle : (k : ℕ) (ms : List Bool) → unmarked ms ≤ k → next (rounds k next ms) ≡ rounds k next ms
  settle zero ms le = ⊎_elim (λ e. e) (λ h. absurd (omega arith)) (fewer (test ms) ps ms)
  settle (suc k) ms le = ⊎_elim (λ e. stay (suc k) ms e) (λ h. settle k (next ms) (omega arith)) (fewer (test ms) ps ms)

  rest : next (settled ps test) ≡ settled ps test
  rest = let z = all_unmarked (length ps) in settle (length ps) (replicate (length ps) false) (omega arith)

  rounds_length : (k : ℕ) (ms : List Bool) → length (rounds k next ms) ≡ length ms
  rounds_length zero ms = refl
  rounds_length (suc k) ms = rounds_length k (next ms) ∙ mark_length (test ms) ps ms

  -- What the test says in the end is marked.
  pub marked : (i : ℕ) → i < length ps → test (settled ps test) (get_or ps i empty) ≡ true → get_or (settled ps test) i false ≡ true
  marked i lt e =
      let z = rounds_length (length ps) (replicate (length ps) false) in
      let y = length-replicate (length ps) false in
      sym (ap (λ ms. get_or ms i false) rest) ∙ mark_in_lem (test (settled ps test)) ps (settled ps test) i lt (omega arith) e

  module _ (P : Node → Type 0) (step : (ms : List Bool) → ((i : ℕ) → get_or ms i false ≡ true → P (get_or ps i empty)) → (p : Node) → test ms p ≡ true → P p) where
    all_rounds : (k : ℕ) (ms : List Bool) → ((i : ℕ) → get_or ms i false ≡ true → P (get_or ps i empty)) → (i : ℕ) → get_or (rounds k next ms) i false ≡ true → P (get_or ps i empty)
    all_rounds zero ms h = h
    all_rounds (suc k) ms h = all_rounds k (next ms) (λ i e. ⊎_elim (h i) (step ms h (get_or ps i empty)) (in_mark (test ms) ps ms i e))

    -- What holds of every node that a round marks holds of every marked node.
    pub all_marked : (i : ℕ) → get_or (settled ps test) i false ≡ true → P (get_or ps i empty)
    all_marked = all_rounds (length ps) (replicate (length ps) false) (λ i e. absurd (none_marked (length ps) i e))
