-- What a pass marks, node by node: a node is judged by its children, which stand before it, and so by marks that no longer change.
use mathlib.Core.Path.{◌≡◌, refl, sym, ap, ap₂, ◌∙◌}
use mathlib.Core.Bool.{Bool, true, false, ◌&&◌, ◌||◌, or-false, and-true, and-false}
use mathlib.Core.List.{List}
use mathlib.Core.Logic.{◌≢◌}
use Prim.Native.Nat.{ℕ, ◌+◌, ◌≤◌, ◌<◌}
use native.Mathlib.Omega.{arith}
use borrow.Author.Tests.{leb-true, le-leb, ltb-true, lt-ltb, le-ltb, eqb-true, eqb-false, eq-eqb, ne_eqb}
use lib.Dec.{eqb, leb, ltb}
use lib.ListN.{length}
use Rattle.bits.specs.Marks.{marked, WithMark}
use Rattle.bits.proofs.Laws.{has_none}
use Rattle.meaning.specs.Grammar.{Node, empty, range, rule, seq, choice, not, rep, Grammar, node, Below, Closed}
use Rattle.empties.specs.Pass.{empty_of, alone, Passed}
use Rattle.empties.proofs.Gathering.{below_next}

pub rule_not_alone : (a : ℕ) → false ≡ alone (rule a)
unfolding empty_of
rule_not_alone a = sym (has_none a)

-- ---- A node is judged by the nodes before it.
pub judged_alike : (g : Grammar) (known i : ℕ) (e f : ℕ → Bool) → ((k : ℕ) → k < i → e k ≡ f k) → (p : Node) → Below g i p → empty_of e known p ≡ empty_of f known p
unfolding empty_of
judged_alike g known i e f same empty b = refl
judged_alike g known i e f same (range lo hi) b = refl
judged_alike g known i e f same (rule a) b = refl
judged_alike g known i e f same (seq a c) b = ap₂ ◌&&◌ (same a b.0) (same c b.1)
judged_alike g known i e f same (choice a c) b = ap₂ ◌||◌ (same a b.0) (same c b.1)
judged_alike g known i e f same (not a) b = refl
judged_alike g known i e f same (rep a) b = refl

-- Whether a node is among those from one up to another, where one more is taken in.
within_next : (from i j : ℕ) → j ≢ i → (leb from j && ltb j (i + 1)) ≡ (leb from j && ltb j i)
within_next from i j other = ap (λ t. leb from j && t) (below_next j i other)

module _ (g : Grammar) (closed : Closed g) (known from : ℕ) (before : List ℕ) where
  pub passed_none : Passed g known from from before before
  passed_none = record { same_length = refl; bits = λ i. rw (none i) (sym (or-false (marked before i))) }
    where
      none : (i : ℕ) → (leb from i && ltb i from) ≡ false
      none i = by (leb from i) refl
        where
          by : (b : Bool) → leb from i ≡ b → (leb from i && ltb i from) ≡ false
          by true e = rw (e, le-ltb i from (leb-true from i e))
          by false e = rw e

  module _ (i : ℕ) (there : i < length g.nodes) (here : from ≤ i) (now after : List ℕ) (so_far : Passed g known from i before now) (long : length after ≡ length now)
      (empty-now : Bool) (judged : empty-now ≡ empty_of (marked now) known (node g i))
      (bits : (j : ℕ) → marked after j ≡ (marked now j || eqb j i && empty-now)) where
    others : (j : ℕ) → j ≢ i → marked after j ≡ marked now j
    others j other = bits j ∙ rw (ne_eqb j i other) (or-false (marked now j))

    alike : (j : ℕ) → j ≤ i → empty_of (marked now) known (node g j) ≡ empty_of (marked after) known (node g j)
    alike j h = judged_alike g known j (marked now) (marked after) (λ k l. sym (others k (omega arith))) (node g j) (closed.nodes j (omega arith))

    -- One node more.
    pub passed_next : Passed g known from (i + 1) before after
    passed_next = record { same_length = long ∙ so_far.same_length; bits = λ j. by j (eqb j i) refl }
      where
        beyond : (j : ℕ) → j ≢ i → (l : Bool) → ltb j i ≡ l
            → marked now j ≡ (marked before j || (leb from j && ltb j (i + 1)) && empty_of (marked after) known (node g j))
        beyond j other true e =
            let l = ltb-true j i e in
            so_far.bits j ∙ rw (within_next from i j other, alike j (omega arith))
        beyond j other false e =
            so_far.bits j ∙ rw (within_next from i j other, e, and-false (leb from j))

        by : (j : ℕ) (b : Bool) → eqb j i ≡ b → marked after j ≡ (marked before j || (leb from j && ltb j (i + 1)) && empty_of (marked after) known (node g j))
        by j true e =
            let same : j ≡ i = eqb-true j i e in
            let old : marked now i ≡ marked before i = so_far.bits i ∙ rw (le-ltb i i (omega arith), and-false (leb from i)) (or-false (marked before i)) in
            rw same
            (bits i
            ∙ rw (eq-eqb i i refl, old, judged, alike i (omega arith), le-leb from i here, lt-ltb i (i + 1) (omega arith)))
        by j false e = let other = eqb-false j i e in others j other ∙ beyond j other (ltb j i) refl

  -- The node is marked, or it is not.
  module _ (i : ℕ) (there : i < length g.nodes) (here : from ≤ i) (now after : List ℕ) (so_far : Passed g known from i before now) where
    pub passed_in : true ≡ empty_of (marked now) known (node g i) → WithMark now i after → Passed g known from (i + 1) before after
    passed_in judged w = passed_next i there here now after so_far w.same_length true judged (λ j. w.bits j ∙ ap (λ t. marked now j || t) (sym (and-true (eqb j i))))

    pub passed_out : false ≡ empty_of (marked now) known (node g i) → after ≡ now → Passed g known from (i + 1) before after
    passed_out judged e =
        rw e (passed_next i there here now now so_far refl false judged (λ j. sym (ap (λ t. marked now j || t) (and-false (eqb j i)) ∙ or-false (marked now j))))
