-- The working numbers: what is put down for a node is read there, and a pass settles each node by those below it and leaves the other numbers alone.
use mathlib.Core.Path.{◌≡◌, refl, sym, ap, ap₂, ◌∙◌}
use mathlib.Core.Bool.{Bool, true, false}
use mathlib.Core.List.{List}
use mathlib.Core.Logic.{⊎_elim}
use Prim.Native.Nat.{ℕ, zero, suc, ◌+◌, ◌*◌, ◌/◌, ◌%◌, ◌^◌, ◌≤◌, ◌<◌}
use native.Mathlib.Nat.{add-zero, eq-or-lt_of_le}
use native.Mathlib.Numerals.{add-one}
use native.Mathlib.Omega.{arith}
use borrow.Author.Tests.{ltb-true, ltb-false}
use lib.Bits.{bit_or}
use lib.Dec.{ltb}
use lib.ListN.{length, get_or}
use lib.Seq.{length-sets, ext_get_or}
use Rattle.bits.proofs.Laws.{halves}
use Rattle.meaning.specs.Grammar.{Node, empty, range, rule, seq, choice, not, rep, Grammar, node, Below, Closed}
use Rattle.meaning.proofs.Sets.{sets_below, sets_above, sets_at}
use Rattle.report.specs.Pass.{in_row, starts_of, starts_at, halves_of, put, passed}

-- ---- One node's two numbers.
module _ (w : List ℕ) (i x : ℕ) where
  put_length : length (put w i x) ≡ length w
  unfolding put
  put_length = length-sets w (2 * i) (halves_of x)

  put_below : (k : ℕ) → k < 2 * i → get_or (put w i x) k 0 ≡ get_or w k 0
  unfolding put
  put_below k h = sets_below (halves_of x) w (2 * i) k h

  put_above : (k : ℕ) → 2 * suc i ≤ k → get_or (put w i x) k 0 ≡ get_or w k 0
  unfolding put
  put_above k h = sets_above (halves_of x) w (2 * i) k (omega arith)

  module _ (room : 2 * i + 1 < length w) where
    put_lower : get_or (put w i x) (2 * i) 0 ≡ x % 2 ^ 32
    unfolding put
    put_lower = rw (add-zero (2 * i)) at (sets_at (halves_of x) w (2 * i) 0 (omega arith) (omega arith))

    put_higher : get_or (put w i x) (2 * i + 1) 0 ≡ x / 2 ^ 32
    unfolding put
    put_higher = sets_at (halves_of x) w (2 * i) 1 (omega arith) (omega arith)

starts_put : (w : List ℕ) (i x : ℕ) → 2 * i + 1 < length w → starts_at (put w i x) i ≡ x
unfolding starts_at
starts_put w i x room = rw (put_lower w i x room, put_higher w i x room) (halves x _ _ refl refl)

-- The numbers of node j decide what is put down for it.
same_starts : (v w : List ℕ) (j : ℕ) → ((k : ℕ) → k < 2 * suc j → get_or v k 0 ≡ get_or w k 0) → starts_at v j ≡ starts_at w j
unfolding starts_at
same_starts v w j same = rw (same (2 * j) (omega arith), same (2 * j + 1) (omega arith))

starts_kept : (w : List ℕ) (i x j : ℕ) → j < i → starts_at (put w i x) j ≡ starts_at w j
starts_kept w i x j h = same_starts (put w i x) w j (λ k l. put_below w i x k (omega arith))

-- ---- What is put down for a node depends on the nodes below it alone.
starts_local : (g : Grammar) (e : ℕ → Bool) (f h : ℕ → ℕ) (i : ℕ) → ((k : ℕ) → k < i → f k ≡ h k) → (p : Node) → Below g i p → starts_of e f p ≡ starts_of e h p
unfolding starts_of
starts_local g e f h i same empty b = refl
starts_local g e f h i same (range lo hi) b = refl
starts_local g e f h i same (rule a) b = refl
starts_local g e f h i same (seq a c) b = ap₂ (in_row (e a)) (same a b.0) (same c b.1)
starts_local g e f h i same (choice a c) b = ap₂ bit_or (same a b.0) (same c b.1)
starts_local g e f h i same (not a) b = same a b
starts_local g e f h i same (rep a) b = same a b

-- And on which of these may be empty.
empties_local : (g : Grammar) (e d : ℕ → Bool) (f : ℕ → ℕ) (i : ℕ) → ((k : ℕ) → k < i → e k ≡ d k) → (p : Node) → Below g i p → starts_of e f p ≡ starts_of d f p
unfolding starts_of
empties_local g e d f i same empty b = refl
empties_local g e d f i same (range lo hi) b = refl
empties_local g e d f i same (rule a) b = refl
empties_local g e d f i same (seq a c) b = ap (λ t. in_row t (f a) (f c)) (same a b.0)
empties_local g e d f i same (choice a c) b = refl
empties_local g e d f i same (not a) b = refl
empties_local g e d f i same (rep a) b = refl

-- ---- A pass.
module _ (g : Grammar) (e : ℕ → Bool) (w : List ℕ) where
  pub passed_length : (n : ℕ) → length (passed g e w n) ≡ length w
  unfolding passed
  passed_length zero = refl
  passed_length (suc n) = put_length (passed g e w n) n _ ∙ passed_length n

  pub passed_rest : (n k : ℕ) → 2 * n ≤ k → get_or (passed g e w n) k 0 ≡ get_or w k 0
  unfolding passed
  passed_rest zero k h = refl
  passed_rest (suc n) k h =
      put_above (passed g e w n) n _ k h
      ∙ passed_rest n k (omega arith)

  pub passed_next : (i : ℕ) (v : List ℕ) (x : ℕ) → v ≡ passed g e w i → x ≡ starts_of e (starts_at v) (node g i) → put v i x ≡ passed g e w (i + 1)
  unfolding passed
  passed_next i v x so_far is = rw (add-one i, is, so_far)

  module _ (closed : Closed g) where
    pub passed_settled : (n : ℕ) → n ≤ length g.nodes → 2 * n ≤ length w
        → (i : ℕ) → i < n → starts_at (passed g e w n) i ≡ starts_of e (starts_at (passed g e w n)) (node g i)
    unfolding passed
    passed_settled zero few room i h = absurd (omega arith)
    passed_settled (suc n) few room i h =
        ⊎_elim new (λ (l : i < n). starts_kept v n x i l ∙ passed_settled n (omega arith) (omega arith) i l ∙ as_before i (omega arith)) (eq-or-lt_of_le (omega arith))
      where
        v : List ℕ
        v = passed g e w n

        x : ℕ
        x = starts_of e (starts_at v) (node g n)

        kept : (k : ℕ) → k < n → starts_at v k ≡ starts_at (put v n x) k
        kept k l = sym (starts_kept v n x k l)

        as_before : (j : ℕ) → j ≤ n → starts_of e (starts_at v) (node g j) ≡ starts_of e (starts_at (put v n x)) (node g j)
        as_before j l = starts_local g e (starts_at v) (starts_at (put v n x)) j (λ k m. kept k (omega arith)) (node g j) (closed.nodes j (omega arith))

        new : i ≡ n → starts_at (put v n x) i ≡ starts_of e (starts_at (put v n x)) (node g i)
        new q = rw q (starts_put v n x (omega (arith, passed_length n)) ∙ as_before n (omega arith))

    -- It is the same by any other test that says the same of the grammar's nodes.
    pub passed_alike : (d : ℕ → Bool) → ((k : ℕ) → k < length g.nodes → e k ≡ d k) → (n : ℕ) → n ≤ length g.nodes → passed g e w n ≡ passed g d w n
    unfolding passed
    passed_alike d same zero few = refl
    passed_alike d same (suc n) few =
        let ih = passed_alike d same n (omega arith) in
        ap₂ (λ v x. put v n x) ih (empties_local g e d (starts_at (passed g e w n)) n (λ k l. same k (omega arith)) (node g n) (closed.nodes n (omega arith)) ∙ ap (λ v. starts_of d (starts_at v) (node g n)) ih)

-- ---- A pass writes the same whatever stood in the numbers that it uses.
-- A number of one of the first nodes belongs to one below, or is one of the last's two.
by_node : (P : ℕ → Type 0) (n : ℕ) → ((k : ℕ) → k < 2 * n → P k) → P (2 * n) → P (2 * n + 1) → (k : ℕ) → k < 2 * suc n → P k
by_node P n below first second k h =
    ⊎_elim (λ (e : k ≡ 2 * n + 1). rw e second)
    (λ (m : k < 2 * n + 1). ⊎_elim (λ (e : k ≡ 2 * n). rw e first) (below k) (eq-or-lt_of_le (omega arith)))
    (eq-or-lt_of_le (omega arith))

module _ (g : Grammar) (e : ℕ → Bool) (closed : Closed g) (v w : List ℕ) (same_length : length v ≡ length w) where
  same_words : (n : ℕ) → n ≤ length g.nodes → 2 * n ≤ length w → (k : ℕ) → k < 2 * n → get_or (passed g e v n) k 0 ≡ get_or (passed g e w n) k 0
  unfolding passed
  same_words zero few room k h = absurd (omega arith)
  same_words (suc n) few room k h = again (same_words n (omega arith) (omega arith)) k h
    where
      p : List ℕ
      p = passed g e v n

      q : List ℕ
      q = passed g e w n

      again : ((k : ℕ) → k < 2 * n → get_or p k 0 ≡ get_or q k 0)
          → (k : ℕ) → k < 2 * suc n → get_or (put p n (starts_of e (starts_at p) (node g n))) k 0 ≡ get_or (put q n (starts_of e (starts_at q) (node g n))) k 0
      again ih =
          let x = starts_of e (starts_at p) (node g n) in
          let y = starts_of e (starts_at q) (node g n) in
          let same : x ≡ y = starts_local g e (starts_at p) (starts_at q) n (λ j l. same_starts p q j (λ k m. ih k (omega arith))) (node g n) (closed.nodes n (omega arith)) in
          let s : 2 * n + 1 < length p = omega (arith, passed_length g e v n) in
          let t : 2 * n + 1 < length q = omega (arith, passed_length g e w n) in
          by_node (λ k. get_or (put p n x) k 0 ≡ get_or (put q n y) k 0) n
          (λ k l.
          put_below p n x k l
          ∙ ih k l
          ∙ sym (put_below q n y k l))
          (put_lower p n x s ∙ ap (λ z. z % 2 ^ 32) same ∙ sym (put_lower q n y t))
          (put_higher p n x s ∙ ap (λ z. z / 2 ^ 32) same ∙ sym (put_higher q n y t))

  pub passed_over : (n : ℕ) → n ≤ length g.nodes → 2 * n ≤ length w → ((k : ℕ) → 2 * n ≤ k → get_or v k 0 ≡ get_or w k 0) → passed g e v n ≡ passed g e w n
  passed_over n few room rest =
      ext_get_or 0 (passed g e v n) (passed g e w n) (passed_length g e v n ∙ same_length ∙ sym (passed_length g e w n)) (λ k h. at k (ltb k (2 * n)) refl)
    where
      at : (k : ℕ) (b : Bool) → ltb k (2 * n) ≡ b → get_or (passed g e v n) k 0 ≡ get_or (passed g e w n) k 0
      at k true q = same_words n few room k (ltb-true _ _ q)
      at k false q = let l = ltb-false _ _ q in passed_rest g e v n k l ∙ rest k l ∙ sym (passed_rest g e w n k l)
