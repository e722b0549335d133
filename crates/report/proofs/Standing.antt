-- The rules that a pass puts down for a node: the one that it uses, and those put down for the children that count. Said once, whichever children count.
use mathlib.Core.Path.{◌≡◌, refl, sym, ap, ◌∙◌}
use mathlib.Core.Bool.{Bool, true, false, ◌&&◌, ◌||◌, or-true, or-false, and-eq-true_iff, false≢true}
use mathlib.Core.Logic.{⊎_elim}
use mathlib.Mathlib.Data.Bool.Basic.{or_inl, or_inr}
use Prim.Native.Nat.{ℕ, zero, suc, ◌≤◌, ◌<◌}
use native.Mathlib.Omega.{arith}
use borrow.Author.Tests.{eqb-true, eq-eqb}
use lib.ListN.{length}
use Rattle.bits.specs.Mask.{has}
use Rattle.bits.proofs.Digits.{has_or}
use Rattle.bits.proofs.Laws.{has_none}
use Rattle.meaning.specs.Grammar.{Node, empty, range, rule, seq, choice, not, rep, Grammar, node, Below, Closed}
use Rattle.meaning.proofs.Choose.{or_split}
use Rattle.report.specs.Pass.{in_row, starts_of, Settled}
use Rattle.report.proofs.Sets.{has_only}
use Rattle.empties.proofs.Empties.{widen}

-- 01: "its first child, and also its second if the first may be empty (sequence)".
row_starts : (e : Bool) (x y b : ℕ) → has (in_row e x y) b ≡ (has x b || e && has y b)
unfolding in_row
row_starts true x y b = has_or x y b
row_starts false x y b = sym (or-false (has x b))

-- A child that counts: a sequence's second only where the first is put down as one that may be empty.
pub data Counts (e : ℕ → Bool) : Node → ℕ → Type 0 where
  in_not : {a : ℕ} → Counts e (not a) a
  in_rep : {a : ℕ} → Counts e (rep a) a
  in_choice : {a b : ℕ} → Counts e (choice a b) a
  in_other : {a b : ℕ} → Counts e (choice a b) b
  in_first : {a b : ℕ} → Counts e (seq a b) a
  in_second : {a b : ℕ} → e a ≡ true → Counts e (seq a b) b

module _ (g : Grammar) (closed : Closed g) (few_rules : length g.roots ≤ 64) (may : ℕ → Bool) (f : ℕ → ℕ) (put : Settled g may f) where
  -- ---- What holds of a use of a rule, and goes from a child that counts to its parent, holds of all that is put down.
  module _ (P : Node → ℕ → Type 0) (own : (b : ℕ) → b < length g.roots → P (rule b) b)
      (up : (p : Node) (k b : ℕ) → Below g (length g.nodes) p → Counts may p k → P (node g k) b → P p b) where
    node_sound : (i : ℕ) → ((k : ℕ) → k < i → (b : ℕ) → has (f k) b ≡ true → P (node g k) b) → (p : Node) → Below g i p → Below g (length g.nodes) p
        → (b : ℕ) → has (starts_of may f p) b ≡ true → P p b
    unfolding starts_of
    node_sound i below empty h w b e = absurd (false≢true (sym (has_none b) ∙ e))
    node_sound i below (range lo hi) h w b e = absurd (false≢true (sym (has_none b) ∙ e))
    node_sound i below (rule a) h w b e = let same = eqb-true b a (sym (has_only a b (omega arith)) ∙ e) in rw same (own a h)
    node_sound i below (seq a c) h w b e =
        ⊎_elim (λ u. up (seq a c) a b w in_first (below a h.0 b u))
        (λ u. let both = (and-eq-true_iff (may a) (has (f c) b)).0 u in up (seq a c) c b w (in_second both.0) (below c h.1 b both.1))
        (or_split (has (f a) b) (may a && has (f c) b) (sym (row_starts (may a) (f a) (f c) b) ∙ e))
    node_sound i below (choice a c) h w b e =
        ⊎_elim (λ u. up (choice a c) a b w in_choice (below a h.0 b u)) (λ u. up (choice a c) c b w in_other (below c h.1 b u))
        (or_split (has (f a) b) (has (f c) b) (sym (has_or (f a) (f c) b) ∙ e))
    node_sound i below (not a) h w b e = up (not a) a b w in_not (below a h b e)
    node_sound i below (rep a) h w b e = up (rep a) a b w in_rep (below a h b e)

    below_sound : (n i : ℕ) → i < n → i < length g.nodes → (b : ℕ) → has (f i) b ≡ true → P (node g i) b
    below_sound zero i l h b e = absurd (omega arith)
    below_sound (suc n) i l h b e =
        node_sound i (λ k m. below_sound n k (omega arith) (omega arith)) (node g i) (closed.nodes i h)
        (widen g i (length g.nodes) (omega arith) (node g i) (closed.nodes i h)) b (sym (ap (λ x. has x b) (put i h)) ∙ e)

    pub put_sound : (i : ℕ) → i < length g.nodes → (b : ℕ) → has (f i) b ≡ true → P (node g i) b
    put_sound i h = below_sound (suc i) i (omega arith) h

  -- ---- What is put down for a child that counts is put down for its parent.
  -- A node inside the grammar for which nothing is put down but what Q holds of.
  pub record Within (Q : ℕ → Type 0) (p : Node) : Type 0 where
    pub there : Below g (length g.nodes) p
    pub rules : (b : ℕ) → has (starts_of may f p) b ≡ true → Q b

  pub within : (Q : ℕ → Type 0) (i : ℕ) → i < length g.nodes → ((b : ℕ) → has (f i) b ≡ true → Q b) → Within Q (node g i)
  within Q i h all = record {
    there = widen g i (length g.nodes) (omega arith) (node g i) (closed.nodes i h);
    rules = λ b e. all b (ap (λ x. has x b) (put i h) ∙ e);
  }

  pub within_child : {Q : ℕ → Type 0} {p : Node} {k : ℕ} → Counts may p k → Within Q p → Within Q (node g k)
  unfolding starts_of
  within_child {Q} (in_not {a = i}) w = within Q i w.there w.rules
  within_child {Q} (in_rep {a = i}) w = within Q i w.there w.rules
  within_child {Q} (in_choice {a = i} {b = j}) w =
      within Q i w.there.0 (λ b e. w.rules b (has_or (f i) (f j) b ∙ or_inl (has (f i) b) _ e))
  within_child {Q} (in_other {a = i} {b = j}) w =
      within Q j w.there.1 (λ b e. w.rules b (has_or (f i) (f j) b ∙ or_inr (has (f i) b) _ e))
  within_child {Q} (in_first {a = i} {b = j}) w =
      within Q i w.there.0 (λ b e. w.rules b (row_starts (may i) (f i) (f j) b ∙ or_inl (has (f i) b) _ e))
  within_child {Q} (in_second {a = i} {b = j} m) w =
      within Q j w.there.1 (λ b e. w.rules b (row_starts (may i) (f i) (f j) b ∙ rw (m, e) (or-true (has (f i) b))))

  -- A use is put down for itself.
  pub within_rule : {Q : ℕ → Type 0} (b : ℕ) → Within Q (rule b) → Q b
  unfolding starts_of
  within_rule b w = let there = w.there in w.rules b (has_only b b (omega arith) ∙ eq-eqb b b refl)
