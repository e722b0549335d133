-- Which nodes may be empty: what a pass marks by rules that may be empty may be empty, and where it adds no rule nothing is missing.
use mathlib.Core.Path.{◌≡◌, refl, sym, ap₂, ◌∙◌}
use mathlib.Core.Bool.{Bool, true, false, ◌&&◌, or-true, and-eq-true_iff, false≢true}
use mathlib.Core.List.{List}
use mathlib.Core.Logic.{⊎_elim}
use mathlib.Mathlib.Data.Bool.Basic.{or_inl, or_inr}
use Prim.Native.Nat.{ℕ, zero, suc, ◌≤◌, ◌<◌}
use native.Mathlib.Omega.{arith}
use borrow.Author.Tests.{leb-false, lt-leb, ltb-true, lt-ltb}
use lib.Dec.{leb, ltb}
use lib.ListN.{length}
use Rattle.bits.specs.Mask.{has}
use Rattle.bits.specs.Marks.{marked}
use Rattle.meaning.specs.Grammar.{Node, empty, range, rule, seq, choice, not, rep, Grammar, node, root_of, root, Below, Closed}
use Rattle.meaning.specs.Report.{MayBeEmpty, of_empty, of_not, of_rep, of_rule, of_seq, of_first, of_second}
use Rattle.meaning.proofs.Choose.{or_split}
use Rattle.layout.specs.Survey.{FirstOf}
use Rattle.empties.specs.Pass.{empty_of, alone, alone_in, Passed, Gathered}

-- A rule of the grammar whose root may be empty, and a node that may be.
abbrev pub EmptyRule : Grammar → ℕ → Type 0
EmptyRule g a = (a < length g.roots) × MayBeEmpty g (root g a)

abbrev pub EmptyNode : Grammar → ℕ → Type 0
EmptyNode g i = (i < length g.nodes) × MayBeEmpty g (node g i)

-- What is below a node is below the nodes after it.
pub widen : (g : Grammar) (i n : ℕ) → i ≤ n → (p : Node) → Below g i p → Below g n p
widen g i n h empty b = tt
widen g i n h (range lo hi) b = tt
widen g i n h (rule a) b = b
widen g i n h (seq a c) b = (omega arith, omega arith)
widen g i n h (choice a c) b = (omega arith, omega arith)
widen g i n h (not a) b = omega arith
widen g i n h (rep a) b = omega arith

-- A node of the grammar lies inside it.
pub inside : (g : Grammar) → Closed g → (i : ℕ) → i < length g.nodes → Below g (length g.nodes) (node g i)
inside g closed i h = widen g i (length g.nodes) (omega arith) (node g i) (closed.nodes i h)

module _ (g : Grammar) (closed : Closed g) (known from : ℕ) (before after : List ℕ) (p : Passed g known from (length g.nodes) before after) where
  -- ---- Nothing but what may be empty, where what was marked and the rules known to be empty may be.
  module _ (known_sound : (a : ℕ) → has known a ≡ true → EmptyRule g a) (marks_sound : (i : ℕ) → marked before i ≡ true → EmptyNode g i) where
    node_sound : (i : ℕ) → ((k : ℕ) → k < i → marked after k ≡ true → MayBeEmpty g (node g k)) → (q : Node) → Below g i q
        → empty_of (marked after) known q ≡ true → MayBeEmpty g q
    unfolding empty_of
    node_sound i below empty b e = of_empty
    node_sound i below (range lo hi) b e = absurd (false≢true e)
    node_sound i below (rule a) b e = of_rule (known_sound a e).1
    node_sound i below (seq a c) b e =
        let h = (and-eq-true_iff (marked after a) (marked after c)).0 e in
        of_seq (below a b.0 h.0) (below c b.1 h.1)
    node_sound i below (choice a c) b e =
        ⊎_elim (λ h. of_first (below a b.0 h)) (λ h. of_second (below c b.1 h)) (or_split (marked after a) (marked after c) e)
    node_sound i below (not a) b e = of_not
    node_sound i below (rep a) b e = of_rep

    below_sound : (n i : ℕ) → i < n → marked after i ≡ true → EmptyNode g i
    below_sound zero i l e = absurd (omega arith)
    below_sound (suc n) i l e =
        ⊎_elim (marks_sound i)
        (λ h.
        let both = (and-eq-true_iff (leb from i && ltb i (length g.nodes)) (empty_of (marked after) known (node g i))).0 h in
        let there = ltb-true i (length g.nodes) ((and-eq-true_iff (leb from i) (ltb i (length g.nodes))).0 both.0).1 in
        (there, node_sound i (λ k m w. (below_sound n k (omega arith) w).1) (node g i) (closed.nodes i there) both.1))
        (or_split (marked before i) _ (sym (p.bits i) ∙ e))

    pub marked_sound : (i : ℕ) → marked after i ≡ true → EmptyNode g i
    marked_sound i = below_sound (suc i) i (omega arith)

    pub more_sound : (more : ℕ) → Gathered (λ a. marked after (root_of g a)) known (length g.roots) more → (a : ℕ) → has more a ≡ true → EmptyRule g a
    unfolding Gathered
    more_sound more gathered a e =
        ⊎_elim (known_sound a)
        (λ h.
        let both = (and-eq-true_iff (ltb a (length g.roots)) (marked after (root_of g a))).0 h in
        (ltb-true a (length g.roots) both.0, (marked_sound (root_of g a) both.1).1))
        (or_split (has known a) (ltb a (length g.roots) && marked after (root_of g a)) (sym (gathered a) ∙ e))

  -- ---- All that may be empty, where no rule is left to add, and no node that the pass left out.
  module _ (known-complete : (a : ℕ) → a < length g.roots → marked after (root_of g a) ≡ true → has known a ≡ true)
      (left_out : (i : ℕ) → i < from → empty_of (marked after) known (node g i) ≡ true → marked after i ≡ true) where
    at : (i : ℕ) → i < length g.nodes → (Below g (length g.nodes) (node g i) → empty_of (marked after) known (node g i) ≡ true) → marked after i ≡ true
    at i h e = by (leb from i) refl
      where
        by : (b : Bool) → leb from i ≡ b → marked after i ≡ true
        by true l = p.bits i ∙ rw (l, lt-ltb i (length g.nodes) h, e (inside g closed i h)) (or-true (marked before i))
        by false l = left_out i (leb-false from i l) (e (inside g closed i h))

    found : {q : Node} → MayBeEmpty g q → Below g (length g.nodes) q → empty_of (marked after) known q ≡ true
    unfolding empty_of
    found of_empty b = refl
    found of_not b = refl
    found of_rep b = refl
    found (of_rule {a = a} d) b = known-complete a b (at (root_of g a) (closed.roots a b) (found d))
    found (of_seq {a = a} {b = c} d e) b = ap₂ ◌&&◌ (at a b.0 (found d)) (at c b.1 (found e))
    found (of_first {a = a} {b = c} d) b = or_inl (marked after a) (marked after c) (at a b.0 (found d))
    found (of_second {a = a} {b = c} d) b = or_inr (marked after a) (marked after c) (at c b.1 (found d))

    pub marked_complete : (i : ℕ) → i < length g.nodes → MayBeEmpty g (node g i) → marked after i ≡ true
    marked_complete i h d = at i h (found d)

    pub known_all : (a : ℕ) → a < length g.roots → MayBeEmpty g (root g a) → has known a ≡ true
    known_all a h d = known-complete a h (marked_complete (root_of g a) (closed.roots a h) d)

-- ---- Before the first node that is empty by itself, nothing is empty as long as nothing is known.
module _ (g : Grammar) (closed : Closed g) (n first : ℕ) (f : FirstOf (alone_in g) 0 n first) (there : n ≤ length g.nodes) where
  not_empty : (e : ℕ → Bool) (i : ℕ) → i < first → ((k : ℕ) → k < first → e k ≡ false) → (q : Node) → Below g i q → alone q ≡ false → empty_of e 0 q ≡ false
  unfolding empty_of
  not_empty e i h none empty b a = a
  not_empty e i h none (range lo hi) b a = refl
  not_empty e i h none (rule c) b a = a
  not_empty e i h none (seq c d) b a = rw (none c (omega arith))
  not_empty e i h none (choice c d) b a = rw (none c (omega arith), none d (omega arith))
  not_empty e i h none (not c) b a = a
  not_empty e i h none (rep c) b a = a

  pub none_before : (before after : List ℕ) → ((i : ℕ) → marked before i ≡ false) → Passed g 0 first n before after
      → (i : ℕ) → i < first → empty_of (marked after) 0 (node g i) ≡ true → marked after i ≡ true
  none_before before after unmarked p i h e =
      let most = f.most in
      absurd (false≢true (sym (not_empty (marked after) i h still (node g i) (closed.nodes i (omega arith)) (f.before i (omega arith) h)) ∙ e))
    where
      still : (k : ℕ) → k < first → marked after k ≡ false
      still k l = p.bits k ∙ rw (unmarked k, lt-leb first k l)

-- Where no node is empty by itself, none may be empty.
pub nothing_empty : (g : Grammar) → Closed g → ((i : ℕ) → i < length g.nodes → alone (node g i) ≡ false) → {q : Node} → MayBeEmpty g q
    → Below g (length g.nodes) q → alone q ≡ false → ⊥
unfolding empty_of
nothing_empty g closed none of_empty b a = false≢true (sym a)
nothing_empty g closed none of_not b a = false≢true (sym a)
nothing_empty g closed none of_rep b a = false≢true (sym a)
nothing_empty g closed none (of_rule {a = c} d) b a = let h = closed.roots c b in nothing_empty g closed none d (inside g closed (root_of g c) h) (none (root_of g c) h)
nothing_empty g closed none (of_seq {a = c} d e) b a = nothing_empty g closed none d (inside g closed c b.0) (none c b.0)
nothing_empty g closed none (of_first {a = c} d) b a = nothing_empty g closed none d (inside g closed c b.0) (none c b.0)
nothing_empty g closed none (of_second {b = c} d) b a = nothing_empty g closed none d (inside g closed c b.1) (none c b.1)
