-- Where the search for a repetition of nothing may begin, and what it finds.
use mathlib.Core.Path.{◌≡◌, refl, sym, ap, ◌∙◌}
use mathlib.Core.Bool.{Bool, true, false, cond, false≢true}
use mathlib.Core.List.{List}
use mathlib.Core.Logic.{◌↔◌, ◌≢◌}
use Prim.Native.Nat.{ℕ, zero, suc, ◌-◌, ◌≤◌, ◌<◌}
use native.Mathlib.Omega.{arith}
use borrow.Author.Tests.{leb-true, leb-false, eqb-true, eqb-false, eq-eqb, ne_eqb}
use lib.Dec.{eqb, leb}
use lib.ListN.{length, get_or}
use Rattle.std.proofs.Common.{Option, None, Some, MatchOption, unwrap_or}
use Rattle.bits.specs.Marks.{marked}
use Rattle.meaning.specs.Grammar.{Node, empty, range, rule, seq, choice, not, rep, Grammar, node, Below}
use Rattle.meaning.specs.Report.{MayBeEmpty, of_empty, of_not, of_rep, of_rule, of_seq, of_first, of_second, RepeatsNothing, repeats}
use Rattle.meaning.specs.Decide.{empty_nodes}
use Rattle.meaning.proofs.Choose.{by_test}
use Rattle.meaning.proofs.Decided.{node_empty_iff}
use Rattle.layout.specs.Table.{nodes_of, kind_of, a_of, b_of, decode, grammar_of}
use Rattle.layout.specs.Layout.{READ, verdict, first_fault, layout_of, Laid}
use Rattle.layout.specs.Survey.{is_repetition, FirstOf, Survey, Surveyed}
use Rattle.layout.proofs.Laying.{closed, node_count, node_as, bounds_as}
use Rattle.layout.proofs.Stops.{skipped}
use Rattle.layout.proofs.Cases.{search_none}
use Rattle.layout.proofs.First.{first_here, first_nowhere}
use Rattle.empties.specs.Empties.{EmptyNodes}
use Rattle.empties.proofs.Once.{together}
use Rattle.sheet.specs.Check.{LOOP, repeats_one_of, loop_fault, check_of}
use Rattle.sheet.specs.Search.{suspect}

-- A node of another kind is no repetition.
other_kind : (es : List Bool) (k a b : ℕ) → k ≢ 6 → repeats_one_of es (decode k a b) ≡ false
other_kind es zero a b n = refl
other_kind es (suc zero) a b n = refl
other_kind es (suc (suc zero)) a b n = refl
other_kind es (suc (suc (suc zero))) a b n = refl
other_kind es (suc (suc (suc (suc zero)))) a b n = refl
other_kind es (suc (suc (suc (suc (suc zero))))) a b n = refl
other_kind es (suc (suc (suc (suc (suc (suc zero)))))) a b n = absurd (n refl)
other_kind es (suc (suc (suc (suc (suc (suc (suc k))))))) a b n = refl

-- A range is never empty.
is_range : Node → Bool
is_range empty = false
is_range (range lo hi) = true
is_range (rule a) = false
is_range (seq a b) = false
is_range (choice a b) = false
is_range (not a) = false
is_range (rep a) = false

never_empty : (g : Grammar) {p : Node} → MayBeEmpty g p → is_range p ≡ true → ⊥
unfolding is_range
never_empty g of_empty e = false≢true e
never_empty g of_not e = false≢true e
never_empty g of_rep e = false≢true e
never_empty g (of_rule d) e = false≢true e
never_empty g (of_seq d f) e = false≢true e
never_empty g (of_first d) e = false≢true e
never_empty g (of_second d) e = false≢true e

module _ (t : List ℕ) (laid : Laid t) where
  -- The marks of a child that may be empty are those that the definition computes.
  pub computed : (ms : List ℕ) → EmptyNodes (grammar_of t) ms → (a : ℕ) → a < nodes_of t → marked ms a ≡ get_or (empty_nodes (grammar_of t)) a false
  computed ms m a h =
      let l : a < length (grammar_of t).nodes = rw (node_count t) h in
      let iff = node_empty_iff (grammar_of t) (closed t laid) a l in
      together _ _ (λ e. iff.1 (m.sound a e).1) (λ e. m.complete a l (iff.0 e))

  module _ (i : ℕ) (h : i < nodes_of t) where
    -- What the search finds at a node.
    pub no_repetition : kind_of t i ≢ 6 → loop_fault t i ≡ READ
    unfolding loop_fault
    no_repetition n = rw (node_as t i h (kind_of t i) refl, other_kind (empty_nodes (grammar_of t)) (kind_of t i) (a_of t i) (b_of t i) n)

    pub repetition : kind_of t i ≡ 6 → loop_fault t i ≡ cond (get_or (empty_nodes (grammar_of t)) (a_of t i) false) LOOP READ
    unfolding loop_fault
    repetition e = rw (node_as t i h 6 e)

    pub child_there : kind_of t i ≡ 6 → a_of t i < nodes_of t
    child_there e = let l : a_of t i < i = bounds_as t laid i h 6 e in omega arith

    -- Where the child is a range, nothing.
    ranged : kind_of t i ≡ 6 → kind_of t (a_of t i) ≡ 1 → loop_fault t i ≡ READ
    unfolding is_range
    ranged e r = repetition e ∙ ap (λ (b : Bool). cond b LOOP READ) (out (get_or (empty_nodes (grammar_of t)) (a_of t i) false) refl)
      where
        out : (b : Bool) → get_or (empty_nodes (grammar_of t)) (a_of t i) false ≡ b → get_or (empty_nodes (grammar_of t)) (a_of t i) false ≡ false
        out true q =
            let l = child_there e in
            let d = (node_empty_iff (grammar_of t) (closed t laid) (a_of t i) (rw (node_count t) l)).0 q in
            absurd (never_empty (grammar_of t) d (ap is_range (node_as t (a_of t i) l 1 r)))
        out false q = q

    unsuspected : suspect t i ≡ false → loop_fault t i ≡ READ
    unfolding suspect
    unsuspected e = by (eqb (kind_of t i) 6) refl
      where
        child : kind_of t i ≡ 6 → (b : Bool) → eqb (kind_of t (a_of t i)) 1 ≡ b → loop_fault t i ≡ READ
        child k true q = ranged k (eqb-true _ _ q)
        child k false q = let z : true ≡ false = rw (eq-eqb (kind_of t i) 6 k, q) at e in absurd (false≢true (sym z))

        by : (b : Bool) → eqb (kind_of t i) 6 ≡ b → loop_fault t i ≡ READ
        by true q = child (eqb-true _ _ q) (eqb (kind_of t (a_of t i)) 1) refl
        by false q = no_repetition (eqb-false _ _ q)

  -- ---- The search may begin at the first node that is suspected.
  module _ (n repetition p : ℕ) (count : n ≡ nodes_of t) (r : FirstOf (is_repetition t) 0 n repetition) (s : FirstOf (suspect t) repetition n p) where
    fine : (i : ℕ) → i < p → loop_fault t i ≡ READ
    fine i l = let most = s.most in by (leb repetition i) refl
      where
        by : (b : Bool) → leb repetition i ≡ b → loop_fault t i ≡ READ
        by true q = let most = s.most in unsuspected i (omega arith) (s.before i (leb-true _ _ q) l)
        by false q = let most = s.most in no_repetition i (omega arith) (eqb-false _ _ (r.before i (omega arith) (leb-false _ _ q)))

    pub from_suspect : first_fault (loop_fault t) 0 n ≡ first_fault (loop_fault t) p (n - p)
    from_suspect = skipped t (loop_fault t) n p s.most fine

    pub none_suspected : p ≡ n → verdict READ 0 ≡ first_fault (loop_fault t) 0 n
    none_suspected e = sym (search_none (loop_fault t) n (λ i l. fine i (omega arith)))

  -- ---- What LOOP says.
  module _ (i : ℕ) (h : i < nodes_of t) where
    below : Below (grammar_of t) i (node (grammar_of t) i)
    below = (closed t laid).nodes i (rw (node_count t) h)

    marks : {p : Node} → RepeatsNothing (grammar_of t) p → Below (grammar_of t) i p → repeats_one_of (empty_nodes (grammar_of t)) p ≡ true
    marks (repeats {a = a} d) b = (node_empty_iff (grammar_of t) (closed t laid) a (rw (node_count t) (omega arith))).1 d

    found : (p : Node) → Below (grammar_of t) i p → repeats_one_of (empty_nodes (grammar_of t)) p ≡ true → RepeatsNothing (grammar_of t) p
    found empty b e = absurd (false≢true e)
    found (range lo hi) b e = absurd (false≢true e)
    found (rule a) b e = absurd (false≢true e)
    found (seq a c) b e = absurd (false≢true e)
    found (choice a c) b e = absurd (false≢true e)
    found (not a) b e = absurd (false≢true e)
    found (rep a) b e = repeats ((node_empty_iff (grammar_of t) (closed t laid) a (rw (node_count t) (omega arith))).0 e)

    -- LOOP at a repetition of nothing, and nowhere else.
    pub loop_cases : (P : ℕ → Type 0) → (RepeatsNothing (grammar_of t) (node (grammar_of t) i) → P LOOP)
        → ((RepeatsNothing (grammar_of t) (node (grammar_of t) i) → ⊥) → P READ) → P (loop_fault t i)
    unfolding loop_fault
    loop_cases P there absent =
        by_test P (repeats_one_of (empty_nodes (grammar_of t)) (node (grammar_of t) i)) LOOP READ (λ e. there (found (node (grammar_of t) i) below e))
        (λ e. absent (λ d. false≢true (sym e ∙ marks d below)))

    pub loop_found : RepeatsNothing (grammar_of t) (node (grammar_of t) i) → loop_fault t i ≡ LOOP
    loop_found d = loop_cases (λ x. x ≡ LOOP) (λ e. refl) (λ n. absurd (n d))

    pub loop_iff : (loop_fault t i ≡ READ) ↔ (RepeatsNothing (grammar_of t) (node (grammar_of t) i) → ⊥)
    loop_iff = (
      loop_cases (λ x. x ≡ READ → RepeatsNothing (grammar_of t) (node (grammar_of t) i) → ⊥) (λ d (e : LOOP ≡ READ). absurd (omega arith)) (λ n e. n),
      λ n. loop_cases (λ x. x ≡ READ) (λ d. absurd (n d)) (λ m. refl),
    )

-- The first number of a range that passes a test, if there is one.
pub first_of : (test : ℕ → Bool) (from n : ℕ) → from ≤ n → (r : Option ℕ)
    → MatchOption r ((k : ℕ) → from ≤ k → k < n → test k ≡ false) (λ i. (from ≤ i) × (i < n) × (test i ≡ true) × ((k : ℕ) → from ≤ k → k < i → test k ≡ false))
    → FirstOf test from n (unwrap_or r n)
first_of test from n h None m = first_nowhere test from n n h (omega arith) m
first_of test from n h (Some i) m = first_here test from i n m.0 (omega arith) m.3 m.2

-- ---- The check, by what the survey of the layout says.
module _ (t : List ℕ) where
  pub laid_by : (v : Survey) → Surveyed t v → v.code ≡ READ → Laid t
  unfolding Laid
  laid_by v s e = sym s.code ∙ e

  pub layout_refuses : (v : Survey) → Surveyed t v → v.code ≢ READ → verdict v.code v.place ≡ check_of t
  unfolding check_of
  layout_refuses v s n =
      let other : (layout_of t).code ≢ READ = λ e. n (s.code ∙ e) in
      let row : check_of t ≡ layout_of t = ap (λ (b : Bool). cond b (first_fault (loop_fault t) 0 (nodes_of t)) (layout_of t)) (ne_eqb (layout_of t).code READ other) in
      rw (s.code, s.place) (sym row)

  pub not_laid : (v : Survey) → Surveyed t v → v.code ≢ READ → ¬ Laid t
  unfolding Laid
  not_laid v s n e = n (s.code ∙ e)

  pub by_loops : Laid t → check_of t ≡ first_fault (loop_fault t) 0 (nodes_of t)
  unfolding check_of Laid
  by_loops e = rw (eq-eqb (layout_of t).code READ e)

  -- From the first repetition on.
  pub from_repetition : Laid t → (n p : ℕ) → n ≡ nodes_of t → FirstOf (is_repetition t) 0 (nodes_of t) p → first_fault (loop_fault t) p (n - p) ≡ check_of t
  from_repetition laid n p e r =
      rw e (sym (skipped t (loop_fault t) (nodes_of t) p r.most (λ i l. let most = r.most in no_repetition t laid i (omega arith) (eqb-false _ _ (r.before i (omega arith) l)))) ∙ sym (by_loops laid))
