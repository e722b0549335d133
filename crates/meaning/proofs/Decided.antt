-- What Decide computes is what Report says of a closed grammar: which rules may be empty, left-recursive and reachable, and whether it is free.
use mathlib.Core.Path.{◌≡◌, refl, sym, ap, ◌∙◌}
use mathlib.Core.Logic.{◌≢◌, ◌⊎◌, inl, inr, ⊎_elim, ◌↔◌}
use Prim.Native.Nat.{ℕ, zero, suc, ◌<◌, ◌≤◌}
use mathlib.Core.Bool.{Bool, true, false, ◌&&◌, cond, and-eq-true_iff, false≢true}
use mathlib.Core.Bool as B
use mathlib.Core.List.{List, []}
use mathlib.Mathlib.Data.Bool.Basic.{or_inl, or_inr, not_iff_not}
use lib.ListN.{length, get_or}
use lib.Dec.{ltb, eqb}
use borrow.Author.Tests.{ltb-true, lt-ltb, eqb-true, eqb-false, not-true}
use native.Mathlib.Omega.{arith}
use Rattle.meaning.specs.Grammar.{Node, empty, range, rule, seq, choice, not, rep, Grammar, node, root_of, root, Below, Closed}
use Rattle.meaning.specs.Report.{MayBeEmpty, of_empty, of_not, of_rep, of_rule, of_seq, of_first, of_second, Chain, Leads, here, on, LeftRecursive, Free}
use Rattle.meaning.specs.Report.{Starts, by_not, by_rep, by_choice, by_other, by_first, by_second, by_rule}
use Rattle.meaning.specs.Report.{Child, to_first, to_second, to_one, to_other, to_denied, to_repeated, Reachable, start}
use Rattle.meaning.specs.Report as report
use Rattle.meaning.specs.Decide.{either, only, used, empty_by, empty_nodes, empty_rules, starts_of, chained, led_to, led_rules, left_recursive, goes_to, reachable, none_of, is_free}
use Rattle.meaning.proofs.Chains.{round}
use Rattle.meaning.proofs.Reached.{Met, met_root, met_child, met_rule}
use Rattle.meaning.proofs.Choose.{or_split}
use Rattle.meaning.proofs.Settle.{marked, all_marked}
use Rattle.meaning.proofs.Marks.{in_either, either_first, either_second, only_self, only_is, in_cond, map_at, used_use, use_used, Led, led, leads_sound, led_then, led_on}

module _ (g : Grammar) where
  abbrev n : ℕ
  n = length g.nodes

  -- ---- what is marked is so

  empty_step : (ms : List Bool) → ((i : ℕ) → get_or ms i false ≡ true → MayBeEmpty g (node g i)) → (p : Node) → empty_by g ms p ≡ true → MayBeEmpty g p
  empty_step ms h empty e = of_empty
  empty_step ms h (range lo hi) e = absurd (false≢true e)
  empty_step ms h (rule a) e = of_rule (h (root_of g a) e)
  empty_step ms h (seq a b) e = let z = (and-eq-true_iff (get_or ms a false) (get_or ms b false)).0 e in of_seq (h a z.0) (h b z.1)
  empty_step ms h (choice a b) e = ⊎_elim (λ z. of_first (h a z)) (λ z. of_second (h b z)) (or_split (get_or ms a false) (get_or ms b false) e)
  empty_step ms h (not a) e = of_not
  empty_step ms h (rep a) e = of_rep

  empty_sound : (i : ℕ) → get_or (empty_nodes g) i false ≡ true → MayBeEmpty g (node g i)
  unfolding empty_nodes
  empty_sound = all_marked g.nodes (empty_by g) (MayBeEmpty g) empty_step

  abbrev es : List Bool
  es = empty_nodes g

  to : (p : Node) (j : ℕ) {i : ℕ} → Starts g p (node g i) → j ≡ i → Starts g p (node g j)
  to p j s e = rw e s

  start_sound : (p : Node) (j : ℕ) → get_or (starts_of g es p) j false ≡ true → Starts g p (node g j)
  start_sound empty j e = absurd (false≢true e)
  start_sound (range lo hi) j e = absurd (false≢true e)
  start_sound (rule a) j e = to (rule a) j by_rule (only_is (root_of g a) j e)
  start_sound (seq a b) j e =
      ⊎_elim (λ h. to (seq a b) j by_first (only_is a j h))
      (λ h. let z = in_cond (get_or es a false) (only b) j h in to (seq a b) j (by_second (empty_sound a z.0)) (only_is b j z.1))
      (in_either (only a) _ j e)
  start_sound (choice a b) j e = ⊎_elim (λ h. to (choice a b) j by_choice (only_is a j h)) (λ h. to (choice a b) j by_other (only_is b j h)) (in_either (only a) _ j e)
  start_sound (not a) j e = to (not a) j by_not (only_is a j e)
  start_sound (rep a) j e = to (rep a) j by_rep (only_is a j e)

  led_rules_sound : (a c : ℕ) → get_or (led_rules g a) c false ≡ true → Leads g (root g a) (rule c)
  unfolding led_rules led_to
  led_rules_sound a c e =
      let u = used_use g.nodes (get_or (chained g (starts_of g es)) (root_of g a) []) c e in
      rw u.is at (leads_sound g (starts_of g es) refl (Starts g) start_sound (root_of g a) u.number u.at)

  -- One step from a node that is reached: to a child, or to the root of the rule that it uses.
  data Goes : Node → Node → Type 0 where
    to_child : {p q : Node} → Child g p q → Goes p q
    to_root : {a : ℕ} → Goes (rule a) (root g a)

  child : (p : Node) (j : ℕ) {i : ℕ} → Child g p (node g i) → j ≡ i → Goes p (node g j)
  child p j k e = rw e (to_child k)

  go_sound : (p : Node) (j : ℕ) → get_or (goes_to g p) j false ≡ true → Goes p (node g j)
  go_sound empty j e = absurd (false≢true e)
  go_sound (range lo hi) j e = absurd (false≢true e)
  go_sound (rule a) j e = rw (only_is (root_of g a) j e) to_root
  go_sound (seq a b) j e = ⊎_elim (λ h. child (seq a b) j to_first (only_is a j h)) (λ h. child (seq a b) j to_second (only_is b j h)) (in_either (only a) _ j e)
  go_sound (choice a b) j e = ⊎_elim (λ h. child (choice a b) j to_one (only_is a j h)) (λ h. child (choice a b) j to_other (only_is b j h)) (in_either (only a) _ j e)
  go_sound (not a) j e = child (not a) j to_denied (only_is a j e)
  go_sound (rep a) j e = child (rep a) j to_repeated (only_is a j e)

  met_by : {q : Node} → Chain Goes (root g 0) q → Met g q
  met_by here = met_root g start
  met_by (on h (to_child k)) = met_child g (met_by h) k
  met_by (on h to_root) = met_root g (met_rule g (met_by h))

  -- The nodes that are reached.
  abbrev reached : List Bool
  reached = either (only (root_of g 0)) (get_or (chained g (goes_to g)) (root_of g 0) [])

  reached_sound : (j : ℕ) → get_or reached j false ≡ true → Met g (node g j)
  reached_sound j e =
      ⊎_elim (λ h. rw (only_is (root_of g 0) j h) (met_root g start)) (λ h. met_by (leads_sound g (goes_to g) refl Goes go_sound (root_of g 0) j h))
      (in_either (only (root_of g 0)) _ j e)

  reachable_sound : (b : ℕ) → get_or (reachable g) b false ≡ true → Reachable g b
  unfolding reachable
  reachable_sound b e =
      ⊎_elim (λ h. rw (only_is 0 b h) start)
      (λ h. let u = used_use g.nodes reached b h in met_rule g (rw u.is at (reached_sound u.number u.at)))
      (in_either (only 0) (used g.nodes reached) b e)

  -- ---- what is so is marked

  module _ (good : Closed g) where
    -- A node's mark, from the test at any number that its children are below.
    empty_at : (a : ℕ) → a < n → ((i : ℕ) → i ≤ n → Below g i (node g a) → empty_by g es (node g a) ≡ true) → get_or es a false ≡ true
    unfolding empty_nodes
    empty_at a la h = marked g.nodes (empty_by g) a la (h a (omega arith) (good.nodes a la))

    empty_complete : {p : Node} → MayBeEmpty g p → (i : ℕ) → i ≤ n → Below g i p → empty_by g es p ≡ true
    empty_complete of_empty i le v = refl
    empty_complete of_not i le v = refl
    empty_complete of_rep i le v = refl
    empty_complete (of_rule {a = a} h) i le v = empty_at (root_of g a) (good.roots a v) (empty_complete h)
    empty_complete (of_seq {a = a} {b = b} h k) i le v =
        (and-eq-true_iff _ _).1 (empty_at a (omega arith) (empty_complete h), empty_at b (omega arith) (empty_complete k))
    empty_complete (of_first {a = a} h) i le v = or_inl _ _ (empty_at a (omega arith) (empty_complete h))
    empty_complete (of_second {a = a} {b = b} h) i le v = or_inr (get_or es a false) _ (empty_at b (omega arith) (empty_complete h))

    -- The nodes that may be empty.
    pub node_empty_iff : (i : ℕ) → i < length g.nodes → (get_or (empty_nodes g) i false ≡ true) ↔ MayBeEmpty g (node g i)
    node_empty_iff i h = (empty_sound i, λ d. empty_at i h (empty_complete d))

    -- The marks of the report.
    pub empty_iff : (a : ℕ) → a < length g.roots → (get_or (empty_rules g) a false ≡ true) ↔ MayBeEmpty g (root g a)
    unfolding empty_rules
    empty_iff a la =
        let mark : get_or (empty_rules g) a false ≡ get_or es (root_of g a) false = map_at (λ i. get_or es i false) g.roots a la in
        (λ e. empty_sound (root_of g a) (sym mark ∙ e), λ h. mark ∙ empty_at (root_of g a) (good.roots a la) (empty_complete h))

    led_start : {q : Node} (i j : ℕ) → node g i ≡ q → j < n → get_or (starts_of g es q) j false ≡ true → Led g (starts_of g es) refl i (node g j)
    led_start = led g (starts_of g es) refl

    led_step : {q w : Node} → Starts g q w → (i : ℕ) → i < n → node g i ≡ q → Led g (starts_of g es) refl i w
    led_step (by_not {a = a}) i li e = let v : a < i = rw e at (good.nodes i li) in led_start i a e (omega arith) (only_self a)
    led_step (by_rep {a = a}) i li e = let v : a < i = rw e at (good.nodes i li) in led_start i a e (omega arith) (only_self a)
    led_step (by_choice {a = a} {b = b}) i li e =
        let v : (a < i) × (b < i) = rw e at (good.nodes i li) in led_start i a e (omega arith) (either_first (only a) (only b) a (only_self a))
    led_step (by_other {a = a} {b = b}) i li e =
        let v : (a < i) × (b < i) = rw e at (good.nodes i li) in led_start i b e (omega arith) (either_second (only a) (only b) b (only_self b))
    led_step (by_first {a = a} {b = b}) i li e =
        let v : (a < i) × (b < i) = rw e at (good.nodes i li) in led_start i a e (omega arith) (either_first (only a) (cond (get_or es a false) (only b) []) a (only_self a))
    led_step (by_second {a = a} {b = b} h) i li e =
        let v : (a < i) × (b < i) = rw e at (good.nodes i li) in
        let may : get_or es a false ≡ true = empty_at a (omega arith) (empty_complete h) in
        led_start i b e (omega arith) (either_second (only a) (cond (get_or es a false) (only b) []) b (rw may (only_self b)))
    led_step (by_rule {a = a}) i li e = let v : a < length g.roots = rw e at (good.nodes i li) in led_start i (root_of g a) e (good.roots a v) (only_self (root_of g a))

    led_iff : (a : ℕ) → a < length g.roots → (get_or (led_rules g a) a false ≡ true) ↔ LeftRecursive g a
    unfolding led_rules led_to
    led_iff a la = (
      λ e. round g a (led_rules_sound a a e),
      λ l.
          let t = led_on g (starts_of g es) refl (Starts g) (λ q w. led_step) l.chain l.last (root_of g a) (good.roots a la) refl in
          use_used g.nodes (get_or (chained g (starts_of g es)) (root_of g a) []) a t.number t.way t.is,
    )

    -- The left-recursive ones among the grammar's rules, and no other number.
    pub recursive_rule : (a : ℕ) → left_recursive g a ≡ true → (a < length g.roots) × LeftRecursive g a
    unfolding left_recursive
    recursive_rule a e =
        let w = (and-eq-true_iff (ltb a (length g.roots)) (get_or (led_rules g a) a false)).0 e in
        let la = ltb-true a (length g.roots) w.0 in
        (la, (led_iff a la).0 w.1)

    pub recursive_iff : (a : ℕ) → a < length g.roots → (left_recursive g a ≡ true) ↔ LeftRecursive g a
    unfolding left_recursive
    recursive_iff a la = (λ e. (recursive_rule a e).1, λ l. (and-eq-true_iff _ _).1 (lt-ltb a (length g.roots) la, (led_iff a la).1 l))

    led_child : {q : Node} (i j : ℕ) → node g i ≡ q → j < n → get_or (goes_to g q) j false ≡ true → Led g (goes_to g) refl i (node g j)
    led_child = led g (goes_to g) refl

    led_go : {q w : Node} → Goes q w → (i : ℕ) → i < n → node g i ≡ q → Led g (goes_to g) refl i w
    led_go (to_child (to_first {a = a} {b = b})) i li e =
        let v : (a < i) × (b < i) = rw e at (good.nodes i li) in led_child i a e (omega arith) (either_first (only a) (only b) a (only_self a))
    led_go (to_child (to_second {a = a} {b = b})) i li e =
        let v : (a < i) × (b < i) = rw e at (good.nodes i li) in led_child i b e (omega arith) (either_second (only a) (only b) b (only_self b))
    led_go (to_child (to_one {a = a} {b = b})) i li e =
        let v : (a < i) × (b < i) = rw e at (good.nodes i li) in led_child i a e (omega arith) (either_first (only a) (only b) a (only_self a))
    led_go (to_child (to_other {a = a} {b = b})) i li e =
        let v : (a < i) × (b < i) = rw e at (good.nodes i li) in led_child i b e (omega arith) (either_second (only a) (only b) b (only_self b))
    led_go (to_child (to_denied {a = a})) i li e = let v : a < i = rw e at (good.nodes i li) in led_child i a e (omega arith) (only_self a)
    led_go (to_child (to_repeated {a = a})) i li e = let v : a < i = rw e at (good.nodes i li) in led_child i a e (omega arith) (only_self a)
    led_go (to_root {a = a}) i li e =
        let v : a < length g.roots = rw e at (good.nodes i li) in led_child i (root_of g a) e (good.roots a v) (only_self (root_of g a))

    -- What is reached is marked, where there is a rule 0.
    module _ (rules : 0 < length g.roots) where
      record Seen (w : Node) : Type 0 where
        number : ℕ
        small : number < n
        is : node g number ≡ w
        at : get_or reached number false ≡ true

      seen_led : {w : Node} → Led g (goes_to g) refl (root_of g 0) w → Seen w
      seen_led l = record { number = l.number; small = l.small; is = l.is; at = either_second (only (root_of g 0)) _ l.number l.way }

      seen_go : {p q : Node} → Goes p q → Seen p → Seen q
      seen_go {p} {q} k s = by (in_either (only (root_of g 0)) (get_or (chained g (goes_to g)) (root_of g 0) []) s.number s.at)
        where
          by : (get_or (only (root_of g 0)) s.number false ≡ true) ⊎ (get_or (get_or (chained g (goes_to g)) (root_of g 0) []) s.number false ≡ true) → Seen q
          by (inl h) =
              let first : node g (root_of g 0) ≡ p = ap (node g) (sym (only_is (root_of g 0) s.number h)) ∙ s.is in
              seen_led (led_go k (root_of g 0) (good.roots 0 rules) first)
          by (inr h) = seen_led (led_then g (goes_to g) refl Goes (λ q w. led_go) (root_of g 0) (record { number = s.number; small = s.small; is = s.is; way = h }) k)

      seen_chain : {p q : Node} → Chain (Child g) p q → Seen p → Seen q
      seen_chain here s = s
      seen_chain (on h k) s = seen_go (to_child k) (seen_chain h s)

      seen_root : {a : ℕ} → Reachable g a → Seen (root g a)
      seen_root start = record { number = root_of g 0; small = good.roots 0 rules; is = refl; at = either_first (only (root_of g 0)) _ (root_of g 0) (only_self (root_of g 0)) }
      seen_root (report.used h c) = seen_go to_root (seen_chain c (seen_root h))

      reachable_complete : {b : ℕ} → Reachable g b → get_or (reachable g) b false ≡ true
      unfolding reachable
      reachable_complete start = either_first (only 0) (used g.nodes reached) 0 (only_self 0)
      reachable_complete (report.used {b = b} h c) =
          let s = seen_chain c (seen_root h) in either_second (only 0) (used g.nodes reached) b (use_used g.nodes reached b s.number s.at s.is)

    -- The marks of the reachable rules.
    pub reachable_iff : 0 < length g.roots → (b : ℕ) → (get_or (reachable g) b false ≡ true) ↔ Reachable g b
    reachable_iff rules b = (reachable_sound b, reachable_complete rules)

    -- The first k rules.
    abbrev NoneOf : ℕ → Type 0
    NoneOf k = (a : ℕ) → a < k → Reachable g a → LeftRecursive g a → ⊥

    abbrev rs : List Bool
    rs = reachable g

    -- Whether rule k is both.
    abbrev both : ℕ → Bool
    both k = get_or rs k false && left_recursive g k

    both_iff : (k : ℕ) → k < length g.roots → (both k ≡ true) ↔ (Reachable g k × LeftRecursive g k)
    both_iff k lk =
        let r = reachable_iff (omega arith) k in
        let l = recursive_iff k lk in
        let w = and-eq-true_iff (get_or rs k false) (left_recursive g k) in
        (λ e. (r.0 (w.0 e).0, l.0 (w.0 e).1), λ h. w.1 (r.1 h.0, l.1 h.1))

    none_next : (k : ℕ) → k < length g.roots → both k ≡ false → NoneOf k → (t : Bool) (a : ℕ) → eqb a k ≡ t → a < suc k → Reachable g a → LeftRecursive g a → ⊥
    none_next k lk e h true a q la r l = let same : a ≡ k = eqb-true a k q in false≢true (sym e ∙ (both_iff k lk).1 (rw same at r, rw same at l))
    none_next k lk e h false a q la r l = let other : a ≢ k = eqb-false a k q in h a (omega arith) r l

    none_sound : (k : ℕ) → k ≤ length g.roots → none_of g rs k ≡ true → NoneOf k
    none_sound zero le e a la r l = absurd (omega arith)
    none_sound (suc k) le e a la r l =
        let z = (and-eq-true_iff (B.not (both k)) (none_of g rs k)).0 e in
        none_next k le (not-true _ z.0) (none_sound k (omega arith) z.1) (eqb a k) a refl la r l

    none_complete : (k : ℕ) → k ≤ length g.roots → NoneOf k → none_of g rs k ≡ true
    none_complete zero le h = refl
    none_complete (suc k) le h =
        (and-eq-true_iff _ _).1
        (not_iff_not.1 (λ e. let w = (both_iff k le).0 e in h k (omega arith) w.0 w.1), none_complete k (omega arith) (λ a la. h a (omega arith)))

    pub free_iff : (is_free g ≡ true) ↔ Free g
    unfolding is_free
    free_iff = (λ e. record { none = none_sound _ (omega arith) e }, λ f. none_complete _ (omega arith) f.none)
