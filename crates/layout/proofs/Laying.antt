-- What it says of a table that the layout's check has nothing to refuse: it is well laid, and its grammar is closed.
use mathlib.Core.Path.{◌≡◌, refl, sym, ap, subst, ◌∙◌}
use mathlib.Core.Logic.{⊎_elim}
use mathlib.Core.List.{List}
use Prim.Native.Nat.{ℕ, zero, suc, ◌+◌, ◌*◌, ◌%◌, ◌≤◌, ◌<◌}
use native.Mathlib.Nat.{eq-or-lt_of_le}
use native.Mathlib.Omega.{arith}
use lib.ListN.{length, get_or}
use Rattle.meaning.specs.Grammar as grammar
use Rattle.meaning.specs.Grammar.{Node, empty, range, rule, seq, choice, not, rep, Grammar, node, Below, Closed}
use Rattle.layout.specs.Table.{nodes_of, most_nodes, rules_of, most_rules, root_of, node_at, formula, kind_of, field_of, a_of, b_of, WellLaid, decode, node_of, each, grammar_of}
use Rattle.layout.specs.Table.{Fits, is_empty, is_range, is_rule, is_sequence, is_choice, is_not, is_repetition}
use Rattle.layout.specs.declared.Node as code
use Rattle.layout.specs.Nodes.{meaning_of, IsNode}
pub use Rattle.layout.specs.Nodes.{Bounds}
use Rattle.layout.specs.Layout.{Verdict, READ, layout_of, Laid}
use Rattle.layout.proofs.Exact.{laid_iff}

-- What a caller of the check has where the code is READ.
pub laid_by : (t : List ℕ) (v : Verdict) → v ≡ layout_of t → v.code ≡ READ → Laid t
unfolding Laid
laid_by t v e h = ap (λ (w : Verdict). w.code) (sym e) ∙ h

-- What a caller has who has a table that is laid out well: its field laid.
pub laid : (t : List ℕ) → (layout_of t).code ≡ READ → Laid t
laid t = laid_by t (layout_of t) refl

pub well_laid : (t : List ℕ) → Laid t → WellLaid t
well_laid t = (laid_iff t).0

-- Fields of a node are small: children and rules are, and bytes.
fields_small : {r i kind a b : ℕ} → Fits r i kind a b → r ≤ most_rules → i < most_nodes → (a < most_nodes) × (b < most_nodes)
fields_small is_empty r i = omega arith
fields_small (is_range h l) r i = omega arith
fields_small (is_rule h) r i = omega arith
fields_small (is_sequence h l) r i = omega arith
fields_small (is_choice h l) r i = omega arith
fields_small (is_not h) r i = omega arith
fields_small (is_repetition h) r i = omega arith

pub small_field : (t : List ℕ) → Laid t → (i at : ℕ) → i < nodes_of t → at % 2 ≡ 1 → at ≤ 3 → field_of t i at < most_nodes
small_field t laid i at h odd le =
    let w = well_laid t laid in
    let small = fields_small (w.fields i h) w.few_rules (omega arith) in
    ⊎_elim (λ (e : at ≡ 3). rw e small.1) (λ (l : at < 3). let e : at ≡ 1 = omega arith in rw e small.0) (eq-or-lt_of_le le)

-- A node of such a table lies inside it.
pub node_inside : (t : List ℕ) → Laid t → (i : ℕ) → i < nodes_of t → node_at (rules_of t) i + 5 ≤ length t
unfolding formula
node_inside t a i h = let w = well_laid t a in let f = w.by_formula in omega arith

-- Where a node starts, counted from the first.
pub node_place : (t : List ℕ) → Laid t → (first i : ℕ) → first ≡ node_at (rules_of t) 0 → i < nodes_of t → (first + 5 * i ≡ node_at (rules_of t) i) × (node_at (rules_of t) i ≤ 2690)
node_place t a first i e h = let w = well_laid t a in let n = w.few_nodes in let r = w.few_rules in (omega arith, omega arith)

-- ---- The grammar of a table.
pub length-each {ℓ} : {A : Type ℓ} (f : ℕ → A) (i k : ℕ) → length (each f i k) ≡ k
length-each f i zero = refl
length-each f i (suc k) = ap suc (length-each f (suc i) k)

pub getD-each {ℓ} : {A : Type ℓ} (f : ℕ → A) (i k j : ℕ) (d : A) → j < k → get_or (each f i k) j d ≡ f (i + j)
getD-each f i zero j d h = absurd (omega arith)
getD-each f i (suc k) zero d h = let e : i ≡ i + 0 = omega arith in ap f e
getD-each f i (suc k) (suc j) d h = let e : suc i + j ≡ i + suc j = omega arith in getD-each f (suc i) k j d (omega arith) ∙ ap f e

module _ (t : List ℕ) where
  pub node_count : length (grammar_of t).nodes ≡ nodes_of t
  unfolding grammar_of
  node_count = length-each (node_of t) 0 (nodes_of t)

  pub rule_count : length (grammar_of t).roots ≡ rules_of t
  unfolding grammar_of
  rule_count = length-each (root_of t) 0 (rules_of t)

  pub node_is : (i : ℕ) → i < nodes_of t → node (grammar_of t) i ≡ node_of t i
  unfolding grammar_of
  node_is i h = let e : 0 + i ≡ i = omega arith in getD-each (node_of t) 0 (nodes_of t) i _ h ∙ ap (node_of t) e

  pub root_is : (a : ℕ) → a < rules_of t → grammar.root_of (grammar_of t) a ≡ root_of t a
  unfolding grammar_of
  root_is a h = let e : 0 + a ≡ a = omega arith in getD-each (root_of t) 0 (rules_of t) a _ h ∙ ap (root_of t) e

  -- What a node is, by its kind.
  pub node_as : (i : ℕ) → i < nodes_of t → (kind : ℕ) → kind_of t i ≡ kind → node (grammar_of t) i ≡ decode kind (a_of t i) (b_of t i)
  unfolding node_of
  node_as i h kind e = node_is i h ∙ ap (λ (k : ℕ). decode k (a_of t i) (b_of t i)) e

bounded : {r i kind a b : ℕ} → Fits r i kind a b → Bounds r i (decode kind a b)
bounded is_empty = tt
bounded (is_range h l) = (h, l)
bounded (is_rule h) = h
bounded (is_sequence h l) = (h, l)
bounded (is_choice h l) = (h, l)
bounded (is_not h) = h
bounded (is_repetition h) = h

below : (g : Grammar) (r i : ℕ) → length g.roots ≡ r → (n : Node) → Bounds r i n → Below g i n
below g r i e empty h = tt
below g r i e (range a b) h = tt
below g r i e (rule a) h = rw e h
below g r i e (seq a b) h = h
below g r i e (choice a b) h = h
below g r i e (not a) h = h
below g r i e (rep a) h = h

module _ (t : List ℕ) (laid : Laid t) where
  -- What fields a node has, by its kind.
  pub bounds_as : (i : ℕ) → i < nodes_of t → (kind : ℕ) → kind_of t i ≡ kind → Bounds (rules_of t) i (decode kind (a_of t i) (b_of t i))
  bounds_as i h kind e = subst (λ (k : ℕ). Bounds (rules_of t) i (decode k (a_of t i) (b_of t i))) e (bounded ((well_laid t laid).fields i h))

  pub closed : Closed (grammar_of t)
  unfolding node_of
  closed =
      let w = well_laid t laid in
      record {
        nodes = λ i h.
            let l : i < nodes_of t = rw (node_count t) at h in
            rw (node_is t i l) (below (grammar_of t) (rules_of t) i (rule_count t) (node_of t i) (bounded (w.fields i l)));
        roots = λ a h.
            let l : a < rules_of t = rw (rule_count t) at h in
            rw (node_count t, root_is t a l) (w.roots a l);
      }

-- What a node is, by the numbers that the code reads of it.
pub of_kind : (t : List ℕ) (i kind a b : ℕ) → i < nodes_of t → kind ≡ kind_of t i → a ≡ a_of t i → b ≡ b_of t i
    → (k : ℕ) → kind ≡ k → node (grammar_of t) i ≡ decode k a b
of_kind t i kind a b h is-kind is-a is_b k e = rw (is-a, is_b) (node_as t i h k (sym is-kind ∙ e))

wider : (r i r' i' : ℕ) → r ≤ r' → i ≤ i' → (n : Node) → Bounds r i n → Bounds r' i' n
wider r i r' i' h l empty b = tt
wider r i r' i' h l (range lowest highest) b = b
wider r i r' i' h l (rule a) b = omega arith
wider r i r' i' h l (seq a c) b = (omega arith, omega arith)
wider r i r' i' h l (choice a c) b = (omega arith, omega arith)
wider r i r' i' h l (not a) b = omega arith
wider r i r' i' h l (rep a) b = omega arith

-- The node of the code that is made of these numbers is the table's.
pub is_node : (t : List ℕ) → Laid t → (i kind a b : ℕ) → i < nodes_of t → kind ≡ kind_of t i → a ≡ a_of t i → b ≡ b_of t i
    → (n : code.Node) → meaning_of n ≡ decode kind a b → IsNode t i n
unfolding node_of
is_node t laid i kind a b h is-kind is-a is-b n e =
    let w = well_laid t laid in
    let same : meaning_of n ≡ node_of t i = rw (← is-kind, ← is-a, ← is-b) e in
    record {
      node = same;
      fields = rw same (bounded (w.fields i h));
      small = rw same (wider _ _ _ _ w.few_rules (omega arith) _ (bounded (w.fields i h)));
    }

-- It is the grammar's node i.
pub node_meant : (t : List ℕ) (i : ℕ) (n : code.Node) → i < nodes_of t → IsNode t i n → meaning_of n ≡ node (grammar_of t) i
node_meant t i n h is = is.node ∙ sym (node_is t i h)
