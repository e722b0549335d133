-- The check of the layout gives each code exactly where its row of 01's table says, at that row's place; and has nothing to refuse exactly in well-laid tables.
use mathlib.Core.Path.{◌≡◌, refl, sym, ap, subst, ◌∙◌}
use mathlib.Core.Logic.{◌↔◌, ◌≢◌}
use mathlib.Core.List.{List}
use Prim.Native.Nat.{ℕ, ◌+◌, ◌≤◌, ◌<◌}
use native.Mathlib.Omega.{arith}
use borrow.Author.Tests.{leb-true, leb-false, eqb-true, eqb-false}
use lib.Dec.{leb, eqb}
use lib.ListN.{length}
use Rattle.layout.specs.Table.{byte_at, length_of, nodes_of, most_nodes, rules_of, root_of, formula, WellLaid}
use Rattle.layout.specs.Layout.{Verdict, READ, FIELD, verdict, ◌or_else◌, first_fault, counts_fit, all_equal, root_fault, node_fault, layout_of, Laid}
use Rattle.layout.specs.Given.{HeaderFits, RootsFit, NodesFit, Given, short, version, count, lengths, root, kind, field, read}
use Rattle.layout.proofs.Laws.{root_refused, says_short, says_version, says_count, says_length, says_rest}
use Rattle.layout.proofs.Tests.{failed-iff, counts_iff, all_equal_iff, root_iff, kind_fits}
use Rattle.layout.proofs.Cases.{row_cases, search_cases, search_none, search_found, node_cases, node_iff, node_kind, node_field}

module _ (t : List ℕ) where
  header : WellLaid t → HeaderFits t
  unfolding formula
  header w =
      record {
        long = omega (arith, w.by_formula);
        version = w.version;
        counts = ((w.some_node, w.few_nodes), (w.some_rule, w.few_rules));
        lengths = (w.as_said, w.by_formula);
      }

  -- ---- A code that is given is the check's.
  roots_then_nodes : HeaderFits t → layout_of t ≡ first_fault (root_fault t) 0 (rules_of t) or_else first_fault (node_fault t) 0 (nodes_of t)
  roots_then_nodes h = says_rest t h.long h.version ((counts_iff _ _).1 h.counts) ((all_equal_iff _ _ _).1 h.lengths)

  nodes_next : HeaderFits t → RootsFit t (rules_of t) → layout_of t ≡ first_fault (node_fault t) 0 (nodes_of t)
  nodes_next h roots =
      roots_then_nodes h
      ∙ ap (λ (v : Verdict). v or_else first_fault (node_fault t) 0 (nodes_of t)) (search_none (root_fault t) (rules_of t) (λ a l. (root_iff t a).1 (roots a l)))

  gives : {code place : ℕ} → Given t code place → layout_of t ≡ verdict code place
  gives (short h) = says_short t h
  gives (version l h) = says_version t l h
  gives (count l v n) = says_count t l v ((failed-iff (counts_iff _ _)).1 n)
  gives (lengths l v c n) = says_length t l v ((counts_iff _ _).1 c) ((failed-iff (all_equal_iff _ _ _)).1 n)
  gives (root h {a} l before over) =
      roots_then_nodes h
      ∙ ap (λ (v : Verdict). v or_else first_fault (node_fault t) 0 (nodes_of t)) (search_found (root_fault t) (rules_of t) a l (λ b k. (root_iff t b).1 (before b k)) 4 (root_refused t a _ refl over))
  gives (kind h roots {i} l before over) = nodes_next h roots ∙ search_found (node_fault t) (nodes_of t) i l (λ j k. (node_iff t j).1 (before j k)) 5 (node_kind t i over)
  gives (field h roots {i} l before k n) = nodes_next h roots ∙ search_found (node_fault t) (nodes_of t) i l (λ j k. (node_iff t j).1 (before j k)) 6 (node_field t i k n)
  gives (read w) = nodes_next (header w) w.roots ∙ search_none (node_fault t) (nodes_of t) (λ i l. (node_iff t i).1 (w.fields i l))

  -- ---- The check's code is given.
  abbrev Right : Verdict → Type 0
  Right v = Given t v.code v.place

  together : HeaderFits t → RootsFit t (rules_of t) → NodesFit t (nodes_of t) → WellLaid t
  together h roots nodes =
      record {
        version = h.version;
        some_node = h.counts.0.0;
        few_nodes = h.counts.0.1;
        some_rule = h.counts.1.0;
        few_rules = h.counts.1.1;
        as_said = h.lengths.0;
        by_formula = h.lengths.1;
        roots = roots;
        kinds = λ i l. kind_fits (nodes i l);
        fields = nodes;
      }

  right_nodes : HeaderFits t → RootsFit t (rules_of t) → Right (first_fault (node_fault t) 0 (nodes_of t))
  right_nodes h roots =
      search_cases Right (node_fault t) 0 (nodes_of t) first
      (λ none. read (together h roots (λ i l. (node_iff t i).0 (none i (omega arith) (omega arith)))))
    where
      first : (i : ℕ) → 0 ≤ i → i < 0 + nodes_of t → ((j : ℕ) → 0 ≤ j → j < i → node_fault t j ≡ READ) → node_fault t i ≢ READ → Right (verdict (node_fault t i) i)
      first i g l before =
          let fit : NodesFit t i = λ j k. (node_iff t j).0 (before j (omega arith) k) in
          let lt : i < nodes_of t = omega arith in
          node_cases t (λ x. x ≢ READ → Right (verdict x i)) i (λ e n. absurd (n refl)) (λ over n. kind h roots lt fit over) (λ k against n. field h roots lt fit k against)

  right_roots : HeaderFits t → Right (first_fault (root_fault t) 0 (rules_of t) or_else first_fault (node_fault t) 0 (nodes_of t))
  right_roots h =
      search_cases (λ v. Right (v or_else first_fault (node_fault t) 0 (nodes_of t))) (root_fault t) 0 (rules_of t) first
      (λ none. right_nodes h (λ a l. (root_iff t a).0 (none a (omega arith) (omega arith))))
    where
      first : (a : ℕ) → 0 ≤ a → a < 0 + rules_of t → ((b : ℕ) → 0 ≤ b → b < a → root_fault t b ≡ READ)
          → root_fault t a ≢ READ → Right (verdict (root_fault t a) a or_else first_fault (node_fault t) 0 (nodes_of t))
      first a g l before z =
          let not_below : ¬ (root_of t a < nodes_of t) = λ k. z ((root_iff t a).1 k) in
          let over : nodes_of t ≤ root_of t a = omega arith in
          let lt : a < rules_of t = omega arith in
          rw (root_refused t a _ refl over) (root h lt (λ b k. (root_iff t b).0 (before b (omega arith) k)) over)

  -- Some code is always given.
  pub given : Given t (layout_of t).code (layout_of t).place
  unfolding layout_of
  given =
      row_cases Right (leb 7 (length t)) 0 _ (λ e. short (leb-false _ _ e))
      (λ e. let long = leb-true _ _ e in
      row_cases Right (eqb (byte_at t 0) 1) 1 _ (λ e. version long (eqb-false _ _ e))
      (λ e. let one = eqb-true _ _ e in
      row_cases Right (counts_fit (nodes_of t) (rules_of t)) 2 _ (λ e. count long one ((failed-iff (counts_iff _ _)).0 e))
      (λ e. let fit = (counts_iff _ _).0 e in
      row_cases Right (all_equal (length t) (length_of t) (formula t)) 3 _ (λ e. lengths long one fit ((failed-iff (all_equal_iff _ _ _)).0 e))
      (λ e. right_roots (record { long = long; version = one; counts = fit; lengths = (all_equal_iff _ _ _).0 e })))))

  -- 01's table of codes, each row in both directions.
  pub given_iff : {code place : ℕ} → Given t code place ↔ (layout_of t ≡ verdict code place)
  given_iff = (gives, (λ e. subst Right e given))

  pub given_once : {code place code' place' : ℕ} → Given t code place → Given t code' place' → (code ≡ code') × (place ≡ place')
  given_once g h = let e = sym (gives g) ∙ gives h in (ap (λ (v : Verdict). v.code) e, ap (λ (v : Verdict). v.place) e)

  pub small : {code place : ℕ} → Given t code place → (code ≤ FIELD) × (place < most_nodes)
  small (short h) = omega arith
  small (version l h) = omega arith
  small (count l v n) = omega arith
  small (lengths l v c n) = omega arith
  small (root h l before over) = omega arith
  small (kind h roots l before over) = omega arith
  small (field h roots l before k n) = omega arith
  small (read w) = omega arith

  -- The code 0 is given to a well-laid table only.
  of_read : {code place : ℕ} → Given t code place → code ≡ READ → WellLaid t
  of_read (short h) e = absurd (omega arith)
  of_read (version l h) e = absurd (omega arith)
  of_read (count l v n) e = absurd (omega arith)
  of_read (lengths l v c n) e = absurd (omega arith)
  of_read (root h l before over) e = absurd (omega arith)
  of_read (kind h roots l before over) e = absurd (omega arith)
  of_read (field h roots l before k n) e = absurd (omega arith)
  of_read (read w) e = w

  pub laid_iff : Laid t ↔ WellLaid t
  unfolding Laid
  laid_iff = (of_read given, (λ w. ap (λ (v : Verdict). v.code) (gives (read w))))
