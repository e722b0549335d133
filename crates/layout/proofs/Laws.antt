-- Laws of the check's definitions: a search place by place, and the answer of each row of 01's table of codes.
use mathlib.Core.Path.{◌≡◌, refl, ap, ◌∙◌}
use mathlib.Core.Logic.{◌≢◌}
use mathlib.Core.Bool.{Bool, true, false, cond, and-false}
use mathlib.Core.List.{List}
use Prim.Native.Nat.{ℕ, zero, suc, ◌+◌, ◌-◌, ◌≤◌, ◌<◌}
use native.Mathlib.Numerals.{add-one, unary_clauses}
use native.Mathlib.Omega.{arith}
use borrow.Author.Tests.{le-ltb, lt-ltb, le-leb, lt-leb, eq-eqb, ne_eqb}
use lib.ListN.{length}
use Rattle.layout.specs.Table.{byte_at, length_of, nodes_of, most_nodes, rules_of, most_rules, node_at, formula, root_of}
use Rattle.layout.specs.Layout.{READ, SHORT, VERSION, COUNT, LENGTH, ROOT, verdict, ◌or_else◌, first_fault, in_range, counts_fit, all_equal, root_fault, node_fault, layout_of}

-- ---- A search for the first fault, i places on, among n.
pub first_begun : (f : ℕ → ℕ) (n : ℕ) → first_fault f 0 n ≡ first_fault f 0 (n - 0)
first_begun f n = simp unary_clauses

module _ (f : ℕ → ℕ) (n i : ℕ) where
  step : i < n → first_fault f i (n - i) ≡ verdict (f i) i or_else first_fault f (i + 1) (n - (i + 1))
  unfolding first_fault
  step h = let e : n - i ≡ suc (n - (i + 1)) = omega arith in rw (e, add-one)

  pub first_pass : i < n → f i ≡ READ → first_fault f i (n - i) ≡ first_fault f (i + 1) (n - (i + 1))
  first_pass h e = step h ∙ ap (λ (x : ℕ). verdict x i or_else first_fault f (i + 1) (n - (i + 1))) e

  pub first_stop : i < n → (code : ℕ) → f i ≡ code → code ≢ READ → first_fault f i (n - i) ≡ verdict code i
  first_stop h code e z =
      step h ∙ ap (λ (x : ℕ). verdict x i or_else first_fault f (i + 1) (n - (i + 1))) e
      ∙ ap (λ (b : Bool). cond b (first_fault f (i + 1) (n - (i + 1))) (verdict code i)) (ne_eqb code READ z)

  pub first_end : n ≤ i → first_fault f i (n - i) ≡ verdict READ 0
  unfolding first_fault
  first_end h = let e : n - i ≡ zero = omega arith in rw e

-- ---- A root.
module _ (t : List ℕ) (a root : ℕ) (e : root ≡ root_of t a) where
  pub root_passes : root < nodes_of t → root_fault t a ≡ READ
  unfolding root_fault
  root_passes h = rw (← e, lt-ltb _ _ h)

  pub root_refused : nodes_of t ≤ root → root_fault t a ≡ ROOT
  unfolding root_fault
  root_refused h = rw (← e, le-ltb _ _ h)

-- ---- What the code's tests say of the table.
module _ (t : List ℕ) (n r : ℕ) (en : n ≡ nodes_of t) (er : r ≡ rules_of t) where
  pub counts_in : in_range n most_nodes ≡ true → in_range r most_rules ≡ true → counts_fit (nodes_of t) (rules_of t) ≡ true
  counts_in p q = rw (← en, ← er, p) q

  pub nodes_out : in_range n most_nodes ≡ false → counts_fit (nodes_of t) (rules_of t) ≡ false
  nodes_out p = rw (← en, p) refl

  pub rules_out : in_range r most_rules ≡ false → counts_fit (nodes_of t) (rules_of t) ≡ false
  rules_out q = rw (← er, q) (and-false _)

  module _ (said : ℕ) (es : said ≡ length_of t) where
    pub lengths_agree : length t ≡ said → length t ≡ node_at r n → all_equal (length t) (length_of t) (formula t) ≡ true
    unfolding formula
    lengths_agree p q = rw (← en, ← er, ← es, eq-eqb _ _ p) (eq-eqb _ _ q)

    pub said_differs : length t ≢ said → all_equal (length t) (length_of t) (formula t) ≡ false
    said_differs p = rw (← es, ne_eqb _ _ p) refl

    pub formula_differs : length t ≢ node_at r n → all_equal (length t) (length_of t) (formula t) ≡ false
    unfolding formula
    formula_differs q = rw (← en, ← er, ne_eqb _ _ q) (and-false _)

-- ---- The answer of each row, where the rows before it have nothing to refuse.
module _ (t : List ℕ) where
  pub says_short : length t < 7 → layout_of t ≡ verdict SHORT 0
  unfolding layout_of
  says_short h = rw (lt-leb _ _ h)

  module _ (long : 7 ≤ length t) where
    pub says_version : byte_at t 0 ≢ 1 → layout_of t ≡ verdict VERSION 0
    unfolding layout_of
    says_version h = rw (le-leb _ _ long, ne_eqb _ _ h)

    module _ (version : byte_at t 0 ≡ 1) where
      pub says_count : counts_fit (nodes_of t) (rules_of t) ≡ false → layout_of t ≡ verdict COUNT 0
      unfolding layout_of
      says_count h = rw (le-leb _ _ long, eq-eqb _ _ version, h)

      module _ (counts : counts_fit (nodes_of t) (rules_of t) ≡ true) where
        pub says_length : all_equal (length t) (length_of t) (formula t) ≡ false → layout_of t ≡ verdict LENGTH 0
        unfolding layout_of
        says_length h = rw (le-leb _ _ long, eq-eqb _ _ version, counts, h)

        pub says_rest : all_equal (length t) (length_of t) (formula t) ≡ true → layout_of t ≡ first_fault (root_fault t) 0 (rules_of t) or_else first_fault (node_fault t) 0 (nodes_of t)
        unfolding layout_of
        says_rest h = rw (le-leb _ _ long, eq-eqb _ _ version, counts, h)
