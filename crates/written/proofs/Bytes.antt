-- The bytes of a table, read back: of any roots and nodes they say these roots and these nodes.
use mathlib.Core.Path.{◌≡◌, refl, sym, ap, ◌∙◌}
use mathlib.Core.List.{List, [], ◌∷◌, ◌++◌}
use Prim.Native.Nat.{ℕ, zero, suc, ◌+◌, ◌*◌, ◌≤◌, ◌<◌}
use native.Mathlib.Nat.{div-add-mod'}
use native.Mathlib.Omega.{arith}
use lib.ListN.{length, get_or, length-append}
use lib.Seq.{get_or-append-add, ext_get_or}
use Rattle.meaning.specs.Grammar.{Node, empty, range, rule, seq, choice, not, rep}
use Rattle.layout.specs.Table.{byte_at, pair_at, length_of, nodes_of, most_nodes, rules_of, most_rules, root_of, node_at, formula, kind_of, field_of, decode, node_of, each, grammar_of}
use Rattle.layout.specs.Table.{Fits, is_empty, is_range, is_rule, is_sequence, is_choice, is_not, is_repetition, NodeFits}
use Rattle.layout.specs.Layout.{Laid}
use Rattle.layout.proofs.Tests.{kind_fits}
use Rattle.layout.proofs.Exact.{laid_iff}
use Rattle.layout.proofs.Laying.{length-each, getD-each, Bounds}
use Rattle.written.specs.Numbered.{in_two, node_bytes, all_nodes, all_roots, table_bytes}

-- ---- Lengths.
pub length_roots_bytes : (rs : List ℕ) → length (all_roots rs) ≡ 2 * length rs
unfolding all_roots
length_roots_bytes [] = refl
length_roots_bytes (a ∷ rs) = omega (arith, length_roots_bytes rs)

five : (q : Node) → length (node_bytes q) ≡ 5
five empty = refl
five (range lo hi) = refl
five (rule a) = refl
five (seq a b) = refl
five (choice a b) = refl
five (not a) = refl
five (rep a) = refl

pub length_nodes_bytes : (ns : List Node) → length (all_nodes ns) ≡ 5 * length ns
unfolding all_nodes
length_nodes_bytes [] = refl
length_nodes_bytes (q ∷ ns) = omega (arith, length-append (node_bytes q) (all_nodes ns), five q, length_nodes_bytes ns)

-- ---- What stands after other bytes.
byte_after : (xs ys : List ℕ) (k p : ℕ) → p ≡ length xs + k → byte_at (xs ++ ys) p ≡ byte_at ys k
byte_after xs ys k p e = ap (λ (n : ℕ). byte_at (xs ++ ys) n) e ∙ get_or-append-add xs ys k 0

pair_after : (xs ys : List ℕ) (k p : ℕ) → p ≡ length xs + k → pair_at (xs ++ ys) p ≡ pair_at ys k
pair_after xs ys k p e = rw (byte_after xs ys k p e, byte_after xs ys (k + 1) (p + 1) (omega (arith, e)))

-- A root, among the roots.
root_back : (rs ys : List ℕ) (a : ℕ) → a < length rs → pair_at (all_roots rs ++ ys) (2 * a) ≡ get_or rs a 0
unfolding all_roots
root_back [] ys a h = absurd (omega arith)
root_back (x ∷ rs) ys zero h = div-add-mod' x 256
root_back (x ∷ rs) ys (suc a) h = pair_after (in_two x) (all_roots rs ++ ys) (2 * a) (2 * suc a) (omega arith) ∙ root_back rs ys a (omega arith)

-- ---- The numbers of a node.
abbrev kind_number : Node → ℕ
kind_number empty = 0
kind_number (range lo hi) = 1
kind_number (rule a) = 2
kind_number (seq a b) = 3
kind_number (choice a b) = 4
kind_number (not a) = 5
kind_number (rep a) = 6

abbrev first : Node → ℕ
first empty = 0
first (range lo hi) = lo
first (rule a) = a
first (seq a b) = a
first (choice a b) = a
first (not a) = a
first (rep a) = a

abbrev second : Node → ℕ
second empty = 0
second (range lo hi) = hi
second (rule a) = 0
second (seq a b) = b
second (choice a b) = b
second (not a) = 0
second (rep a) = 0

decoded : (q : Node) → decode (kind_number q) (first q) (second q) ≡ q
decoded empty = refl
decoded (range lo hi) = refl
decoded (rule a) = refl
decoded (seq a b) = refl
decoded (choice a b) = refl
decoded (not a) = refl
decoded (rep a) = refl

fitting : (r i : ℕ) (q : Node) → Bounds r i q → Fits r i (kind_number q) (first q) (second q)
fitting r i empty h = is_empty
fitting r i (range lo hi) h = is_range h.0 h.1
fitting r i (rule a) h = is_rule h
fitting r i (seq a b) h = is_sequence h.0 h.1
fitting r i (choice a b) h = is_choice h.0 h.1
fitting r i (not a) h = is_not h
fitting r i (rep a) h = is_repetition h

-- A node's five bytes stand at p.
record Stands (t : List ℕ) (p : ℕ) (q : Node) : Type 0 where
  kind : byte_at t p ≡ kind_number q
  a : pair_at t (p + 1) ≡ first q
  b : pair_at t (p + 3) ≡ second q

stands_first : (q : Node) (ys : List ℕ) → Stands (node_bytes q ++ ys) 0 q
stands_first empty ys = record { kind = refl; a = refl; b = refl }
stands_first (range lo hi) ys = record { kind = refl; a = div-add-mod' lo 256; b = div-add-mod' hi 256 }
stands_first (rule a) ys = record { kind = refl; a = div-add-mod' a 256; b = refl }
stands_first (seq a b) ys = record { kind = refl; a = div-add-mod' a 256; b = div-add-mod' b 256 }
stands_first (choice a b) ys = record { kind = refl; a = div-add-mod' a 256; b = div-add-mod' b 256 }
stands_first (not a) ys = record { kind = refl; a = div-add-mod' a 256; b = refl }
stands_first (rep a) ys = record { kind = refl; a = div-add-mod' a 256; b = refl }

stands_after : (xs ys : List ℕ) (k p : ℕ) (q : Node) → p ≡ length xs + k → Stands ys k q → Stands (xs ++ ys) p q
stands_after xs ys k p q e s =
    record {
      kind = byte_after xs ys k p e ∙ s.kind;
      a = pair_after xs ys (k + 1) (p + 1) (omega (arith, e)) ∙ s.a;
      b = pair_after xs ys (k + 3) (p + 3) (omega (arith, e)) ∙ s.b;
    }

stands_among : (ns : List Node) (i : ℕ) → i < length ns → Stands (all_nodes ns) (5 * i) (get_or ns i empty)
unfolding all_nodes
stands_among [] i h = absurd (omega arith)
stands_among (q ∷ ns) zero h = stands_first q (all_nodes ns)
stands_among (q ∷ ns) (suc i) h =
    stands_after (node_bytes q) (all_nodes ns) (5 * i) (5 * suc i) _ (omega (arith, five q)) (stands_among ns i (omega arith))

-- A list is what stands at each of its numbers.
each_is : {A : Type 0} (f : ℕ → A) (d : A) (xs : List A) (n : ℕ) → n ≡ length xs → ((i : ℕ) → i < length xs → f i ≡ get_or xs i d) → each f 0 n ≡ xs
each_is f d xs n e said =
    ext_get_or d (each f 0 n) xs (length-each f 0 n ∙ e)
    (λ i h. let l : i < n = rw (length-each f 0 n) at h in let z : 0 + i ≡ i = omega arith in getD-each f 0 n i d l ∙ ap f z ∙ said i (omega arith))

-- ---- The whole table.
module _ (rs : List ℕ) (ns : List Node) where
  abbrev header : List ℕ
  header = 1 ∷ (in_two (node_at (length rs) (length ns)) ++ (in_two (length ns) ++ in_two (length rs)))

  pub length_bytes : length (table_bytes rs ns) ≡ node_at (length rs) (length ns)
  unfolding table_bytes
  length_bytes = omega (arith, length-append (all_roots rs) (all_nodes ns), length_roots_bytes rs, length_nodes_bytes ns)

  version_said : byte_at (table_bytes rs ns) 0 ≡ 1
  unfolding table_bytes
  version_said = refl

  length_said : length_of (table_bytes rs ns) ≡ node_at (length rs) (length ns)
  unfolding table_bytes length_of
  length_said = div-add-mod' _ 256

  pub nodes_said : nodes_of (table_bytes rs ns) ≡ length ns
  unfolding table_bytes nodes_of
  nodes_said = div-add-mod' _ 256

  pub rules_said : rules_of (table_bytes rs ns) ≡ length rs
  unfolding table_bytes rules_of
  rules_said = div-add-mod' _ 256

  formula_said : formula (table_bytes rs ns) ≡ node_at (length rs) (length ns)
  unfolding formula
  formula_said = rw (rules_said, nodes_said)

  root_said : (a : ℕ) → a < length rs → root_of (table_bytes rs ns) a ≡ get_or rs a 0
  unfolding table_bytes root_of
  root_said a h = pair_after header (all_roots rs ++ all_nodes ns) (2 * a) (7 + 2 * a) refl ∙ root_back rs (all_nodes ns) a h

  module _ (i : ℕ) (h : i < length ns) where
    stands : Stands (table_bytes rs ns) (node_at (rules_of (table_bytes rs ns)) i) (get_or ns i empty)
    unfolding table_bytes
    stands =
        stands_after header (all_roots rs ++ all_nodes ns) (2 * length rs + 5 * i) _ _ (omega (arith, rules_said))
        (stands_after (all_roots rs) (all_nodes ns) (5 * i) _ _ (omega (arith, length_roots_bytes rs)) (stands_among ns i h))

    node_said : node_of (table_bytes rs ns) i ≡ get_or ns i empty
    unfolding node_of kind_of field_of
    node_said = rw (stands.kind, stands.a, stands.b) (decoded (get_or ns i empty))

    fits_said : Bounds (length rs) i (get_or ns i empty) → NodeFits (table_bytes rs ns) i
    unfolding kind_of field_of
    fits_said b = rw (stands.kind, stands.a, stands.b, rules_said) (fitting (length rs) i (get_or ns i empty) b)

  -- The grammar of the table is these nodes and these roots.
  pub grammar_said : grammar_of (table_bytes rs ns) ≡ record { nodes = ns; roots = rs }
  unfolding grammar_of
  grammar_said =
      let t = table_bytes rs ns in
      let same_nodes : each (node_of t) 0 (nodes_of t) ≡ ns = each_is (node_of t) empty ns (nodes_of t) nodes_said node_said in
      let same_roots : each (root_of t) 0 (rules_of t) ≡ rs = each_is (root_of t) 0 rs (rules_of t) rules_said root_said in
      rw (same_nodes, same_roots)

  -- A table is as 01 describes it where its numbers are within the limits, its roots are among its nodes, and each node fits at its number.
  pub laid_bytes : 1 ≤ length ns → length ns ≤ most_nodes → 1 ≤ length rs → length rs ≤ most_rules
      → ((a : ℕ) → a < length rs → get_or rs a 0 < length ns) → ((i : ℕ) → i < length ns → Bounds (length rs) i (get_or ns i empty)) → Laid (table_bytes rs ns)
  laid_bytes some few some_rule few_rules below bounds = (laid_iff (table_bytes rs ns)).1 (record {
    version = version_said;
    some_node = rw nodes_said some;
    few_nodes = rw nodes_said few;
    some_rule = rw rules_said some_rule;
    few_rules = rw rules_said few_rules;
    as_said = length_bytes ∙ sym length_said;
    by_formula = length_bytes ∙ sym formula_said;
    roots = λ a h. let l : a < length rs = rw rules_said at h in rw (root_said a l, nodes_said) (below a l);
    kinds = λ i h. kind_fits (fits i h);
    fields = fits;
  })
    where
      fits : (i : ℕ) → i < nodes_of (table_bytes rs ns) → NodeFits (table_bytes rs ns) i
      fits i h = let l : i < length ns = rw nodes_said at h in fits_said i l (bounds i l)
