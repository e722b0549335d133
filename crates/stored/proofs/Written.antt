-- What is stored of a tree whose spans nest is well formed, at every width of a position.
use mathlib.Core.Path.{◌≡◌, refl, sym, ap, ◌∙◌}
use mathlib.Core.List.{List, [], ◌∷◌, ◌++◌, append_assoc, append-nil}
use mathlib.Core.Bool.{true}
use native.Mathlib.Omega.{arith}
use native.Mathlib.Numerals.{add-one}
use native.Mathlib.Nat.{add-zero, zero-add}
use Prim.Native.Nat.{ℕ, suc, ◌+◌, ◌^◌, ◌<◌, ◌≤◌}
use lib.ListN.{length, get_or}
use lib.Dec.{eqb}
use borrow.Author.Tests.{lt-ltb, le-leb, eq-eqb}
use Rattle.meaning.specs.Grammar.{Trees, no_trees, tree}
use Rattle.stored.specs.Stored.{records_of, number_of, stored_length, stored_of}
use Rattle.stored.specs.WellFormed.{number_at, Record, all_in_range, Span, untaken, takes, goes, only_last, well_formed_of}
use Rattle.stored.specs.Nested.{Nested}
use Rattle.stored.proofs.Bytes.{length_stored, number_few}
use Rattle.stored.proofs.Goes.{rest}
use Rattle.stored.proofs.Nested.{nested_order, nested_fits}
use Rattle.stored.proofs.Records.{listed, few_records, version_back, length_back, count_back, all_back}

-- The spans of the trees of a list, the newest first, on those before them.
abbrev spans : Trees → List Span → List Span
spans no_trees us = us
spans (tree a x e cs ts) us = spans ts (record { start = x; end = e } ∷ us)

length_spans : (ts : Trees) (us : List Span) → length (spans ts us) ≡ number_of ts + length us
unfolding number_of
length_spans no_trees us = sym (zero-add (length us))
length_spans (tree a x e cs ts) us = length_spans ts _ ∙ omega (arith, add-one (length us))

-- Where the first tree starts.
abbrev first_start : Trees → ℕ → ℕ
first_start no_trees high = high
first_start (tree a x e cs ts) high = x

nested_first : (r low high : ℕ) (ts : Trees) → Nested r low high ts → low ≤ first_start ts high
unfolding Nested
nested_first r low high no_trees h = h
nested_first r low high (tree a x e cs ts) h = h.1.0

-- The trees of a list are taken.
one_taken : (start bound x e k : ℕ) (us : List Span) → e ≤ bound → start ≤ x → takes (suc k) start bound (record { start = x; end = e } ∷ us) ≡ takes k start x us
unfolding takes
one_taken start bound x e k us f g = simp (le-leb _ _ f, le-leb _ _ g)

some_taken : (r start low high k : ℕ) (ts : Trees) (us : List Span) → start ≤ low → Nested r low high ts → takes (number_of ts + k) start high (spans ts us) ≡ takes k start (first_start ts high) us
unfolding Nested number_of
some_taken r start low high k no_trees us l h = rw (zero-add k)
some_taken r start low high k (tree a x e cs ts) us l h =
    let c : 1 + number_of ts + k ≡ number_of ts + suc k = omega arith in
    let o : x ≤ e = nested_order r x e cs h.1.1.0 in
    let f : e ≤ first_start ts high = nested_first r e high ts h.1.1.1 in
    let b = h.1.0 in
    rw c (some_taken r start e high (suc k) ts (record { start = x; end = e } ∷ us) (omega arith) h.1.1.1 ∙ one_taken start (first_start ts high) x e k us f (omega arith))

all_taken : (r x e : ℕ) (cs : Trees) (us : List Span) → Nested r x e cs → takes (number_of cs) x e (spans cs us) ≡ untaken us
unfolding takes
all_taken r x e cs us h = rw (sym (add-zero (number_of cs))) (some_taken r x x e 0 cs us (omega arith) h)

-- Going through the records of a list of trees leaves its spans.
go_one : (a x e n : ℕ) (xs : List Record) (us vs : List Span) → takes n x e us ≡ untaken vs
    → goes (record { rule = a; start = x; end = e; number = n } ∷ xs) us ≡ goes xs (record { start = x; end = e } ∷ vs)
unfolding goes
go_one a x e n xs us vs t = simp t

go_trees : (r low high : ℕ) (ts : Trees) (xs : List Record) (us : List Span) → Nested r low high ts → goes (listed ts ++ xs) us ≡ goes xs (spans ts us)
unfolding Nested
go_trees r low high no_trees xs us h = refl
go_trees r low high (tree a x e cs ts) xs us h =
    rw (append_assoc (listed cs) (record { rule = a; start = x; end = e; number = number_of cs } ∷ listed ts) xs)
    (go_trees r x e cs _ us h.1.1.0 ∙ go_one a x e (number_of cs) _ (spans cs us) us (all_taken r x e cs us h.1.1.0)
    ∙ go_trees r e high ts xs (record { start = x; end = e } ∷ us) h.1.1.1)

-- They are in range.
range_one : (r l a x e n : ℕ) (xs : List Record) → a < r → x ≤ e → e ≤ l → all_in_range r l (record { rule = a; start = x; end = e; number = n } ∷ xs) ≡ all_in_range r l xs
unfolding all_in_range
range_one r l a x e n xs ha hx he = simp (lt-ltb _ _ ha, le-leb _ _ hx, le-leb _ _ he)

range_trees : (r l low high : ℕ) (ts : Trees) (xs : List Record) → high ≤ l → Nested r low high ts → all_in_range r l (listed ts ++ xs) ≡ all_in_range r l xs
unfolding Nested
range_trees r l low high no_trees xs u h = refl
range_trees r l low high (tree a x e cs ts) xs u h =
    let b : e ≤ high = nested_order r e high ts h.1.1.1 in
    rw (append_assoc (listed cs) (record { rule = a; start = x; end = e; number = number_of cs } ∷ listed ts) xs)
    (range_trees r l x e cs _ (omega arith) h.1.1.0 ∙ range_one r l a x e (number_of cs) _ h.0 (nested_order r x e cs h.1.1.0) (omega arith) ∙ range_trees r l e high ts xs u h.1.1.1)

judged : (r l : ℕ) (ts : Trees) → Nested r 0 l ts → number_of ts ≡ 1 → rest r l (listed ts) [] ≡ true
unfolding goes only_last all_in_range
judged r l ts h single =
    let a : all_in_range r l (listed ts) ≡ true = ap (all_in_range r l) (sym (append-nil (listed ts))) ∙ range_trees r l 0 l ts [] (omega arith) h in
    let g : goes (listed ts) [] ≡ untaken (spans ts []) = ap (λ (xs : List Record). goes xs []) (sym (append-nil (listed ts))) ∙ go_trees r 0 l ts [] [] h in
    rw (a, g) (eq-eqb (length (spans ts [])) 1 (length_spans ts [] ∙ rw single))

-- 01: "well formed for r rules and a line of L bytes".
pub written : (w r l : ℕ) (ts : Trees) → w < 256 → r ≤ 256 → l < 256 ^ w → stored_length w (records_of ts) < 65536 → number_of ts ≡ 1 → Nested r 0 l ts → well_formed_of w r l (stored_of w ts) ≡ true
unfolding well_formed_of
written w r l ts hw hr hl hn single h =
    let v = eq-eqb (get_or (stored_of w ts) 0 0) w (version_back w ts hn hw) in
    let m : eqb (number_at 2 (stored_of w ts) 1) (length (stored_of w ts)) ≡ true = eq-eqb _ _ (length_back w ts hn ∙ sym (length_stored w ts)) in
    let f : eqb (stored_length w (records_of ts)) (length (stored_of w ts)) ≡ true = eq-eqb _ _ (sym (length_stored w ts)) in
    let c = lt-ltb 0 (records_of ts) (omega (arith, number_few ts)) in
    let b = all_back w ts hn (nested_fits w r 0 l ts hr hl (few_records w ts hn) h) in
    simp (v, m, count_back w ts hn, f, c, b, judged r l ts h single)
