-- The table of a written sheet is a table as 01 describes it, its grammar is the sheet's nodes and roots, and its check can only find a repetition of nothing.
use mathlib.Core.Path.{◌≡◌, refl, sym, ap, subst, ◌∙◌}
use mathlib.Core.Bool.{Bool, true, false, cond, false≢true, and-eq-true_iff}
use mathlib.Core.List.{List, [], ◌∷◌, ◌++◌}
use mathlib.Core.Logic.{◌↔◌, ◌≢◌, ◌⊎◌, inl, inr, ⊎_elim}
use Prim.Native.Nat.{ℕ, zero, suc, ◌+◌, ◌≤◌, ◌<◌}
use native.Mathlib.Omega.{arith}
use borrow.Author.Tests.{leb-true, ltb-true, ltb-false, eqb-true, eq-eqb}
use lib.ListN.{length, get_or, length-append}
use lib.Dec.{leb, ltb, eqb}
use Rattle.meaning.specs.Grammar as g
use Rattle.meaning.specs.Grammar.{Node}
use Rattle.meaning.proofs.Choose.{by_test, or_split}
use Rattle.layout.specs.Layout.{Verdict}
use Rattle.layout.specs.Table.{node_at, grammar_of}
use Rattle.layout.specs.Layout.{READ, verdict, Laid}
use Rattle.layout.proofs.Exact as layout
use Rattle.layout.proofs.Laying.{Bounds}
use Rattle.sheet.specs.Check.{LOOP, check_of}
use Rattle.sheet.specs.Given.{Given, laid_out, loop, read}
use Rattle.sheet.proofs.Exact.{given, given_iff}
use Rattle.written.specs.Written.{Name, Written, name, range, star, plus, maybe, deny, then, or, Line}
use Rattle.written.specs.Shown.{is_letter, is_part, is_quotable, within, Spot, Quoted, one_byte, byte_then, Part, single, from_to, Parts, one_part, part_or, Level, Shows}
use Rattle.written.specs.Shown.{by_name, by_quote, by_class, by_brackets, by_star, by_plus, by_maybe, as_item, by_not, as_row, by_then, as_choice, by_or}
use Rattle.written.specs.Shown.{ShowsLine, line, ShowsLines, ShowsSheet, sheet}
use Rattle.written.specs.Numbered.{last, nodes, nodes_from, roots_from, same, rule_of, rule_in, nodes_of, roots_of, table_of}
use Rattle.written.specs.Tabulated.{Uses, here, in_star, in_plus, in_maybe, in_deny, then_first, then_second, or_first, or_second}
use Rattle.written.specs.Tabulated.{LineAt, first, later, unknown, NamesRight, Sheet}
use Rattle.written.proofs.Bytes.{length_bytes, grammar_said, laid_bytes}

-- ---- How many nodes and roots there are.
pub length_roots : (s : ℕ) (ls : List Line) → length (roots_from s ls) ≡ length ls
unfolding roots_from
length_roots s [] = refl
length_roots s (l ∷ ls) = ap suc (length_roots _ ls)

-- Where nodes from number s on end, if others follow them.
followed : (s m k : ℕ) (xs ys : List Node) → s + length xs ≡ m → m + length ys ≡ k → s + length (xs ++ ys) ≡ k
followed s m k xs ys e h = omega (arith, length-append xs ys, e, h)

-- The last node has the number that `last` says.
pub length_nodes : (f : Name → ℕ) (s : ℕ) (w : Written) → s + length (nodes f s w) ≡ suc (last s w)
unfolding nodes
length_nodes f s (name n) = omega arith
length_nodes f s (range lowest highest) = omega arith
length_nodes f s (star e) = followed s _ _ (nodes f s e) _ (length_nodes f s e) (omega arith)
length_nodes f s (plus e) = followed s _ _ (nodes f s e) _ (length_nodes f s e) (omega arith)
length_nodes f s (maybe e) = followed s _ _ (nodes f s e) _ (length_nodes f s e) (omega arith)
length_nodes f s (deny e) = followed s _ _ (nodes f s e) _ (length_nodes f s e) (omega arith)
length_nodes f s (then a b) = followed s _ _ (nodes f s a) _ (length_nodes f s a) (followed _ _ _ (nodes f _ b) _ (length_nodes f _ b) (omega arith))
length_nodes f s (or a b) = followed s _ _ (nodes f s a) _ (length_nodes f s a) (followed _ _ _ (nodes f _ b) _ (length_nodes f _ b) (omega arith))

-- The number after the last node of lines, where the first has number s. It does not depend on the rules that names stand for.
abbrev pub after : ℕ → List Line → ℕ
after s [] = s
after s (l ∷ ls) = after (suc (last s l.alternatives)) ls

pub length_lines : (f : Name → ℕ) (s : ℕ) (ls : List Line) → s + length (nodes_from f s ls) ≡ after s ls
unfolding nodes_from
length_lines f s [] = omega arith
length_lines f s (l ∷ ls) = followed s _ _ (nodes f s l.alternatives) _ (length_nodes f s l.alternatives) (length_lines f _ ls)

pub length_table : (ls : List Line) → length (table_of ls) ≡ node_at (length ls) (length (nodes_of ls))
length_table ls = length_bytes (roots_of ls) (nodes_of ls) ∙ ap (λ (r : ℕ). node_at r (length (nodes_of ls))) (length_roots 0 ls)

-- The grammar of the table is the sheet's nodes and roots.
pub grammar_is : (ls : List Line) → grammar_of (table_of ls) ≡ record { nodes = nodes_of ls; roots = roots_of ls }
grammar_is ls = grammar_said (roots_of ls) (nodes_of ls)

-- ---- Ranges.
abbrev pub Ranged : Written → Type 0
Ranged (name n) = Unit {0}
Ranged (range lowest highest) = (lowest ≤ highest) × (highest ≤ 255)
Ranged (star e) = Ranged e
Ranged (plus e) = Ranged e
Ranged (maybe e) = Ranged e
Ranged (deny e) = Ranged e
Ranged (then a b) = Ranged a × Ranged b
Ranged (or a b) = Ranged a × Ranged b

-- Every range of the sheet is one of bytes, from its lowest to its highest.
abbrev pub RangesFit : List Line → Type 0
RangesFit [] = Unit {0}
RangesFit (l ∷ ls) = Ranged l.alternatives × RangesFit ls

within_most : (lowest highest c : ℕ) → within lowest highest c ≡ true → c ≤ highest
within_most lowest highest c e = leb-true _ _ ((and-eq-true_iff (leb lowest c) (leb c highest)).0 e).1

quotable_most : (c : ℕ) → is_quotable c ≡ true → c ≤ 126
unfolding is_quotable
quotable_most c e = within_most 33 126 c ((and-eq-true_iff (within 33 126 c) _).0 e).0

part_most : (c : ℕ) → is_part c ≡ true → c ≤ 122
unfolding is_part is_letter
part_most c e =
    ⊎_elim (λ h. ⊎_elim (λ k. let l = within_most 65 90 c k in omega arith) (λ k. within_most 97 122 c k) (or_split (within 65 90 c) (within 97 122 c) h))
    (λ h. let l = within_most 48 57 c h in omega arith) (or_split (is_letter c) (within 48 57 c) e)

quoted_ranged : {w : Written} {p q : Spot} → Quoted w p q → Ranged w
quoted_ranged (one_byte {c} e t) = let h = quotable_most c e in (omega arith, omega arith)
quoted_ranged (byte_then {c} e t q) = let h = quotable_most c e in ((omega arith, omega arith), quoted_ranged q)

part_ranged : {c d : ℕ} {p q : Spot} → Part c d p q → (c ≤ d) × (d ≤ 255)
part_ranged (single {c} e t) = let h = part_most c e in (omega arith, omega arith)
part_ranged (from_to {d = d} e e' l t t' t'') = let h = part_most d e' in (omega arith, omega arith)

parts_ranged : {w : Written} {p q : Spot} → Parts w p q → Ranged w
parts_ranged (one_part h) = part_ranged h
parts_ranged (part_or h k) = (part_ranged h, parts_ranged k)

shown_ranged : {v : Level} {w : Written} {p q : Spot} → Shows v w p q → Ranged w
shown_ranged (by_name n) = tt
shown_ranged (by_quote a q b) = quoted_ranged q
shown_ranged (by_class a h b) = parts_ranged h
shown_ranged (by_brackets a h b) = shown_ranged h
shown_ranged (by_star h a) = shown_ranged h
shown_ranged (by_plus h a) = shown_ranged h
shown_ranged (by_maybe h a) = shown_ranged h
shown_ranged (as_item h) = shown_ranged h
shown_ranged (by_not a h) = shown_ranged h
shown_ranged (as_row h) = shown_ranged h
shown_ranged (by_then h k) = (shown_ranged h, shown_ranged k)
shown_ranged (as_choice h) = shown_ranged h
shown_ranged (by_or h a k) = (shown_ranged h, shown_ranged k)

line_ranged : {l : Line} {p q : Spot} → ShowsLine l p q → Ranged l.alternatives
line_ranged (line n a b h c) = shown_ranged h

lines_ranged : {ls : List Line} {p q : Spot} → ShowsLines ls p q → RangesFit ls
lines_ranged ShowsLines.none = tt
lines_ranged (ShowsLines.more h k) = (line_ranged h, lines_ranged k)

pub shown_ranges : {ls : List Line} {text : List ℕ} → ShowsSheet ls text → RangesFit ls
shown_ranges (sheet h k) = lines_ranged h

-- ---- Names.
-- `same` says whether two names have the same letters.
pub same_iff : (xs ys : List ℕ) → (same xs ys ≡ true) ↔ (xs ≡ ys)
unfolding same
same_iff xs ys = (equal xs ys, (λ e. subst (λ (zs : List ℕ). same xs zs ≡ true) e (alike xs)))
  where
    equal : (xs ys : List ℕ) → same xs ys ≡ true → xs ≡ ys
    equal [] [] e = refl
    equal [] (y ∷ ys) e = absurd (false≢true e)
    equal (x ∷ xs) [] e = absurd (false≢true e)
    equal (x ∷ xs) (y ∷ ys) e =
        let h = (and-eq-true_iff (eqb x y) (same xs ys)).0 e in
        let heads : x ≡ y = eqb-true x y h.0 in
        let tails : xs ≡ ys = equal xs ys h.1 in
        rw (heads, tails)

    alike : (xs : List ℕ) → same xs xs ≡ true
    alike [] = refl
    alike (x ∷ xs) = (and-eq-true_iff (eqb x x) (same xs xs)).1 (eq-eqb x x refl, alike xs)

-- Where no line is the first of these letters, no line has them.
none_has : {ls : List Line} {j : ℕ} {l : Line} (letters : List ℕ) → LineAt ls j l → length ls ≤ rule_of ls letters → l.name.letters ≢ letters
unfolding rule_of
none_has letters (first {l} {ls}) h e =
    let z : rule_of (l ∷ ls) letters ≡ 0 = ap (λ (b : Bool). cond b 0 (suc (rule_of ls letters))) ((same_iff _ _).1 e) in
    omega (arith, h, z)
none_has letters (later {m = m} {ls} at) h e =
    by_test (λ k. suc (length ls) ≤ k → ⊥) (same m.name.letters letters) 0 (suc (rule_of ls letters))
    (λ b k. omega (arith, k)) (λ b k. none_has letters at (omega (arith, k)) e) h

-- Every name that is used is the name of a rule.
pub right_rules : {ls : List Line} → NamesRight ls → (k : ℕ) (m : Line) (n : Name) → LineAt ls k m → Uses n m.alternatives → rule_in ls n < length ls
right_rules {ls} right k m n at use_of_lem = by (ltb (rule_in ls n) (length ls)) refl
  where
    by : (b : Bool) → ltb (rule_in ls n) (length ls) ≡ b → rule_in ls n < length ls
    by true e = ltb-true _ _ e
    by false e = absurd (right n (unknown at use_of_lem (λ j l there. none_has n.letters there (ltb-false _ _ e))))

-- ---- Each node fits at its number.
abbrev AllFit : (r s : ℕ) → List Node → Type 0
AllFit r s [] = Unit {0}
AllFit r s (q ∷ qs) = Bounds r s q × AllFit r (suc s) qs

module _ (r : ℕ) where
  fit_append : (s m : ℕ) (xs ys : List Node) → s + length xs ≡ m → AllFit r s xs → AllFit r m ys → AllFit r s (xs ++ ys)
  fit_append s m [] ys e h k = let z : m ≡ s = omega (arith, e) in rw z at k
  fit_append s m (x ∷ xs) ys e h k = (h.0, fit_append (suc s) m xs ys (omega (arith, e)) h.1 k)

  fit_at : (s m : ℕ) (qs : List Node) → AllFit r s qs → (i : ℕ) → i < length qs → s + i ≡ m → Bounds r m (get_or qs i g.empty)
  fit_at s m [] h i l e = absurd (omega arith)
  fit_at s m (q ∷ qs) h zero l e = let z : m ≡ s = omega (arith, e) in rw z h.0
  fit_at s m (q ∷ qs) h (suc i) l e = fit_at (suc s) m qs h.1 i (omega arith) (omega (arith, e))

-- The last node is not before the first.
first_last : (s : ℕ) (w : Written) → s ≤ last s w
first_last s (name n) = omega arith
first_last s (range lowest highest) = omega arith
first_last s (star e) = omega (arith, first_last s e)
first_last s (plus e) = omega (arith, first_last s e)
first_last s (maybe e) = omega (arith, first_last s e)
first_last s (deny e) = omega (arith, first_last s e)
first_last s (then a b) = omega (arith, first_last s a, first_last (suc (last s a)) b)
first_last s (or a b) = omega (arith, first_last s a, first_last (suc (last s a)) b)

module _ (f : Name → ℕ) (r : ℕ) where
  fit_then : (s : ℕ) (e : Written) (qs : List Node) → AllFit r s (nodes f s e) → AllFit r (suc (last s e)) qs → AllFit r s (nodes f s e ++ qs)
  fit_then s e qs = fit_append r s _ (nodes f s e) qs (length_nodes f s e)

  fit_both : (s : ℕ) (a b : Written) (q : Node) → AllFit r s (nodes f s a) → AllFit r (suc (last s a)) (nodes f (suc (last s a)) b)
      → (suc (last s a) ≤ last (suc (last s a)) b → Bounds r (suc (last (suc (last s a)) b)) q)
      → AllFit r s (nodes f s a ++ (nodes f (suc (last s a)) b ++ (q ∷ [])))
  fit_both s a b q h k l = fit_then s a _ h (fit_then _ b _ k (l (first_last _ b), tt))

  -- A child's number is below its parent's: it was finished before.
  fit_nodes : (s : ℕ) (w : Written) → Ranged w → ((n : Name) → Uses n w → f n < r) → AllFit r s (nodes f s w)
  unfolding nodes
  fit_nodes s (name n) h rules = (rules n here, tt)
  fit_nodes s (range lowest highest) h rules = (h, tt)
  fit_nodes s (star e) h rules = fit_then s e _ (fit_nodes s e h (λ n u. rules n (in_star u))) (omega arith, tt)
  fit_nodes s (plus e) h rules = fit_then s e _ (fit_nodes s e h (λ n u. rules n (in_plus u))) (omega arith, ((omega arith, omega arith), tt))
  fit_nodes s (maybe e) h rules = fit_then s e _ (fit_nodes s e h (λ n u. rules n (in_maybe u))) (tt, ((omega arith, omega arith), tt))
  fit_nodes s (deny e) h rules = fit_then s e _ (fit_nodes s e h (λ n u. rules n (in_deny u))) (omega arith, tt)
  fit_nodes s (then a b) h rules =
      fit_both s a b _ (fit_nodes s a h.0 (λ n u. rules n (then_first u))) (fit_nodes _ b h.1 (λ n u. rules n (then_second u))) (λ l. (omega arith, omega arith))
  fit_nodes s (or a b) h rules =
      fit_both s a b _ (fit_nodes s a h.0 (λ n u. rules n (or_first u))) (fit_nodes _ b h.1 (λ n u. rules n (or_second u))) (λ l. (omega arith, omega arith))

  fit_lines : (s : ℕ) (ls : List Line) → RangesFit ls → ((k : ℕ) (m : Line) (n : Name) → LineAt ls k m → Uses n m.alternatives → f n < r) → AllFit r s (nodes_from f s ls)
  unfolding nodes_from
  fit_lines s [] h rules = tt
  fit_lines s (l ∷ ls) h rules =
      fit_then s l.alternatives _ (fit_nodes s l.alternatives h.0 (λ n u. rules 0 l n first u))
      (fit_lines _ ls h.1 (λ k m n at u. rules (1 + k) m n (later at) u))

-- Each root is one of the nodes.
roots_below : (f : Name → ℕ) (s : ℕ) (ls : List Line) (a : ℕ) → a < length ls → get_or (roots_from s ls) a 0 < s + length (nodes_from f s ls)
unfolding roots_from nodes_from
roots_below f s [] a h = absurd (omega arith)
roots_below f s (l ∷ ls) zero h =
    let w = l.alternatives in
    omega (arith, length-append (nodes f s w) (nodes_from f (suc (last s w)) ls), length_nodes f s w)
roots_below f s (l ∷ ls) (suc a) h =
    let w = l.alternatives in
    let rest = nodes_from f (suc (last s w)) ls in
    let z : s + length (nodes f s w ++ rest) ≡ suc (last s w) + length rest = followed s _ _ (nodes f s w) rest (length_nodes f s w) refl in
    rw z (roots_below f (suc (last s w)) ls a (omega arith))

some_line : {ls : List Line} {text : List ℕ} → ShowsSheet ls text → 1 ≤ length ls
some_line (sheet h k) = omega arith

-- The table of a sheet is one that 01's rows from SHORT to FIELD have nothing to refuse in.
pub laid : {text : List ℕ} {ls : List Line} → Sheet text ls → Laid (table_of ls)
laid {ls} h =
    let r = length_roots 0 ls in
    let some = some_line h.shown in
    let few_rules = h.fits.rules in
    let root = below 0 (omega (arith, r, some)) in
    laid_bytes (roots_of ls) (nodes_of ls) (omega (arith, root)) h.fits.nodes (omega (arith, r, some)) (omega (arith, r, few_rules)) below bounds
  where
    below : (a : ℕ) → a < length (roots_of ls) → get_or (roots_of ls) a 0 < length (nodes_of ls)
    below a l = let k = roots_below (rule_in ls) 0 ls a (omega (arith, length_roots 0 ls, l)) in omega (arith, k)

    bounds : (i : ℕ) → i < length (nodes_of ls) → Bounds (length (roots_of ls)) i (get_or (nodes_of ls) i g.empty)
    bounds i l =
        let fit = fit_lines (rule_in ls) (length ls) 0 ls (shown_ranges h.shown) (right_rules h.right) in
        rw (length_roots 0 ls) (fit_at (length ls) 0 i (nodes_of ls) fit i l (omega arith))

pub at_most : {text : List ℕ} {ls : List Line} → Sheet text ls → (length (table_of ls) ≤ 2695) × (7 ≤ length (table_of ls))
at_most {ls} h =
    let e = length_table ls in
    let few_nodes = h.fits.nodes in
    let few_rules = h.fits.rules in
    (omega (arith, e, few_nodes, few_rules), omega (arith, e))

-- What the check finds in a table that is laid out well: nothing, or a repetition of nothing.
found : (tb : List ℕ) → Laid tb → {code place : ℕ} → Given tb code place → (check_of tb ≡ verdict READ 0) ⊎ ((p : ℕ) × (check_of tb ≡ verdict LOOP p))
unfolding Laid
found tb fine (laid_out h n) = absurd (n (ap (λ (v : Verdict). v.code) (sym ((layout.given_iff tb).0 h)) ∙ fine))
found tb fine (loop w {i} l before d) = inr (i, (given_iff tb).0 (loop w l before d))
found tb fine (read w) = inl ((given_iff tb).0 (read w))

pub checked : {text : List ℕ} {ls : List Line} → Sheet text ls → (check_of (table_of ls) ≡ verdict READ 0) ⊎ ((p : ℕ) × (check_of (table_of ls) ≡ verdict LOOP p))
checked {ls} h = found (table_of ls) (laid h) (given (table_of ls))
