-- What the code tests of the records, and what the definition says of them.
use mathlib.Core.Path.{◌≡◌, refl, sym, ap, ◌∙◌}
use mathlib.Core.List.{List, [], ◌∷◌, ◌++◌, append-nil, append_assoc}
use Rattle.stored.specs.declared.Span as code
use Rattle.stored.specs.declared.Record as code_record
use Rattle.std.proofs.lemmas.List.{reverse-append, take-append-drop, take_all, length-reverse, length-map, length-drop, length-append}
use mathlib.Core.Bool.{Bool, true, false, cond, ◌&&◌, and-false}
use native.Mathlib.Omega.{arith}
use native.Mathlib.Numerals.{add-one, sub-one}
use native.Mathlib.Nat.{add-zero, mul-suc}
use Prim.Native.Nat.{ℕ, zero, suc, ◌+◌, ◌-◌, ◌*◌, ◌<◌, ◌≤◌}
use lib.ListN.{length, get_or, take, drop}
use lib.Dec.{eqb, leb}
use borrow.Author.Tests.{le-leb, lt-leb}
use Rattle.stored.specs.Stored.{record_size}
use Rattle.stored.specs.WellFormed.{number_at, Record, records_at, in_range, all_in_range, Span, Untaken, fault, untaken, takes, goes, only_last}
use Rattle.stored.specs.Scratch.{span_of, record_of, spans_of, IsRecord}

pub number_one : (bytes : List ℕ) (p w : ℕ) → w ≡ 1 → get_or bytes p 0 ≡ number_at w bytes p
unfolding number_at
number_one bytes p w e = rw (e, add-zero p) (omega arith)

pub number_two : (bytes : List ℕ) (p w : ℕ) → w ≡ 2 → get_or bytes p 0 * 256 + get_or bytes (p + 1) 0 ≡ number_at w bytes p
unfolding number_at
number_two bytes p w e = rw (e, add-zero p) (omega arith)

-- Taking children, span by span from the newest.
newest_more : (spans : List code.Span) (s : code.Span) → spans_of (spans ++ (s ∷ [])) ≡ span_of s ∷ spans_of spans
newest_more spans s = rw (reverse-append spans (s ∷ []))

takes_few : (n start end : ℕ) (us : List Span) → length us < n → takes n start end us ≡ fault
unfolding takes
takes_few zero start end us h = absurd (omega arith)
takes_few (suc n) start end [] h = refl
takes_few (suc n) start end (u ∷ us) h = rw (takes_few n start u.start us (omega arith)) (cond_same (leb u.end end && leb start u.start))
  where
    cond_same : (b : Bool) → cond b fault fault ≡ fault
    cond_same true = refl
    cond_same false = refl

pub length_spans : (spans : List code.Span) → length (spans_of spans) ≡ length spans
length_spans spans = simp (length-map, length-reverse)

module _ (spans : List code.Span) (start : ℕ) where
  -- What is left to take: the spans from a place on, of which these have not been looked at, the last first.
  abbrev pub to_take : ℕ → List code.Span → ℕ → Untaken
  to_take left rest bound = takes (length rest) start bound (spans_of (take left spans ++ rest))

  pub take_begun : (n left end : ℕ) → n ≤ length spans → left ≡ length spans - n → to_take left (drop left spans) end ≡ takes n start end (spans_of spans)
  take_begun n left end h e =
      let l : length (drop left spans) ≡ n = omega (arith, length-drop left spans) in
      rw (l, take-append-drop left spans)

  pub take_no_children : (n end : ℕ) → n ≡ 0 → untaken (spans_of (take (length spans) spans)) ≡ takes n start end (spans_of spans)
  unfolding takes
  take_no_children n end h = rw (h, take_all (length spans) spans (omega arith))

  pub take_none : (n end : ℕ) → (n ≤ length spans → ⊥) → fault ≡ takes n start end (spans_of spans)
  take_none n end h = sym (takes_few n start end (spans_of spans) (omega (arith, length_spans spans)))

  module _ (left bound : ℕ) (rest after : List code.Span) (s : code.Span) (e : rest ≡ after ++ (s ∷ [])) where
    opened : to_take left rest bound ≡ cond (leb s.end bound && leb start s.start) (to_take left after s.start) fault
    unfolding takes
    opened =
        let l : length rest ≡ suc (length after) = ap length e ∙ length-append after (s ∷ []) ∙ add-one (length after) in
        let n : spans_of (take left spans ++ rest) ≡ span_of s ∷ spans_of (take left spans ++ after) =
        rw (e, sym (append_assoc (take left spans) after (s ∷ []))) (newest_more (take left spans ++ after) s) in
        rw (l, n)

    pub take_late : bound < s.end → fault ≡ to_take left rest bound
    take_late h = sym (opened ∙ rw (lt-leb _ _ h))

    pub take_early : s.end ≤ bound → s.start < start → fault ≡ to_take left rest bound
    take_early h k = sym (opened ∙ rw (le-leb _ _ h, lt-leb _ _ k))

    pub take_more : s.end ≤ bound → start ≤ s.start → to_take left after s.start ≡ to_take left rest bound
    take_more h k = sym (opened ∙ rw (le-leb _ _ h, le-leb _ _ k))

  pub take_ended : (left bound : ℕ) (rest : List code.Span) → length rest ≡ 0 → to_take left rest bound ≡ untaken (spans_of (take left spans))
  unfolding takes
  take_ended left bound [] h = rw (append-nil (take left spans))
  take_ended left bound (s ∷ rest) h = absurd (omega arith)

pub one_more : (w n : ℕ) → 0 < n → record_size w * n ≡ record_size w * (n - 1) + record_size w
one_more w zero h = absurd (omega arith)
one_more w (suc n) h = rw (sub-one (suc n)) (mul-suc (record_size w) n)

-- What is left to say of the records from here on, with some not yet taken.
abbrev pub rest : ℕ → ℕ → List Record → List Span → Bool
rest r l xs us = all_in_range r l xs && only_last (goes xs us)

pub none_left : (spans : List code.Span) (r l w : ℕ) (bytes : List ℕ) (p n : ℕ) (y : Bool) → n ≤ 0 → rest r l (records_at w bytes p n) (spans_of spans) ≡ y → eqb (length spans) 1 ≡ y
unfolding only_last all_in_range goes records_at
none_left spans r l w bytes p n y h e =
    let z : n ≡ 0 = omega arith in
    let e' : eqb (length (spans_of spans)) 1 ≡ y = rw z at e in
    sym (ap (λ k. eqb k 1) (length_spans spans)) ∙ e'

-- The next record, as it was read, and the spans not yet taken.
module _ (r l w : ℕ) (bytes : List ℕ) (spans : List code.Span) (p n : ℕ) (x : code_record.Record) (y : Bool) (h : 0 < n) (is : IsRecord w bytes p x)
    (same : rest r l (records_at w bytes p n) (spans_of spans) ≡ y) where
  read : rest r l (record_of x ∷ records_at w bytes (p + record_size w) (n - 1)) (spans_of spans) ≡ y
  unfolding records_at
  read = let b : n ≡ suc (n - 1) = omega arith in rw (b, sym is) at same

  pub read_outside : false ≡ in_range r l (record_of x) → false ≡ y
  unfolding all_in_range
  read_outside e = rw (sym e) at read

  module _ (inside : true ≡ in_range r l (record_of x)) where
    pub read_fault : fault ≡ takes x.children x.span.start x.span.end (spans_of spans) → false ≡ y
    unfolding all_in_range goes only_last
    read_fault e = sym (and-false (all_in_range r l _)) ∙ (rw (sym inside, sym e) at read)

    pub read_more : (after : List code.Span) (i next left : ℕ) → after ≡ take i spans ++ (x.span ∷ []) → next ≡ p + record_size w → left ≡ n - 1
        → untaken (spans_of (take i spans)) ≡ takes x.children x.span.start x.span.end (spans_of spans) → rest r l (records_at w bytes next left) (spans_of after) ≡ y
    unfolding all_in_range goes
    read_more after i next left put en el e = rw (put, en, el, newest_more (take i spans) x.span) (rw (sym inside, sym e) at read)
