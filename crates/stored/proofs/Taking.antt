-- Records that are taken as 01 asks are those of one tree, whose spans nest.
use mathlib.Core.Path.{◌≡◌, refl, sym, ap, ◌∙◌}
use mathlib.Core.List.{List, [], ◌∷◌, ◌++◌, append_assoc, append-nil}
use mathlib.Core.Bool.{Bool, true, false, ◌&&◌, cond, and-eq-true_iff}
use native.Mathlib.Omega.{arith}
use Prim.Native.Nat.{ℕ, zero, suc, ◌+◌, ◌<◌, ◌≤◌}
use lib.ListN.{length}
use lib.Dec.{leb, ltb}
use borrow.Author.Tests.{leb-true, ltb-true, eqb-true}
use Rattle.meaning.specs.Grammar.{Trees, no_trees, tree}
use Rattle.stored.specs.Stored.{number_of}
use Rattle.stored.specs.WellFormed.{Record, in_range, all_in_range, Span, Untaken, fault, untaken, takes, after, goes, only_last}
use Rattle.stored.specs.Nested.{Nested}
use Rattle.stored.proofs.Nested.{nested_low}
use Rattle.stored.proofs.Records.{listed}

-- Trees not yet taken, the newest first: their spans, their records, and that each is in range and nests.
abbrev spans_on : Trees → List Span
spans_on no_trees = []
spans_on (tree a x e cs us) = record { start = x; end = e } ∷ spans_on us

abbrev records_on : Trees → List Record
records_on no_trees = []
records_on (tree a x e cs us) = records_on us ++ (listed cs ++ (record { rule = a; start = x; end = e; number = number_of cs } ∷ []))

abbrev Each : ℕ → ℕ → Trees → Type 0
Each r l no_trees = Unit {0}
Each r l (tree a x e cs us) = (a < r) × ((e ≤ l) × (Nested r x e cs × Each r l us))

-- Trees not yet taken whose records are those gone through, and whose spans are those not yet taken.
record Stack (r l : ℕ) (done : List Record) (us : List Span) : Type 0 where
  trees : Trees
  spans : spans_on trees ≡ us
  records : records_on trees ≡ done
  each : Each r l trees

-- The children of a record, taken from them.
record Taken (r l start high n : ℕ) (us ts : Trees) (vs : List Span) : Type 0 where
  children : Trees
  left : Trees
  spans : spans_on left ≡ vs
  each : Each r l left
  nested : Nested r start high children
  number : number_of children ≡ n + number_of ts
  records : records_on left ++ listed children ≡ records_on us ++ listed ts

clash : {A : Type 0} {us : List Span} → fault ≡ untaken us → A
clash e = let z : ◌≡◌ {A = ℕ} 0 1 = cc in absurd (omega arith)

inside : {us vs : List Span} → untaken us ≡ untaken vs → us ≡ vs
inside e = cc

chosen : (b : Bool) {x : Untaken} {us : List Span} → cond b x fault ≡ untaken us → (b ≡ true) × (x ≡ untaken us)
chosen true e = (refl, e)
chosen false e = clash e

gather : (r l start high n bound : ℕ) (us ts : Trees) (vs : List Span) → Each r l us → Nested r bound high ts → start ≤ bound → takes n start bound (spans_on us) ≡ untaken vs
    → Taken r l start high n us ts vs
unfolding takes Nested number_of
gather r l start high zero bound us ts vs h p q t = record {
  children = ts;
  left = us;
  spans = inside t;
  each = h;
  nested = nested_low r start bound high ts q p;
  number = omega arith;
  records = refl;
}
gather r l start high (suc n) bound no_trees ts vs h p q t = clash t
gather r l start high (suc n) bound (tree a x e cs us) ts vs h p q t =
    let b = chosen (leb e bound && leb start x) t in
    let c = (and-eq-true_iff (leb e bound) (leb start x)).0 b.0 in
    let i : e ≤ bound = leb-true e bound c.0 in
    let j : start ≤ x = leb-true start x c.1 in
    let g = gather r l start high n x us (tree a x e cs ts) vs h.1.1.1 (h.0, (omega arith, (h.1.1.0, nested_low r e bound high ts i p))) j b.1 in
    record {
      children = g.children;
      left = g.left;
      spans = g.spans;
      each = g.each;
      nested = g.nested;
      number = g.number ∙ omega arith;
      records = g.records ∙ simp append_assoc;
    }

stepped : (r l : ℕ) (x : Record) (done : List Record) (us vs : List Span) → Stack r l done us → in_range r l x ≡ true → takes x.number x.start x.end us ≡ untaken vs
    → Stack r l (done ++ (x ∷ [])) (record { start = x.start; end = x.end } ∷ vs)
unfolding Nested number_of
stepped r l x done us vs s ir et =
    let b = (and-eq-true_iff (ltb x.rule r && leb x.start x.end) (leb x.end l)).0 ir in
    let c = (and-eq-true_iff (ltb x.rule r) (leb x.start x.end)).0 b.0 in
    let t : takes x.number x.start x.end (spans_on s.trees) ≡ untaken vs = rw s.spans et in
    let g = gather r l x.start x.end x.number x.end s.trees no_trees vs s.each (omega arith) (leb-true _ _ c.1) t in
    let k : number_of g.children ≡ x.number = g.number ∙ omega arith in
    let q : records_on g.left ++ listed g.children ≡ done = g.records ∙ append-nil (records_on s.trees) ∙ s.records in
    record {
      trees = tree x.rule x.start x.end g.children g.left;
      spans = ap (λ (z : List Span). record { start = x.start; end = x.end } ∷ z) g.spans;
      records = sym (append_assoc (records_on g.left) (listed g.children) _) ∙ rw (q, k);
      each = (ltb-true _ _ c.0, (leb-true _ _ b.1, (g.nested, g.each)));
    }

moved : {r l : ℕ} {done : List Record} {us vs : List Span} → Stack r l done us → us ≡ vs → Stack r l done vs
moved s e = record { trees = s.trees; spans = s.spans ∙ e; records = s.records; each = s.each }

gone : (r l : ℕ) (xs done : List Record) (us vs : List Span) → Stack r l done us → all_in_range r l xs ≡ true → goes xs us ≡ untaken vs → Stack r l (done ++ xs) vs
unfolding goes all_in_range
gone r l [] done us vs s a e = rw (append-nil done) (moved s (inside e))
gone r l (x ∷ xs) done us vs s a e =
    let later = ((and-eq-true_iff (in_range r l x) (all_in_range r l xs)).0 a).1 in
    next (takes x.number x.start x.end us) refl e (λ ws s' e'. gone r l xs (done ++ (x ∷ [])) (record { start = x.start; end = x.end } ∷ ws) vs s' later e')
  where
    next : (t : Untaken) → takes x.number x.start x.end us ≡ t → after t (λ ws. goes xs (record { start = x.start; end = x.end } ∷ ws)) ≡ untaken vs
        → ((ws : List Span) → Stack r l (done ++ (x ∷ [])) (record { start = x.start; end = x.end } ∷ ws) → goes xs (record { start = x.start; end = x.end } ∷ ws) ≡ untaken vs
        → Stack r l ((done ++ (x ∷ [])) ++ xs) vs)
        → Stack r l (done ++ (x ∷ xs)) vs
    next fault et en ih = clash en
    next (untaken ws) et en ih = rw (append_assoc done (x ∷ []) xs) at (ih ws (stepped r l x done us ws s ((and-eq-true_iff (in_range r l x) (all_in_range r l xs)).0 a).0 et) en)

-- The one tree that is left.
pub record Only (r l : ℕ) (xs : List Record) : Type 0 where
  pub ts : Trees
  pub single : number_of ts ≡ 1
  pub nested : Nested r 0 l ts
  pub records : listed ts ≡ xs

only_one : (r l : ℕ) (xs : List Record) (us : Trees) → length (spans_on us) ≡ 1 → records_on us ≡ xs → Each r l us → Only r l xs
unfolding Nested number_of
only_one r l xs no_trees h e p = absurd (omega arith)
only_one r l xs (tree a x y cs no_trees) h e p = record { ts = tree a x y cs no_trees; single = refl; nested = (p.0, (omega arith, (p.1.1.0, p.1.0))); records = e }
only_one r l xs (tree a x y cs (tree b z w ds us)) h e p = absurd (omega arith)

pub only : (r l : ℕ) (xs : List Record) → all_in_range r l xs ≡ true → only_last (goes xs []) ≡ true → Only r l xs
unfolding only_last
only r l xs a e = by (goes xs []) refl e
  where
    by : (t : Untaken) → goes xs [] ≡ t → only_last t ≡ true → Only r l xs
    by fault et h = let z : ◌≡◌ {A = ℕ} 0 1 = cc in absurd (omega arith)
    by (untaken us) et h =
        let s = gone r l xs [] [] us (record { trees = no_trees; spans = refl; records = refl; each = tt }) a et in
        only_one r l xs s.trees (ap length s.spans ∙ eqb-true (length us) 1 h) s.records s.each
