-- What is kept is what the plain rules answer, and its ranges were visited before, so a reading that keeps answers is one by the plain rules, with the furthest
-- position of their derivation, whatever the grammar.
use mathlib.Core.Path.{◌≡◌, refl, sym, subst, ap, ◌∙◌}
use mathlib.Core.Logic.{◌⊎◌, inl, inr}
use Prim.Native.Nat.{ℕ, zero, suc, ◌≤◌, max}
use mathlib.Core.List.{List, []}
use mathlib.Core.Option.{Option, none, some}
use native.Mathlib.Nat.{zero-max}
use native.Mathlib.Omega.{arith}
use Rattle.meaning.specs.Grammar.{Node, rule, rep, Grammar, node, root_of, Answer, fail, ok, Note, noted, look}
use Rattle.meaning.specs.Rules.{Plain, furthest_of, empty1, char1, char2, var, con1, con2, con3, ord1, ord2, not1, not2, rep1, rep2, rep3}
use Rattle.meaning.specs.Reading.{State, starting, spent, keeping, Visit, deep, wrapped, keep, keeps, use_by, use_rule, recall, visited, in_place, visit, read_by}
use Rattle.meaning.proofs.Answers.{never, found}
use Rattle.meaning.proofs.Conserve.{same_furthest}
use Rattle.meaning.proofs.Notes.{look_cases}
use Rattle.meaning.proofs.Runs.{All, all_after, all_map, ends_counted}
use Rattle.meaning.proofs.Walk as W
use Rattle.meaning.proofs.Walk.{Leaf, First, Settled, Place, Second, of_seq, of_choice, of_not, of_rep, Refusal, Laws, walk}

module _ (g : Grammar) (line : List ℕ) where
  -- The plain rules, by the visits that a node makes.
  pub plain_one : {p : Node} {a x : ℕ} {r q : Answer} → First p a → Settled x p r q → Plain g line (node g a) x r → Plain g line p x q
  plain_one of_seq W.con3 h = con3 h
  plain_one of_choice W.ord1 h = ord1 h
  plain_one of_not W.not1 h = not1 h
  plain_one of_not W.not2 h = not2 h
  plain_one of_rep W.rep1 h = rep1 h
  plain_one of_rep (W.rep3 e) h = rep3 (rw (sym e) at h)

  rep_matches : {A : Type 0} {a x : ℕ} {r : Answer} → Plain g line (rep a) x r → r ≡ fail → A
  rep_matches (rep1 h) e = never e
  rep_matches (rep2 h p k) e = never e
  rep_matches (rep3 h) e = never e

  pub plain_two : {j : Place} {p : Node} {i a b x y : ℕ} {r q : Answer} {f : Answer → Answer} → node g i ≡ p → First p a → Second i x j p r b y f
      → Plain g line (node g a) x r → Plain g line (node g b) y q → Plain g line p x (f q)
  plain_two {q = fail} e of_seq W.con h k = con2 h k
  plain_two {q = ok z us} e of_seq W.con h k = con1 h k
  plain_two e of_choice W.ord h k = ord2 h k
  plain_two {q = fail} e of_rep (W.rep2 n) h k = rep_matches (rw e at k) refl
  plain_two {q = ok z us} e of_rep (W.rep2 n) h k = rep2 h n (rw e at k)
  plain_two {j = j} {i = i} {b = b} {y = y} {r = r} {q = q} {f = f} e (of_not {a = a}) x10 h k = elim x10 [ ]

  -- Each kept answer is the plain rules'.
  abbrev pub Right : List Note → Type 0
  Right ks = (i x : ℕ) (r : Answer) → look ks i x ≡ some r → Plain g line (node g i) x r

  pub right_keep : (i x : ℕ) (r : Answer) (ks : List Note) → Plain g line (node g i) x r → Right ks → Right (noted i x r ks)
  right_keep i x r ks h o j y q e = by (look_cases ks i x r j y e)
    where
      by : ((i ≡ j) × (x ≡ y) × (r ≡ q)) ⊎ (look ks j y ≡ some q) → Plain g line (node g j) y q
      by (inl (m, w, a)) = rw (m, w, a) at h
      by (inr k) = o j y q k

  -- The ranges of each kept answer were visited: no derivation of it gets further than f.
  abbrev pub Asked : List Note → ℕ → Type 0
  Asked ks f = (i x : ℕ) (r : Answer) → look ks i x ≡ some r → (d : Plain g line (node g i) x r) → furthest_of d ≤ f

  -- The furthest position rose from f by that of a derivation, which got to e, and no derivation of what is kept gets further.
  record Reaches (f e : ℕ) (t : State) : Type 0 where
    asks : Asked t.kept t.furthest
    furthest : t.furthest ≡ max f e

  -- With ks kept and f the furthest position before.
  record Then (p : Node) (x : ℕ) (ks : List Note) (f : ℕ) (r : Answer) (t : State) : Type 0 where
    plain : Plain g line p x r
    right : Right t.kept
    reaches : Asked ks f → Reaches f (furthest_of plain) t

  abbrev Visits : ℕ → ℕ → State → Answer → State → Type 0
  Visits i x s r t = Right s.kept → Then (node g i) x s.kept s.furthest r t

  abbrev Uses : ℕ → ℕ → State → Answer → State → Type 0
  Uses a x s r t = Right s.kept → Then (rule a) x s.kept s.furthest r t

  -- How far the parts of a derivation get, so far it gets.
  furthest_one : {p : Node} {a x : ℕ} {r q : Answer} (m : First p a) (n : Settled x p r q) (h : Plain g line (node g a) x r) → furthest_of (plain_one m n h) ≡ furthest_of h
  unfolding plain_one
  furthest_one of_seq W.con3 h = refl
  furthest_one of_choice W.ord1 h = refl
  furthest_one of_not W.not1 h = refl
  furthest_one of_not W.not2 h = refl
  furthest_one of_rep W.rep1 h = refl
  furthest_one of_rep (W.rep3 e) h = same_furthest g line refl refl (rw (sym e) at h) h

  furthest_two : {j : Place} {p : Node} {i a b x y : ℕ} {r q : Answer} {f : Answer → Answer} (e : node g i ≡ p) (m : First p a) (n : Second i x j p r b y f)
      (h : Plain g line (node g a) x r) (k : Plain g line (node g b) y q) → furthest_of (plain_two e m n h k) ≡ max (furthest_of h) (furthest_of k)
  unfolding plain_two
  furthest_two {q = fail} e of_seq W.con h k = refl
  furthest_two {q = ok z us} e of_seq W.con h k = refl
  furthest_two e of_choice W.ord h k = refl
  furthest_two {q = fail} e of_rep (W.rep2 n) h k = rep_matches (rw e at k) refl
  furthest_two {q = ok z us} e of_rep (W.rep2 n) h k = ap (max (furthest_of h)) (same_furthest g line (sym e) refl (rw e at k) k)
  furthest_two {j = j} {i = i} {b = b} {y = y} {r = r} {q = q} {f = f} e (of_not {a = a}) n h k = elim n [ ]

  then_leaf : {p : Node} {x : ℕ} {s t : State} {r : Answer} → Leaf line x s p r t → Right s.kept → Then p x s.kept s.furthest r t
  then_leaf W.empty1 o = record { plain = empty1; right = o; reaches = λ a. record { asks = a; furthest = omega arith } }
  then_leaf (W.char1 q) o = record { plain = char1 q; right = o; reaches = λ a. record { asks = λ j y c e d. omega (arith, a j y c e d); furthest = refl } }
  then_leaf (W.char2 q) o = record { plain = char2 q; right = o; reaches = λ a. record { asks = λ j y c e d. omega (arith, a j y c e d); furthest = refl } }

  then_one : {p : Node} {a x f : ℕ} {ks : List Note} {r q : Answer} {t : State} → First p a → Settled x p r q → Then (node g a) x ks f r t → Then p x ks f q t
  then_one m n k = record {
    plain = plain_one m n k.plain;
    right = k.right;
    reaches = λ a. let z = k.reaches a in record { asks = z.asks; furthest = rw (furthest_one m n k.plain) z.furthest };
  }

  then_two : {j : Place} {p : Node} {i a b x y f : ℕ} {ks : List Note} {r q : Answer} {h : Answer → Answer} {t u : State} → node g i ≡ p → First p a → Second i x j p r b y h
      → Then (node g a) x ks f r t → Then (node g b) y t.kept t.furthest q u → Then p x ks f (h q) u
  then_two e m n k k' = record {
    plain = plain_two e m n k.plain k'.plain;
    right = k'.right;
    reaches = λ a.
        let z = k.reaches a in
        let w = k'.reaches z.asks in
        record { asks = w.asks; furthest = rw (furthest_two e m n k.plain k'.plain) (let c = z.furthest in let d = w.furthest in omega arith) };
  }

  -- A finished pair is kept.
  then_keep : (i : ℕ) {x f : ℕ} {ks : List Note} {r : Answer} {t : State} → Then (node g i) x ks f r t → Then (node g i) x ks f r (keeping i x r t)
  then_keep i {x} {f} {ks} {r} {t} k = record {
    plain = k.plain;
    right = right_keep i x r t.kept k.plain k.right;
    reaches = λ a. let z = k.reaches a in record { asks = λ j y q e d. kept_asks z j y q d (look_cases t.kept i x r j y e); furthest = z.furthest };
  }
    where
      kept_asks : Reaches f (furthest_of k.plain) t → (j y : ℕ) (q : Answer) (d : Plain g line (node g j) y q) → ((i ≡ j) × (x ≡ y) × (r ≡ q)) ⊎ (look t.kept j y ≡ some q) → furthest_of d ≤ t.furthest
      kept_asks z j y q d (inl e) = let c = z.furthest in let same = same_furthest g line (ap (node g) e.0) e.1 k.plain d in omega arith
      kept_asks z j y q d (inr e) = z.asks j y q e d

  abbrev Refused : Refusal → ℕ → ℕ → State → State → Type 0
  Refused why i x s t = Unit {0}

  laws : Laws g line (λ j. Visits) Uses Visits (λ j. Refused) Refused Refused
  laws = record {
    leaf = λ i x r s t l o. then_leaf l o;
    uses = λ i a x r s t e h o. subst (λ p. Then p x s.kept s.furthest r t) (sym e) (h o);
    one = λ i x a r q s t m n h o. then_one m n (h o);
    two = λ i x a b y j r q f s t u m n h h' o. let k = h o in then_two refl m n k (h' k.right);
    uses_refused = λ why i a x s t e h. tt;
    one_refused = λ why i x a s t m h. tt;
    two_refused = λ why i x a b y j r f s t u m n h k. tt;
  }

  module _ (v : List Note → Visit) (l : List Note) (hv : (i x : ℕ) (s : State) → All (Visits i x s) (v l i x s)) where
    of_use : (a x : ℕ) (s : State) → All (Uses a x s) (use_rule g line keeps v l a x s)
    unfolding use_by wrapped
    of_use a x s = all_after _ (v l (root_of g a) x s) (wrapped a x) (hv (root_of g a) x s) (λ r t h o. let k = h o in record { plain = var k.plain; right = k.right; reaches = k.reaches })

    -- w visits in place.
    module _ (w : List Note → Visit) (hw : (i x : ℕ) (s : State) → All (Visits i x s) (w l i x s)) where
      of_recall : (i x : ℕ) (s : State) (o : Option Answer) → look s.kept i x ≡ o → All (Visits i x s) (recall g line v w l i x s o)
      unfolding recall keep
      of_recall i x s (some r) e = λ o. record { plain = o i x r e; right = o; reaches = λ a. record { asks = a; furthest = omega (arith, a i x r e (o i x r e)) } }
      of_recall i x s none e =
          all_after _ _ (keep i x) (walk laws (v l) hv (w l) hw (use_rule g line keeps v l) of_use i x s)
          (λ r t h o. then_keep i (h o))

    of_place : (f i x : ℕ) (s : State) → All (Visits i x s) (in_place g line keeps f v l i x s)
    unfolding in_place visited
    of_place zero i x s = hv i x s
    of_place (suc f) i x s =
        let w : List Note → Visit = in_place g line keeps f v in
        ends_counted _ _ _ s.left x s (visited g line keeps v w l i x) (λ e. tt)
        (λ n e. of_recall w (of_place f) i x (spent n s) (look s.kept i x) refl)

  of_visit : (d : ℕ) (l : List Note) (i x : ℕ) (s : State) → All (Visits i x s) (visit g line keeps d l i x s)
  unfolding visit
  of_visit zero l i x s = ends_counted _ _ _ s.left x s (λ t. deep x s) (λ e. tt) (λ n e. tt)
  of_visit (suc d) l i x s = of_place (visit g line keeps d) l (of_visit d l) s.left i x s

  -- One visit, where what is kept is right: it stays so.
  pub visit_plain : (d : ℕ) (l : List Note) (i x : ℕ) (s : State) → Right s.kept → All (λ r t. Plain g line (node g i) x r × Right t.kept) (visit g line keeps d l i x s)
  visit_plain d l i x s o = all_map {P = Visits i x s} (visit g line keeps d l i x s) (of_visit d l i x s) (λ r t h. let k = h o in (k.plain, k.right))

  -- The whole reading: nothing is kept at first, and the furthest position is that of the derivation.
  pub read_plain : (allowance : ℕ) → All (λ r t. (d : Plain g line (rule 0) 0 r) × (t.furthest ≡ furthest_of d)) (read_by g line keeps allowance)
  unfolding read_by look
  read_plain allowance =
      let s = starting allowance in
      let v : List Note → Visit = visit g line keeps 512 in
      all_map {P = Uses 0 0 s} (use_rule g line keeps v [] 0 0 s) (of_use v [] (of_visit 512 []) 0 0 s)
      (λ r t h. let k = h (λ i x q e. found refl e) in (k.plain, (k.reaches (λ i x q e d. found refl e)).furthest ∙ zero-max (furthest_of k.plain)))
