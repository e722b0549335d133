-- A reading that keeps nothing and is not refused is one by the bounded rules, whichever rules become live: in as many visits, with the same furthest position, and
-- no deeper than visits may be open.
use mathlib.Core.Path.{◌≡◌, refl, sym}
use Prim.Native.Nat.{ℕ, zero, suc, ◌≤◌}
use native.Mathlib.Nat.{max-le}
use native.Mathlib.Omega.{arith}
use mathlib.Core.Bool.{Bool, true, false}
use mathlib.Core.List.{List, []}
use mathlib.Core.Option.{Option, none, some}
use lib.Dec.{ltb}
use borrow.Author.Tests.{ltb-true, ltb-false}
use Rattle.meaning.specs.Grammar.{Node, rule, Grammar, node, root_of, root, Trees, Answer, fail, ok, Note, noted, look}
use Rattle.meaning.specs.Reading.{State, starting, spent, Run, Visit, wrapped, longer, attempted, grow, first_attempt, use_live, Way, grows, use_by, use_rule, visited, in_place, visit, read_by}
use Rattle.meaning.specs.Rules.{Goal, at, inc, Amount, nothing, asking, ◌⊕◌, visiting, Bounded, Reads, empty1, char1, char2, con1, con2, con3, ord1, ord2, not1, not2, rep1, rep2, rep3, var, lvar1, lvar2, lvar3, inc1, inc2, inc3}
use Rattle.meaning.specs.Rules as R
use Rattle.meaning.proofs.Runs.{All, all_after, all_map, ends_counted}
use Rattle.meaning.proofs.Amounts.{Amounts, amounts, Spends, spends_nothing, spends_asking, spends_both, spends_visit}
use Rattle.meaning.proofs.OneBounded.{rep_matches}
use Rattle.meaning.proofs.Walk as W
use Rattle.meaning.proofs.Walk.{Leaf, First, Settled, Place, below, own, Second, of_seq, of_choice, of_not, of_rep, Refusal, Laws, walk}

module _ (g : Grammar) (line : List ℕ) (live : ℕ → Bool) where
  -- The way: nothing is kept.
  abbrev way : Way
  way = grows live

  -- The bounded rules, by the visits that a node makes.
  bounded_one : {l : List Note} {p : Node} {a x : ℕ} {n : Amount} {r q : Answer} → First p a → Settled x p r q → Bounded g line live l (at (node g a)) x r n → Bounded g line live l (at p) x q (visiting n)
  bounded_one of_seq W.con3 h = con3 h
  bounded_one of_choice W.ord1 h = ord1 h
  bounded_one of_not W.not1 h = not1 h
  bounded_one of_not W.not2 h = not2 h
  bounded_one of_rep W.rep1 h = rep1 h
  bounded_one of_rep (W.rep3 e) h = rep3 (rw (sym e) at h)

  -- What a second visit that amounts to m adds, by its place; and how many visits may be open with it where d may be with a first one.
  abbrev added : Place → Amount → Amount
  added below m = m
  added own m = R.in_place m

  abbrev open_at : Place → ℕ → ℕ
  open_at below d = d
  open_at own d = suc d

  spends_added : (j : Place) {m : Amount} {s t : State} → Spends m s t → Spends (added j m) s t
  spends_added below h = h
  spends_added own h = record { left = h.left; furthest = h.furthest }

  within_added : (j : Place) (d : ℕ) (m : Amount) → m.depth ≤ open_at j d → (added j m).depth ≤ d
  within_added below d m le = le
  within_added own d m le = omega arith

  bounded_two : {l : List Note} {j : Place} {p : Node} {i a b x y : ℕ} {n m : Amount} {r q : Answer} {f : Answer → Answer} → node g i ≡ p → First p a → Second i x j p r b y f
      → Bounded g line live l (at (node g a)) x r n → Bounded g line live l (at (node g b)) y q m → Bounded g line live l (at p) x (f q) (visiting (n ⊕ added j m))
  bounded_two {q = fail} e of_seq W.con h k = con2 h k
  bounded_two {q = ok z us} e of_seq W.con h k = con1 h k
  bounded_two e of_choice W.ord h k = ord2 h k
  bounded_two {q = fail} e of_rep (W.rep2 d) h k = rep_matches g line live (rw e at k) refl
  bounded_two {q = ok z us} e of_rep (W.rep2 d) h k = rep2 h d (rw e at k)
  bounded_two {l = l} {j = j} {i = i} {b = b} {y = y} {n = n} {m = m} {r = r} {q = q} {f = f} e (of_not {a = a}) x10 h k = elim x10 [ ]

  -- The rules answer r, by a derivation that amounts to what is spent and reached between s and t, with at most d visits open at once.
  pub record Made (d : ℕ) (l : List Note) (p : Goal) (x : ℕ) (s : State) (r : Answer) (t : State) : Type 0 where
    pub amount : Amount
    pub rules : Bounded g line live l p x r amount
    pub spends : Spends amount s t
    pub within : amount.depth ≤ d

  -- The same of node p's application once its own visit is counted, and so of a use: 01's reading is one of rule 0, and "is not itself a visit".
  pub record Applied (d : ℕ) (l : List Note) (p : Node) (x : ℕ) (s : State) (r : Answer) (t : State) : Type 0 where
    pub amount : Amount
    pub rules : Bounded g line live l (at p) x r (visiting amount)
    pub spends : Spends amount s t
    pub within : amount.depth ≤ d

  bounded_leaf : {d : ℕ} {l : List Note} {p : Node} {x : ℕ} {s t : State} {r : Answer} → Leaf line x s p r t → Applied d l p x s r t
  bounded_leaf {s = s} W.empty1 = record { amount = nothing; rules = empty1; spends = spends_nothing s; within = omega arith }
  bounded_leaf {x = x} {s = s} (W.char1 q) = record { amount = asking x; rules = char1 q; spends = spends_asking x s; within = omega arith }
  bounded_leaf {x = x} {s = s} (W.char2 q) = record { amount = asking x; rules = char2 q; spends = spends_asking x s; within = omega arith }

  abbrev Refused : Refusal → ℕ → ℕ → State → State → Type 0
  Refused why i x s t = Unit {0}

  laws : (d : ℕ) (l : List Note) → Laws g line (λ j i. Made (open_at j d) l (at (node g i))) (λ a. Applied d l (rule a)) (λ i. Applied d l (node g i)) (λ j. Refused) Refused Refused
  laws d l = record {
    leaf = λ i x r s t w. bounded_leaf w;
    uses = λ i a x r s t e h. record { amount = h.amount; rules = rw e h.rules; spends = h.spends; within = h.within };
    one = λ i x a r q s t f c h. record { amount = h.amount; rules = bounded_one f c h.rules; spends = h.spends; within = h.within };
    two = λ i x a b y j r q w s t u f c h k. record {
      amount = h.amount ⊕ added j k.amount;
      rules = bounded_two refl f c h.rules k.rules;
      spends = spends_both h.spends (spends_added j k.spends);
      within = max-le h.within (within_added j d k.amount k.within);
    };
    uses_refused = λ why i a x s t e h. tt;
    one_refused = λ why i x a s t f h. tt;
    two_refused = λ why i x a b y j r w s t u f c h k. tt;
  }

  -- v visits the root of rule a at x while an answer is held.
  module _ (d : ℕ) (l : List Note) (a x : ℕ) (v : Answer → State → Run) (hv : (r : Answer) (s : State) → All (Made d (noted a x r l) (at (root g a)) x s) (v r s)) where
    -- k grows on.
    module _ (k : ℕ → Trees → State → Run) (hk : (e : ℕ) (ts : Trees) (s : State) → All (Made d l (inc a e ts) x s) (k e ts s)) (e : ℕ) (ts : Trees) (s : State) where
      of_longer : (e' : ℕ) (ts' : Trees) (t : State) → Made d (noted a x (ok e ts) l) (at (root g a)) x s (ok e' ts') t → (b : Bool) → ltb e e' ≡ b
          → All (Made d l (inc a e ts) x s) (longer k e ts e' ts' t b)
      unfolding longer
      of_longer e' ts' t h true q =
          all_map (k e' ts' t) (hk e' ts' t)
          (λ r u j. record {
            amount = h.amount ⊕ j.amount;
            rules = inc1 h.rules (ltb-true e e' q) j.rules;
            spends = spends_both h.spends j.spends;
            within = max-le h.within j.within;
          })
      of_longer e' ts' t h false q = record { amount = h.amount; rules = inc3 h.rules (ltb-false e e' q); spends = h.spends; within = h.within }

      of_attempt : (r : Answer) (t : State) → Made d (noted a x (ok e ts) l) (at (root g a)) x s r t → All (Made d l (inc a e ts) x s) (attempted k e ts r t)
      unfolding attempted
      of_attempt fail t h = record { amount = h.amount; rules = inc2 h.rules; spends = h.spends; within = h.within }
      of_attempt (ok e' ts') t h = of_longer e' ts' t h (ltb e e') refl

    of_grow : (f e : ℕ) (ts : Trees) (s : State) → All (Made d l (inc a e ts) x s) (grow f v x e ts s)
    unfolding grow
    of_grow zero e ts s = tt
    of_grow (suc f) e ts s = all_after _ (v (ok e ts) s) (attempted (grow f v x) e ts) (hv (ok e ts) s) (of_attempt (grow f v x) (of_grow f) e ts s)

    module _ (w : live a ≡ true) where
      of_first : look l a x ≡ none → (s : State) (r : Answer) (t : State) → Made d (noted a x fail l) (at (root g a)) x s r t → All (Applied d l (rule a) x s) (first_attempt v a x r t)
      unfolding first_attempt wrapped
      of_first o s fail t h = record { amount = h.amount; rules = lvar2 w o h.rules; spends = h.spends; within = h.within }
      of_first o s (ok e ts) t h =
          all_after _ (grow t.left v x e ts t) (wrapped a x) (of_grow t.left e ts t)
          (λ r u j. record {
            amount = h.amount ⊕ j.amount;
            rules = lvar1 w o h.rules j.rules;
            spends = spends_both h.spends j.spends;
            within = max-le h.within j.within;
          })

      of_live : (s : State) (o : Option Answer) → look l a x ≡ o → All (Applied d l (rule a) x s) (use_live v a x s o)
      unfolding use_live
      of_live s none o = all_after _ (v fail s) (first_attempt v a x) (hv fail s) (of_first o s)
      of_live s (some r) o = record { amount = nothing; rules = lvar3 w o; spends = spends_nothing s; within = omega arith }

  -- A use, of a rule that becomes live or of one that doesn't.
  module _ (d : ℕ) (v : List Note → Visit) (hv : (l : List Note) (i x : ℕ) (s : State) → All (Made d l (at (node g i)) x s) (v l i x s)) where
    of_by : (l : List Note) (a x : ℕ) (s : State) (b : Bool) → live a ≡ b → All (Applied d l (rule a) x s) (use_by g line b v l a x s)
    unfolding use_by wrapped
    of_by l a x s false w =
        all_after _ (v l (root_of g a) x s) (wrapped a x) (hv l (root_of g a) x s)
        (λ r t h. record { amount = h.amount; rules = var w h.rules; spends = h.spends; within = h.within })
    of_by l a x s true w = of_live d l a x (λ r. v (noted a x r l) (root_of g a) x) (λ r. hv (noted a x r l) (root_of g a) x) w s (look l a x) refl

    pub of_use : (l : List Note) (a x : ℕ) (s : State) → All (Applied d l (rule a) x s) (use_rule g line way v l a x s)
    of_use l a x s = of_by l a x s (live a) refl

    -- In place as many are open as with the visit itself, so one more than with v.
    of_place : (f : ℕ) (l : List Note) (i x : ℕ) (s : State) → All (Made (suc d) l (at (node g i)) x s) (in_place g line way f v l i x s)
    unfolding in_place visited
    of_place zero l i x s =
        all_map (v l i x s) (hv l i x s) (λ r t h. record { amount = h.amount; rules = h.rules; spends = h.spends; within = let w = h.within in omega arith })
    of_place (suc f) l i x s =
        let w : List Note → Visit = in_place g line way f v in
        ends_counted _ _ _ s.left x s (visited g line way v w l i x) (λ e. tt)
        (λ n e. let t : State = spent n s in
        all_map (visited g line way v w l i x t) (walk (laws d l) (v l) (hv l) (w l) (of_place f l) (use_rule g line way v l) (of_use l) i x t)
        (λ r u h. record { amount = visiting h.amount; rules = h.rules; spends = spends_visit e h.spends; within = let c = h.within in omega arith }))

  -- However many visits may be open.
  pub of_visit : (d : ℕ) (l : List Note) (i x : ℕ) (s : State) → All (Made d l (at (node g i)) x s) (visit g line way d l i x s)
  unfolding visit
  of_visit zero l i x s = ends_counted _ _ _ s.left x s (λ t. _) (λ e. tt) (λ n e. tt)
  of_visit (suc d) l i x s = of_place d (visit g line way d) (of_visit d) s.left l i x s

  pub read_sound : (allowance : ℕ) → All (λ r t. (n : Amount) × Reads g line live r n × Amounts allowance n t) (read_by g line way allowance)
  unfolding read_by
  read_sound allowance =
      all_map (read_by g line way allowance) (of_use 512 (visit g line way 512) (of_visit 512) [] 0 0 (starting allowance))
      (λ r t h. (h.amount, record { rules = h.rules }, amounts h.spends h.within))
