-- 02's W-203: no visit is made past the line's end, so the furthest position is one of the line or its end, however a reading ends, in free grammars and in others.
use mathlib.Core.Path.{◌≡◌, refl, sym}
use mathlib.Core.Logic.{◌⊎◌, inl, inr}
use Prim.Native.Nat.{ℕ, zero, suc, ◌≤◌}
use mathlib.Core.Bool.{Bool, true, false}
use mathlib.Core.List.{List, []}
use mathlib.Core.Option.{Option, none, some}
use lib.ListN.{length}
use lib.Dec.{ltb}
use native.Mathlib.Omega.{arith}
use Rattle.meaning.specs.Grammar.{Node, Grammar, node, root_of, Trees, Answer, fail, ok, wrap, Note, noted, look}
use Rattle.meaning.specs.Reading.{State, starting, spent, Run, effort, deep, done, Visit, apply, wrapped, longer, attempted, grow, first_attempt, use_live, keep, Way, keeps, grows, becomes_live, use_by, use_rule, recall, visited, in_place, visit, read_by}
use Rattle.meaning.proofs.Answers.{found}
use Rattle.meaning.proofs.Notes.{look_cases}
use Rattle.meaning.proofs.Runs.{Ends, ends_after, ends_map, ends_counted}
use Rattle.meaning.proofs.Spans.{fits_inside}
use Rattle.meaning.proofs.Walk as W
use Rattle.meaning.proofs.Walk.{join, Leaf, Settled, Place, Second, Laws, walk}

module _ (g : Grammar) (line : List ℕ) where
  -- An answer is a failure, or ends inside the line; and so does each that is noted.
  abbrev EndsIn : Answer → Type 0
  EndsIn fail = Unit {0}
  EndsIn (ok e ts) = e ≤ length line

  abbrev NotedIn : List Note → Type 0
  NotedIn ns = (a x : ℕ) (r : Answer) → look ns a x ≡ some r → EndsIn r

  noted_more : (a x : ℕ) (r : Answer) (ns : List Note) → EndsIn r → NotedIn ns → NotedIn (noted a x r ns)
  noted_more a x r ns h f b y q e = by (look_cases ns a x r b y e)
    where
      by : ((a ≡ b) × (x ≡ y) × (r ≡ q)) ⊎ (look ns b y ≡ some q) → EndsIn q
      by (inl k) = rw (sym k.2) h
      by (inr k) = f b y q k

  -- A state that has got no further than the line's end.
  record Within (s : State) : Type 0 where
    kept : NotedIn s.kept
    furthest : s.furthest ≤ length line

  -- However a run ends, it leaves such a state; and where it is done, its answer ends inside the line.
  abbrev Stays : Run → Type 0
  Stays m = Ends Within Within (λ r t. EndsIn r × Within t) m

  -- The same, where something is asked for.
  abbrev StaysIf : Type 0 → Run → Type 0
  StaysIf A m = Ends (λ t. A → Within t) (λ t. A → Within t) (λ r t. A → EndsIn r × Within t) m

  stays_if : {A : Type 0} (m : Run) → (A → Stays m) → StaysIf A m
  stays_if (effort p t) h = h
  stays_if (deep p t) h = h
  stays_if (done r t) h = h

  stays_so : {A : Type 0} (m : Run) → A → StaysIf A m → Stays m
  stays_so m a h = ends_map m h (λ t k. k a) (λ t k. k a) (λ r t k. k a)

  -- What a visit at x asks for: it is inside the line, and the state is within it.
  abbrev Asks : ℕ → State → Type 0
  Asks x s = (x ≤ length line) × Within s

  wrap_in : (a x : ℕ) (r : Answer) → EndsIn r → EndsIn (wrap a x r)
  unfolding wrap
  wrap_in a x fail h = h
  wrap_in a x (ok e ts) h = h

  leaf_in : {x : ℕ} {s t : State} {p : Node} {r : Answer} → Leaf line x s p r t → Asks x s → EndsIn r × Within t
  leaf_in W.empty1 a = a
  leaf_in {x = x} (W.char1 {lo = lo} {hi = hi} q) a = (fits_inside line lo hi x q, record { kept = a.1.kept; furthest = let b = a.0 in let c = a.1.furthest in omega arith })
  leaf_in (W.char2 q) a = (tt, record { kept = a.1.kept; furthest = let b = a.0 in let c = a.1.furthest in omega arith })

  settled_in : {x : ℕ} {p : Node} {r q : Answer} → Settled x p r q → x ≤ length line → EndsIn r → EndsIn q
  settled_in W.con3 a h = tt
  settled_in W.ord1 a h = h
  settled_in W.not1 a h = a
  settled_in W.not2 a h = tt
  settled_in W.rep1 a h = a
  settled_in (W.rep3 e) a h = a

  second_in : {i x b y : ℕ} {k : Place} {p : Node} {r : Answer} {f : Answer → Answer} → Second i x k p r b y f → x ≤ length line → EndsIn r → y ≤ length line
  second_in W.con a h = h
  second_in W.ord a h = a
  second_in (W.rep2 n) a h = h

  join_in : (ts : Trees) (q : Answer) → EndsIn q → EndsIn (join ts q)
  join_in ts fail h = tt
  join_in ts (ok e us) h = h

  both_in : {i x b y : ℕ} {k : Place} {p : Node} {r : Answer} {f : Answer → Answer} (q : Answer) → Second i x k p r b y f → EndsIn q → EndsIn (f q)
  both_in q (W.con {ts = ts}) h = join_in ts q h
  both_in q W.ord h = h
  both_in q (W.rep2 {ts = ts} n) h = join_in ts q h

  laws : Laws g line (λ p i x s r t. Asks x s → EndsIn r × Within t) (λ a x s r t. Asks x s → EndsIn r × Within t) (λ i x s r t. Asks x s → EndsIn r × Within t)
      (λ p why i x s t. Asks x s → Within t) (λ why a x s t. Asks x s → Within t) (λ why i x s t. Asks x s → Within t)
  laws = record {
    leaf = λ i x r s t w a. leaf_in w a;
    uses = λ i b x r s t e h a. h a;
    one = λ i x b r q s t m n h a. let k = h a in (settled_in n a.0 k.0, k.1);
    two = λ i x b c y p r q f s t u m n h h' a. let k = h a in let k' = h' (second_in n a.0 k.0, k.1) in (both_in q n k'.0, k'.1);
    uses_refused = λ why i b x s t e h a. h a;
    one_refused = λ why i x b s t m h a. h a;
    two_refused = λ why i x b c y p r f s t u m n h h' a. let k = h a in h' (second_in n a.0 k.0, k.1);
  }

  -- v visits a root at x while an answer that ends inside the line is held.
  module _ (x : ℕ) (v : Answer → State → Run) (hv : (r : Answer) (s : State) → EndsIn r → Within s → Stays (v r s)) where
    of_attempt : (k : ℕ → Trees → State → Run) → ((e : ℕ) (ts : Trees) (s : State) → e ≤ length line → Within s → Stays (k e ts s))
        → (e : ℕ) (ts : Trees) → e ≤ length line → (r : Answer) (t : State) → EndsIn r × Within t → Stays (attempted k e ts r t)
    unfolding attempted longer
    of_attempt k hk e ts le fail t h = (le, h.1)
    of_attempt k hk e ts le (ok e' ts') t h = by (ltb e e')
      where
        by : (b : Bool) → Stays (longer k e ts e' ts' t b)
        by true = hk e' ts' t h.0 h.1
        by false = (le, h.1)

    of_grow : (f e : ℕ) (ts : Trees) (s : State) → e ≤ length line → Within s → Stays (grow f v x e ts s)
    unfolding grow
    of_grow zero e ts s le w = w
    of_grow (suc f) e ts s le w =
        ends_after _ (v (ok e ts) s) (attempted (grow f v x) e ts) (hv (ok e ts) s le w) (λ t h. h) (λ t h. h) (of_attempt (grow f v x) (of_grow f) e ts le)

    of_first : (a : ℕ) (r : Answer) (t : State) → EndsIn r × Within t → Stays (first_attempt v a x r t)
    unfolding first_attempt wrapped
    of_first a fail t h = h
    of_first a (ok e ts) t h =
        ends_after _ (grow t.left v x e ts t) (wrapped a x) (of_grow t.left e ts t h.0 h.1) (λ u k. k) (λ u k. k) (λ r u k. (wrap_in a x r k.0, k.1))

    of_live : (a : ℕ) (s : State) (o : Option Answer) → ((r : Answer) → o ≡ some r → EndsIn r) → Within s → Stays (use_live v a x s o)
    unfolding use_live
    of_live a s none held w = ends_after _ (v fail s) (first_attempt v a x) (hv fail s tt w) (λ t h. h) (λ t h. h) (of_first a)
    of_live a s (some r) held w = (wrap_in a x r (held r refl), w)

  module _ (v : List Note → Visit) (hv : (l : List Note) → NotedIn l → (i x : ℕ) (s : State) → Asks x s → Stays (v l i x s)) (l : List Note) (held : NotedIn l) where
    of_by : (b : Bool) (a x : ℕ) (s : State) → Asks x s → Stays (use_by g line b v l a x s)
    unfolding use_by wrapped
    of_by false a x s w = ends_after _ (v l (root_of g a) x s) (wrapped a x) (hv l held (root_of g a) x s w) (λ t h. h) (λ t h. h) (λ r t h. (wrap_in a x r h.0, h.1))
    of_by true a x s w =
        of_live x (λ r. v (noted a x r l) (root_of g a) x) (λ r t e u. hv (noted a x r l) (noted_more a x r l e held) (root_of g a) x t (w.0, u)) a s (look l a x) (λ r e. held a x r e) w.1

    of_use : (way : Way) (a x : ℕ) (s : State) → Asks x s → Stays (use_rule g line way v l a x s)
    of_use way a = of_by (becomes_live way a) a

    -- w visits in place.
    module _ (w : List Note → Visit) (hw : (i x : ℕ) (s : State) → Asks x s → Stays (w l i x s)) where
      of_node : (way : Way) (i x : ℕ) (s : State) → Asks x s → Stays (apply line (v l) (w l) (use_rule g line way v l) i x s (node g i))
      of_node way i x s a =
          stays_so (apply line (v l) (w l) (use_rule g line way v l) i x s (node g i)) a
          (walk laws (v l) (λ j y t. stays_if (v l j y t) (hv l held j y t)) (w l) (λ j y t. stays_if (w l j y t) (hw j y t))
          (use_rule g line way v l) (λ b y t. stays_if (use_rule g line way v l b y t) (of_use way b y t)) i x s)

      of_recall : (i x : ℕ) (s : State) (o : Option Answer) → look s.kept i x ≡ o → Asks x s → Stays (recall g line v w l i x s o)
      unfolding recall keep
      of_recall i x s (some r) e a = (a.1.kept i x r e, a.1)
      of_recall i x s none e a =
          ends_after _ (apply line (v l) (w l) (use_rule g line keeps v l) i x s (node g i)) (keep i x) (of_node keeps i x s a) (λ t h. h) (λ t h. h)
          (λ r t h. (h.0, record { kept = noted_more i x r t.kept h.0 h.1.kept; furthest = h.1.furthest }))

      of_visited : (way : Way) (i x : ℕ) (s : State) → Asks x s → Stays (visited g line way v w l i x s)
      unfolding visited
      of_visited keeps i x s a = of_recall i x s (look s.kept i x) refl a
      of_visited (grows live) i x s a = of_node (grows live) i x s a

    of_place : (way : Way) (f i x : ℕ) (s : State) → Asks x s → Stays (in_place g line way f v l i x s)
    unfolding in_place
    of_place way zero i x s a = hv l held i x s a
    of_place way (suc f) i x s a =
        let w : List Note → Visit = in_place g line way f v in
        ends_counted _ _ _ s.left x s (visited g line way v w l i x) (λ e. a.1)
        (λ n e. of_visited w (of_place way f) way i x (spent n s) (a.0, record { kept = a.1.kept; furthest = a.1.furthest }))

  of_visit : (way : Way) (d : ℕ) (l : List Note) → NotedIn l → (i x : ℕ) (s : State) → Asks x s → Stays (visit g line way d l i x s)
  unfolding visit
  of_visit way zero l held i x s w = ends_counted _ _ _ s.left x s (λ t. deep x s) (λ e. w.1) (λ n e. w.1)
  of_visit way (suc d) l held i x s w = of_place (visit g line way d) (of_visit way d) l held way s.left i x s w

  -- Of the whole reading.
  pub furthest_inside : (way : Way) (allowance : ℕ)
      → Ends (λ t. t.furthest ≤ length line) (λ t. t.furthest ≤ length line) (λ r t. t.furthest ≤ length line) (read_by g line way allowance)
  unfolding read_by look
  furthest_inside way allowance =
      let nothing : NotedIn [] = λ a x r e. found refl e in
      ends_map (read_by g line way allowance)
      (of_use (visit g line way 512) (of_visit way 512) [] nothing way 0 0 (starting allowance) (omega arith, record { kept = nothing; furthest = omega arith }))
      (λ t h. h.furthest) (λ t h. h.furthest) (λ r t h. h.1.furthest)
