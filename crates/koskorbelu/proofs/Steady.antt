-- What an allowance decides: a reading that is not refused for effort goes the same way with any allowance that is enough for its visits, in free grammars and in others.
use mathlib.Core.Path.{◌≡◌, refl, sym, ap, subst, ◌∙◌}
use Prim.Native.Nat.{ℕ, zero, suc, ◌+◌, ◌-◌, ◌<◌, ◌≤◌}
use native.Mathlib.Omega.{arith}
use native.Mathlib.Nat.{zero-add, suc-add, add_assoc}
use mathlib.Core.Bool.{Bool, true, false}
use mathlib.Core.List.{List, []}
use mathlib.Core.Option.{Option, none, some}
use lib.Dec.{ltb, eqb}
use Rattle.meaning.specs.Grammar.{Node, empty, range, rule, seq, choice, not, rep, Grammar, node, root_of, Trees, Answer, fail, ok, Note, noted, look}
use Rattle.meaning.specs.Reading.{State, starting, spent as leaving, asked, Run, Visit, after, joined, second, otherwise, denied, repeat_from, repeated, wrapped, apply, longer, attempted, grow, first_attempt, use_live, keep}
use Rattle.meaning.specs.Reading.{counted, Way, keeps, grows, becomes_live, use_by, use_rule, recall, visited, in_place, visit, read_by}
use Rattle.meaning.proofs.InPlace.{in_place_is}

-- F came from s to t in so many visits; with any number to spare it makes as many and ends alike, with that number left.
pub record Made (F : State → Run) (least : ℕ) (s t : State) (end : State → Run) (spare : ℕ) : Type 0 where
  pub count : ℕ
  pub some : least ≤ count
  pub spent : s.left ≡ count + t.left
  pub always : (j : ℕ) → spare ≤ j → F (leaving (count + j) s) ≡ end (leaving j t)

-- Refused for depth there was a visit to spare, or it would have been refused for effort.
abbrev pub Fact : (State → Run) → ℕ → State → Run → Type 0
Fact F least s (Run.effort p t) = Unit {0}
Fact F least s (Run.deep p t) = Made F 0 s t (Run.deep p) 1
Fact F least s (Run.done r t) = Made F least s t (Run.done r) 0

abbrev Steady : ℕ → (State → Run) → Type 0
Steady least F = (s : State) → Fact F least s (F s)

-- One run and then another.
both : (F : State → Run) (K : Answer → State → Run) (least spare : ℕ) (r : Answer) (s t u : State) (end : State → Run)
    → Made F least s t (Run.done r) 0 → Made (K r) 0 t u end spare → Made (λ s. after (F s) K) least s u end spare
unfolding after
both F K least spare r s t u end h k =
    let sh = h.spent in
    let sk = k.spent in
    let lh = h.some in
    record {
      count = h.count + k.count;
      some = omega arith;
      spent = omega arith;
      always = λ j l. rw (add_assoc h.count k.count j, h.always (k.count + j) (omega arith)) (k.always j l);
    }

then : (F : State → Run) (K : Answer → State → Run) (least : ℕ) → Steady least F → ((r : Answer) → Steady 0 (K r)) → Steady least (λ s. after (F s) K)
unfolding after
then F K least hF hK s = by (F s) (hF s)
  where
    on : (r : Answer) (t : State) → Made F least s t (Run.done r) 0 → (m : Run) → Fact (K r) 0 t m → Fact (λ s. after (F s) K) least s m
    on r t h (Run.effort p u) k = tt
    on r t h (Run.deep p u) k = both F K 0 1 r s t u (Run.deep p) (record { count = h.count; some = omega arith; spent = h.spent; always = h.always }) k
    on r t h (Run.done q u) k = both F K least 0 r s t u (Run.done q) h k

    by : (m : Run) → Fact F least s m → Fact (λ s. after (F s) K) least s (after m K)
    by (Run.effort p t) h = tt
    by (Run.deep p t) h = record { count = h.count; some = h.some; spent = h.spent; always = λ j l. rw (h.always j l) }
    by (Run.done r t) h = on r t h (K r t) (hK r t)

-- A run that is done at once.
at_once : (r : Answer) → Steady 0 (Run.done r)
at_once r s = record { count = 0; some = omega arith; spent = omega arith; always = λ j l. rw (zero-add j) }

of_range : (x : ℕ) (r : Answer) → Steady 0 (λ s. Run.done r (asked x s))
of_range x r s = record { count = 0; some = omega arith; spent = omega arith; always = λ j l. rw (zero-add j) }

of_wrapped : (a x : ℕ) (r : Answer) → Steady 0 (wrapped a x r)
unfolding wrapped
of_wrapped a x r = at_once _

weaker : (F : State → Run) → Steady 1 F → Steady 0 F
weaker F h s = by (F s) (h s)
  where
    by : (m : Run) → Fact F 1 s m → Fact F 0 s m
    by (Run.effort p t) k = tt
    by (Run.deep p t) k = k
    by (Run.done r t) k = record { count = k.count; some = omega arith; spent = k.spent; always = k.always }

-- ---- The kinds of nodes.
module _ (line : List ℕ) (v w u : Visit) (hv : (i x : ℕ) → Steady 0 (v i x)) (hw : (i x : ℕ) → Steady 0 (w i x)) (hu : (a x : ℕ) → Steady 0 (u a x)) where
  of_joined : (ts : Trees) (r : Answer) → Steady 0 (joined ts r)
  unfolding joined
  of_joined ts fail = at_once fail
  of_joined ts (ok e us) = at_once _

  of_second : (b : ℕ) (r : Answer) → Steady 0 (second v b r)
  unfolding second
  of_second b fail = at_once fail
  of_second b (ok e ts) = then (v b e) (joined ts) 0 (hv b e) (of_joined ts)

  of_otherwise : (b x : ℕ) (r : Answer) → Steady 0 (otherwise v b x r)
  unfolding otherwise
  of_otherwise b x fail = hv b x
  of_otherwise b x (ok e ts) = at_once _

  of_denied : (x : ℕ) (r : Answer) → Steady 0 (denied x r)
  unfolding denied
  of_denied x fail = at_once _
  of_denied x (ok e ts) = at_once fail

  of_repeated : (i x : ℕ) (r : Answer) → Steady 0 (repeated w i x r)
  unfolding repeated repeat_from
  of_repeated i x fail = at_once _
  of_repeated i x (ok e ts) = by (eqb x e)
    where
      by : (b : Bool) → Steady 0 (λ s. repeat_from w i x e ts s b)
      by true = at_once _
      by false = then (w i e) (joined ts) 0 (hw i e) (of_joined ts)

  of_apply : (i x : ℕ) (p : Node) → Steady 0 (λ s. apply line v w u i x s p)
  unfolding apply
  of_apply i x empty = at_once _
  of_apply i x (range lo hi) = of_range x _
  of_apply i x (rule a) = hu a x
  of_apply i x (seq a b) = then (v a x) (second v b) 0 (hv a x) (of_second b)
  of_apply i x (choice a b) = then (v a x) (otherwise v b x) 0 (hv a x) (of_otherwise b x)
  of_apply i x (not a) = then (v a x) (denied x) 0 (hv a x) (of_denied x)
  of_apply i x (rep a) = then (v a x) (repeated w i x) 0 (hv a x) (of_repeated i x)

-- ---- Growing: each attempt makes a visit, so that as many attempts as there are visits left are enough.
module _ (v : Answer → State → Run) (x : ℕ) (hv : (r : Answer) → Steady 1 (v r)) where
  -- As Made, with any bound on the attempts that is no less than the visits left.
  record Grown (e : ℕ) (ts : Trees) (s t : State) (end : State → Run) (spare : ℕ) : Type 0 where
    count : ℕ
    spent : s.left ≡ count + t.left
    always : (j f : ℕ) → spare ≤ j → count + j ≤ f → grow f v x e ts (leaving (count + j) s) ≡ end (leaving j t)

  abbrev GrownFact : ℕ → Trees → State → Run → Type 0
  GrownFact e ts s (Run.effort p t) = Unit {0}
  GrownFact e ts s (Run.deep p t) = Grown e ts s t (Run.deep p) 1
  GrownFact e ts s (Run.done r t) = Grown e ts s t (Run.done r) 0

  -- An attempt that stops the growing, and one from which it goes on.
  stops : (e : ℕ) (ts : Trees) (s t : State) (r : Answer) → Made (v (ok e ts)) 1 s t (Run.done r) 0
      → ((k : ℕ → Trees → State → Run) (u : State) → attempted k e ts r u ≡ Run.done (ok e ts) u) → Grown e ts s t (Run.done (ok e ts)) 0
  unfolding grow after
  stops e ts s t r h stop = let n = h.some in record { count = h.count; spent = h.spent; always = λ j f l m. again j f (omega arith) }
    where
      again : (j f : ℕ) → 1 ≤ f → grow f v x e ts (leaving (h.count + j) s) ≡ Run.done (ok e ts) (leaving j t)
      again j zero m = absurd (omega arith)
      again j (suc f) m = rw (h.always j (omega arith)) (stop (grow f v x) (leaving j t))

  goes_on : (e : ℕ) (ts : Trees) (s t u : State) (e' : ℕ) (ts' : Trees) (end : State → Run) (spare : ℕ) → Made (v (ok e ts)) 1 s t (Run.done (ok e' ts')) 0
      → ltb e e' ≡ true → Grown e' ts' t u end spare → Grown e ts s u end spare
  unfolding grow after attempted longer
  goes_on e ts s t u e' ts' end spare h q k =
      let n = h.some in
      let sh = h.spent in
      let sk = k.spent in
      record { count = h.count + k.count; spent = omega arith; always = again }
    where
      again : (j f : ℕ) → spare ≤ j → h.count + k.count + j ≤ f → grow f v x e ts (leaving (h.count + k.count + j) s) ≡ end (leaving j u)
      again j zero l m = let n = h.some in absurd (omega arith)
      again j (suc f) l m =
          let n = h.some in
          rw (add_assoc h.count k.count j, h.always (k.count + j) (omega arith), q) (k.always j f l (omega arith))

  refused : (e : ℕ) (ts : Trees) (s t : State) (p : ℕ) → Made (v (ok e ts)) 0 s t (Run.deep p) 1 → Grown e ts s t (Run.deep p) 1
  unfolding grow after
  refused e ts s t p h = record { count = h.count; spent = h.spent; always = again }
    where
      again : (j f : ℕ) → 1 ≤ j → h.count + j ≤ f → grow f v x e ts (leaving (h.count + j) s) ≡ Run.deep p (leaving j t)
      again j zero l m = absurd (omega arith)
      again j (suc f) l m = rw (h.always j l)

  of_attempt : (f : ℕ) → ((e : ℕ) (ts : Trees) (s : State) → s.left ≤ f → GrownFact e ts s (grow f v x e ts s)) → (e : ℕ) (ts : Trees) (s : State) → s.left ≤ suc f
      → (m : Run) → Fact (v (ok e ts)) 1 s m → GrownFact e ts s (after m (attempted (grow f v x) e ts))
  unfolding after attempted longer
  of_attempt f more e ts s le (Run.effort p t) h = tt
  of_attempt f more e ts s le (Run.deep p t) h = refused e ts s t p h
  of_attempt f more e ts s le (Run.done fail t) h = stops e ts s t fail h (λ k u. refl)
  of_attempt f more e ts s le (Run.done (ok e' ts') t) h = by (ltb e e') refl
    where
      on : ltb e e' ≡ true → (m : Run) → GrownFact e' ts' t m → GrownFact e ts s m
      on q (Run.effort p u) k = tt
      on q (Run.deep p u) k = goes_on e ts s t u e' ts' (Run.deep p) 1 h q k
      on q (Run.done r u) k = goes_on e ts s t u e' ts' (Run.done r) 0 h q k

      by : (b : Bool) → ltb e e' ≡ b → GrownFact e ts s (longer (grow f v x) e ts e' ts' t b)
      by true q = let n = h.some in let sh = h.spent in on q (grow f v x e' ts' t) (more e' ts' t (omega arith))
      by false q = stops e ts s t (ok e' ts') h (λ k u. rw q)

  of_grow : (f e : ℕ) (ts : Trees) (s : State) → s.left ≤ f → GrownFact e ts s (grow f v x e ts s)
  unfolding grow
  of_grow zero e ts s le = tt
  of_grow (suc f) e ts s le = of_attempt f (of_grow f) e ts s le (v (ok e ts) s) (hv (ok e ts) s)

  growing : (e : ℕ) (ts : Trees) → Steady 0 (λ s. grow s.left v x e ts s)
  growing e ts s = by (grow s.left v x e ts s) (of_grow s.left e ts s (omega arith))
    where
      by : (m : Run) → GrownFact e ts s m → Fact (λ s. grow s.left v x e ts s) 0 s m
      by (Run.effort p t) h = tt
      by (Run.deep p t) h = record { count = h.count; some = omega arith; spent = h.spent; always = λ j l. h.always j (h.count + j) l (omega arith) }
      by (Run.done r t) h = record { count = h.count; some = omega arith; spent = h.spent; always = λ j l. h.always j (h.count + j) l (omega arith) }

  of_first : (a : ℕ) (r : Answer) → Steady 0 (first_attempt v a x r)
  unfolding first_attempt
  of_first a fail = at_once fail
  of_first a (ok e ts) = then (λ s. grow s.left v x e ts s) (wrapped a x) 0 (growing e ts) (of_wrapped a x)

  of_live : (a : ℕ) (o : Option Answer) → Steady 0 (λ s. use_live v a x s o)
  unfolding use_live
  of_live a none = then (v fail) (first_attempt v a x) 0 (weaker (v fail) (hv fail)) (of_first a)
  of_live a (some r) = at_once _

-- ---- Visits.
-- A visit that may be made makes one more than what k makes; and one that is too deep is refused as soon as one is left.
of_counted : (x : ℕ) (K : State → Run) → Steady 0 K → Steady 1 (λ s. counted s.left x s K)
unfolding counted
of_counted x K h s = by s.left refl
  where
    one_more : (l least spare : ℕ) (t : State) (end : State → Run) → least ≤ 1 → s.left ≡ suc l → Made K 0 (leaving l s) t end spare
        → Made (λ s. counted s.left x s K) least s t end spare
    one_more l least spare t end le e k =
        let n = k.spent in
        record { count = suc k.count; some = omega arith; spent = omega arith; always = λ j m. rw (suc-add k.count j) (k.always j m) }

    on : (l : ℕ) → s.left ≡ suc l → (m : Run) → Fact K 0 (leaving l s) m → Fact (λ s. counted s.left x s K) 1 s m
    on l e (Run.effort p t) k = tt
    on l e (Run.deep p t) k = one_more l 0 1 t (Run.deep p) (omega arith) e k
    on l e (Run.done r t) k = one_more l 1 0 t (Run.done r) (omega arith) e k

    by : (n : ℕ) → s.left ≡ n → Fact (λ s. counted s.left x s K) 1 s (counted n x s K)
    by zero e = tt
    by (suc l) e = on l e (K (leaving l s)) (h (leaving l s))

too_deep : (x : ℕ) → Steady 1 (λ s. counted s.left x s (λ t. Run.deep x s))
unfolding counted
too_deep x s = by s.left
  where
    again : (j : ℕ) → 1 ≤ j → counted j x (leaving j s) (λ t. Run.deep x (leaving j s)) ≡ Run.deep x (leaving j s)
    again zero l = absurd (omega arith)
    again (suc j) l = refl

    by : (n : ℕ) → Fact (λ s. counted s.left x s (λ t. Run.deep x s)) 1 s (counted n x s (λ t. Run.deep x s))
    by zero = tt
    by (suc l) = record { count = 0; some = omega arith; spent = omega arith; always = λ j m. rw (zero-add j) (again j m) }

-- G is F with any bound that is no less than the visits left, as each of which is steady: so many visits were made whatever the bound was.
module _ (F : ℕ → State → Run) (G : State → Run) (same : (f : ℕ) (s : State) → s.left ≤ f → F f s ≡ G s) where
  whatever : (least spare : ℕ) (s t : State) (end : State → Run) → ((f : ℕ) → s.left ≤ f → Made (F f) least s t end spare) → Made G least s t end spare
  whatever least spare s t end h =
      let k = h s.left (omega arith) in
      record { count = k.count; some = k.some; spent = k.spent; always = λ j l. again k.count k.spent j l }
    where
      again : (n : ℕ) → s.left ≡ n + t.left → (j : ℕ) → spare ≤ j → G (leaving (n + j) s) ≡ end (leaving j t)
      again n e j l =
          let f : ℕ = s.left + (n + j) in
          let k = h f (omega arith) in
          let z = k.spent in
          let m : k.count ≡ n = omega arith in
          sym (same f (leaving (n + j) s) (omega arith)) ∙ subst (λ c. F f (leaving (c + j) s) ≡ end (leaving j t)) m (k.always j l)

  of_bounds : ((f : ℕ) → Steady 1 (F f)) → Steady 1 G
  of_bounds h s = by (G s) (λ f le. subst (Fact (F f) 1 s) (same f s le) (h f s))
    where
      by : (m : Run) → ((f : ℕ) → s.left ≤ f → Fact (F f) 1 s m) → Fact G 1 s m
      by (Run.effort p t) k = tt
      by (Run.deep p t) k = whatever 0 1 s t (Run.deep p) k
      by (Run.done r t) k = whatever 1 0 s t (Run.done r) k

module _ (g : Grammar) (line : List ℕ) where
  module _ (v : List Note → Visit) (hv : (l : List Note) (i x : ℕ) → Steady 1 (v l i x)) where
    of_by : (b : Bool) (l : List Note) (a x : ℕ) → Steady 0 (use_by g line b v l a x)
    unfolding use_by
    of_by false l a x = then (v l (root_of g a) x) (wrapped a x) 0 (weaker (v l (root_of g a) x) (hv l (root_of g a) x)) (of_wrapped a x)
    of_by true l a x = of_live (λ r. v (noted a x r l) (root_of g a) x) x (λ r. hv (noted a x r l) (root_of g a) x) a (look l a x)

    of_use : (way : Way) (l : List Note) (a x : ℕ) → Steady 0 (use_rule g line way v l a x)
    of_use way l a = of_by (becomes_live way a) l a

    of_keep : (i x : ℕ) (r : Answer) → Steady 0 (keep i x r)
    unfolding keep
    of_keep i x r s = record { count = 0; some = omega arith; spent = omega arith; always = λ j l. rw (zero-add j) }

    -- w visits in place.
    module _ (w : List Note → Visit) (hw : (l : List Note) (i x : ℕ) → Steady 1 (w l i x)) where
      of_node : (way : Way) (l : List Note) (i x : ℕ) → Steady 0 (λ s. apply line (v l) (w l) (use_rule g line way v l) i x s (node g i))
      of_node way l i x =
          of_apply line (v l) (w l) (use_rule g line way v l) (λ j y. weaker (v l j y) (hv l j y)) (λ j y. weaker (w l j y) (hw l j y)) (of_use way l) i x (node g i)

      of_recall : (l : List Note) (i x : ℕ) (o : Option Answer) → Steady 0 (λ s. recall g line v w l i x s o)
      unfolding recall
      of_recall l i x (some r) = at_once r
      of_recall l i x none = then (λ s. apply line (v l) (w l) (use_rule g line keeps v l) i x s (node g i)) (keep i x) 0 (of_node keeps l i x) (of_keep i x)

      of_visited : (way : Way) (l : List Note) (i x : ℕ) → Steady 0 (visited g line way v w l i x)
      unfolding visited
      of_visited keeps l i x s = by (recall g line v w l i x s (look s.kept i x)) (of_recall l i x (look s.kept i x) s)
        where
          by : (m : Run) → Fact (λ t. recall g line v w l i x t (look s.kept i x)) 0 s m → Fact (visited g line keeps v w l i x) 0 s m
          by (Run.effort p t) h = tt
          by (Run.deep p t) h = record { count = h.count; some = h.some; spent = h.spent; always = h.always }
          by (Run.done r t) h = record { count = h.count; some = h.some; spent = h.spent; always = h.always }
      of_visited (grows live) l i x s = of_node (grows live) l i x s

    -- With any bound on the visits made in one place.
    of_place : (way : Way) (f : ℕ) (l : List Note) (i x : ℕ) → Steady 1 (in_place g line way f v l i x)
    unfolding in_place
    of_place way zero l i x = hv l i x
    of_place way (suc f) l i x =
        let w : List Note → Visit = in_place g line way f v in
        of_counted x (visited g line way v w l i x) (of_visited w (of_place way f) way l i x)

  of_visit : (way : Way) (d : ℕ) (l : List Note) (i x : ℕ) → Steady 1 (visit g line way d l i x)
  unfolding visit
  of_visit way zero l i x = too_deep x
  of_visit way (suc d) l i x = let v : List Note → Visit = visit g line way d in
      of_bounds (λ f. in_place g line way f v l i x) (visit g line way (suc d) l i x) (λ f s le. in_place_is g line way d f l i x s le) (λ f. of_place v (of_visit way d) way f l i x)

  -- ---- The reading.
  module _ (way : Way) where
    -- In n visits it ends so, with f as the furthest position, whatever number is to spare.
    abbrev pub Always : (n f spare : ℕ) → (State → Run) → Type 0
    Always n f spare end = (j : ℕ) → spare ≤ j → (u : State) × (u.left ≡ j) × (u.furthest ≡ f) × (read_by g line way (n + j) ≡ end u)

    always : {a spare : ℕ} {t : State} {end : State → Run} → Made (use_rule g line way (visit g line way 512) [] 0 0) 0 (starting a) t end spare
        → (n : ℕ) × (a ≡ n + t.left) × Always n t.furthest spare end
    unfolding read_by
    always {t = t} h = (h.count, h.spent, λ j l. (leaving j t, refl, refl, h.always j l))

    fact : (a : ℕ) (m : Run) → read_by g line way a ≡ m → Fact (use_rule g line way (visit g line way 512) [] 0 0) 0 (starting a) m
    unfolding read_by
    fact a m e = subst (Fact (use_rule g line way (visit g line way 512) [] 0 0) 0 (starting a)) e (of_use (visit g line way 512) (of_visit way 512) way [] 0 0 (starting a))

    pub done_always : (a : ℕ) (r : Answer) (t : State) → read_by g line way a ≡ Run.done r t → (n : ℕ) × (a ≡ n + t.left) × Always n t.furthest 0 (Run.done r)
    done_always a r t e = always (fact a (Run.done r t) e)

    pub deep_always : (a p : ℕ) (t : State) → read_by g line way a ≡ Run.deep p t → (n : ℕ) × (a ≡ n + t.left) × Always n t.furthest 1 (Run.deep p)
    deep_always a p t e = always (fact a (Run.deep p t) e)

    pub larger : (a n f spare : ℕ) (end : State → Run) → Always n f spare end → n + spare ≤ a → (u : State) × (u.left ≡ a - n) × (u.furthest ≡ f) × (read_by g line way a ≡ end u)
    larger a n f spare end h l =
        let e : a ≡ n + (a - n) = omega arith in
        let k = h (a - n) (omega arith) in
        (k.0, k.1, k.2, ap (read_by g line way) e ∙ k.3)

    -- With fewer visits than it made, a reading that was done is refused for effort.
    pub fewer : (a b : ℕ) (r : Answer) (t : State) → read_by g line way a ≡ Run.done r t → b + t.left < a → (p : ℕ) × (u : State) × (read_by g line way b ≡ Run.effort p u)
    fewer a b r t e less = by (read_by g line way b) refl
      where
        by : (m : Run) → read_by g line way b ≡ m → (p : ℕ) × (u : State) × (m ≡ Run.effort p u)
        by (Run.effort p u) q = (p, u, refl)
        by (Run.deep p u) q =
            let h = deep_always b p u q in
            let s = h.1 in
            let k = larger a h.0 u.furthest 1 (Run.deep p) h.2 (omega arith) in
            let d : Run.deep p k.0 ≡ Run.done r t = sym k.3 ∙ e in
            let z : ◌≡◌ {A = ℕ} 0 1 = cc in
            absurd (omega arith)
        by (Run.done r' u) q =
            let h = done_always b r' u q in
            let s = h.1 in
            let k = larger a h.0 u.furthest 0 (Run.done r') h.2 (omega arith) in
            let d : Run.done r' k.0 ≡ Run.done r t = sym k.3 ∙ e in
            let z : k.0 ≡ t = cc in
            let w : t.left ≡ a - h.0 = ap (λ (v : State). v.left) (sym z) ∙ k.1 in
            absurd (omega arith)
