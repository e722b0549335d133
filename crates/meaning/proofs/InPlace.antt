-- 02's W-208: a repetition's next visit of itself is made with as many visits open as it was itself. The number that bounds the visits made in one place is no bound:
-- where it is used up no visit is left. So a visit is given by one equation, without it.
use mathlib.Core.Path.{◌≡◌, refl, sym, ◌∙◌}
use Prim.Native.Nat.{ℕ, zero, suc, ◌≤◌}
use mathlib.Core.Bool.{Bool, true, false}
use mathlib.Core.List.{List}
use mathlib.Core.Option.{Option, none, some}
use lib.Dec.{eqb}
use native.Mathlib.Omega.{arith}
use Rattle.meaning.specs.Grammar.{Node, empty, range, rule, seq, choice, not, rep, Grammar, node, Trees, Answer, fail, ok, Note, look}
use Rattle.meaning.specs.Reading.{State, spent, Run, effort, deep, done, Visit, after, repeat_from, repeated, apply, counted, Way, keeps, grows, use_rule, recall, visited, in_place, visit}
use Rattle.meaning.proofs.Runs.{All, ends_map}
use Rattle.meaning.proofs.Effort.{Visits, of_visit}

-- After one run, what is the same wherever it is done.
after_same : (m : Run) (k k' : Answer → State → Run) → All (λ r t. k r t ≡ k' r t) m → after m k ≡ after m k'
unfolding after
after_same (effort p t) k k' h = refl
after_same (deep p t) k k' h = refl
after_same (done r t) k k' h = h

counted_same : (n x : ℕ) (s : State) (k k' : State → Run) → ((l : ℕ) → n ≡ suc l → k (spent l s) ≡ k' (spent l s)) → counted n x s k ≡ counted n x s k'
unfolding counted
counted_same zero x s k k' h = refl
counted_same (suc l) x s k k' h = h l refl

-- With no visit left.
counted_none : (n x : ℕ) (s : State) (k : State → Run) → n ≡ 0 → counted n x s k ≡ effort x s
unfolding counted
counted_none zero x s k e = refl
counted_none (suc l) x s k e = absurd (omega arith)

module _ (g : Grammar) (line : List ℕ) where
  -- v visits below and leaves less; w and z visit in place, the same where at most n visits are left.
  module _ (v : List Note → Visit) (hv : (l : List Note) (i x : ℕ) (s : State) → Visits s.left (v l i x s)) (n : ℕ) (w z : List Note → Visit)
      (same : (l : List Note) (i x : ℕ) (s : State) → s.left ≤ n → w l i x s ≡ z l i x s) (l : List Note) (i x : ℕ) where
    repeat_same : (e : ℕ) (ts : Trees) (t : State) → t.left ≤ n → (b : Bool) → repeat_from (w l) i x e ts t b ≡ repeat_from (z l) i x e ts t b
    unfolding repeat_from
    repeat_same e ts t le true = refl
    repeat_same e ts t le false = rw (same l i e t le)

    repeated_same : (r : Answer) (t : State) → t.left ≤ n → repeated (w l) i x r t ≡ repeated (z l) i x r t
    unfolding repeated
    repeated_same fail t le = refl
    repeated_same (ok e ts) t le = repeat_same e ts t le (eqb x e)

    apply_same : (u : Visit) (s : State) → s.left ≤ n → (p : Node) → apply line (v l) (w l) u i x s p ≡ apply line (v l) (z l) u i x s p
    unfolding apply
    apply_same u s le empty = refl
    apply_same u s le (range lo hi) = refl
    apply_same u s le (rule a) = refl
    apply_same u s le (seq a b) = refl
    apply_same u s le (choice a b) = refl
    apply_same u s le (not a) = refl
    apply_same u s le (rep a) =
        after_same (v l a x s) (repeated (w l) i x) (repeated (z l) i x)
        (ends_map (v l a x s) (hv l a x s) (λ t h. tt) (λ t h. tt) (λ r t h. repeated_same r t (omega arith)))

    recall_same : (s : State) → s.left ≤ n → (o : Option Answer) → recall g line v w l i x s o ≡ recall g line v z l i x s o
    unfolding recall
    recall_same s le (some r) = refl
    recall_same s le none = rw (apply_same (use_rule g line keeps v l) s le (node g i))

    visited_same : (way : Way) (s : State) → s.left ≤ n → visited g line way v w l i x s ≡ visited g line way v z l i x s
    unfolding visited
    visited_same keeps s le = recall_same s le (look s.kept i x)
    visited_same (grows live) s le = apply_same (use_rule g line (grows live) v l) s le (node g i)

  -- Any bound will do that is no less than the visits left; v refuses a visit where none is.
  module _ (way : Way) (v : List Note → Visit) (hv : (l : List Note) (i x : ℕ) (s : State) → Visits s.left (v l i x s))
      (out : (l : List Note) (i x : ℕ) (s : State) → s.left ≡ 0 → v l i x s ≡ effort x s) where
    pub place_out : (f : ℕ) (l : List Note) (i x : ℕ) (s : State) → s.left ≡ 0 → in_place g line way f v l i x s ≡ effort x s
    unfolding in_place
    place_out zero l i x s e = out l i x s e
    place_out (suc f) l i x s e = counted_none s.left x s (visited g line way v (in_place g line way f v) l i x) e

    pub enough : (f h : ℕ) (l : List Note) (i x : ℕ) (s : State) → s.left ≤ f → s.left ≤ h → in_place g line way f v l i x s ≡ in_place g line way h v l i x s
    unfolding in_place
    enough zero h l i x s le lh = place_out zero l i x s (omega arith) ∙ sym (place_out h l i x s (omega arith))
    enough (suc f) zero l i x s le lh = place_out (suc f) l i x s (omega arith) ∙ sym (place_out zero l i x s (omega arith))
    enough (suc f) (suc h) l i x s le lh =
        let w : List Note → Visit = in_place g line way f v in
        let z : List Note → Visit = in_place g line way h v in
        counted_same s.left x s (visited g line way v w l i x) (visited g line way v z l i x)
        (λ n e. visited_same v hv n w z (λ l j y t lt. enough f h l j y t (omega arith) (omega arith)) l i x way (spent n s) (omega arith))

  pub visit_out : (way : Way) (d : ℕ) (l : List Note) (i x : ℕ) (s : State) → s.left ≡ 0 → visit g line way d l i x s ≡ effort x s
  unfolding visit
  visit_out way zero l i x s e = counted_none s.left x s (λ t. deep x s) e
  visit_out way (suc d) l i x s e = place_out way (visit g line way d) (of_visit g line way d) (visit_out way d) s.left l i x s e

  pub in_place_is : (way : Way) (d f : ℕ) (l : List Note) (i x : ℕ) (s : State) → s.left ≤ f → in_place g line way f (visit g line way d) l i x s ≡ visit g line way (suc d) l i x s
  unfolding visit
  in_place_is way d f l i x s le = enough way (visit g line way d) (of_visit g line way d) (visit_out way d) f s.left l i x s le (omega arith)

  -- The equation of a visit: what it makes below is visited with one less that may be open, and what it makes in its place with as many as itself.
  pub visit_open : (way : Way) (d : ℕ) (l : List Note) (i x : ℕ) (s : State)
      → visit g line way (suc d) l i x s ≡ counted s.left x s (visited g line way (visit g line way d) (visit g line way (suc d)) l i x)
  unfolding in_place
  visit_open way d l i x s =
      let v : List Note → Visit = visit g line way d in
      let w : List Note → Visit = in_place g line way s.left v in
      let z : List Note → Visit = visit g line way (suc d) in
      let whole : in_place g line way (suc s.left) v l i x s ≡ z l i x s = in_place_is way d (suc s.left) l i x s (omega arith) in
      sym whole ∙ counted_same s.left x s (visited g line way v w l i x) (visited g line way v z l i x)
      (λ n e. visited_same v (of_visit g line way d) n w z (λ m j y t lt. in_place_is way d s.left m j y t (omega arith)) l i x way (spent n s) (omega arith))
