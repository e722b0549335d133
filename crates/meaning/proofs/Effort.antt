-- A reading is refused for effort only with no visit left, and for depth only with one left, in free grammars and in others.
use mathlib.Core.Path.{◌≡◌}
use Prim.Native.Nat.{ℕ, zero, suc, ◌<◌, ◌≤◌}
use mathlib.Core.Bool.{Bool, true, false}
use mathlib.Core.List.{List, []}
use mathlib.Core.Option.{Option, none, some}
use lib.Dec.{ltb}
use native.Mathlib.Omega.{arith}
use Rattle.meaning.specs.Grammar.{Node, Grammar, root_of, Trees, Answer, fail, ok, Note, noted, look}
use Rattle.meaning.specs.Reading.{State, starting, spent, Run, Visit, after, wrapped, longer, attempted, grow, first_attempt, use_live, keep, Way, keeps, grows, becomes_live, use_by, use_rule, recall, visited, in_place, visit, read_by}
use Rattle.meaning.proofs.Runs.{Ends, ends_after, ends_map, ends_counted}
use Rattle.meaning.proofs.Walk as W
use Rattle.meaning.proofs.Walk.{Leaf, Refusal, by_effort, by_depth, Laws, walk}

-- What is left where a run that has n visits is refused.
abbrev pub Refused : ℕ → Refusal → State → Type 0
Refused n by_effort t = t.left ≡ 0
Refused n by_depth t = (0 < t.left) × (t.left ≤ n)

-- Where it is done no more is left than there was; where a visit is done, less.
abbrev Spends : ℕ → Run → Type 0
Spends n m = Ends (Refused n by_effort) (Refused n by_depth) (λ r t. t.left ≤ n) m

abbrev pub Visits : ℕ → Run → Type 0
Visits n m = Ends (Refused n by_effort) (Refused n by_depth) (λ r t. t.left < n) m

less : (n m : ℕ) → n ≤ m → (why : Refusal) (t : State) → Refused n why t → Refused m why t
less n m le by_effort t h = h
less n m le by_depth t h = omega arith

-- A visit and what is done after it.
on : (n m : ℕ) (v : Run) (k : Answer → State → Run) → n ≤ m → Visits n v → ((r : Answer) (t : State) → t.left < n → Spends m (k r t)) → Spends m (after v k)
on n m v k le h c = ends_after _ v k h (less n m le by_effort) (less n m le by_depth) c

module _ (x : ℕ) (v : Answer → State → Run) (hv : (r : Answer) (s : State) → Visits s.left (v r s)) where
  -- Every attempt makes a visit: where f attempts are made, f visits were.
  of_attempt : (f n : ℕ) (k : ℕ → Trees → State → Run) → ((e : ℕ) (ts : Trees) (s : State) → s.left ≤ f → s.left ≤ n → Spends n (k e ts s))
      → (e : ℕ) (ts : Trees) (r : Answer) (t : State) → t.left ≤ f → t.left ≤ n → Spends n (attempted k e ts r t)
  unfolding attempted longer
  of_attempt f n k hk e ts fail t le lf = lf
  of_attempt f n k hk e ts (ok e' ts') t le lf = by (ltb e e')
    where
      by : (b : Bool) → Spends n (longer k e ts e' ts' t b)
      by true = hk e' ts' t le lf
      by false = lf

  of_grow : (f n e : ℕ) (ts : Trees) (s : State) → s.left ≤ f → s.left ≤ n → Spends n (grow f v x e ts s)
  unfolding grow
  of_grow zero n e ts s le lf = omega arith
  of_grow (suc f) n e ts s le lf =
      on s.left n (v (ok e ts) s) (attempted (grow f v x) e ts) lf (hv (ok e ts) s) (λ r t h. of_attempt f n (grow f v x) (of_grow f n) e ts r t (omega arith) (omega arith))

  of_first : (n a : ℕ) (r : Answer) (t : State) → t.left ≤ n → Spends n (first_attempt v a x r t)
  unfolding first_attempt wrapped
  of_first n a fail t le = le
  of_first n a (ok e ts) t le =
      ends_after _ (grow t.left v x e ts t) (wrapped a x) (of_grow t.left n e ts t (omega arith) le) (λ u h. h) (λ u h. h) (λ r u h. h)

  of_live : (a : ℕ) (s : State) (o : Option Answer) → Spends s.left (use_live v a x s o)
  unfolding use_live
  of_live a s none = on s.left s.left (v fail s) (first_attempt v a x) (omega arith) (hv fail s) (λ r t h. of_first s.left a r t (omega arith))
  of_live a s (some r) = omega arith

module _ (g : Grammar) (line : List ℕ) where
  -- A node that visits none spends none.
  stays : {x : ℕ} {s t : State} {p : Node} {r : Answer} → Leaf line x s p r t → t.left ≤ s.left
  stays W.empty1 = omega arith
  stays (W.char1 q) = omega arith
  stays (W.char2 q) = omega arith

  laws : Laws g line (λ p i x s r t. t.left < s.left) (λ a x s r t. t.left ≤ s.left) (λ i x s r t. t.left ≤ s.left)
      (λ p why i x s. Refused s.left why) (λ why a x s. Refused s.left why) (λ why i x s. Refused s.left why)
  laws = record {
    leaf = λ i x r s t w. stays w;
    uses = λ i a x r s t e h. h;
    one = λ i x a r q s t f c h. omega arith;
    two = λ i x a b y p r q w s t u f c h k. omega arith;
    uses_refused = λ why i a x s t e h. h;
    one_refused = λ why i x a s t f h. h;
    two_refused = λ why i x a b y p r w s t u f c h k. less t.left s.left (omega arith) why u k;
  }

  module _ (v : List Note → Visit) (hv : (l : List Note) (i x : ℕ) (s : State) → Visits s.left (v l i x s)) where
    of_by : (b : Bool) (l : List Note) (a x : ℕ) (s : State) → Spends s.left (use_by g line b v l a x s)
    unfolding use_by wrapped
    of_by false l a x s = on s.left s.left (v l (root_of g a) x s) (wrapped a x) (omega arith) (hv l (root_of g a) x s) (λ r t h. omega arith)
    of_by true l a x s = of_live x (λ r. v (noted a x r l) (root_of g a) x) (λ r. hv (noted a x r l) (root_of g a) x) a s (look l a x)

    of_use : (way : Way) (l : List Note) (a x : ℕ) (s : State) → Spends s.left (use_rule g line way v l a x s)
    of_use way l a = of_by (becomes_live way a) l a

    -- w visits in place.
    module _ (w : List Note → Visit) (hw : (l : List Note) (i x : ℕ) (s : State) → Visits s.left (w l i x s)) where
      of_recall : (l : List Note) (i x : ℕ) (s : State) (o : Option Answer) → Spends s.left (recall g line v w l i x s o)
      unfolding recall keep
      of_recall l i x s (some r) = omega arith
      of_recall l i x s none =
          ends_after _ _ (keep i x) (walk laws (v l) (hv l) (w l) (hw l) (use_rule g line keeps v l) (of_use keeps l) i x s) (λ u h. h) (λ u h. h) (λ r u h. h)

      of_visited : (way : Way) (l : List Note) (i x : ℕ) (s : State) → Spends s.left (visited g line way v w l i x s)
      unfolding visited
      of_visited keeps l i x s = of_recall l i x s (look s.kept i x)
      of_visited (grows live) l i x s = walk laws (v l) (hv l) (w l) (hw l) (use_rule g line (grows live) v l) (of_use (grows live) l) i x s

    of_place : (way : Way) (f : ℕ) (l : List Note) (i x : ℕ) (s : State) → Visits s.left (in_place g line way f v l i x s)
    unfolding in_place
    of_place way zero l i x s = hv l i x s
    of_place way (suc f) l i x s =
        let w : List Note → Visit = in_place g line way f v in
        ends_counted _ _ _ s.left x s (visited g line way v w l i x) (λ e. e)
        (λ n e. let t : State = spent n s in
        ends_map (visited g line way v w l i x t) (of_visited w (of_place way f) way l i x t) (λ u h. h) (λ u h. omega arith) (λ r u h. omega arith))

  pub of_visit : (way : Way) (d : ℕ) (l : List Note) (i x : ℕ) (s : State) → Visits s.left (visit g line way d l i x s)
  unfolding visit
  of_visit way zero l i x s = ends_counted _ _ _ s.left x s (λ t. _) (λ e. e) (λ n e. omega arith)
  of_visit way (suc d) l i x s = of_place (visit g line way d) (of_visit way d) way s.left l i x s

  pub effort_left : (way : Way) (allowance : ℕ)
      → Ends (λ t. t.left ≡ 0) (λ t. (0 < t.left) × (t.left ≤ allowance)) (λ r t. t.left ≤ allowance) (read_by g line way allowance)
  unfolding read_by
  effort_left way allowance = of_use (visit g line way 512) (of_visit way 512) way [] 0 0 (starting allowance)
