-- Where the bounded rules answer in n visits, a reading that keeps nothing and has n visits gives that answer in n visits, whichever rules become live; it is refused
-- for depth only if more of them are open at once than may be.
use mathlib.Core.Path.{◌≡◌, refl, sym, subst, ap}
use Prim.Native.Nat.{ℕ, zero, suc, ◌+◌, ◌-◌, ◌<◌, ◌≤◌}
use mathlib.Core.Bool.{Bool, true, false}
use mathlib.Core.List.{List}
use mathlib.Core.Option.{none, some}
use borrow.Author.Tests.{eq-eqb, ne_eqb, lt-ltb, le-ltb}
use native.Mathlib.Omega.{arith}
use Rattle.meaning.specs.Grammar.{Node, rule, Grammar, node, root_of, root, Trees, Answer, fail, ok, wrap, Note, noted, look}
use Rattle.meaning.specs.Reading.{State, starting, spent, Run, deep, done, after, byte, joined, second, otherwise, denied, repeat_from, repeated, apply}
use Rattle.meaning.specs.Reading.{wrapped, longer, attempted, grow, first_attempt, use_live, Way, grows, use_by, use_rule, visited, visit, read_by}
use Rattle.meaning.specs.Rules.{Goal, at, inc, Amount, nothing, asking, ◌⊕◌, visiting, in_place, Bounded, Reads}
use Rattle.meaning.specs.Rules as R
use Rattle.meaning.proofs.Runs.{Ends, All, ends_after, ends_map, ends_counted, all_map}
use Rattle.meaning.proofs.OneBounded.{unvisit, one_reading}
use Rattle.meaning.proofs.InPlace.{visit_open}
use Rattle.meaning.proofs.Sound.{read_sound}

-- The run is not refused for effort, and for depth only if it needs more than d visits open at once, which are o; else it answers r and makes n of the visits left.
pub record Gives (d left n o : ℕ) (r : Answer) (m : Run) : Type 0 where
  pub ends : Ends (λ t. ⊥) (λ t. d < o) (λ q t. (q ≡ r) × (left ≡ n + t.left)) m

-- It is done; another run comes after it; it comes last, after others.
now : {d left n o : ℕ} {r : Answer} {t : State} → left ≡ n + t.left → Gives d left n o r (done r t)
now z = record { ends = (refl, z) }

then : {d left n o left' n' o' : ℕ} {r r' : Answer} {m : Run} (k : Answer → State → Run) → Gives d left n o r m → o ≤ o'
    → ((t : State) → left ≡ n + t.left → Gives d left' n' o' r' (k r t)) → Gives d left' n' o' r' (after m k)
then {d = d} {left' = left'} {n' = n'} {o' = o'} {r' = r'} {m = m} k h le f =
    record { ends = ends_after _ m k h.ends (λ s z. z) (λ s z. omega arith) (λ q t w. (subst (λ z. Gives d left' n' o' r' (k z t)) (sym w.0) (f t w.1)).ends) }

last : {d left n o left' n' o' : ℕ} {r : Answer} {m : Run} → Gives d left n o r m → o ≤ o' → ((t : State) → left ≡ n + t.left → left' ≡ n' + t.left) → Gives d left' n' o' r m
last {m = m} h le f = record { ends = ends_map m h.ends (λ s z. z) (λ s z. omega arith) (λ q t w. (w.0, f t w.1)) }

-- In place: one less is open than there would be below.
in_place_lem : {d left n o : ℕ} {r : Answer} {m : Run} → Gives (suc d) left n o r m → Gives d left n (o - 1) r m
in_place_lem {m = m} h = record { ends = ends_map m h.ends (λ s z. z) (λ s z. omega arith) (λ q t w. w) }

module _ (g : Grammar) (line : List ℕ) (live : ℕ → Bool) where
  -- The way: nothing is kept.
  abbrev way : Way
  way = grows live

  -- Every visit counts, and every attempt makes one.
  some_visit : {l : List Note} {p : Goal} {x : ℕ} {n : Amount} {r : Answer} → Bounded g line live l p x r n → 0 < n.visits
  some_visit R.empty1 = omega arith
  some_visit (R.char1 q) = omega arith
  some_visit (R.char2 q) = omega arith
  some_visit (R.con1 h k) = omega arith
  some_visit (R.con2 h k) = omega arith
  some_visit (R.con3 h) = omega arith
  some_visit (R.ord1 h) = omega arith
  some_visit (R.ord2 h k) = omega arith
  some_visit (R.not1 h) = omega arith
  some_visit (R.not2 h) = omega arith
  some_visit (R.rep1 h) = omega arith
  some_visit (R.rep2 h q k) = omega arith
  some_visit (R.rep3 h) = omega arith
  some_visit (R.var w h) = omega arith
  some_visit (R.lvar1 w o h k) = omega arith
  some_visit (R.lvar2 w o h) = omega arith
  some_visit (R.lvar3 w o) = omega arith
  some_visit (R.inc1 h q k) = let z = some_visit h in omega arith
  some_visit (R.inc2 h) = some_visit h
  some_visit (R.inc3 h q) = some_visit h

  abbrev pub root_visit : ℕ → List Note → ℕ → ℕ → Answer → State → Run
  root_visit d l a x r = visit g line way d (noted a x r l) (root_of g a) x

  -- However many visits may be open, a visit of node p gives it, and growing on with at least n attempts allowed.
  abbrev pub Comes : List Note → Goal → ℕ → Answer → Amount → Type 0
  Comes l (at p) x r n = (d i : ℕ) (s : State) → node g i ≡ p → n.visits ≤ s.left → Gives d s.left n.visits n.depth r (visit g line way d l i x s)
  Comes l (inc a e ts) x r n = (d f : ℕ) (s : State) → n.visits ≤ f → n.visits ≤ s.left → Gives d s.left n.visits n.depth r (grow f (root_visit d l a x) x e ts s)

  -- The same of node p's application, and of a use of rule a, once the visit that it is has been counted.
  abbrev Applies : List Note → Node → ℕ → Answer → Amount → Type 0
  Applies l p x r n = (d i : ℕ) (s : State) → node g i ≡ p → n.visits ≤ s.left
      → Gives d s.left n.visits n.depth r (apply line (visit g line way d l) (visit g line way (suc d) l) (use_rule g line way (visit g line way d) l) i x s p)

  abbrev Uses : List Note → ℕ → ℕ → Answer → Amount → Type 0
  Uses l a x r n = (d : ℕ) (s : State) → n.visits ≤ s.left → Gives d s.left n.visits n.depth r (use_rule g line way (visit g line way d) l a x s)

  -- The visit itself is one more.
  enter : (l : List Note) (x : ℕ) {p : Node} (n : Amount) {r : Answer} → Applies l p x r n → Comes l (at p) x r (visiting n)
  unfolding visit visited
  enter l x n h zero i s e le = record { ends = ends_counted _ _ _ s.left x s (λ t. deep x s) (λ z. omega arith) (λ m z. omega arith) }
  enter l x {p} n {r} h (suc d) i s e le = subst (Gives (suc d) s.left (suc n.visits) (suc n.depth) r) (sym (visit_open g line way d l i x s))
      (record {
        ends = ends_counted _ _ _ s.left x s (visited g line way (visit g line way d) (visit g line way (suc d)) l i x) (λ z. omega arith)
            (λ m z. let t : State = spent m s in
            let here : Node → Run = apply line (visit g line way d l) (visit g line way (suc d) l) (use_rule g line way (visit g line way d) l) i x t in
            let j : Gives d m n.visits n.depth r (here (node g i)) = subst (λ w. Gives d m n.visits n.depth r (here w)) (sym e) (h d i t e (omega arith)) in
            ends_map (here (node g i)) j.ends (λ u y. y) (λ u y. omega arith) (λ q u w. (w.0, let c = w.1 in omega arith)));
      })

  of_var : (l : List Note) (a x : ℕ) (n : Amount) {r : Answer} → live a ≡ false → Comes l (at (root g a)) x r n → Uses l a x (wrap a x r) n
  unfolding use_by wrapped
  of_var l a x n w h d s le = rw w (then _ (h d (root_of g a) s refl le) (omega arith) (λ t z. now z))

  of_lvar1 : (l : List Note) (a x : ℕ) {e : ℕ} (n m : Amount) {ts : Trees} {r : Answer} → live a ≡ true → look l a x ≡ none → Comes (noted a x fail l) (at (root g a)) x (ok e ts) n
      → Comes l (inc a e ts) x r m → Uses l a x (wrap a x r) (n ⊕ m)
  unfolding use_by use_live first_attempt wrapped
  of_lvar1 l a x n m w o h k d s le =
      rw (w, o) (then _ (h d (root_of g a) s refl (omega arith)) (omega arith)
      (λ t z. then (wrapped a x) (k d t.left t (omega arith) (omega arith)) (omega arith) (λ u y. now (omega arith))))

  of_lvar2 : (l : List Note) (a x : ℕ) (n : Amount) → live a ≡ true → look l a x ≡ none → Comes (noted a x fail l) (at (root g a)) x fail n → Uses l a x fail n
  unfolding use_by use_live first_attempt
  of_lvar2 l a x n w o h d s le = rw (w, o) (then _ (h d (root_of g a) s refl le) (omega arith) (λ t z. now z))

  of_lvar3 : (l : List Note) (a x : ℕ) {r : Answer} → live a ≡ true → look l a x ≡ some r → Uses l a x (wrap a x r) nothing
  unfolding use_by use_live
  of_lvar3 l a x w o d s le = rw (w, o) (now (omega arith))

  -- One attempt at least may be made, and what is done after it has one less.
  of_grow : (d : ℕ) (l : List Note) (a x f e : ℕ) (ts : Trees) (n m : Amount) {q r : Answer} (s : State) → Comes (noted a x (ok e ts) l) (at (root g a)) x q n
      → 0 < n.visits → n.visits ≤ m.visits → n.depth ≤ m.depth → m.visits ≤ f → m.visits ≤ s.left
      → ((f' : ℕ) (t : State) → m.visits ≤ n.visits + f' → s.left ≡ n.visits + t.left → Gives d s.left m.visits m.depth r (attempted (grow f' (root_visit d l a x) x) e ts q t))
      → Gives d s.left m.visits m.depth r (grow f (root_visit d l a x) x e ts s)
  unfolding grow
  of_grow d l a x zero e ts n m s h w c b le lf k = absurd (omega arith)
  of_grow d l a x (suc f) e ts n m s h w c b le lf k = then _ (h d (root_of g a) s refl (omega arith)) b (λ t z. k f t (omega arith) z)

  pub complete : {l : List Note} {p : Goal} {x : ℕ} {n : Amount} {r : Answer} → Bounded g line live l p x r n → Comes l p x r n
  unfolding apply second otherwise denied repeated repeat_from joined byte attempted longer
  complete R.empty1 = enter _ _ nothing (λ d i s e le. now (omega arith))
  complete (R.char1 {x = x} q) = enter _ _ (asking x) (λ d i s e le. rw q (now (omega arith)))
  complete (R.char2 {x = x} q) = enter _ _ (asking x) (λ d i s e le. rw q (now (omega arith)))
  complete (R.con1 {n = n} {m = m} h k) =
      enter _ _ (n ⊕ m) (λ d i s e le. then _ (complete h d _ s refl (omega arith)) (omega arith)
      (λ t z. then _ (complete k d _ t refl (omega arith)) (omega arith) (λ u w. now (omega arith))))
  complete (R.con2 {n = n} {m = m} h k) =
      enter _ _ (n ⊕ m) (λ d i s e le. then _ (complete h d _ s refl (omega arith)) (omega arith)
      (λ t z. then _ (complete k d _ t refl (omega arith)) (omega arith) (λ u w. now (omega arith))))
  complete (R.con3 {n = n} h) = enter _ _ n (λ d i s e le. then _ (complete h d _ s refl le) (omega arith) (λ t z. now z))
  complete (R.ord1 {n = n} h) = enter _ _ n (λ d i s e le. then _ (complete h d _ s refl le) (omega arith) (λ t z. now z))
  complete (R.ord2 {n = n} {m = m} h k) =
      enter _ _ (n ⊕ m) (λ d i s e le. then _ (complete h d _ s refl (omega arith)) (omega arith) (λ t z. last (complete k d _ t refl (omega arith)) (omega arith) (λ u w. omega arith)))
  complete (R.not1 {n = n} h) = enter _ _ n (λ d i s e le. then _ (complete h d _ s refl le) (omega arith) (λ t z. now z))
  complete (R.not2 {n = n} h) = enter _ _ n (λ d i s e le. then _ (complete h d _ s refl le) (omega arith) (λ t z. now z))
  complete (R.rep1 {n = n} h) = enter _ _ n (λ d i s e le. then _ (complete h d _ s refl le) (omega arith) (λ t z. now z))
  complete (R.rep2 {x = x} {y = y} {n = n} {m = m} h q k) =
      enter _ _ (n ⊕ in_place m) (λ d i s e le. then _ (complete h d _ s refl (omega arith)) (omega arith)
      (λ t z. rw (ne_eqb x y q) (then _ (in_place_lem (complete k (suc d) _ t e (omega arith))) (omega arith) (λ u w. now (omega arith)))))
  complete (R.rep3 {x = x} {n = n} h) = enter _ _ n (λ d i s e le. then _ (complete h d _ s refl le) (omega arith) (λ t z. rw (eq-eqb x x refl) (now z)))
  complete (R.var {n = n} w h) = enter _ _ n (λ d i s e. of_var _ _ _ n w (complete h) d s)
  complete (R.lvar1 {n = n} {m = m} w o h k) = enter _ _ (n ⊕ m) (λ d i s e. of_lvar1 _ _ _ n m w o (complete h) (complete k) d s)
  complete (R.lvar2 {n = n} w o h) = enter _ _ n (λ d i s e. of_lvar2 _ _ _ n w o (complete h) d s)
  complete (R.lvar3 w o) = enter _ _ nothing (λ d i s e. of_lvar3 _ _ _ w o d s)
  complete (R.inc1 {l = l} {a = a} {x = x} {e = e} {e' = e'} {n = n} {m = m} {ts = ts} h q k) =
      λ d f s le lf. of_grow d l a x f e ts n (n ⊕ m) s (complete h) (some_visit h) (omega arith) (omega arith) le lf
      (λ f' t c z. rw (lt-ltb e e' q) (last (complete k d f' t (omega arith) (omega arith)) (omega arith) (λ u w. omega arith)))
  complete (R.inc2 {l = l} {a = a} {x = x} {e = e} {n = n} {ts = ts} h) =
      λ d f s le lf. of_grow d l a x f e ts n n s (complete h) (some_visit h) (omega arith) (omega arith) le lf (λ f' t c z. now z)
  complete (R.inc3 {l = l} {a = a} {x = x} {e = e} {e' = e'} {n = n} {ts = ts} h q) =
      λ d f s le lf. of_grow d l a x f e ts n n s (complete h) (some_visit h) (omega arith) (omega arith) le lf (λ f' t c z. rw (le-ltb e e' q) (now z))

  -- The reading is a use, and no visit.
  use_complete : {l : List Note} {a x : ℕ} {n : Amount} {r : Answer} → Bounded g line live l (at (rule a)) x r n → (k : Amount) → n ≡ visiting k → Uses l a x r k
  use_complete (R.var {n = n} w h) k e = rw (sym (unvisit n k e)) (of_var _ _ _ n w (complete h))
  use_complete (R.lvar1 {n = n} {m = m} w o h j) k e = rw (sym (unvisit (n ⊕ m) k e)) (of_lvar1 _ _ _ n m w o (complete h) (complete j))
  use_complete (R.lvar2 {n = n} w o h) k e = rw (sym (unvisit n k e)) (of_lvar2 _ _ _ n w o (complete h))
  use_complete (R.lvar3 w o) k e = rw (sym (unvisit nothing k e)) (of_lvar3 _ _ _ w o)

  -- With n visits allowed the reading gives that answer and leaves the others, or is refused for depth, if it needs more than 512 visits open at once; with less it
  -- gives none.
  pub read_complete : {r : Answer} {n : Amount} → Reads g line live r n → (allowance : ℕ) → n.visits ≤ allowance
      → Ends (λ s. ⊥) (λ s. 512 < n.depth) (λ q t. (q ≡ r) × (allowance ≡ n.visits + t.left)) (read_by g line way allowance)
  unfolding read_by
  read_complete {n = n} h allowance le = (use_complete h.rules n refl 512 (starting allowance) le).ends

  pub read_short : {r : Answer} {n : Amount} → Reads g line live r n → (allowance : ℕ) → allowance < n.visits → All (λ q t. ⊥) (read_by g line way allowance)
  read_short h allowance lt =
      all_map (read_by g line way allowance) (read_sound g line live allowance)
      (λ q t w. let v = ap (λ (a : Amount). a.visits) (one_reading g line live h w.1).count in let z = w.2.visits in omega arith)
