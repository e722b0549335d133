-- 02's W-208: the older reading, in which a repetition's next visit of itself opened one visit more. Where it was not refused as too deep, the reading of today ends
-- just as it did, whatever the grammar, the line, the way and the allowance; and a derivation by the bounded rules is never deeper than it was.
use mathlib.Core.Path.{◌≡◌, refl, sym, subst}
use Prim.Native.Nat.{ℕ, zero, suc, ◌≤◌, max}
use mathlib.Core.Bool.{Bool, true, false}
use mathlib.Core.List.{List, []}
use mathlib.Core.Option.{Option, none, some}
use lib.Dec.{eqb, ltb}
use native.Mathlib.Omega.{arith}
use Rattle.meaning.specs.Grammar.{Node, empty, range, rule, seq, choice, not, rep, Grammar, node, root_of, Trees, Answer, fail, ok, Note, noted, look}
use Rattle.meaning.specs.Rules.{Goal, Amount, Bounded, empty1, char1, char2, con1, con2, con3, ord1, ord2, not1, not2, rep1, rep2, rep3, var, lvar1, lvar2, lvar3, inc1, inc2, inc3}
use Rattle.meaning.specs.Reading.{State, starting, spent, Run, effort, deep, done, Visit, after, joined, second, otherwise, denied, repeat_from, repeated, apply, longer, attempted, grow, first_attempt, use_live}
use Rattle.meaning.specs.Reading.{wrapped, keep, counted, Way, keeps, grows, becomes_live, use_by, use_rule, recall, visited, in_place, visit, read_by}
use Rattle.meaning.proofs.InPlace.{visit_open}

infix 40 ◌⊑◌
-- The first run is refused as too deep, or the second ends just as it does: with the same answer or at the same place, and in the same state.
pub data ◌⊑◌ : Run → Run → Type 0 where
  too_deep : {p : ℕ} {s : State} {m : Run} → deep p s ⊑ m
  same : {m : Run} → m ⊑ m

below_trans : {m n o : Run} → m ⊑ n → n ⊑ o → m ⊑ o
below_trans too_deep k = too_deep
below_trans same k = k

-- What is done after runs, before a visit, and in a use of a rule.
after_below : {m n : Run} (k k' : Answer → State → Run) → m ⊑ n → ((r : Answer) (t : State) → k r t ⊑ k' r t) → after m k ⊑ after n k'
unfolding after
after_below k k' too_deep h = too_deep
after_below k k' (same {m = effort p t}) h = same
after_below k k' (same {m = deep p t}) h = same
after_below k k' (same {m = done r t}) h = h r t

counted_below : (n x : ℕ) (s : State) (k k' : State → Run) → ((t : State) → k t ⊑ k' t) → counted n x s k ⊑ counted n x s k'
unfolding counted
counted_below zero x s k k' h = same
counted_below (suc l) x s k k' h = h (spent l s)

module _ (v v' : Visit) (hv : (i x : ℕ) (s : State) → v i x s ⊑ v' i x s) where
  second_below : (b : ℕ) (r : Answer) (t : State) → second v b r t ⊑ second v' b r t
  unfolding second
  second_below b fail t = same
  second_below b (ok e ts) t = after_below (joined ts) (joined ts) (hv b e t) (λ r u. same)

  otherwise_below : (b x : ℕ) (r : Answer) (t : State) → otherwise v b x r t ⊑ otherwise v' b x r t
  unfolding otherwise
  otherwise_below b x fail t = hv b x t
  otherwise_below b x (ok e ts) t = same

  repeat_below : (i x e : ℕ) (ts : Trees) (t : State) (b : Bool) → repeat_from v i x e ts t b ⊑ repeat_from v' i x e ts t b
  unfolding repeat_from
  repeat_below i x e ts t true = same
  repeat_below i x e ts t false = after_below (joined ts) (joined ts) (hv i e t) (λ r u. same)

  repeated_below : (i x : ℕ) (r : Answer) (t : State) → repeated v i x r t ⊑ repeated v' i x r t
  unfolding repeated
  repeated_below i x fail t = same
  repeated_below i x (ok e ts) t = repeat_below i x e ts t (eqb x e)

apply_below : (line : List ℕ) (v v' w w' u u' : Visit) → ((i x : ℕ) (s : State) → v i x s ⊑ v' i x s) → ((i x : ℕ) (s : State) → w i x s ⊑ w' i x s)
    → ((i x : ℕ) (s : State) → u i x s ⊑ u' i x s) → (i x : ℕ) (s : State) (p : Node) → apply line v w u i x s p ⊑ apply line v' w' u' i x s p
unfolding apply
apply_below line v v' w w' u u' hv hw hu i x s empty = same
apply_below line v v' w w' u u' hv hw hu i x s (range lo hi) = same
apply_below line v v' w w' u u' hv hw hu i x s (rule a) = hu a x s
apply_below line v v' w w' u u' hv hw hu i x s (seq a b) = after_below (second v b) (second v' b) (hv a x s) (second_below v v' hv b)
apply_below line v v' w w' u u' hv hw hu i x s (choice a b) = after_below (otherwise v b x) (otherwise v' b x) (hv a x s) (otherwise_below v v' hv b x)
apply_below line v v' w w' u u' hv hw hu i x s (not a) = after_below (denied x) (denied x) (hv a x s) (λ r t. same)
apply_below line v v' w w' u u' hv hw hu i x s (rep a) = after_below (repeated w i x) (repeated w' i x) (hv a x s) (repeated_below w w' hw i x)

attempted_below : (k k' : ℕ → Trees → State → Run) → ((e : ℕ) (ts : Trees) (t : State) → k e ts t ⊑ k' e ts t) → (e : ℕ) (ts : Trees) (r : Answer) (t : State)
    → attempted k e ts r t ⊑ attempted k' e ts r t
unfolding attempted longer
attempted_below k k' h e ts fail t = same
attempted_below k k' h e ts (ok e' ts') t = by (ltb e e')
  where
    by : (b : Bool) → longer k e ts e' ts' t b ⊑ longer k' e ts e' ts' t b
    by true = h e' ts' t
    by false = same

module _ (v v' : Answer → State → Run) (hv : (r : Answer) (s : State) → v r s ⊑ v' r s) where
  grow_below : (f x e : ℕ) (ts : Trees) (s : State) → grow f v x e ts s ⊑ grow f v' x e ts s
  unfolding grow
  grow_below zero x e ts s = same
  grow_below (suc f) x e ts s =
      after_below (attempted (grow f v x) e ts) (attempted (grow f v' x) e ts) (hv (ok e ts) s) (attempted_below (grow f v x) (grow f v' x) (grow_below f x) e ts)

  first_below : (a x : ℕ) (r : Answer) (t : State) → first_attempt v a x r t ⊑ first_attempt v' a x r t
  unfolding first_attempt
  first_below a x fail t = same
  first_below a x (ok e ts) t = after_below (wrapped a x) (wrapped a x) (grow_below t.left x e ts t) (λ r u. same)

  live_below : (a x : ℕ) (s : State) (o : Option Answer) → use_live v a x s o ⊑ use_live v' a x s o
  unfolding use_live
  live_below a x s none = after_below (first_attempt v a x) (first_attempt v' a x) (hv fail s) (first_below a x)
  live_below a x s (some r) = same

module _ (g : Grammar) (line : List ℕ) where
  -- v and w visit below and in place where v' and w' do.
  module _ (v v' : List Note → Visit) (hv : (l : List Note) (i x : ℕ) (s : State) → v l i x s ⊑ v' l i x s) where
    by_below : (b : Bool) (l : List Note) (a x : ℕ) (s : State) → use_by g line b v l a x s ⊑ use_by g line b v' l a x s
    unfolding use_by
    by_below false l a x s = after_below (wrapped a x) (wrapped a x) (hv l (root_of g a) x s) (λ r t. same)
    by_below true l a x s = live_below (λ r. v (noted a x r l) (root_of g a) x) (λ r. v' (noted a x r l) (root_of g a) x) (λ r. hv (noted a x r l) (root_of g a) x) a x s (look l a x)

    use_below : (way : Way) (l : List Note) (a x : ℕ) (s : State) → use_rule g line way v l a x s ⊑ use_rule g line way v' l a x s
    use_below way l a = by_below (becomes_live way a) l a

    module _ (w w' : List Note → Visit) (hw : (l : List Note) (i x : ℕ) (s : State) → w l i x s ⊑ w' l i x s) where
      node_below : (way : Way) (l : List Note) (i x : ℕ) (s : State)
          → apply line (v l) (w l) (use_rule g line way v l) i x s (node g i) ⊑ apply line (v' l) (w' l) (use_rule g line way v' l) i x s (node g i)
      node_below way l i x s =
          apply_below line (v l) (v' l) (w l) (w' l) (use_rule g line way v l) (use_rule g line way v' l) (hv l) (hw l) (use_below way l) i x s (node g i)

      recall_below : (l : List Note) (i x : ℕ) (s : State) (o : Option Answer) → recall g line v w l i x s o ⊑ recall g line v' w' l i x s o
      unfolding recall
      recall_below l i x s none = after_below (keep i x) (keep i x) (node_below keeps l i x s) (λ r t. same)
      recall_below l i x s (some r) = same

      visited_below : (way : Way) (l : List Note) (i x : ℕ) (s : State) → visited g line way v w l i x s ⊑ visited g line way v' w' l i x s
      unfolding visited
      visited_below keeps l i x s = recall_below l i x s (look s.kept i x)
      visited_below (grows live) l i x s = node_below (grows live) l i x s

    place_below : (way : Way) (f : ℕ) (l : List Note) (i x : ℕ) (s : State) → in_place g line way f v l i x s ⊑ in_place g line way f v' l i x s
    unfolding in_place
    place_below way zero l i x s = hv l i x s
    place_below way (suc f) l i x s =
        let w : List Note → Visit = in_place g line way f v in
        let w' : List Note → Visit = in_place g line way f v' in
        counted_below s.left x s (visited g line way v w l i x) (visited g line way v' w' l i x) (visited_below w w' (place_below way f) way l i x)

  -- The older reading, where every visit that a node makes is one more that is open.
  unfoldable pub older : Way → ℕ → List Note → Visit
  older way zero l i x s = counted s.left x s (λ t. deep x s)
  older way (suc d) l i x s = counted s.left x s (visited g line way (older way d) (older way d) l i x)

  unfoldable pub older_by : Way → ℕ → Run
  older_by way allowance = use_rule g line way (older way 512) [] 0 0 (starting allowance)

  module _ (way : Way) where
    -- Where one more visit may be open.
    roomier : (d : ℕ) (l : List Note) (i x : ℕ) (s : State) → visit g line way d l i x s ⊑ visit g line way (suc d) l i x s
    unfolding visit
    roomier zero l i x s =
        let v : List Note → Visit = visit g line way 0 in
        let z : List Note → Visit = visit g line way 1 in
        subst (λ m. counted s.left x s (λ t. deep x s) ⊑ m) (sym (visit_open g line way 0 l i x s))
        (counted_below s.left x s (λ t. deep x s) (visited g line way v z l i x) (λ t. too_deep))
    roomier (suc d) l i x s = place_below (visit g line way d) (visit g line way (suc d)) (roomier d) way s.left l i x s

    older_visit : (d : ℕ) (l : List Note) (i x : ℕ) (s : State) → older way d l i x s ⊑ visit g line way d l i x s
    unfolding older visit
    older_visit zero l i x s = same
    older_visit (suc d) l i x s =
        let o : List Note → Visit = older way d in
        let v : List Note → Visit = visit g line way d in
        let z : List Note → Visit = visit g line way (suc d) in
        subst (λ m. counted s.left x s (visited g line way o o l i x) ⊑ m) (sym (visit_open g line way d l i x s))
        (counted_below s.left x s (visited g line way o o l i x) (visited g line way v z l i x)
        (visited_below o v (older_visit d) o z (λ m j y t. below_trans (older_visit d m j y t) (roomier d m j y t)) way l i x))

    -- The whole reading.
    pub as_older : (allowance : ℕ) → older_by way allowance ⊑ read_by g line way allowance
    unfolding older_by read_by
    as_older allowance = use_below (older way 512) (visit g line way 512) (older_visit 512) way [] 0 0 (starting allowance)

-- The same without the relation: such a run is done so, refused for effort so, and too deep only where the other is.
pub record EndsSo (m n : Run) : Type 0 where
  pub done_so : (r : Answer) (t : State) → m ≡ done r t → n ≡ done r t
  pub effort_so : (p : ℕ) (t : State) → m ≡ effort p t → n ≡ effort p t
  pub deep_before : (p : ℕ) (t : State) → n ≡ deep p t → (q : ℕ) × (u : State) × (m ≡ deep q u)

not_done : {A : Type 0} {p : ℕ} {r : Answer} {s t : State} → deep p s ≡ done r t → A
not_done e = let z : ◌≡◌ {A = ℕ} 0 1 = cc in absurd (omega arith)

not_effort : {A : Type 0} {p q : ℕ} {s t : State} → deep p s ≡ effort q t → A
not_effort e = let z : ◌≡◌ {A = ℕ} 0 1 = cc in absurd (omega arith)

pub ends_so : {m n : Run} → m ⊑ n → EndsSo m n
ends_so (too_deep {p = p} {s = s}) = record { done_so = λ r t e. not_done e; effort_so = λ q t e. not_effort e; deep_before = λ q t e. (p, s, refl) }
ends_so same = record { done_so = λ r t e. e; effort_so = λ p t e. e; deep_before = λ p t e. (p, t, e) }

-- How many visits were open at once in the older reading, by a derivation: a repetition's next visit of itself was one below it, as any other.
abbrev pub nested : {g : Grammar} {line : List ℕ} {live : ℕ → Bool} {l : List Note} {p : Goal} {x : ℕ} {r : Answer} {n : Amount} → Bounded g line live l p x r n → ℕ
nested empty1 = 1
nested (char1 q) = 1
nested (char2 q) = 1
nested (con1 h k) = suc (max (nested h) (nested k))
nested (con2 h k) = suc (max (nested h) (nested k))
nested (con3 h) = suc (nested h)
nested (ord1 h) = suc (nested h)
nested (ord2 h k) = suc (max (nested h) (nested k))
nested (not1 h) = suc (nested h)
nested (not2 h) = suc (nested h)
nested (rep1 h) = suc (nested h)
nested (rep2 h q k) = suc (max (nested h) (nested k))
nested (rep3 h) = suc (nested h)
nested (var w h) = suc (nested h)
nested (lvar1 w o h k) = suc (max (nested h) (nested k))
nested (lvar2 w o h) = suc (nested h)
nested (lvar3 w o) = 1
nested (inc1 h q k) = max (nested h) (nested k)
nested (inc2 h) = nested h
nested (inc3 h q) = nested h

-- The answer, the visits and the furthest position are the derivation's, as they were; and it is no deeper.
pub no_deeper : {g : Grammar} {line : List ℕ} {live : ℕ → Bool} {l : List Note} {p : Goal} {x : ℕ} {r : Answer} {n : Amount} (h : Bounded g line live l p x r n) → n.depth ≤ nested h
no_deeper empty1 = omega arith
no_deeper (char1 q) = omega arith
no_deeper (char2 q) = omega arith
no_deeper (con1 h k) = let a = no_deeper h in let b = no_deeper k in omega arith
no_deeper (con2 h k) = let a = no_deeper h in let b = no_deeper k in omega arith
no_deeper (con3 h) = let a = no_deeper h in omega arith
no_deeper (ord1 h) = let a = no_deeper h in omega arith
no_deeper (ord2 h k) = let a = no_deeper h in let b = no_deeper k in omega arith
no_deeper (not1 h) = let a = no_deeper h in omega arith
no_deeper (not2 h) = let a = no_deeper h in omega arith
no_deeper (rep1 h) = let a = no_deeper h in omega arith
no_deeper (rep2 h q k) = let a = no_deeper h in let b = no_deeper k in omega arith
no_deeper (rep3 h) = let a = no_deeper h in omega arith
no_deeper (var w h) = let a = no_deeper h in omega arith
no_deeper (lvar1 w o h k) = let a = no_deeper h in let b = no_deeper k in omega arith
no_deeper (lvar2 w o h) = let a = no_deeper h in omega arith
no_deeper (lvar3 w o) = omega arith
no_deeper (inc1 h q k) = let a = no_deeper h in let b = no_deeper k in omega arith
no_deeper (inc2 h) = no_deeper h
no_deeper (inc3 h q) = no_deeper h
