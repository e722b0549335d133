-- 02's W-205: it is enough that those rules become live which need it: the left-recursive ones that are reached. A use of another rule is never met while it is live,
-- so its second attempt answers as its first. Match and tree are those where every rule becomes live, with the same furthest position and as many visits open at once,
-- in no more visits.
use mathlib.Core.Path.{◌≡◌, refl, sym, subst, ap, ◌∙◌}
use mathlib.Core.Logic.{◌≢◌, ◌⊎◌, inl, inr}
use Prim.Native.Nat.{ℕ, ◌<◌, ◌≤◌}
use mathlib.Core.Bool.{Bool, true, false}
use mathlib.Core.List.{List, []}
use mathlib.Core.Option.{none, some}
use lib.ListN.{length}
use native.Mathlib.Omega.{arith}
use Rattle.meaning.specs.Grammar.{Node, rule, seq, Grammar, node, root_of, root, Below, Closed, Trees, Answer, fail, ok, wrap, Note, noted, look}
use Rattle.meaning.specs.Rules.{Goal, at, inc, Amount, nothing, asking, ◌⊕◌, visiting, in_place, Bounded, every_rule, Reads}
use Rattle.meaning.specs.Rules as R
use Rattle.meaning.specs.Report.{Starts, by_not, by_rep, by_choice, by_other, by_first, by_second, by_rule, Leads, here, on, to_second, Reachable, start, LeftRecursive}
use Rattle.meaning.proofs.Answers.{ends, never, clash, found}
use Rattle.meaning.proofs.Notes.{look_cases, look_other, look_both}
use Rattle.meaning.proofs.Chains.{round}
use Rattle.meaning.proofs.Reached.{Met, met_root, met_child, met_rule, met_start}
use Rattle.meaning.proofs.OneBounded.{det}
use Rattle.meaning.proofs.Conserve.{as_reading}
use Rattle.meaning.proofs.Spans.{Span, Spanned, Held, held_more, spans}

-- Every left-recursive rule that is reached becomes live.
pub record Enough (g : Grammar) (live : ℕ → Bool) : Type 0 where
  pub needed : (a : ℕ) → a < length g.roots → Reachable g a → LeftRecursive g a → live a ≡ true

-- No more visits, as far and as deep.
pub record Spares (n m : Amount) : Type 0 where
  pub visits : n.visits ≤ m.visits
  pub furthest : n.furthest ≡ m.furthest
  pub depth : n.depth ≡ m.depth

spares_same : (n : Amount) → Spares n n
spares_same n = record { visits = omega arith; furthest = refl; depth = refl }

spares_visit : {n m : Amount} → Spares n m → Spares (visiting n) (visiting m)
spares_visit h = let v = h.visits in let d = h.depth in record { visits = omega arith; furthest = h.furthest; depth = omega arith }

spares_both : {n m n' m' : Amount} → Spares n n' → Spares m m' → Spares (n ⊕ m) (n' ⊕ m')
spares_both h k =
    let v = h.visits in
    let w = k.visits in
    let f = h.furthest in
    let e = k.furthest in
    let c = h.depth in
    let d = k.depth in
    record { visits = omega arith; furthest = omega arith; depth = omega arith }

spares_in_place : {n m : Amount} → Spares n m → Spares (in_place n) (in_place m)
spares_in_place h = let d = h.depth in record { visits = h.visits; furthest = h.furthest; depth = omega arith }

-- One attempt in the place of two that get equally far and deep.
spares_second : {n m : Amount} (o : Amount) → Spares n m → o.furthest ≡ n.furthest → o.depth ≡ n.depth → Spares n (m ⊕ o)
spares_second o h e c = let v = h.visits in let f = h.furthest in let d = h.depth in record { visits = omega arith; furthest = omega arith; depth = omega arith }

module _ (g : Grammar) (line : List ℕ) (good : Closed g) (live : ℕ → Bool) (enough : Enough g live) where
  -- What is live (l), is so at x or before, and could be an answer; from a rule that is live at x a chain leads to node p. Of the rules that become live, m holds the same.
  pub record Comes (l m : List Note) (p : Node) (x : ℕ) : Type 0 where
    pub number : (a w : ℕ) (q : Answer) → look l a w ≡ some q → a < length g.roots
    pub before : (a w : ℕ) (q : Answer) → look l a w ≡ some q → w ≤ x
    pub leads : (a w : ℕ) (q : Answer) → look l a w ≡ some q → w ≡ x → Leads g (root g a) p
    pub held : Held g line l
    pub same : (a w : ℕ) → live a ≡ true → look l a w ≡ look m a w

  comes_by : {l m : List Note} {p q : Node} {x : ℕ} → Comes l m p x → Starts g p q → Comes l m q x
  comes_by c s = record { number = c.number; before = c.before; leads = λ a w q e z. on (c.leads a w q e z) s; held = c.held; same = c.same }

  -- Past x nothing is live.
  comes_past : {l m : List Note} {p : Node} {x y : ℕ} → Comes l m p x → x < y → Comes l m p y
  comes_past c lt = record {
    number = c.number;
    before = λ a w r e. let z = c.before a w r e in omega arith;
    leads = λ a w r e f. let z = c.before a w r e in absurd (omega arith);
    held = c.held;
    same = c.same;
  }

  comes_after : {l m : List Note} {a b x y : ℕ} → Comes l m (seq a b) x → Span g line (node g a) x y → Comes l m (node g b) y
  comes_after {l} {m} {a} {b} {x} {y} c s =
      let f = s.forward in
      record {
        number = c.number;
        before = λ d w q e. let z = c.before d w q e in omega arith;
        leads = λ d w q e z. let u = c.before d w q e in on (c.leads d w q e (omega arith)) (by_second (s.empty (omega arith)));
        held = c.held;
        same = c.same;
      }

  -- The bounded rules answer so where only these rules become live, with less effort.
  pub record Turns (m : List Note) (p : Goal) (x : ℕ) (r : Answer) (n : Amount) : Type 0 where
    pub amount : Amount
    pub rules : Bounded g line live m p x r amount
    pub spares : Spares amount n

  -- A part, two parts, and two of which the second is made in place.
  one : {m : List Note} {p q : Node} {x y : ℕ} {r s : Answer} {n : Amount} (h : Turns m (at p) x r n) → Bounded g line live m (at q) y s (visiting h.amount) → Turns m (at q) y s (visiting n)
  one h d = record { amount = visiting h.amount; rules = d; spares = spares_visit h.spares }

  two : {m : List Note} {p q w : Node} {x y z : ℕ} {r s t : Answer} {n o : Amount} (h : Turns m (at p) x r n) (k : Turns m (at q) y s o)
      → Bounded g line live m (at w) z t (visiting (h.amount ⊕ k.amount)) → Turns m (at w) z t (visiting (n ⊕ o))
  two h k d = record { amount = visiting (h.amount ⊕ k.amount); rules = d; spares = spares_visit (spares_both h.spares k.spares) }

  in_turn : {m : List Note} {p q w : Node} {x y z : ℕ} {r s t : Answer} {n o : Amount} (h : Turns m (at p) x r n) (k : Turns m (at q) y s o)
      → Bounded g line live m (at w) z t (visiting (h.amount ⊕ in_place k.amount)) → Turns m (at w) z t (visiting (n ⊕ in_place o))
  in_turn h k d = record { amount = visiting (h.amount ⊕ in_place k.amount); rules = d; spares = spares_visit (spares_both h.spares (spares_in_place k.spares)) }

  leaf : {m : List Note} {p : Node} {x : ℕ} {r : Answer} (n : Amount) → Bounded g line live m (at p) x r n → Turns m (at p) x r n
  leaf n d = record { amount = n; rules = d; spares = spares_same n }

  -- A use of rule a, which becomes live where every rule does.
  module _ (l m : List Note) (a x : ℕ) (la : a < length g.roots) (reached : Reachable g a) (c : Comes l m (rule a) x) where
    number_case : (b w : ℕ) (r q : Answer) → ((a ≡ b) × (x ≡ w) × (r ≡ q)) ⊎ (look l b w ≡ some q) → b < length g.roots
    number_case b w r q (inl e) = let z : a ≡ b = e.0 in omega arith
    number_case b w r q (inr e) = c.number b w q e

    before_case : (b w : ℕ) (r q : Answer) → ((a ≡ b) × (x ≡ w) × (r ≡ q)) ⊎ (look l b w ≡ some q) → w ≤ x
    before_case b w r q (inl e) = let z : x ≡ w = e.1 in omega arith
    before_case b w r q (inr e) = c.before b w q e

    leads_case : (b w : ℕ) (r q : Answer) → w ≡ x → ((a ≡ b) × (x ≡ w) × (r ≡ q)) ⊎ (look l b w ≡ some q) → Leads g (root g b) (root g a)
    leads_case b w r q z (inl e) = subst (λ d. Leads g (root g d) (root g a)) e.0 here
    leads_case b w r q z (inr e) = on (c.leads b w q e z) by_rule

    -- Its root, while r is held.
    comes_root : (m' : List Note) (r : Answer) → Spanned g line (root g a) x r → ((b w : ℕ) → live b ≡ true → look (noted a x r l) b w ≡ look m' b w) → Comes (noted a x r l) m' (root g a) x
    comes_root m' r s same = record {
      number = λ b w q e. number_case b w r q (look_cases l a x r b w e);
      before = λ b w q e. before_case b w r q (look_cases l a x r b w e);
      leads = λ b w q e z. leads_case b w r q z (look_cases l a x r b w e);
      held = held_more g line l a x r s c.held;
      same = same;
    }

    -- If it becomes live, the same is held for it; if not, nothing is.
    held_too : (r : Answer) → Spanned g line (root g a) x r → Comes (noted a x r l) (noted a x r m) (root g a) x
    held_too r s = comes_root (noted a x r m) r s (λ b w v. look_both l m a x r b w (c.same b w v))

    not_held : (r : Answer) → Spanned g line (root g a) x r → live a ≡ false → Comes (noted a x r l) m (root g a) x
    not_held r s v = comes_root m r s (λ b w u. look_other l a x r b w (inl (λ e. clash u (ap live e ∙ v))) ∙ c.same b w u)

    -- An attempt at its root while q is held, and growing on from a match.
    abbrev Attempt : Answer → Answer → Amount → Type 0
    Attempt q r n = (m' : List Note) → Comes (noted a x q l) m' (root g a) x → Turns m' (at (root g a)) x r n

    pub record Grows (e : ℕ) (ts : Trees) (r : Answer) (n : Amount) : Type 0 where
      pub live_so : live a ≡ true → Turns m (inc a e ts) x r n
      pub as_first : live a ≡ false → (o : Amount) → Bounded g line live m (at (root g a)) x (ok e ts) o → (ok e ts ≡ r) × (n.furthest ≡ o.furthest) × (n.depth ≡ o.depth)

    of_inc1 : {e e' : ℕ} {ts ts' : Trees} {r : Answer} {n o : Amount} → Span g line (root g a) x e → Attempt (ok e ts) (ok e' ts') n → e < e' → Grows e' ts' r o → Grows e ts r (n ⊕ o)
    of_inc1 {e} {e'} {ts} {ts'} {r} {n} {o} s h lt k = record {
      live_so = λ v.
          let i = h (noted a x (ok e ts) m) (held_too (ok e ts) s) in
          let j = k.live_so v in
          record { amount = i.amount ⊕ j.amount; rules = R.inc1 i.rules lt j.rules; spares = spares_both i.spares j.spares };
      as_first = λ v p d. let i = h m (not_held (ok e ts) s v) in let z : e ≡ e' = ends (det g line live d i.rules).answer in absurd (omega arith);
    }

    of_inc2 : {e : ℕ} {ts : Trees} {n : Amount} → Span g line (root g a) x e → Attempt (ok e ts) fail n → Grows e ts (ok e ts) n
    of_inc2 {e} {ts} {n} s h = record {
      live_so = λ v. let i = h (noted a x (ok e ts) m) (held_too (ok e ts) s) in record { amount = i.amount; rules = R.inc2 i.rules; spares = i.spares };
      as_first = λ v p d. let i = h m (not_held (ok e ts) s v) in never (det g line live d i.rules).answer;
    }

    of_inc3 : {e e' : ℕ} {ts ts' : Trees} {n : Amount} → Span g line (root g a) x e → Attempt (ok e ts) (ok e' ts') n → e' ≤ e → Grows e ts (ok e ts) n
    of_inc3 {e} {e'} {ts} {ts'} {n} s h le = record {
      live_so = λ v. let i = h (noted a x (ok e ts) m) (held_too (ok e ts) s) in record { amount = i.amount; rules = R.inc3 i.rules le; spares = i.spares };
      as_first = λ v p d.
          let i = h m (not_held (ok e ts) s v) in
          let same = sym (det g line live d i.rules).count in
          (refl, sym i.spares.furthest ∙ ap (λ (o : Amount). o.furthest) same, sym i.spares.depth ∙ ap (λ (o : Amount). o.depth) same);
    }

    of_lvar1 : (b : Bool) → live a ≡ b → {e : ℕ} {ts : Trees} {r : Answer} {n o : Amount} → look l a x ≡ none → Attempt fail (ok e ts) n → Grows e ts r o
        → Turns m (at (rule a)) x (wrap a x r) (visiting (n ⊕ o))
    of_lvar1 true v q h k =
        let i = h (noted a x fail m) (held_too fail tt) in
        let j = k.live_so v in
        record { amount = visiting (i.amount ⊕ j.amount); rules = R.lvar1 v (sym (c.same a x v) ∙ q) i.rules j.rules; spares = spares_visit (spares_both i.spares j.spares) }
    of_lvar1 false v {n = n} {o = o} q h k =
        let i = h m (not_held fail tt v) in
        let z = k.as_first v i.amount i.rules in
        subst (λ s. Turns m (at (rule a)) x (wrap a x s) (visiting (n ⊕ o))) z.0
        (record { amount = visiting i.amount; rules = R.var v i.rules; spares = spares_visit (spares_second o i.spares z.1 z.2) })

    of_lvar2 : (b : Bool) → live a ≡ b → {n : Amount} → look l a x ≡ none → Attempt fail fail n → Turns m (at (rule a)) x fail (visiting n)
    unfolding wrap
    of_lvar2 true v q h =
        let i = h (noted a x fail m) (held_too fail tt) in
        record { amount = visiting i.amount; rules = R.lvar2 v (sym (c.same a x v) ∙ q) i.rules; spares = spares_visit i.spares }
    of_lvar2 false v q h = let i = h m (not_held fail tt v) in record { amount = visiting i.amount; rules = R.var v i.rules; spares = spares_visit i.spares }

    -- A rule that is met while it is live is left-recursive, so it becomes live.
    of_lvar3 : (b : Bool) → live a ≡ b → {r : Answer} → look l a x ≡ some r → Turns m (at (rule a)) x (wrap a x r) (visiting nothing)
    of_lvar3 true v q = leaf (visiting nothing) (R.lvar3 v (sym (c.same a x v) ∙ q))
    of_lvar3 false v {r} q = clash (enough.needed a la reached (round g a (c.leads a x r q refl))) v

  abbrev Becomes : Goal → List Note → ℕ → Answer → Amount → Type 0
  Becomes (at p) l x r n = (m : List Note) (i : ℕ) → i ≤ length g.nodes → Below g i p → Met g p → Comes l m p x → Turns m (at p) x r n
  Becomes (inc a e ts) l x r n = (m : List Note) (la : a < length g.roots) (reached : Reachable g a) (c : Comes l m (rule a) x) → Span g line (root g a) x e → Grows l m a x la reached c e ts r n

  -- The nodes below one of the grammar's are the grammar's.
  pub becomes : {l : List Note} {p : Goal} {x : ℕ} {n : Amount} {r : Answer} → Bounded g line every_rule l p x r n → Becomes p l x r n
  becomes R.empty1 = λ m i li b t c. leaf (visiting nothing) R.empty1
  becomes (R.char1 {x = x} q) = λ m i li b t c. leaf (visiting (asking x)) (R.char1 q)
  becomes (R.char2 {x = x} q) = λ m i li b t c. leaf (visiting (asking x)) (R.char2 q)
  becomes (R.con1 {a = a} {b = b} h k) = λ m i li u t c.
      let la : a < i = u.0 in
      let lb : b < i = u.1 in
      let d = becomes h m a (omega arith) (good.nodes a (omega arith)) (met_start g by_first t) (comes_by c by_first) in
      let e = becomes k m b (omega arith) (good.nodes b (omega arith)) (met_child g t to_second) (comes_after c (spans g line h c.held)) in
      two d e (R.con1 d.rules e.rules)
  becomes (R.con2 {a = a} {b = b} h k) = λ m i li u t c.
      let la : a < i = u.0 in
      let lb : b < i = u.1 in
      let d = becomes h m a (omega arith) (good.nodes a (omega arith)) (met_start g by_first t) (comes_by c by_first) in
      let e = becomes k m b (omega arith) (good.nodes b (omega arith)) (met_child g t to_second) (comes_after c (spans g line h c.held)) in
      two d e (R.con2 d.rules e.rules)
  becomes (R.con3 {a = a} h) = λ m i li u t c.
      let la : a < i = u.0 in
      let d = becomes h m a (omega arith) (good.nodes a (omega arith)) (met_start g by_first t) (comes_by c by_first) in
      one d (R.con3 d.rules)
  becomes (R.ord1 {a = a} h) = λ m i li u t c.
      let la : a < i = u.0 in
      let d = becomes h m a (omega arith) (good.nodes a (omega arith)) (met_start g by_choice t) (comes_by c by_choice) in
      one d (R.ord1 d.rules)
  becomes (R.ord2 {a = a} {b = b} h k) = λ m i li u t c.
      let la : a < i = u.0 in
      let lb : b < i = u.1 in
      let d = becomes h m a (omega arith) (good.nodes a (omega arith)) (met_start g by_choice t) (comes_by c by_choice) in
      let e = becomes k m b (omega arith) (good.nodes b (omega arith)) (met_start g by_other t) (comes_by c by_other) in
      two d e (R.ord2 d.rules e.rules)
  becomes (R.not1 {a = a} h) = λ m i li u t c.
      let la : a < i = u in
      let d = becomes h m a (omega arith) (good.nodes a (omega arith)) (met_start g by_not t) (comes_by c by_not) in
      one d (R.not1 d.rules)
  becomes (R.not2 {a = a} h) = λ m i li u t c.
      let la : a < i = u in
      let d = becomes h m a (omega arith) (good.nodes a (omega arith)) (met_start g by_not t) (comes_by c by_not) in
      one d (R.not2 d.rules)
  becomes (R.rep1 {a = a} h) = λ m i li u t c.
      let la : a < i = u in
      let d = becomes h m a (omega arith) (good.nodes a (omega arith)) (met_start g by_rep t) (comes_by c by_rep) in
      one d (R.rep1 d.rules)
  becomes (R.rep2 {a = a} {x = x} {y = y} h q k) = λ m i li u t c.
      let la : a < i = u in
      let d = becomes h m a (omega arith) (good.nodes a (omega arith)) (met_start g by_rep t) (comes_by c by_rep) in
      let f = (spans g line h c.held).forward in
      let ne : x ≢ y = q in
      let e = becomes k m i li u t (comes_past c (omega arith)) in
      in_turn d e (R.rep2 d.rules q e.rules)
  becomes (R.rep3 {a = a} h) = λ m i li u t c.
      let la : a < i = u in
      let d = becomes h m a (omega arith) (good.nodes a (omega arith)) (met_start g by_rep t) (comes_by c by_rep) in
      one d (R.rep3 d.rules)
  becomes (R.var w h) = λ m i li la t c. clash refl w
  becomes (R.lvar1 {l = l} {a = a} {x = x} w q h k) = λ m i li la t c.
      let s = spans g line h (held_more g line l a x fail tt c.held) in
      let reached = met_rule g t in
      of_lvar1 l m a x la reached c (live a) refl q
      (λ m' c'. let lr = good.roots a la in becomes h m' (root_of g a) (omega arith) (good.nodes (root_of g a) lr) (met_root g reached) c')
      (becomes k m la reached c s)
  becomes (R.lvar2 {l = l} {a = a} {x = x} w q h) = λ m i li la t c.
      let reached = met_rule g t in
      of_lvar2 l m a x la reached c (live a) refl q
      (λ m' c'. let lr = good.roots a la in becomes h m' (root_of g a) (omega arith) (good.nodes (root_of g a) lr) (met_root g reached) c')
  becomes (R.lvar3 {l = l} {a = a} {x = x} w q) = λ m i li la t c. of_lvar3 l m a x la (met_rule g t) c (live a) refl q
  becomes (R.inc1 {l = l} {a = a} {x = x} {e = e} {ts = ts} h lt k) = λ m la reached c s.
      of_inc1 l m a x la reached c s
      (λ m' c'. let lr = good.roots a la in becomes h m' (root_of g a) (omega arith) (good.nodes (root_of g a) lr) (met_root g reached) c') lt
      (becomes k m la reached c (spans g line h (held_more g line l a x (ok e ts) s c.held)))
  becomes (R.inc2 {l = l} {a = a} {x = x} h) = λ m la reached c s.
      of_inc2 l m a x la reached c s
      (λ m' c'. let lr = good.roots a la in becomes h m' (root_of g a) (omega arith) (good.nodes (root_of g a) lr) (met_root g reached) c')
  becomes (R.inc3 {l = l} {a = a} {x = x} h le) = λ m la reached c s.
      of_inc3 l m a x la reached c s
      (λ m' c'. let lr = good.roots a la in becomes h m' (root_of g a) (omega arith) (good.nodes (root_of g a) lr) (met_root g reached) c') le

  -- With nothing live.
  comes_first : (p : Node) (x : ℕ) → Comes [] [] p x
  unfolding look
  comes_first p x = record {
    number = λ a w q e. found refl e;
    before = λ a w q e. found refl e;
    leads = λ a w q e z. found refl e;
    held = λ a w q e. found refl e;
    same = λ a w v. refl;
  }

  pub node_turns : (i x : ℕ) → i < length g.nodes → Met g (node g i) → {r : Answer} {n : Amount} → Bounded g line every_rule [] (at (node g i)) x r n → Turns [] (at (node g i)) x r n
  node_turns i x li met h = becomes h [] i (omega arith) (good.nodes i li) met (comes_first (node g i) x)

  -- A use of a reachable rule.
  use_turns : {a x : ℕ} {r : Answer} {n : Amount} → a < length g.roots → Reachable g a → Bounded g line every_rule [] (at (rule a)) x r n → Turns [] (at (rule a)) x r n
  use_turns la reached (R.var w h) = clash refl w
  use_turns {a} {x} la reached (R.lvar1 w q h k) =
      let c = comes_first (rule a) x in
      let lr = good.roots a la in
      of_lvar1 [] [] a x la reached c (live a) refl q (λ m c'. becomes h m (root_of g a) (omega arith) (good.nodes (root_of g a) lr) (met_root g reached) c')
      (becomes k [] la reached c (spans g line h (held_more g line [] a x fail tt c.held)))
  use_turns {a} {x} la reached (R.lvar2 w q h) =
      let lr = good.roots a la in
      of_lvar2 [] [] a x la reached (comes_first (rule a) x) (live a) refl q (λ m c'. becomes h m (root_of g a) (omega arith) (good.nodes (root_of g a) lr) (met_root g reached) c')
  use_turns {a} {x} la reached (R.lvar3 w q) = of_lvar3 [] [] a x la reached (comes_first (rule a) x) (live a) refl q

  -- So of the whole reading.
  pub reads_turn : 0 < length g.roots → {r : Answer} {n : Amount} → Reads g line every_rule r n → (m : Amount) × Reads g line live r m × Spares m n
  reads_turn rules {r} {n} h =
      let t = use_turns rules start h.rules in
      let k = as_reading g line live t.rules in
      let s : Spares (visiting k.0) (visiting n) = subst (λ z. Spares z (visiting n)) (sym k.2) t.spares in
      let v = s.visits in
      let d = s.depth in
      (k.0, k.1, record { visits = omega arith; furthest = s.furthest; depth = omega arith })
