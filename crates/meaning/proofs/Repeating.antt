-- 02's W-209: in a grammar without a repetition of nothing a repetition's child never matches without consuming, whatever is live; so rep.3 is used in no reading.
use mathlib.Core.Path.{◌≡◌, refl}
use mathlib.Core.Logic.{◌≢◌}
use Prim.Native.Nat.{ℕ, ◌<◌, ◌≤◌}
use mathlib.Core.Bool.{Bool, true}
use mathlib.Core.List.{List, [], ◌∷◌}
use mathlib.Core.Option.{none}
use lib.ListN.{length}
use native.Mathlib.Omega.{arith}
use Rattle.meaning.specs.Grammar.{Node, rule, rep, Grammar, node, root_of, root, Below, Closed, Trees, Answer, fail, ok, Note, noted, look}
use Rattle.meaning.specs.Rules.{Plain, Goal, at, inc, Amount, Bounded, Reads}
use Rattle.meaning.specs.Rules as R
use Rattle.meaning.specs.Report.{RepeatsNothing, repeats, Consuming}
use Rattle.meaning.specs.Reading.{State, keeps, grows, visit}
use Rattle.meaning.proofs.Answers.{found}
use Rattle.meaning.proofs.Runs.{All, all_map}
use Rattle.meaning.proofs.Kept.{Right, visit_plain}
use Rattle.meaning.proofs.Sound.{of_visit}
use Rattle.meaning.proofs.Spans.{Span, Held, held_more, spans}
use Rattle.meaning.proofs.Free.{span}

-- An answer of a node at x is a failure, or ends past x.
abbrev pub Past : ℕ → Answer → Type 0
Past x fail = Unit {0}
Past x (ok y ts) = x < y

module _ (g : Grammar) (line : List ℕ) where
  -- Without the use that became live last.
  abbrev older : List Note → List Note
  older [] = []
  older (n ∷ l) = l

  -- With nothing live nothing is held.
  nothing_held : Held g line []
  unfolding look
  nothing_held b w q e = found refl e

  -- rep.3 is used nowhere in a derivation by the plain rules.
  abbrev pub PlainWithoutRep3 : {p : Node} {x : ℕ} {r : Answer} → Plain g line p x r → Type 0
  PlainWithoutRep3 R.empty1 = Unit {0}
  PlainWithoutRep3 (R.char1 q) = Unit {0}
  PlainWithoutRep3 (R.char2 q) = Unit {0}
  PlainWithoutRep3 (R.var h) = PlainWithoutRep3 h
  PlainWithoutRep3 (R.con1 h k) = PlainWithoutRep3 h × PlainWithoutRep3 k
  PlainWithoutRep3 (R.con2 h k) = PlainWithoutRep3 h × PlainWithoutRep3 k
  PlainWithoutRep3 (R.con3 h) = PlainWithoutRep3 h
  PlainWithoutRep3 (R.ord1 h) = PlainWithoutRep3 h
  PlainWithoutRep3 (R.ord2 h k) = PlainWithoutRep3 h × PlainWithoutRep3 k
  PlainWithoutRep3 (R.not1 h) = PlainWithoutRep3 h
  PlainWithoutRep3 (R.not2 h) = PlainWithoutRep3 h
  PlainWithoutRep3 (R.rep1 h) = PlainWithoutRep3 h
  PlainWithoutRep3 (R.rep2 h q k) = PlainWithoutRep3 h × PlainWithoutRep3 k
  PlainWithoutRep3 (R.rep3 h) = ⊥

  -- A node of the grammar, or a use of a rule of it: its children are there, and it is no repetition of nothing.
  pub record Inside (p : Node) : Type 0 where
    pub over : ℕ
    pub most : over ≤ length g.nodes
    pub below : Below g over p
    pub consuming : RepeatsNothing g p → ⊥

  -- A rule is grown on from a match that could be an answer of its root.
  abbrev pub Sought : Goal → ℕ → Type 0
  Sought (at p) x = Inside p
  Sought (inc a e ts) x = (a < length g.roots) × Span g line (root g a) x e

  -- A use of a rule is no repetition.
  no_use : {a : ℕ} → RepeatsNothing g (rule a) → ⊥
  no_use h = by h refl
    where
      by : {a : ℕ} {p : Node} → RepeatsNothing g p → p ≡ rule a → ⊥
      by (repeats m) e = let z : ◌≡◌ {A = ℕ} 0 1 = cc in omega arith

  module _ (closed : Closed g) (good : Consuming g) where
    -- A node of the grammar is inside it, and so are a use of one of its rules, a child and a root.
    pub inside_node : (i : ℕ) → i < length g.nodes → Inside (node g i)
    inside_node i li = record { over = i; most = omega arith; below = closed.nodes i li; consuming = good.none i li }

    pub inside_use : (a : ℕ) → a < length g.roots → Inside (rule a)
    inside_use a la = record { over = 0; most = omega arith; below = la; consuming = no_use }

    child : {p : Node} (s : Inside p) (j : ℕ) → j < s.over → Inside (node g j)
    child s j lj = let m = s.most in inside_node j (omega arith)

    root_of_lem : (a : ℕ) → a < length g.roots → Inside (root g a)
    root_of_lem a la = inside_node (root_of g a) (closed.roots a la)

    -- Inside the grammar the plain rules answer without rep.3.
    pub plain_without_rep3 : {p : Node} {x : ℕ} {r : Answer} (d : Plain g line p x r) → Inside p → PlainWithoutRep3 d
    plain_without_rep3 R.empty1 s = tt
    plain_without_rep3 (R.char1 q) s = tt
    plain_without_rep3 (R.char2 q) s = tt
    plain_without_rep3 (R.var {a = a} h) s = plain_without_rep3 h (root_of_lem a s.below)
    plain_without_rep3 (R.con1 {a = a} {b = b} h k) s = (plain_without_rep3 h (child s a s.below.0), plain_without_rep3 k (child s b s.below.1))
    plain_without_rep3 (R.con2 {a = a} {b = b} h k) s = (plain_without_rep3 h (child s a s.below.0), plain_without_rep3 k (child s b s.below.1))
    plain_without_rep3 (R.con3 {a = a} h) s = plain_without_rep3 h (child s a s.below.0)
    plain_without_rep3 (R.ord1 {a = a} h) s = plain_without_rep3 h (child s a s.below.0)
    plain_without_rep3 (R.ord2 {a = a} {b = b} h k) s = (plain_without_rep3 h (child s a s.below.0), plain_without_rep3 k (child s b s.below.1))
    plain_without_rep3 (R.not1 {a = a} h) s = plain_without_rep3 h (child s a s.below)
    plain_without_rep3 (R.not2 {a = a} h) s = plain_without_rep3 h (child s a s.below)
    plain_without_rep3 (R.rep1 {a = a} h) s = plain_without_rep3 h (child s a s.below)
    plain_without_rep3 (R.rep2 {a = a} h q k) s = (plain_without_rep3 h (child s a s.below), plain_without_rep3 k s)
    plain_without_rep3 (R.rep3 h) s = s.consuming (repeats ((span g line h).empty (omega arith)))

    -- It is used in no reading by the plain rules.
    pub plain_reads_without_rep3 : 0 < length g.roots → {r : Answer} (d : Plain g line (rule 0) 0 r) → PlainWithoutRep3 d
    plain_reads_without_rep3 rules d = plain_without_rep3 d (inside_use 0 rules)

-- By the bounded rules, whichever rules become live.
module _ (g : Grammar) (line : List ℕ) (which : ℕ → Bool) where
  -- Live uses as a reading makes them. 01: "becomes live with failure held"; "the match is held and the root visited again".
  pub data Live : List Note → Type 0 where
    nothing : Live []
    begun : {l : List Note} {a x : ℕ} → Live l → which a ≡ true → look l a x ≡ none → Live (noted a x fail l)
    grown : {l : List Note} {a x e : ℕ} {n : Amount} {q : Answer} {ts : Trees} → Live (noted a x q l) → Bounded g line which (noted a x q l) (at (root g a)) x (ok e ts) n → Live (noted a x (ok e ts) l)

  -- Both, since a match is held in place of what was held before.
  both_held : {l : List Note} → Live l → Held g line l × Held g line (older g line l)
  both_held nothing = (nothing_held g line, nothing_held g line)
  both_held (begun {l = l} {a = a} {x = x} k w o) = let f = (both_held k).0 in (held_more g line l a x fail tt f, f)
  both_held (grown {l = l} {a = a} {x = x} {e = e} {ts = ts} k h) =
      let f = both_held k in (held_more g line l a x (ok e ts) (spans g line h f.0) f.1, f.1)

  -- What is held there could be an answer of its root, as Spans has it: a failure, or a match that is empty only where the root may be.
  pub live_held : {l : List Note} → Live l → Held g line l
  live_held k = (both_held k).0

  -- The promise about node a, a repetition's child: a match of it consumes.
  pub record Consumes (a : ℕ) : Type 0 where
    -- By the plain rules.
    pub plain : {x y : ℕ} {ts : Trees} → Plain g line (node g a) x (ok y ts) → x < y
    -- By the bounded rules, whatever is live, as long as what is held could be an answer.
    pub bounded : {l : List Note} {x y : ℕ} {n : Amount} {ts : Trees} → Held g line l → Bounded g line which l (at (node g a)) x (ok y ts) n → x < y
    -- So with the live uses of a reading, growing included.
    pub live : {l : List Note} {x y : ℕ} {n : Amount} {ts : Trees} → Live l → Bounded g line which l (at (node g a)) x (ok y ts) n → x < y
    -- So a visit of it that is done, with nothing kept.
    pub visited : {l : List Note} → Live l → (d x : ℕ) (s : State) → All (λ r t. Past x r) (visit g line (grows which) d l a x s)
    -- And one with answers kept, where they are the plain rules'.
    pub visited_kept : (l : List Note) (d x : ℕ) (s : State) → Right g line s.kept → All (λ r t. Past x r) (visit g line keeps d l a x s)

  module _ (good : Consuming g) (i a : ℕ) (li : i < length g.nodes) (e : node g i ≡ rep a) where
    -- A match of the child that goes forward, and is empty only where the child may be, consumes.
    past : {x y : ℕ} → Span g line (node g a) x y → x < y
    past {x} {y} s =
        let f = s.forward in
        let z : x ≢ y = λ q. good.none i li (rw e (repeats (s.empty (omega arith)))) in
        omega arith

    -- The same of an answer, which may be a failure.
    past_plain : (x : ℕ) (r : Answer) → Plain g line (node g a) x r → Past x r
    past_plain x fail h = tt
    past_plain x (ok y ts) h = past (span g line h)

    past_bounded : (l : List Note) → Held g line l → (x : ℕ) (n : Amount) (r : Answer) → Bounded g line which l (at (node g a)) x r n → Past x r
    past_bounded l f x n fail h = tt
    past_bounded l f x n (ok y ts) h = past (spans g line h f)

    -- A repetition's child never matches without consuming.
    pub consumes : Consumes a
    consumes = record {
      plain = λ h. past (span g line h);
      bounded = λ f h. past (spans g line h f);
      live = λ k h. past (spans g line h (live_held k));
      visited = λ k d x s. all_map (visit g line (grows which) d _ a x s) (of_visit g line which d _ a x s) (λ r t h. past_bounded _ (live_held k) x h.amount r h.rules);
      visited_kept = λ l d x s o. all_map (visit g line keeps d l a x s) (visit_plain g line d l a x s o) (λ r t h. past_plain x r h.0);
    }

  -- rep.3 is used nowhere in a derivation by the bounded rules.
  abbrev pub WithoutRep3 : {l : List Note} {p : Goal} {x : ℕ} {n : Amount} {r : Answer} → Bounded g line which l p x r n → Type 0
  WithoutRep3 R.empty1 = Unit {0}
  WithoutRep3 (R.char1 q) = Unit {0}
  WithoutRep3 (R.char2 q) = Unit {0}
  WithoutRep3 (R.con1 h k) = WithoutRep3 h × WithoutRep3 k
  WithoutRep3 (R.con2 h k) = WithoutRep3 h × WithoutRep3 k
  WithoutRep3 (R.con3 h) = WithoutRep3 h
  WithoutRep3 (R.ord1 h) = WithoutRep3 h
  WithoutRep3 (R.ord2 h k) = WithoutRep3 h × WithoutRep3 k
  WithoutRep3 (R.not1 h) = WithoutRep3 h
  WithoutRep3 (R.not2 h) = WithoutRep3 h
  WithoutRep3 (R.rep1 h) = WithoutRep3 h
  WithoutRep3 (R.rep2 h q k) = WithoutRep3 h × WithoutRep3 k
  WithoutRep3 (R.rep3 h) = ⊥
  WithoutRep3 (R.var w h) = WithoutRep3 h
  WithoutRep3 (R.lvar1 w q h k) = WithoutRep3 h × WithoutRep3 k
  WithoutRep3 (R.lvar2 w q h) = WithoutRep3 h
  WithoutRep3 (R.lvar3 w q) = Unit {0}
  WithoutRep3 (R.inc1 h q k) = WithoutRep3 h × WithoutRep3 k
  WithoutRep3 (R.inc2 h) = WithoutRep3 h
  WithoutRep3 (R.inc3 h q) = WithoutRep3 h

  -- At every point of a derivation the live uses are such as come about in a reading.
  abbrev pub LiveThroughout : {l : List Note} {p : Goal} {x : ℕ} {n : Amount} {r : Answer} → Bounded g line which l p x r n → Type 0
  LiveThroughout (R.empty1 {l = l}) = Live l
  LiveThroughout (R.char1 {l = l} q) = Live l
  LiveThroughout (R.char2 {l = l} q) = Live l
  LiveThroughout (R.con1 {l = l} h k) = Live l × LiveThroughout h × LiveThroughout k
  LiveThroughout (R.con2 {l = l} h k) = Live l × LiveThroughout h × LiveThroughout k
  LiveThroughout (R.con3 {l = l} h) = Live l × LiveThroughout h
  LiveThroughout (R.ord1 {l = l} h) = Live l × LiveThroughout h
  LiveThroughout (R.ord2 {l = l} h k) = Live l × LiveThroughout h × LiveThroughout k
  LiveThroughout (R.not1 {l = l} h) = Live l × LiveThroughout h
  LiveThroughout (R.not2 {l = l} h) = Live l × LiveThroughout h
  LiveThroughout (R.rep1 {l = l} h) = Live l × LiveThroughout h
  LiveThroughout (R.rep2 {l = l} h q k) = Live l × LiveThroughout h × LiveThroughout k
  LiveThroughout (R.rep3 {l = l} h) = Live l × LiveThroughout h
  LiveThroughout (R.var {l = l} w h) = Live l × LiveThroughout h
  LiveThroughout (R.lvar1 {l = l} w q h k) = Live l × LiveThroughout h × LiveThroughout k
  LiveThroughout (R.lvar2 {l = l} w q h) = Live l × LiveThroughout h
  LiveThroughout (R.lvar3 {l = l} w q) = Live l
  LiveThroughout (R.inc1 {l = l} h q k) = Live l × LiveThroughout h × LiveThroughout k
  LiveThroughout (R.inc2 {l = l} h) = Live l × LiveThroughout h
  LiveThroughout (R.inc3 {l = l} h q) = Live l × LiveThroughout h

  -- A rule is grown on from a match that it holds.
  abbrev Holding : List Note → Goal → ℕ → Type 0
  Holding l (at p) x = Unit {0}
  Holding l (inc a e ts) x = Live (noted a x (ok e ts) l)

  pub live_throughout : {l : List Note} {p : Goal} {x : ℕ} {n : Amount} {r : Answer} (d : Bounded g line which l p x r n) → Live l → Holding l p x → LiveThroughout d
  live_throughout R.empty1 f s = f
  live_throughout (R.char1 q) f s = f
  live_throughout (R.char2 q) f s = f
  live_throughout (R.con1 h k) f s = (f, live_throughout h f tt, live_throughout k f tt)
  live_throughout (R.con2 h k) f s = (f, live_throughout h f tt, live_throughout k f tt)
  live_throughout (R.con3 h) f s = (f, live_throughout h f tt)
  live_throughout (R.ord1 h) f s = (f, live_throughout h f tt)
  live_throughout (R.ord2 h k) f s = (f, live_throughout h f tt, live_throughout k f tt)
  live_throughout (R.not1 h) f s = (f, live_throughout h f tt)
  live_throughout (R.not2 h) f s = (f, live_throughout h f tt)
  live_throughout (R.rep1 h) f s = (f, live_throughout h f tt)
  live_throughout (R.rep2 h q k) f s = (f, live_throughout h f tt, live_throughout k f tt)
  live_throughout (R.rep3 h) f s = (f, live_throughout h f tt)
  live_throughout (R.var w h) f s = (f, live_throughout h f tt)
  live_throughout (R.lvar1 w q h k) f s = let b = begun f w q in (f, live_throughout h b tt, live_throughout k f (grown b h))
  live_throughout (R.lvar2 w q h) f s = (f, live_throughout h (begun f w q) tt)
  live_throughout (R.lvar3 w q) f s = f
  live_throughout (R.inc1 h q k) f s = (f, live_throughout h s tt, live_throughout k f (grown s h))
  live_throughout (R.inc2 h) f s = (f, live_throughout h s tt)
  live_throughout (R.inc3 h q) f s = (f, live_throughout h s tt)

  -- So it is at every point of a reading, growing included.
  pub reads_live : {r : Answer} {n : Amount} (h : Reads g line which r n) → LiveThroughout h.rules
  reads_live h = live_throughout h.rules nothing tt

  module _ (closed : Closed g) (good : Consuming g) where
    -- Inside the grammar the bounded rules answer without rep.3, whatever is live.
    pub without_rep3 : {l : List Note} {p : Goal} {x : ℕ} {n : Amount} {r : Answer} (d : Bounded g line which l p x r n) → Held g line l → Sought g line p x → WithoutRep3 d
    without_rep3 R.empty1 f s = tt
    without_rep3 (R.char1 q) f s = tt
    without_rep3 (R.char2 q) f s = tt
    without_rep3 (R.con1 {a = a} {b = b} h k) f s = (without_rep3 h f (child g line closed good s a s.below.0), without_rep3 k f (child g line closed good s b s.below.1))
    without_rep3 (R.con2 {a = a} {b = b} h k) f s = (without_rep3 h f (child g line closed good s a s.below.0), without_rep3 k f (child g line closed good s b s.below.1))
    without_rep3 (R.con3 {a = a} h) f s = without_rep3 h f (child g line closed good s a s.below.0)
    without_rep3 (R.ord1 {a = a} h) f s = without_rep3 h f (child g line closed good s a s.below.0)
    without_rep3 (R.ord2 {a = a} {b = b} h k) f s = (without_rep3 h f (child g line closed good s a s.below.0), without_rep3 k f (child g line closed good s b s.below.1))
    without_rep3 (R.not1 {a = a} h) f s = without_rep3 h f (child g line closed good s a s.below)
    without_rep3 (R.not2 {a = a} h) f s = without_rep3 h f (child g line closed good s a s.below)
    without_rep3 (R.rep1 {a = a} h) f s = without_rep3 h f (child g line closed good s a s.below)
    without_rep3 (R.rep2 {a = a} h q k) f s = (without_rep3 h f (child g line closed good s a s.below), without_rep3 k f s)
    without_rep3 (R.rep3 h) f s = s.consuming (repeats ((spans g line h f).empty (omega arith)))
    without_rep3 (R.var {a = a} w h) f s = without_rep3 h f (root_of_lem g line closed good a s.below)
    without_rep3 (R.lvar1 {l = l} {a = a} {x = x} w q h k) f s =
        let m = held_more g line l a x fail tt f in (without_rep3 h m (root_of_lem g line closed good a s.below), without_rep3 k f (s.below, spans g line h m))
    without_rep3 (R.lvar2 {l = l} {a = a} {x = x} w q h) f s = without_rep3 h (held_more g line l a x fail tt f) (root_of_lem g line closed good a s.below)
    without_rep3 (R.lvar3 w q) f s = tt
    without_rep3 (R.inc1 {l = l} {a = a} {x = x} {e = e} {ts = ts} h q k) f s =
        let m = held_more g line l a x (ok e ts) s.1 f in (without_rep3 h m (root_of_lem g line closed good a s.0), without_rep3 k f (s.0, spans g line h m))
    without_rep3 (R.inc2 {l = l} {a = a} {x = x} {e = e} {ts = ts} h) f s = without_rep3 h (held_more g line l a x (ok e ts) s.1 f) (root_of_lem g line closed good a s.0)
    without_rep3 (R.inc3 {l = l} {a = a} {x = x} {e = e} {ts = ts} h q) f s = without_rep3 h (held_more g line l a x (ok e ts) s.1 f) (root_of_lem g line closed good a s.0)

    -- It is used in no reading by the bounded rules.
    pub reads_without_rep3 : 0 < length g.roots → {r : Answer} {n : Amount} (h : Reads g line which r n) → WithoutRep3 h.rules
    reads_without_rep3 rules h = without_rep3 h.rules (nothing_held g line) (inside_use g line closed good 0 rules)
