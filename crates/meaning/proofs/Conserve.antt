-- 003's Lemma 1: what the plain rules answer, the bounded rules answer too, whatever the grammar and whichever rules become live.
use mathlib.Core.Path.{◌≡◌, refl, sym, subst, ap, ap₂, ◌∙◌}
use mathlib.Core.Logic.{⊎_elim}
use Prim.Native.Nat.{ℕ, suc, ◌+◌, ◌<◌, max}
use native.Mathlib.Nat.{le_refl, max-eq_left}
use mathlib.Core.Bool.{Bool, true, false}
use mathlib.Core.List.{List, []}
use mathlib.Core.Option.{Option, none, some}
use native.Mathlib.Omega.{arith}
use Rattle.meaning.specs.Grammar.{Node, rule, Grammar, root, Answer, fail, ok, wrap, Note, noted, look}
use Rattle.meaning.specs.Rules.{at, Plain, furthest_of, Amount, nothing, asking, ◌⊕◌, visiting, in_place, Bounded, every_rule, Reads}
use Rattle.meaning.specs.Rules as R
use Rattle.meaning.proofs.Answers.{found}
use Rattle.meaning.proofs.OnePlain.{height, det}
use Rattle.meaning.proofs.OneBounded.{det as bounded-once}
use Rattle.meaning.proofs.Notes.{look_cases}

module _ (g : Grammar) (line : List ℕ) (live : ℕ → Bool) where
  -- Whatever is live, if the plain rules answer it at all, they do so by a derivation higher than h.
  abbrev Above : List Note → ℕ → Type 0
  Above l h = (a w : ℕ) (q : Answer) → look l a w ≡ some q → (c : Answer) (d : Plain g line (rule a) w c) → h < height g line d

  -- The bounded rules answer, and the furthest position is f.
  abbrev Some : List Note → Node → ℕ → Answer → ℕ → Type 0
  Some l p x r f = (n : Amount) × Bounded g line live l (at p) x r n × (n.furthest ≡ f)

  -- The height of a part, of one or of two.
  part : (l : List Note) (n : ℕ) → Above l (suc n) → Above l n
  part l n f a w q o c d = let z : suc n < height g line d = f a w q o c d in omega arith

  first : (l : List Note) (n m : ℕ) → Above l (suc (n + m)) → Above l n
  first l n m f a w q o c d = let z : suc (n + m) < height g line d = f a w q o c d in omega arith

  second : (l : List Note) (n m : ℕ) → Above l (suc (n + m)) → Above l m
  second l n m f a w q o c d = let z : suc (n + m) < height g line d = f a w q o c d in omega arith

  -- A use that becomes live is answered by its first attempt: the second is as long, and gets no further.
  of_lvar : (l : List Note) (a x : ℕ) (r : Answer) (f : ℕ) → live a ≡ true → look l a x ≡ none → ((q : Answer) → Some (noted a x q l) (root g a) x r f) → Some l (rule a) x (wrap a x r) f
  unfolding wrap
  of_lvar l a x fail f w o i = let h = i fail in (visiting h.0, R.lvar2 w o h.1, h.2)
  of_lvar l a x (ok e ts) f w o i =
      let h = i fail in
      let k = i (ok e ts) in
      (visiting (h.0 ⊕ k.0), R.lvar1 w o h.1 (R.inc3 k.1 (omega arith)), ap₂ max h.2 k.2 ∙ max-eq_left (le_refl f))

  -- A use that becomes live is higher than its root.
  module _ (l : List Note) (a x : ℕ) {r : Answer} (h : Plain g line (root g a) x r) (f : Above l (suc (height g line h))) where
    same_use : (b : ℕ) → a ≡ b → (w : ℕ) → x ≡ w → (c : Answer) (d : Plain g line (rule b) w c) → height g line h < height g line d
    same_use b e =
        subst (λ b. (w : ℕ) → x ≡ w → (c : Answer) (d : Plain g line (rule b) w c) → height g line h < height g line d) e
        (λ w z c d. let i : suc (height g line h) ≡ height g line d = (det g line z (R.var {a = a} h) d).count in omega arith)

    under : (q : Answer) → Above (noted a x q l) (height g line h)
    under q b w s o c d =
        ⊎_elim (λ e. same_use b e.0 w e.1 c d) (λ o'. let z : suc (height g line h) < height g line d = f b w s o' c d in omega arith) (look_cases l a x q b w o)

    -- A use that is live is not met again.
    of_use : live a ≡ true → (o : Option Answer) → look l a x ≡ o → ((q : Answer) → Some (noted a x q l) (root g a) x r (furthest_of h)) → Some l (rule a) x (wrap a x r) (furthest_of h)
    of_use w none o i = of_lvar l a x r (furthest_of h) w o i
    of_use w (some q) o i = let z : suc (height g line h) < suc (height g line h) = f a x q o (wrap a x r) (R.var h) in absurd (omega arith)

    of_var : (b : Bool) → live a ≡ b → ((m : List Note) → Above m (height g line h) → Some m (root g a) x r (furthest_of h)) → Some l (rule a) x (wrap a x r) (furthest_of h)
    of_var true w i = of_use w (look l a x) refl (λ q. i (noted a x q l) (under q))
    of_var false w i = let k = i l (part l (height g line h) f) in (visiting k.0, R.var w k.1, k.2)

  -- A part, two parts, and two of which the second is made in place.
  one : {l : List Note} {p q : Node} {x y : ℕ} {r s : Answer} {f : ℕ} (h : Some l p x r f) → Bounded g line live l (at q) y s (visiting h.0) → Some l q y s f
  one h d = (visiting h.0, d, h.2)

  two : {l : List Note} {p q w : Node} {x y z : ℕ} {r s t : Answer} {f e : ℕ} (h : Some l p x r f) (k : Some l q y s e) → Bounded g line live l (at w) z t (visiting (h.0 ⊕ k.0)) → Some l w z t (max f e)
  two h k d = (visiting (h.0 ⊕ k.0), d, ap₂ max h.2 k.2)

  in_turn : {l : List Note} {p q w : Node} {x y z : ℕ} {r s t : Answer} {f e : ℕ} (h : Some l p x r f) (k : Some l q y s e) → Bounded g line live l (at w) z t (visiting (h.0 ⊕ in_place k.0))
      → Some l w z t (max f e)
  in_turn h k d = (visiting (h.0 ⊕ in_place k.0), d, ap₂ max h.2 k.2)

  conserve : {p : Node} {x : ℕ} {r : Answer} (d : Plain g line p x r) (l : List Note) → Above l (height g line d) → Some l p x r (furthest_of d)
  conserve R.empty1 l f = (visiting nothing, R.empty1, refl)
  conserve (R.char1 {x = x} q) l f = (visiting (asking x), R.char1 q, refl)
  conserve (R.char2 {x = x} q) l f = (visiting (asking x), R.char2 q, refl)
  conserve (R.var {a = a} {x = x} h) l f = of_var l a x h f (live a) refl (λ m u. conserve h m u)
  conserve (R.con1 h k) l f = let i = conserve h l (first l (height g line h) (height g line k) f) in let j = conserve k l (second l (height g line h) (height g line k) f) in two i j (R.con1 i.1 j.1)
  conserve (R.con2 h k) l f = let i = conserve h l (first l (height g line h) (height g line k) f) in let j = conserve k l (second l (height g line h) (height g line k) f) in two i j (R.con2 i.1 j.1)
  conserve (R.con3 h) l f = let i = conserve h l (part l (height g line h) f) in one i (R.con3 i.1)
  conserve (R.ord1 h) l f = let i = conserve h l (part l (height g line h) f) in one i (R.ord1 i.1)
  conserve (R.ord2 h k) l f = let i = conserve h l (first l (height g line h) (height g line k) f) in let j = conserve k l (second l (height g line h) (height g line k) f) in two i j (R.ord2 i.1 j.1)
  conserve (R.not1 h) l f = let i = conserve h l (part l (height g line h) f) in one i (R.not1 i.1)
  conserve (R.not2 h) l f = let i = conserve h l (part l (height g line h) f) in one i (R.not2 i.1)
  conserve (R.rep1 h) l f = let i = conserve h l (part l (height g line h) f) in one i (R.rep1 i.1)
  conserve (R.rep2 h q k) l f = let i = conserve h l (first l (height g line h) (height g line k) f) in let j = conserve k l (second l (height g line h) (height g line k) f) in in_turn i j (R.rep2 i.1 q j.1)
  conserve (R.rep3 h) l f = let i = conserve h l (part l (height g line h) f) in one i (R.rep3 i.1)

  -- With nothing live. The furthest position is the plain derivation's.
  pub lemma_1 : {p : Node} {x : ℕ} {r : Answer} (d : Plain g line p x r) → (n : Amount) × Bounded g line live [] (at p) x r n × (n.furthest ≡ furthest_of d)
  unfolding look
  lemma_1 d = conserve d [] (λ a w q o c k. found refl o)

  -- A use of rule 0 with nothing live makes a visit at least, and is a reading with the others.
  pub as_reading : {r : Answer} {n : Amount} → Bounded g line live [] (at (rule 0)) 0 r n → (m : Amount) × Reads g line live r m × (visiting m ≡ n)
  as_reading (R.var {n = n} w h) = (n, record { rules = R.var w h }, refl)
  as_reading (R.lvar1 {n = n} {m = m} w o h k) = (n ⊕ m, record { rules = R.lvar1 w o h k }, refl)
  as_reading (R.lvar2 {n = n} w o h) = (n, record { rules = R.lvar2 w o h }, refl)
  as_reading (R.lvar3 w o) = (nothing, record { rules = R.lvar3 w o }, refl)

  -- So of the whole reading.
  pub plain_reads : {r : Answer} (d : Plain g line (rule 0) 0 r) → (n : Amount) × Reads g line live r n × (n.furthest ≡ furthest_of d)
  plain_reads d = let h = lemma_1 d in let k = as_reading h.1 in (k.0, k.1, ap (λ (n : Amount). n.furthest) k.2 ∙ h.2)

module _ (g : Grammar) (line : List ℕ) where
  one_furthest : {p : Node} {x : ℕ} {r s : Answer} (d : Plain g line p x r) (e : Plain g line p x s) → furthest_of d ≡ furthest_of e
  one_furthest d e =
      let h = lemma_1 g line every_rule d in
      let k = lemma_1 g line every_rule e in
      sym h.2 ∙ ap (λ (n : Amount). n.furthest) (bounded-once g line every_rule h.1 k.1).count ∙ k.2

  -- Two derivations by the plain rules for one node and position have one furthest position.
  pub same_furthest : {p q : Node} {x y : ℕ} {r s : Answer} → p ≡ q → x ≡ y → (d : Plain g line p x r) (e : Plain g line q y s) → furthest_of d ≡ furthest_of e
  same_furthest {p = p} {y = y} {s = s} m w d =
      subst (λ q. (e : Plain g line q y s) → furthest_of d ≡ furthest_of e) m (subst (λ z. (e : Plain g line p z s) → furthest_of d ≡ furthest_of e) w (λ e. one_furthest d e))
