-- The bounded rules give one answer, whichever rules become live, and their derivations amount to one number of visits, one furthest position and one depth.
use mathlib.Core.Path.{◌≡◌, refl, sym, subst, ap, ap₂, ◌∙◌}
use mathlib.Core.Logic.{◌≢◌}
use Prim.Native.Nat.{ℕ, suc, ◌<◌, ◌≤◌}
use mathlib.Core.Bool.{Bool}
use mathlib.Core.List.{List}
use native.Mathlib.Omega.{arith}
use Rattle.meaning.specs.Grammar.{rep, Grammar, Trees, Answer, fail, ok, wrap, Note}
use Rattle.meaning.specs.Rules.{Goal, at, inc, Amount, ◌⊕◌, visiting, in_place, Bounded, Reads, empty1, char1, char2, con1, con2, con3, ord1, ord2, not1, not2, rep1, rep2, rep3, var, lvar1, lvar2, lvar3, inc1, inc2, inc3}
use Rattle.meaning.proofs.Answers.{Same, ends, trees, never, never', clash, found, held, joined, step, steps}

-- A child's match ends in one place, so it is not both at its start and elsewhere, nor both longer than what is held and not.
stays : {A : Type 0} {x y : ℕ} {ts us : Trees} → ok y ts ≡ ok x us → x ≢ y → A
stays e n = absurd (n (sym (ends e)))

grows : {A : Type 0} {e f f' : ℕ} {ts us : Trees} → ok f ts ≡ ok f' us → e < f → f' ≤ e → A
grows {f = f} {f' = f'} i p q = let z : f ≡ f' = ends i in absurd (omega arith)

-- A visit with two others made for it.
abbrev together : Amount → Amount → Amount
together n m = visiting (n ⊕ m)

-- A visit with one made for it and another in its place.
abbrev in_turn : Amount → Amount → Amount
in_turn n m = visiting (n ⊕ in_place m)

pub same_amount : {n m : Amount} → n.visits ≡ m.visits → n.furthest ≡ m.furthest → n.depth ≡ m.depth → n ≡ m
same_amount {n = n} {m = m} v f d =
    ap₂ (λ a b. record { visits = a; furthest = b; depth = n.depth }) v f ∙ ap (λ c. record { visits = m.visits; furthest = m.furthest; depth = c }) d

-- Without the visit.
pub unvisit : (n m : Amount) → visiting n ≡ visiting m → n ≡ m
unvisit n m e =
    let v : suc n.visits ≡ suc m.visits = ap (λ (a : Amount). a.visits) e in
    let d : suc n.depth ≡ suc m.depth = ap (λ (a : Amount). a.depth) e in
    same_amount (omega arith) (ap (λ (a : Amount). a.furthest) e) (omega arith)

module _ (g : Grammar) (line : List ℕ) (live : ℕ → Bool) where
  move : {l : List Note} {p : Goal} {x y : ℕ} {n : Amount} {r : Answer} {ts us : Trees} → ok x ts ≡ ok y us → Bounded g line live l p y r n → Bounded g line live l p x r n
  move {l} {p} {x} {y} {n} {r} e = subst (λ z. Bounded g line live l p z r n) (sym (ends e))

  grown : {l : List Note} {a x e f : ℕ} {n : Amount} {r : Answer} {ts us : Trees} → ok e ts ≡ ok f us → Bounded g line live l (inc a f us) x r n → Bounded g line live l (inc a e ts) x r n
  grown p k = rw (ends p, trees p) k

  pub det : {l : List Note} {p : Goal} {x : ℕ} {n : Amount} {r : Answer} → Bounded g line live l p x r n → {s : Answer} {m : Amount} → Bounded g line live l p x s m → Same r s n m
  det empty1 empty1 = record { answer = refl; count = refl }
  det (char1 p) (char1 q) = record { answer = refl; count = refl }
  det (char1 p) (char2 q) = clash p q
  det (char2 p) (char1 q) = clash q p
  det (char2 p) (char2 q) = record { answer = refl; count = refl }
  det (con1 h h') (con1 k k') = let i = det h k in let j = det h' (move i.answer k') in steps together (joined i.answer j.answer) i j
  det (con1 h h') (con2 k k') = never (det h' (move (det h k).answer k')).answer
  det (con1 h h') (con3 k) = never (det h k).answer
  det (con2 h h') (con1 k k') = never' (det h' (move (det h k).answer k')).answer
  det (con2 h h') (con2 k k') = let i = det h k in steps together refl i (det h' (move i.answer k'))
  det (con2 h h') (con3 k) = never (det h k).answer
  det (con3 h) (con1 k k') = never' (det h k).answer
  det (con3 h) (con2 k k') = never' (det h k).answer
  det (con3 h) (con3 k) = step visiting refl (det h k)
  det (ord1 h) (ord1 k) = let i = det h k in step visiting i.answer i
  det (ord1 h) (ord2 k k') = never (det h k).answer
  det (ord2 h h') (ord1 k) = never' (det h k).answer
  det (ord2 h h') (ord2 k k') = let j = det h' k' in steps together j.answer (det h k) j
  det (not1 h) (not1 k) = step visiting refl (det h k)
  det (not1 h) (not2 k) = never' (det h k).answer
  det (not2 h) (not1 k) = never (det h k).answer
  det (not2 h) (not2 k) = step visiting refl (det h k)
  det (rep1 h) (rep1 k) = step visiting refl (det h k)
  det (rep1 h) (rep2 k q k') = never' (det h k).answer
  det (rep1 h) (rep3 k) = never' (det h k).answer
  det (rep2 h p h') (rep1 k) = never (det h k).answer
  det (rep2 h p h') (rep2 k q k') = let i = det h k in let j = det h' (move i.answer k') in steps in_turn (joined i.answer j.answer) i j
  det (rep2 h p h') (rep3 k) = stays (det h k).answer p
  det (rep3 h) (rep1 k) = never (det h k).answer
  det (rep3 h) (rep2 k q k') = stays (sym (det h k).answer) q
  det (rep3 h) (rep3 k) = step visiting refl (det h k)
  det (var {a = a} {x = x} w h) (var w' k) = let i = det h k in step visiting (ap (wrap a x) i.answer) i
  det (var w h) (lvar1 w' o k k') = clash w' w
  det (var w h) (lvar2 w' o k) = clash w' w
  det (var w h) (lvar3 w' o) = clash w' w
  det (lvar1 w o h h') (var w' k) = clash w w'
  det (lvar2 w o h) (var w' k) = clash w w'
  det (lvar3 w o) (var w' k) = clash w w'
  det (lvar1 {a = a} {x = x} w o h h') (lvar1 w' o' k k') = let i = det h k in let j = det h' (grown i.answer k') in steps together (ap (wrap a x) j.answer) i j
  det (lvar1 w o h h') (lvar2 w' o' k) = never (det h k).answer
  det (lvar1 w o h h') (lvar3 w' o') = found o o'
  det (lvar2 w o h) (lvar1 w' o' k k') = never' (det h k).answer
  det (lvar2 w o h) (lvar2 w' o' k) = step visiting refl (det h k)
  det (lvar2 w o h) (lvar3 w' o') = found o o'
  det (lvar3 w o) (lvar1 w' o' k k') = found o' o
  det (lvar3 w o) (lvar2 w' o' k) = found o' o
  det (lvar3 {a = a} {x = x} w o) (lvar3 w' o') = record { answer = ap (wrap a x) (held o o'); count = refl }
  det (inc1 h p h') (inc1 k q k') = let i = det h k in let j = det h' (grown i.answer k') in record { answer = j.answer; count = ap₂ ◌⊕◌ i.count j.count }
  det (inc1 h p h') (inc2 k) = never (det h k).answer
  det (inc1 h p h') (inc3 k q) = grows (det h k).answer p q
  det (inc2 h) (inc1 k q k') = never' (det h k).answer
  det (inc2 h) (inc2 k) = record { answer = refl; count = (det h k).count }
  det (inc2 h) (inc3 k q) = never' (det h k).answer
  det (inc3 h p) (inc1 k q k') = grows (sym (det h k).answer) q p
  det (inc3 h p) (inc2 k) = never (det h k).answer
  det (inc3 h p) (inc3 k q) = record { answer = refl; count = (det h k).count }

  pub rep_matches : {A : Type 0} {l : List Note} {a x : ℕ} {n : Amount} {r : Answer} → Bounded g line live l (at (rep a)) x r n → r ≡ fail → A
  rep_matches (rep1 h) e = never e
  rep_matches (rep2 h q k) e = never e
  rep_matches (rep3 h) e = never e

  -- One reading, which amounts to one number of visits, one furthest position and one depth.
  pub one_reading : {r s : Answer} {n m : Amount} → Reads g line live r n → Reads g line live s m → Same r s n m
  one_reading {n = n} {m = m} h k = let i = det h.rules k.rules in record { answer = i.answer; count = unvisit n m i.count }
