-- The plain rules give one answer, by derivations of one height.
use mathlib.Core.Path.{◌≡◌, refl, sym, ap, ap₂, ◌∙◌}
use Prim.Native.Nat.{ℕ, suc, ◌+◌}
use mathlib.Core.List.{List}
use Rattle.meaning.specs.Grammar.{Node, Grammar, no_trees, Answer, ok, wrap}
use Rattle.meaning.specs.Rules.{Plain, empty1, char1, char2, var, con1, con2, con3, ord1, ord2, not1, not2, rep1, rep2, rep3}
use Rattle.meaning.proofs.Answers.{Same, ends, never, never', clash, step, steps, joined}

-- Higher than both.
abbrev higher : ℕ → ℕ → ℕ
higher n m = suc (n + m)

module _ (g : Grammar) (line : List ℕ) where
  -- How high a derivation is: higher than each of its parts.
  abbrev pub height : {p : Node} {x : ℕ} {r : Answer} → Plain g line p x r → ℕ
  height empty1 = 0
  height (char1 q) = 0
  height (char2 q) = 0
  height (var h) = suc (height h)
  height (con1 h k) = higher (height h) (height k)
  height (con2 h k) = higher (height h) (height k)
  height (con3 h) = suc (height h)
  height (ord1 h) = suc (height h)
  height (ord2 h k) = higher (height h) (height k)
  height (not1 h) = suc (height h)
  height (not2 h) = suc (height h)
  height (rep1 h) = suc (height h)
  height (rep2 h q k) = higher (height h) (height k)
  height (rep3 h) = suc (height h)

  -- The positions are equal and not one, so that no derivation has to be carried from one to the other.
  pub det : {p : Node} {x x' : ℕ} → x ≡ x' → {r s : Answer} (d : Plain g line p x r) (e : Plain g line p x' s) → Same r s (height d) (height e)
  det w empty1 empty1 = record { answer = ap (λ x. ok x no_trees) w; count = refl }
  det w (char1 p) (char1 q) = record { answer = ap (λ x. ok (suc x) no_trees) w; count = refl }
  det w (char1 p) (char2 q) = clash p (rw w q)
  det w (char2 p) (char1 q) = clash (rw w q) p
  det w (char2 p) (char2 q) = record { answer = refl; count = refl }
  det w (var {a = a} h) (var k) = let i = det w h k in step suc (ap₂ (wrap a) w i.answer) i
  det w (con1 h h') (con1 k k') = let i = det w h k in let j = det (ends i.answer) h' k' in steps higher (joined i.answer j.answer) i j
  det w (con1 h h') (con2 k k') = never (det (ends (det w h k).answer) h' k').answer
  det w (con1 h h') (con3 k) = never (det w h k).answer
  det w (con2 h h') (con1 k k') = never' (det (ends (det w h k).answer) h' k').answer
  det w (con2 h h') (con2 k k') = let i = det w h k in steps higher refl i (det (ends i.answer) h' k')
  det w (con2 h h') (con3 k) = never (det w h k).answer
  det w (con3 h) (con1 k k') = never' (det w h k).answer
  det w (con3 h) (con2 k k') = never' (det w h k).answer
  det w (con3 h) (con3 k) = step suc refl (det w h k)
  det w (ord1 h) (ord1 k) = let i = det w h k in step suc i.answer i
  det w (ord1 h) (ord2 k k') = never (det w h k).answer
  det w (ord2 h h') (ord1 k) = never' (det w h k).answer
  det w (ord2 h h') (ord2 k k') = let j = det w h' k' in steps higher j.answer (det w h k) j
  det w (not1 h) (not1 k) = step suc (ap (λ x. ok x no_trees) w) (det w h k)
  det w (not1 h) (not2 k) = never' (det w h k).answer
  det w (not2 h) (not1 k) = never (det w h k).answer
  det w (not2 h) (not2 k) = step suc refl (det w h k)
  det w (rep1 h) (rep1 k) = step suc (ap (λ x. ok x no_trees) w) (det w h k)
  det w (rep1 h) (rep2 k q k') = never' (det w h k).answer
  det w (rep1 h) (rep3 k) = never' (det w h k).answer
  det w (rep2 h p h') (rep1 k) = never (det w h k).answer
  det w (rep2 h p h') (rep2 k q k') = let i = det w h k in let j = det (ends i.answer) h' k' in steps higher (joined i.answer j.answer) i j
  det w (rep2 h p h') (rep3 k) = absurd (p (w ∙ sym (ends (det w h k).answer)))
  det w (rep3 h) (rep1 k) = never (det w h k).answer
  det w (rep3 h) (rep2 k q k') = absurd (q (sym w ∙ ends (det w h k).answer))
  det w (rep3 h) (rep3 k) = step suc (ap (λ x. ok x no_trees) w) (det w h k)

  pub one_answer : {p : Node} {x : ℕ} {r s : Answer} → Plain g line p x r → Plain g line p x s → r ≡ s
  one_answer h k = (det refl h k).answer
