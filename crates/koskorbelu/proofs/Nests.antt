-- The trees that the bounded rules make nest: they lie in order without overlap, each one's children inside its span, and their rules are in the table.
use mathlib.Core.Path.{◌≡◌, refl}
use mathlib.Core.Logic.{◌⊎◌, inl, inr}
use Prim.Native.Nat.{ℕ, ◌<◌, ◌≤◌}
use mathlib.Core.Bool.{Bool}
use mathlib.Core.List.{List}
use mathlib.Core.Option.{some}
use lib.ListN.{length}
use native.Mathlib.Omega.{arith}
use Rattle.meaning.specs.Grammar.{Node, rule, Grammar, node, root_of, Below, Closed, Trees, Answer, fail, ok, wrap, Note, noted, look}
use Rattle.meaning.specs.Rules.{Goal, at, inc, Amount, Bounded, Reads}
use Rattle.meaning.specs.Rules as R
use Rattle.meaning.proofs.Answers.{trees, never', found}
use Rattle.meaning.proofs.Notes.{look_cases}
use Rattle.meaning.proofs.Spans.{spans}
use Rattle.stored.specs.Stored.{number_of}
use Rattle.stored.specs.Nested.{Nested}
use Rattle.stored.proofs.Nested.{nested_join}

module _ (g : Grammar) (line : List ℕ) (live : ℕ → Bool) (good : Closed g) where
  abbrev rules : ℕ
  rules = length g.roots

  -- A node of the table, or one that could stand there: its children are below i, and its rule in the table.
  abbrev Known : Node → Type 0
  Known p = (i : ℕ) × (i ≤ length g.nodes) × Below g i p

  abbrev Nests : ℕ → Answer → Type 0
  Nests x fail = Unit {0}
  Nests x (ok y ts) = Nested rules x y ts

  -- What is held for a rule at a position is such an answer.
  abbrev Held : List Note → Type 0
  Held l = (b w : ℕ) (q : Answer) → look l b w ≡ some q → Nests w q

  abbrev Goes : Goal → ℕ → Answer → Type 0
  Goes (at p) x r = Known p → Nests x r
  Goes (inc a e ts) x r = a < rules → Nested rules x e ts → Nests x r

  child : (i a : ℕ) → i ≤ length g.nodes → a < i → Known (node g a)
  child i a le h = (a, omega arith, good.nodes a (omega arith))

  the_root : (a : ℕ) → a < rules → Known (node g (root_of g a))
  the_root a h = let z = good.roots a h in (root_of g a, omega arith, good.nodes (root_of g a) z)

  held_case : (x b w : ℕ) (r q : Answer) (l : List Note) {a : ℕ} → Nests x r → Held l → ((a ≡ b) × (x ≡ w) × (r ≡ q)) ⊎ (look l b w ≡ some q) → Nests w q
  held_case x b w r q l s f (inl e) = rw (← e.1, ← e.2) s
  held_case x b w r q l s f (inr e) = f b w q e

  held_more : (l : List Note) (a x : ℕ) (r : Answer) → Nests x r → Held l → Held (noted a x r l)
  held_more l a x r s f b w q e = held_case x b w r q l s f (look_cases l a x r b w e)

  at_rule : (a x : ℕ) (r : Answer) → a < rules → Nests x r → Nests x (wrap a x r)
  unfolding wrap Nested
  at_rule a x fail h s = tt
  at_rule a x (ok y ts) h s = (h, (omega arith, (s, omega arith)))

  nests : {l : List Note} {p : Goal} {x : ℕ} {n : Amount} {r : Answer} → Bounded g line live l p x r n → Held l → Goes p x r
  unfolding Nested
  nests R.empty1 f = λ k. omega arith
  nests (R.char1 q) f = λ k. omega arith
  nests (R.char2 q) f = λ k. tt
  nests (R.con1 {a = a} {b = b} {x = x} {y = y} {z = z} {ts = ts} {us = us} h j) f =
      λ k. nested_join rules x y z ts us (nests h f (child k.0 a k.1 k.2.0)) (nests j f (child k.0 b k.1 k.2.1))
  nests (R.con2 h j) f = λ k. tt
  nests (R.con3 h) f = λ k. tt
  nests (R.ord1 {a = a} h) f = λ k. nests h f (child k.0 a k.1 k.2.0)
  nests (R.ord2 {b = b} h j) f = λ k. nests j f (child k.0 b k.1 k.2.1)
  nests (R.not1 h) f = λ k. omega arith
  nests (R.not2 h) f = λ k. tt
  nests (R.rep1 h) f = λ k. omega arith
  nests (R.rep2 {a = a} {x = x} {y = y} {z = z} {ts = ts} {us = us} h q j) f = λ k. nested_join rules x y z ts us (nests h f (child k.0 a k.1 k.2)) (nests j f k)
  nests (R.rep3 h) f = λ k. omega arith
  nests (R.var {a = a} {x = x} {r = r} w h) f = λ k. at_rule a x r k.2 (nests h f (the_root a k.2))
  nests (R.lvar1 {l = l} {a = a} {x = x} {r = r} w q h j) f =
      λ k. at_rule a x r k.2 (nests j f k.2 (nests h (held_more l a x fail tt f) (the_root a k.2)))
  nests (R.lvar2 w q h) f = λ k. tt
  nests (R.lvar3 {a = a} {x = x} {r = r} w q) f = λ k. at_rule a x r k.2 (f a x r q)
  nests (R.inc1 {l = l} {a = a} {x = x} {e = e} {ts = ts} h q j) f = λ k s. nests j f k (nests h (held_more l a x (ok e ts) s f) (the_root a k))
  nests (R.inc2 h) f = λ k s. s
  nests (R.inc3 h q) f = λ k s. s

  -- A successful use of a rule is one tree.
  one_tree : (a x : ℕ) (q : Answer) {e : ℕ} {ts : Trees} → wrap a x q ≡ ok e ts → number_of ts ≡ 1
  unfolding wrap number_of
  one_tree a x fail h = never' h
  one_tree a x (ok y us) h = rw (← trees h)

  single : {l : List Note} {a x : ℕ} {n : Amount} {r : Answer} → Bounded g line live l (at (rule a)) x r n → {e : ℕ} {ts : Trees} → r ≡ ok e ts → number_of ts ≡ 1
  single (R.var {a = a} {x = x} {r = r} w h) e = one_tree a x r e
  single (R.lvar1 {a = a} {x = x} {r = r} w q h j) e = one_tree a x r e
  single (R.lvar2 w q h) e = never' e
  single (R.lvar3 {a = a} {x = x} {r = r} w q) e = one_tree a x r e

  -- What a reading makes: one tree, nested, inside the line.
  pub record Whole (e : ℕ) (ts : Trees) : Type 0 where
    pub single : number_of ts ≡ 1
    pub nested : Nested rules 0 e ts
    pub inside : e ≤ length line

  pub reading_nests : 0 < rules → {e : ℕ} {n : Amount} {ts : Trees} → Reads g line live (ok e ts) n → Whole e ts
  unfolding look
  reading_nests h d =
      record {
        single = single d.rules refl;
        nested = nests d.rules (λ b w q e. found refl e) (0, omega arith, h);
        inside = (spans g line d.rules (λ b w q e. found refl e)).inside (omega arith);
      }
