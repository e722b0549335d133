-- Where a match ends by the bounded rules: not before its start, inside the line, and at its start only if the node may be empty.
use mathlib.Core.Path.{◌≡◌}
use mathlib.Core.Logic.{◌⊎◌, inl, inr}
use Prim.Native.Nat.{ℕ, ◌<◌, ◌≤◌}
use mathlib.Core.Bool.{Bool, true, and-eq-true_iff}
use mathlib.Core.List.{List}
use mathlib.Core.Option.{some}
use lib.ListN.{length}
use borrow.Author.Tests.{ltb-true}
use native.Mathlib.Omega.{arith}
use Rattle.meaning.specs.Grammar.{Node, rule, choice, Grammar, node, root, Answer, fail, ok, wrap, fits, Note, noted, look}
use Rattle.meaning.specs.Rules.{Goal, at, inc, Amount, Bounded}
use Rattle.meaning.specs.Rules as R
use Rattle.meaning.specs.Report.{MayBeEmpty, of_empty, of_not, of_rep, of_rule, of_seq, of_first, of_second}
use Rattle.meaning.proofs.Notes.{look_cases}

-- A byte in a range stands inside the line.
pub fits_inside : (line : List ℕ) (lo hi x : ℕ) → fits line lo hi x ≡ true → x < length line
unfolding fits
fits_inside line lo hi x e = ltb-true x (length line) ((and-eq-true_iff _ _).0 ((and-eq-true_iff _ _).0 e).0).0

module _ (g : Grammar) (line : List ℕ) where
  -- A match of node p from x to y.
  pub record Span (p : Node) (x y : ℕ) : Type 0 where
    pub forward : x ≤ y
    pub inside : x ≤ length line → y ≤ length line
    pub empty : y ≤ x → MayBeEmpty g p

  abbrev pub Spanned : Node → ℕ → Answer → Type 0
  Spanned p x fail = Unit {0}
  Spanned p x (ok y ts) = Span p x y

  -- What is held for a rule at a position is such an answer of its root there.
  abbrev pub Held : List Note → Type 0
  Held l = (b w : ℕ) (q : Answer) → look l b w ≡ some q → Spanned (root g b) w q

  abbrev Goes : Goal → ℕ → Answer → Type 0
  Goes (at p) x r = Spanned p x r
  Goes (inc a e ts) x r = Span (root g a) x e → Spanned (root g a) x r

  held_case : (a x b w : ℕ) (r q : Answer) (l : List Note) → Spanned (root g a) x r → Held l → ((a ≡ b) × (x ≡ w) × (r ≡ q)) ⊎ (look l b w ≡ some q) → Spanned (root g b) w q
  held_case a x b w r q l s f (inl e) = rw (← e.0, ← e.1, ← e.2) s
  held_case a x b w r q l s f (inr e) = f b w q e

  pub held_more : (l : List Note) (a x : ℕ) (r : Answer) → Spanned (root g a) x r → Held l → Held (noted a x r l)
  held_more l a x r s f b w q e = held_case a x b w r q l s f (look_cases l a x r b w e)

  at_rule : (a x : ℕ) (r : Answer) → Spanned (root g a) x r → Spanned (rule a) x (wrap a x r)
  unfolding wrap
  at_rule a x fail s = tt
  at_rule a x (ok y ts) s = record { forward = s.forward; inside = s.inside; empty = λ z. of_rule (s.empty z) }

  at_second : (a b x : ℕ) (r : Answer) → Spanned (node g b) x r → Spanned (choice a b) x r
  at_second a b x fail s = tt
  at_second a b x (ok y ts) s = record { forward = s.forward; inside = s.inside; empty = λ z. of_second (s.empty z) }

  -- Two matches one after the other.
  both : {p q w : Node} {x y z : ℕ} → Span p x y → Span q y z → (MayBeEmpty g p → MayBeEmpty g q → MayBeEmpty g w) → Span w x z
  both i j f =
      let fi = i.forward in
      let fj = j.forward in
      record { forward = omega arith; inside = λ h. j.inside (i.inside h); empty = λ h. f (i.empty (omega arith)) (j.empty (omega arith)) }

  still : {p : Node} {x : ℕ} → MayBeEmpty g p → Span p x x
  still m = record { forward = omega arith; inside = λ h. h; empty = λ h. m }

  pub spans : {live : ℕ → Bool} {l : List Note} {p : Goal} {x : ℕ} {n : Amount} {r : Answer} → Bounded g line live l p x r n → Held l → Goes p x r
  spans R.empty1 f = still of_empty
  spans (R.char1 {lo = lo} {hi = hi} {x = x} q) f =
      let z : x < length line = fits_inside line lo hi x q in record { forward = omega arith; inside = λ h. omega arith; empty = λ h. absurd (omega arith) }
  spans (R.char2 q) f = tt
  spans (R.con1 h k) f = both (spans h f) (spans k f) of_seq
  spans (R.con2 h k) f = tt
  spans (R.con3 h) f = tt
  spans (R.ord1 h) f = let i = spans h f in record { forward = i.forward; inside = i.inside; empty = λ z. of_first (i.empty z) }
  spans (R.ord2 {a = a} {b = b} {x = x} {r = r} h k) f = at_second a b x r (spans k f)
  spans (R.not1 h) f = still of_not
  spans (R.not2 h) f = tt
  spans (R.rep1 h) f = still of_rep
  spans (R.rep2 h q k) f = both (spans h f) (spans k f) (λ i j. of_rep)
  spans (R.rep3 h) f = still of_rep
  spans (R.var {a = a} {x = x} {r = r} w h) f = at_rule a x r (spans h f)
  spans (R.lvar1 {l = l} {a = a} {x = x} {r = r} w q h k) f = at_rule a x r (spans k f (spans h (held_more l a x fail tt f)))
  spans (R.lvar2 w q h) f = tt
  spans (R.lvar3 {a = a} {x = x} {r = r} w q) f = at_rule a x r (f a x r q)
  spans (R.inc1 {l = l} {a = a} {x = x} {e = e} {ts = ts} h q k) f = λ s. spans k f (spans h (held_more l a x (ok e ts) s f))
  spans (R.inc2 h) f = λ s. s
  spans (R.inc3 h q) f = λ s. s
