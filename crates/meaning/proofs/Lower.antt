-- What a node visits is not above the node in the table, and has a derivation lower than the node's own.
use mathlib.Core.Path.{◌≡◌, subst}
use Prim.Native.Nat.{ℕ, ◌<◌, ◌≤◌}
use mathlib.Core.List.{List}
use native.Mathlib.Omega.{arith}
use Rattle.meaning.specs.Grammar.{Node, rule, Grammar, node, root, Below, Trees, Answer, ok}
use Rattle.meaning.specs.Rules.{Plain, var, con1, con2, con3, ord1, ord2, not1, not2, rep1, rep2, rep3}
use Rattle.meaning.proofs.Answers.{ends, never, never'}
use Rattle.meaning.proofs.OnePlain.{height, one_answer}
use Rattle.meaning.proofs.Walk as W
use Rattle.meaning.proofs.Walk.{First, of_seq, of_choice, of_not, of_rep, Place, Second}

module _ (g : Grammar) where
  pub first_below : {i a : ℕ} {p : Node} → First p a → Below g i p → a < i
  first_below of_seq h = h.0
  first_below of_choice h = h.0
  first_below of_not h = h
  first_below of_rep h = h

  pub second_below : {i x b y : ℕ} {k : Place} {p : Node} {r : Answer} {f : Answer → Answer} → Second i x k p r b y f → Below g i p → b ≤ i
  second_below W.con h = let z = h.1 in omega arith
  second_below W.ord h = let z = h.1 in omega arith
  second_below (W.rep2 n) h = omega arith

  module _ (line : List ℕ) where
    -- A derivation lower than h.
    pub record Lower (p : Node) (x h : ℕ) : Type 0 where
      pub answer : Answer
      pub rules : Plain g line p x answer
      pub less : height g line rules < h

    pub root_lower : {a x : ℕ} {r : Answer} (d : Plain g line (rule a) x r) → Lower (root g a) x (height g line d)
    root_lower (var h) = record { answer = _; rules = h; less = omega arith }

    pub first_lower : {p : Node} {a x : ℕ} {r : Answer} → First p a → (d : Plain g line p x r) → Lower (node g a) x (height g line d)
    first_lower of_seq (con1 h k) = record { answer = _; rules = h; less = omega arith }
    first_lower of_seq (con2 h k) = record { answer = _; rules = h; less = omega arith }
    first_lower of_seq (con3 h) = record { answer = _; rules = h; less = omega arith }
    first_lower of_choice (ord1 h) = record { answer = _; rules = h; less = omega arith }
    first_lower of_choice (ord2 h k) = record { answer = _; rules = h; less = omega arith }
    first_lower of_not (not1 h) = record { answer = _; rules = h; less = omega arith }
    first_lower of_not (not2 h) = record { answer = _; rules = h; less = omega arith }
    first_lower of_rep (rep1 h) = record { answer = _; rules = h; less = omega arith }
    first_lower of_rep (rep2 h q k) = record { answer = _; rules = h; less = omega arith }
    first_lower of_rep (rep3 h) = record { answer = _; rules = h; less = omega arith }

    -- To the end that the first visit answered.
    moved : {p q : Node} {x y z h : ℕ} {ts us : Trees} → Plain g line q x (ok y ts) → Plain g line q x (ok z us) → Lower p y h → Lower p z h
    moved {p = p} {h = h} d e l = subst (λ w. Lower p w h) (ends (one_answer g line d e)) l

    pub second_lower : {k : Place} {p : Node} {i a b x y : ℕ} {r q : Answer} {f : Answer → Answer} → node g i ≡ p → First p a → Second i x k p r b y f → Plain g line (node g a) x r
        → (d : Plain g line p x q) → Lower (node g b) y (height g line d)
    second_lower e of_seq W.con m (con1 h k) = moved h m (record { answer = _; rules = k; less = omega arith })
    second_lower e of_seq W.con m (con2 h k) = moved h m (record { answer = _; rules = k; less = omega arith })
    second_lower e of_seq W.con m (con3 h) = never' (one_answer g line h m)
    second_lower e of_choice W.ord m (ord1 h) = never (one_answer g line h m)
    second_lower e of_choice W.ord m (ord2 h k) = record { answer = _; rules = k; less = omega arith }
    second_lower e of_rep (W.rep2 n) m (rep1 h) = never' (one_answer g line h m)
    second_lower e of_rep (W.rep2 n) m (rep2 h q k) = moved h m (rw e (record { answer = _; rules = k; less = omega arith }))
    second_lower e of_rep (W.rep2 n) m (rep3 h) = absurd (n (ends (one_answer g line h m)))
    second_lower {k = k} {i = i} {b = b} {y = y} {r = r} {q = q} {f = f} e (of_not {a = a}) x9 m d = elim x9 [ ]
