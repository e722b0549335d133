-- The rules of document 003, by their names there: Figure 1 is Plain, Figure 2 is Bounded, both with the repetition of document 01.
-- docs/PAPER.md says which rules are merged: char.2 with char.3, var.1 with var.2, ord.2 with ord.3, lvar.3 with lvar.4.
-- 003 has var for rules that aren't left-recursive and lvar for those that are; here which rules become live is a parameter of Bounded.
use Rattle.std.specs.Prelude.{◌≡◌, ◌≢◌, ℕ, suc, ◌+◌, ◌-◌, ◌<◌, ◌≤◌, max, Bool, true, false, List, []}
use Rattle.std.proofs.Math.Option.{none, some}
use Rattle.meaning.specs.Grammar.{Node, empty, range, rule, seq, choice, not, rep, Grammar, node, root, Trees, no_trees, ◌⋈◌, Answer, fail, ok, wrap, fits, Note, noted, look}

infixr 60 ◌⊕◌
-- 01: "The plain rules are Figure 1 with this repetition, without limits, counts or kept answers." Node p at position x answers r.
pub data Plain (g : Grammar) (line : List ℕ) : Node → ℕ → Answer → Type 0 where
  empty1 : {x : ℕ} → Plain g line empty x (ok x no_trees)
  char1 : {lo hi x : ℕ} → fits line lo hi x ≡ true → Plain g line (range lo hi) x (ok (suc x) no_trees)
  char2 : {lo hi x : ℕ} → fits line lo hi x ≡ false → Plain g line (range lo hi) x fail
  var : {a x : ℕ} {r : Answer} → Plain g line (root g a) x r → Plain g line (rule a) x (wrap a x r)
  con1 : {a b x y z : ℕ} {ts us : Trees} → Plain g line (node g a) x (ok y ts) → Plain g line (node g b) y (ok z us)
      → Plain g line (seq a b) x (ok z (ts ⋈ us))
  con2 : {a b x y : ℕ} {ts : Trees} → Plain g line (node g a) x (ok y ts) → Plain g line (node g b) y fail → Plain g line (seq a b) x fail
  con3 : {a b x : ℕ} → Plain g line (node g a) x fail → Plain g line (seq a b) x fail
  ord1 : {a b x y : ℕ} {ts : Trees} → Plain g line (node g a) x (ok y ts) → Plain g line (choice a b) x (ok y ts)
  ord2 : {a b x : ℕ} {r : Answer} → Plain g line (node g a) x fail → Plain g line (node g b) x r → Plain g line (choice a b) x r
  not1 : {a x : ℕ} → Plain g line (node g a) x fail → Plain g line (not a) x (ok x no_trees)
  not2 : {a x y : ℕ} {ts : Trees} → Plain g line (node g a) x (ok y ts) → Plain g line (not a) x fail
  rep1 : {a x : ℕ} → Plain g line (node g a) x fail → Plain g line (rep a) x (ok x no_trees)
  rep2 : {a x y z : ℕ} {ts us : Trees} → Plain g line (node g a) x (ok y ts) → x ≢ y → Plain g line (rep a) y (ok z us)
      → Plain g line (rep a) x (ok z (ts ⋈ us))
  rep3 : {a x : ℕ} {ts : Trees} → Plain g line (node g a) x (ok x ts) → Plain g line (rep a) x (ok x no_trees)

-- 02, W-203: "the largest position at which a range node was visited, 0 if none was", of a derivation by the plain rules.
abbrev pub furthest_of : {g : Grammar} {line : List ℕ} {p : Node} {x : ℕ} {r : Answer} → Plain g line p x r → ℕ
furthest_of empty1 = 0
furthest_of (char1 {x = x} q) = x
furthest_of (char2 {x = x} q) = x
furthest_of (var h) = furthest_of h
furthest_of (con1 h k) = max (furthest_of h) (furthest_of k)
furthest_of (con2 h k) = max (furthest_of h) (furthest_of k)
furthest_of (con3 h) = furthest_of h
furthest_of (ord1 h) = furthest_of h
furthest_of (ord2 h k) = max (furthest_of h) (furthest_of k)
furthest_of (not1 h) = furthest_of h
furthest_of (not2 h) = furthest_of h
furthest_of (rep1 h) = furthest_of h
furthest_of (rep2 h q k) = max (furthest_of h) (furthest_of k)
furthest_of (rep3 h) = furthest_of h

-- What a derivation by the bounded rules amounts to beside its answer: 01's number of visits, W-203's furthest position, and how many visits are open at once, by
-- 01's "children, roots [..] are made while it is open".
pub record Amount : Type 0 where
  pub visits : ℕ
  pub furthest : ℕ
  pub depth : ℕ

-- No visit; a byte that is asked for at x; two parts of a derivation together; a visit of a node with what is visited for it.
abbrev pub nothing : Amount
nothing = record { visits = 0; furthest = 0; depth = 0 }

abbrev pub asking : ℕ → Amount
asking x = record { visits = 0; furthest = x; depth = 0 }

abbrev pub ◌⊕◌ : Amount → Amount → Amount
n ⊕ m = record { visits = n.visits + m.visits; furthest = max n.furthest m.furthest; depth = max n.depth m.depth }

abbrev pub visiting : Amount → Amount
visiting n = record { visits = suc n.visits; furthest = n.furthest; depth = suc n.depth }

-- A visit made in place of another. 02, W-208: "A repetition's next visit of itself shall take the place of the one before: it still counts as a visit, but the
-- number of open visits doesn't rise."
abbrev pub in_place : Amount → Amount
in_place n = record { visits = n.visits; furthest = n.furthest; depth = n.depth - 1 }

-- The left side of 003's two relations: a node (PEG), or rule a grown on from the match held for it, by its end and trees (INC).
pub data Goal : Type 0 where
  at : Node → Goal
  inc : ℕ → ℕ → Trees → Goal

-- Figure 2 and Figure 1 with L, over which rules become live. The last is what it amounts to: each application of a node is a visit, and so is one of a live pair.
pub data Bounded (g : Grammar) (line : List ℕ) (live : ℕ → Bool) : List Note → Goal → ℕ → Answer → Amount → Type 0 where
  empty1 : {l : List Note} {x : ℕ} → Bounded g line live l (at empty) x (ok x no_trees) (visiting nothing)
  char1 : {l : List Note} {lo hi x : ℕ} → fits line lo hi x ≡ true → Bounded g line live l (at (range lo hi)) x (ok (suc x) no_trees) (visiting (asking x))
  char2 : {l : List Note} {lo hi x : ℕ} → fits line lo hi x ≡ false → Bounded g line live l (at (range lo hi)) x fail (visiting (asking x))
  con1 : {l : List Note} {a b x y z : ℕ} {n m : Amount} {ts us : Trees} → Bounded g line live l (at (node g a)) x (ok y ts) n
      → Bounded g line live l (at (node g b)) y (ok z us) m → Bounded g line live l (at (seq a b)) x (ok z (ts ⋈ us)) (visiting (n ⊕ m))
  con2 : {l : List Note} {a b x y : ℕ} {n m : Amount} {ts : Trees} → Bounded g line live l (at (node g a)) x (ok y ts) n
      → Bounded g line live l (at (node g b)) y fail m → Bounded g line live l (at (seq a b)) x fail (visiting (n ⊕ m))
  con3 : {l : List Note} {a b x : ℕ} {n : Amount} → Bounded g line live l (at (node g a)) x fail n → Bounded g line live l (at (seq a b)) x fail (visiting n)
  ord1 : {l : List Note} {a b x y : ℕ} {n : Amount} {ts : Trees} → Bounded g line live l (at (node g a)) x (ok y ts) n
      → Bounded g line live l (at (choice a b)) x (ok y ts) (visiting n)
  ord2 : {l : List Note} {a b x : ℕ} {n m : Amount} {r : Answer} → Bounded g line live l (at (node g a)) x fail n → Bounded g line live l (at (node g b)) x r m
      → Bounded g line live l (at (choice a b)) x r (visiting (n ⊕ m))
  not1 : {l : List Note} {a x : ℕ} {n : Amount} → Bounded g line live l (at (node g a)) x fail n → Bounded g line live l (at (not a)) x (ok x no_trees) (visiting n)
  not2 : {l : List Note} {a x y : ℕ} {n : Amount} {ts : Trees} → Bounded g line live l (at (node g a)) x (ok y ts) n → Bounded g line live l (at (not a)) x fail (visiting n)
  rep1 : {l : List Note} {a x : ℕ} {n : Amount} → Bounded g line live l (at (node g a)) x fail n → Bounded g line live l (at (rep a)) x (ok x no_trees) (visiting n)
  rep2 : {l : List Note} {a x y z : ℕ} {n m : Amount} {ts us : Trees} → Bounded g line live l (at (node g a)) x (ok y ts) n → x ≢ y
      → Bounded g line live l (at (rep a)) y (ok z us) m → Bounded g line live l (at (rep a)) x (ok z (ts ⋈ us)) (visiting (n ⊕ in_place m))
  rep3 : {l : List Note} {a x : ℕ} {n : Amount} {ts : Trees} → Bounded g line live l (at (node g a)) x (ok x ts) n → Bounded g line live l (at (rep a)) x (ok x no_trees) (visiting n)
  var : {l : List Note} {a x : ℕ} {n : Amount} {r : Answer} → live a ≡ false → Bounded g line live l (at (root g a)) x r n → Bounded g line live l (at (rule a)) x (wrap a x r) (visiting n)
  lvar1 : {l : List Note} {a x e : ℕ} {n m : Amount} {ts : Trees} {r : Answer} → live a ≡ true → look l a x ≡ none → Bounded g line live (noted a x fail l) (at (root g a)) x (ok e ts) n
      → Bounded g line live l (inc a e ts) x r m → Bounded g line live l (at (rule a)) x (wrap a x r) (visiting (n ⊕ m))
  lvar2 : {l : List Note} {a x : ℕ} {n : Amount} → live a ≡ true → look l a x ≡ none → Bounded g line live (noted a x fail l) (at (root g a)) x fail n
      → Bounded g line live l (at (rule a)) x fail (visiting n)
  lvar3 : {l : List Note} {a x : ℕ} {r : Answer} → live a ≡ true → look l a x ≡ some r → Bounded g line live l (at (rule a)) x (wrap a x r) (visiting nothing)
  inc1 : {l : List Note} {a x e e' : ℕ} {n m : Amount} {ts ts' : Trees} {r : Answer} → Bounded g line live (noted a x (ok e ts) l) (at (root g a)) x (ok e' ts') n → e < e'
      → Bounded g line live l (inc a e' ts') x r m → Bounded g line live l (inc a e ts) x r (n ⊕ m)
  inc2 : {l : List Note} {a x e : ℕ} {n : Amount} {ts : Trees} → Bounded g line live (noted a x (ok e ts) l) (at (root g a)) x fail n
      → Bounded g line live l (inc a e ts) x (ok e ts) n
  inc3 : {l : List Note} {a x e e' : ℕ} {n : Amount} {ts ts' : Trees} → Bounded g line live (noted a x (ok e ts) l) (at (root g a)) x (ok e' ts') n → e' ≤ e
      → Bounded g line live l (inc a e ts) x (ok e ts) n

-- 01's own: "A use of rule A at position x that isn't live becomes live", whatever the rule.
abbrev pub every_rule : ℕ → Bool
every_rule a = true

-- 01: "The reading is a use of rule 0 at position 0; that use is not itself a visit." Its answer, and what the reading amounts to.
pub record Reads (g : Grammar) (line : List ℕ) (live : ℕ → Bool) (r : Answer) (amount : Amount) : Type 0 where
  pub rules : Bounded g line live [] (at (rule 0)) 0 r (visiting amount)
