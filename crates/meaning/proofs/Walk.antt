-- One law for every fact that follows the steps of the reading, in free grammars and in others: what holds of the visits that a node makes holds of the node.
-- A fact about a whole visit is an instance: give its Laws, then say how it passes a use of a rule, a kept answer and the visit's own count.
use mathlib.Core.Path.{◌≡◌, refl}
use mathlib.Core.Logic.{◌≢◌}
use Prim.Native.Nat.{ℕ, suc}
use mathlib.Core.Bool.{Bool, true, false}
use mathlib.Core.List.{List}
use lib.Dec.{eqb}
use borrow.Author.Tests.{eqb-true, eqb-false}
use Rattle.meaning.specs.Grammar.{Node, empty, range, rule, seq, choice, not, rep, Grammar, node, Trees, no_trees, ◌⋈◌, Answer, fail, ok, fits}
use Rattle.meaning.specs.Reading.{State, asked, Run, Visit, after, byte, joined, second, otherwise, denied, repeat_from, repeated, apply}
use Rattle.meaning.proofs.Runs.{Ends, ends_after, ends_map}

-- The answer of a second visit, with the first's trees before its own.
abbrev pub join : Trees → Answer → Answer
join ts fail = fail
join ts (ok e us) = ok e (ts ⋈ us)

-- A node that visits none, at x from the state s: its answer, and the state that it hands on.
pub data Leaf (line : List ℕ) (x : ℕ) (s : State) : Node → Answer → State → Type 0 where
  empty1 : Leaf line x s empty (ok x no_trees) s
  char1 : {lo hi : ℕ} → fits line lo hi x ≡ true → Leaf line x s (range lo hi) (ok (suc x) no_trees) (asked x s)
  char2 : {lo hi : ℕ} → fits line lo hi x ≡ false → Leaf line x s (range lo hi) fail (asked x s)

-- The node that a node visits first, at its own position.
pub data First : Node → ℕ → Type 0 where
  of_seq : {a b : ℕ} → First (seq a b) a
  of_choice : {a b : ℕ} → First (choice a b) a
  of_not : {a : ℕ} → First (not a) a
  of_rep : {a : ℕ} → First (rep a) a

-- What a node at x answers for what its first visit answered, where that is all.
pub data Settled (x : ℕ) : Node → Answer → Answer → Type 0 where
  con3 : {a b : ℕ} → Settled x (seq a b) fail fail
  ord1 : {a b y : ℕ} {ts : Trees} → Settled x (choice a b) (ok y ts) (ok y ts)
  not1 : {a : ℕ} → Settled x (not a) fail (ok x no_trees)
  not2 : {a y : ℕ} {ts : Trees} → Settled x (not a) (ok y ts) fail
  rep1 : {a : ℕ} → Settled x (rep a) fail (ok x no_trees)
  rep3 : {a y : ℕ} {ts : Trees} → x ≡ y → Settled x (rep a) (ok y ts) (ok x no_trees)

-- Where a second visit is made: one deeper, as every first visit is, or in place of the node's own visit (02, W-208).
pub data Place : Type 0 where
  below : Place
  own : Place

-- Node i at x, for what its first visit answered: the place, the node and the position of its second visit, and what it makes of that answer.
pub data Second (i x : ℕ) : Place → Node → Answer → ℕ → ℕ → (Answer → Answer) → Type 0 where
  con : {a b y : ℕ} {ts : Trees} → Second i x below (seq a b) (ok y ts) b y (join ts)
  ord : {a b : ℕ} → Second i x below (choice a b) fail b x (λ r. r)
  rep2 : {a y : ℕ} {ts : Trees} → x ≢ y → Second i x own (rep a) (ok y ts) i y (join ts)

pub data Refusal : Type 0 where
  by_effort : Refusal
  by_depth : Refusal

-- By numbers of nodes and rules, from one state to another. C is to hold of a visit that a node makes in such a place, U of a use that it makes, and then W of the
-- node's application, where they are done; C', U' and W' where they are refused.
pub record Laws (g : Grammar) (line : List ℕ) (C : Place → ℕ → ℕ → State → Answer → State → Type 0) (U W : ℕ → ℕ → State → Answer → State → Type 0)
    (C' : Place → Refusal → ℕ → ℕ → State → State → Type 0) (U' W' : Refusal → ℕ → ℕ → State → State → Type 0) : Type 0 where
  pub leaf : (i x : ℕ) (r : Answer) (s t : State) → Leaf line x s (node g i) r t → W i x s r t
  pub uses : (i a x : ℕ) (r : Answer) (s t : State) → node g i ≡ rule a → U a x s r t → W i x s r t
  pub one : (i x a : ℕ) (r q : Answer) (s t : State) → First (node g i) a → Settled x (node g i) r q → C below a x s r t → W i x s q t
  pub two : (i x a b y : ℕ) (p : Place) (r q : Answer) (f : Answer → Answer) (s t u : State) → First (node g i) a → Second i x p (node g i) r b y f
      → C below a x s r t → C p b y t q u → W i x s (f q) u
  pub uses_refused : (why : Refusal) (i a x : ℕ) (s t : State) → node g i ≡ rule a → U' why a x s t → W' why i x s t
  pub one_refused : (why : Refusal) (i x a : ℕ) (s t : State) → First (node g i) a → C' below why a x s t → W' why i x s t
  pub two_refused : (why : Refusal) (i x a b y : ℕ) (p : Place) (r : Answer) (f : Answer → Answer) (s t u : State) → First (node g i) a
      → Second i x p (node g i) r b y f → C below a x s r t → C' p why b y t u → W' why i x s u

module _ {g : Grammar} {line : List ℕ} {C : Place → ℕ → ℕ → State → Answer → State → Type 0} {U W : ℕ → ℕ → State → Answer → State → Type 0}
    {C' : Place → Refusal → ℕ → ℕ → State → State → Type 0} {U' W' : Refusal → ℕ → ℕ → State → State → Type 0} (laws : Laws g line C U W C' U' W') where
  -- The visits that z makes in such a place.
  abbrev Visits : Place → Visit → Type 0
  Visits p z = (i x : ℕ) (s : State) → Ends (C' p by_effort i x s) (C' p by_depth i x s) (C p i x s) (z i x s)

  abbrev Walked : ℕ → ℕ → State → Run → Type 0
  Walked i x s m = Ends (W' by_effort i x s) (W' by_depth i x s) (W i x s) m

  -- The second visit, whose trees are joined to the first's.
  on : (p : Place) (z : Visit) → Visits p z → (i x a b y : ℕ) (ts : Trees) (s t : State) → First (node g i) a → Second i x p (node g i) (ok y ts) b y (join ts)
      → C below a x s (ok y ts) t → Walked i x s (after (z b y t) (joined ts))
  unfolding joined
  on p z hz i x a b y ts s t e n h =
      ends_after _ (z b y t) (joined ts) (hz b y t)
      (λ u k. laws.two_refused by_effort i x a b y p (ok y ts) (join ts) s t u e n h k)
      (λ u k. laws.two_refused by_depth i x a b y p (ok y ts) (join ts) s t u e n h k) trees
    where
      trees : (q : Answer) (u : State) → C p b y t q u → Walked i x s (joined ts q u)
      trees fail u k = laws.two i x a b y p (ok y ts) fail (join ts) s t u e n h k
      trees (ok z us) u k = laws.two i x a b y p (ok y ts) (ok z us) (join ts) s t u e n h k

  of_byte : (i x lo hi : ℕ) (s : State) → node g i ≡ range lo hi → (b : Bool) → fits line lo hi x ≡ b → W i x s (byte x b) (asked x s)
  unfolding byte
  of_byte i x lo hi s e true q = laws.leaf i x (ok (suc x) no_trees) s (asked x s) (rw e (char1 q))
  of_byte i x lo hi s e false q = laws.leaf i x fail s (asked x s) (rw e (char2 q))

  -- v visits below, w in place.
  module _ (v : Visit) (hv : Visits below v) (w : Visit) (hw : Visits own w) where
    -- The first visit, and what is done after it.
    first : (i x a : ℕ) (s : State) (k : Answer → State → Run) → First (node g i) a → ((r : Answer) (t : State) → C below a x s r t → Walked i x s (k r t))
        → Walked i x s (after (v a x s) k)
    first i x a s k e c = ends_after _ (v a x s) k (hv a x s) (λ t h. laws.one_refused by_effort i x a s t e h) (λ t h. laws.one_refused by_depth i x a s t e h) c

    of_seq_first : (i x a b : ℕ) (s : State) → node g i ≡ seq a b → (r : Answer) (t : State) → C below a x s r t → Walked i x s (second v b r t)
    unfolding second
    of_seq_first i x a b s e fail t h = laws.one i x a fail fail s t (rw e of_seq) (rw e con3) h
    of_seq_first i x a b s e (ok y ts) t h = on below v hv i x a b y ts s t (rw e of_seq) (rw e con) h

    of_choice_first : (i x a b : ℕ) (s : State) → node g i ≡ choice a b → (r : Answer) (t : State) → C below a x s r t → Walked i x s (otherwise v b x r t)
    unfolding otherwise
    of_choice_first i x a b s e fail t h =
        let f : First (node g i) a = rw e of_choice in
        let n : Second i x below (node g i) fail b x (λ r. r) = rw e ord in
        ends_map (v b x t) (hv b x t)
        (λ u k. laws.two_refused by_effort i x a b x below fail (λ r. r) s t u f n h k)
        (λ u k. laws.two_refused by_depth i x a b x below fail (λ r. r) s t u f n h k)
        (λ q u k. laws.two i x a b x below fail q (λ r. r) s t u f n h k)
    of_choice_first i x a b s e (ok y ts) t h = laws.one i x a (ok y ts) (ok y ts) s t (rw e of_choice) (rw e ord1) h

    of_not_first : (i x a : ℕ) (s : State) → node g i ≡ not a → (r : Answer) (t : State) → C below a x s r t → Walked i x s (denied x r t)
    unfolding denied
    of_not_first i x a s e fail t h = laws.one i x a fail (ok x no_trees) s t (rw e of_not) (rw e not1) h
    of_not_first i x a s e (ok y ts) t h = laws.one i x a (ok y ts) fail s t (rw e of_not) (rw e not2) h

    of_rep_first : (i x a : ℕ) (s : State) → node g i ≡ rep a → (r : Answer) (t : State) → C below a x s r t → Walked i x s (repeated w i x r t)
    unfolding repeated repeat_from
    of_rep_first i x a s e fail t h = laws.one i x a fail (ok x no_trees) s t (rw e of_rep) (rw e rep1) h
    of_rep_first i x a s e (ok y ts) t h = by_end (eqb x y) refl
      where
        by_end : (b : Bool) → eqb x y ≡ b → Walked i x s (repeat_from w i x y ts t b)
        by_end true q = laws.one i x a (ok y ts) (ok x no_trees) s t (rw e of_rep) (rw e (rep3 (eqb-true x y q))) h
        by_end false q = on own w hw i x a i y ts s t (rw e of_rep) (rw e (rep2 (eqb-false x y q))) h

    module _ (u : Visit) (hu : (a x : ℕ) (s : State) → Ends (U' by_effort a x s) (U' by_depth a x s) (U a x s) (u a x s)) where
      walk_as : (i x : ℕ) (s : State) (p : Node) → node g i ≡ p → Walked i x s (apply line v w u i x s p)
      unfolding apply
      walk_as i x s empty e = laws.leaf i x (ok x no_trees) s s (rw e empty1)
      walk_as i x s (range lo hi) e = of_byte i x lo hi s e (fits line lo hi x) refl
      walk_as i x s (rule a) e =
          ends_map (u a x s) (hu a x s) (λ t h. laws.uses_refused by_effort i a x s t e h) (λ t h. laws.uses_refused by_depth i a x s t e h)
          (λ r t h. laws.uses i a x r s t e h)
      walk_as i x s (seq a b) e = first i x a s (second v b) (rw e of_seq) (of_seq_first i x a b s e)
      walk_as i x s (choice a b) e = first i x a s (otherwise v b x) (rw e of_choice) (of_choice_first i x a b s e)
      walk_as i x s (not a) e = first i x a s (denied x) (rw e of_not) (of_not_first i x a s e)
      walk_as i x s (rep a) e = first i x a s (repeated w i x) (rw e of_rep) (of_rep_first i x a s e)

      pub walk : (i x : ℕ) (s : State) → Walked i x s (apply line v w u i x s (node g i))
      walk i x s = walk_as i x s (node g i) refl
