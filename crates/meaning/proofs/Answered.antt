-- Document 003's Lemma 2: in a closed grammar the bounded rules answer on every line, whatever is live, where every rule may become live. Where only those that need
-- it do, it follows from this (Needed).
use mathlib.Core.Path.{◌≡◌, refl, sym, subst, ◌∙◌}
use mathlib.Core.Logic.{◌≢◌, ◌⊎◌, inl, inr}
use Prim.Native.Nat.{ℕ, zero, suc, ◌+◌, ◌<◌, ◌≤◌}
use mathlib.Core.Bool.{Bool, true, false, ◌&&◌, cond}
use mathlib.Core.List.{List, [], ◌∷◌}
use mathlib.Core.Option.{Option, none, some}
use lib.ListN.{length}
use lib.Dec.{ltb, eqb}
use borrow.Author.Tests.{ltb-true, ltb-false, eqb-true, eqb-false}
use native.Mathlib.Omega.{arith}
use Rattle.meaning.specs.Grammar.{Node, empty, range, rule, seq, choice, not, rep, Grammar, node, root_of, root, Below, Closed, Trees, no_trees, ◌⋈◌, Answer, fail, ok, wrap, fits, Note, noted, look}
use Rattle.meaning.specs.Rules.{Goal, at, inc, Amount, nothing, asking, ◌⊕◌, visiting, in_place, Bounded, every_rule, Reads}
use Rattle.meaning.specs.Rules as R
use Rattle.meaning.proofs.Answers.{found}
use Rattle.meaning.proofs.Conserve.{as_reading}
use Rattle.meaning.proofs.Notes.{look_same}
use Rattle.meaning.proofs.OneBounded.{rep_matches}
use Rattle.meaning.proofs.Pigeon.{Absent, In, Distinct, seek, at_most}
use Rattle.meaning.proofs.Spans.{Span, Spanned, Held, held_more, spans}

some≢none : {r : Answer} → some r ≢ none
some≢none e = found e refl

module _ (g : Grammar) (line : List ℕ) where
  -- The bounded rules answer.
  pub record Answers (l : List Note) (p : Goal) (x : ℕ) : Type 0 where
    pub answer : Answer
    pub amount : Amount
    pub rules : Bounded g line every_rule l p x answer amount

  -- The rules of s are live at x.
  abbrev LiveAt : List Note → ℕ → List ℕ → Type 0
  LiveAt l x [] = Unit {0}
  LiveAt l x (a ∷ s) = (look l a x ≢ none) × LiveAt l x s

  live_in : (l : List Note) (x a : ℕ) (s : List ℕ) → LiveAt l x s → In a s → look l a x ≢ none
  live_in l x a (b ∷ s) h (inl e) = rw e h.0
  live_in l x a (b ∷ s) h (inr i) = live_in l x a s h.1 i
  live_in l x a [] h x3 = elim x3 [ ]

  stays : (l : List Note) (a x b : ℕ) (q : Answer) → look l b x ≢ none → look (noted a x q l) b x ≢ none
  unfolding look
  stays l a x b q h = at_head (eqb a b && eqb x x)
    where
      at_head : (t : Bool) → cond t (some q) (look l b x) ≢ none
      at_head true e = some≢none e
      at_head false e = h e

  live_more : (l : List Note) (a x : ℕ) (q : Answer) (s : List ℕ) → LiveAt l x s → LiveAt (noted a x q l) x s
  live_more l a x q [] h = tt
  live_more l a x q (b ∷ s) h = (stays l a x b q h.0, live_more l a x q s h.1)

  module _ (good : Closed g) (x : ℕ) (inside : x ≤ length line)
      (past : (y : ℕ) → x < y → y ≤ length line → (l : List Note) → Held g line l → (i : ℕ) → i < length g.nodes → Answers l (at (node g i)) y) where
    module _ (l : List Note) (held : Held g line l) where
      -- From where a match ended the next visit starts: at x, or further on.
      next : (i y : ℕ) {p : Node} {ts : Trees} {n : Amount} → Bounded g line every_rule l (at p) x (ok y ts) n → i < length g.nodes → Answers l (at (node g i)) x → (t : Bool) → eqb x y ≡ t
          → Answers l (at (node g i)) y
      next i y h li k true e = subst (λ z. Answers l (at (node g i)) z) (eqb-true x y e) k
      next i y h li k false e =
          let s = spans g line h held in
          let z : x ≢ y = eqb-false x y e in
          let f = s.forward in
          past y (omega arith) (s.inside inside) l held i li

      seq_two : (a b y : ℕ) (ts : Trees) (n : Amount) → Bounded g line every_rule l (at (node g a)) x (ok y ts) n → (r : Answer) (m : Amount) → Bounded g line every_rule l (at (node g b)) y r m → Answers l (at (seq a b)) x
      seq_two a b y ts n h fail m k = record { answer = fail; amount = visiting (n ⊕ m); rules = R.con2 h k }
      seq_two a b y ts n h (ok z us) m k = record { answer = ok z (ts ⋈ us); amount = visiting (n ⊕ m); rules = R.con1 h k }

      seq_one : (a b : ℕ) → b < length g.nodes → Answers l (at (node g b)) x → (r : Answer) (n : Amount) → Bounded g line every_rule l (at (node g a)) x r n → Answers l (at (seq a b)) x
      seq_one a b lb k fail n h = record { answer = fail; amount = visiting n; rules = R.con3 h }
      seq_one a b lb k (ok y ts) n h = let j = next b y h lb k (eqb x y) refl in seq_two a b y ts n h j.answer j.amount j.rules

      choice_one : (a b : ℕ) → Answers l (at (node g b)) x → (r : Answer) (n : Amount) → Bounded g line every_rule l (at (node g a)) x r n → Answers l (at (choice a b)) x
      choice_one a b k fail n h = record { answer = k.answer; amount = visiting (n ⊕ k.amount); rules = R.ord2 h k.rules }
      choice_one a b k (ok y ts) n h = record { answer = ok y ts; amount = visiting n; rules = R.ord1 h }

      not_one : (a : ℕ) (r : Answer) (n : Amount) → Bounded g line every_rule l (at (node g a)) x r n → Answers l (at (not a)) x
      not_one a fail n h = record { answer = ok x no_trees; amount = visiting n; rules = R.not1 h }
      not_one a (ok y ts) n h = record { answer = fail; amount = visiting n; rules = R.not2 h }

      rep_two : (a y : ℕ) (ts : Trees) (n : Amount) → x ≢ y → Bounded g line every_rule l (at (node g a)) x (ok y ts) n → (r : Answer) (m : Amount) → Bounded g line every_rule l (at (rep a)) y r m → Answers l (at (rep a)) x
      rep_two a y ts n q h fail m k = rep_matches g line every_rule k refl
      rep_two a y ts n q h (ok z us) m k = record { answer = ok z (ts ⋈ us); amount = visiting (n ⊕ in_place m); rules = R.rep2 h q k }

      rep_at : (i a y : ℕ) (ts : Trees) (n : Amount) → i < length g.nodes → node g i ≡ rep a → Bounded g line every_rule l (at (node g a)) x (ok y ts) n → (t : Bool) → eqb x y ≡ t → Answers l (at (rep a)) x
      rep_at i a y ts n li e h true q =
          let z : y ≡ x = sym (eqb-true x y q) in
          record { answer = ok x no_trees; amount = visiting n; rules = R.rep3 (subst (λ w. Bounded g line every_rule l (at (node g a)) x (ok w ts) n) z h) }
      rep_at i a y ts n li e h false q =
          let s = spans g line h held in
          let z : x ≢ y = eqb-false x y q in
          let f = s.forward in
          let k = subst (λ p. Answers l (at p) y) e (past y (omega arith) (s.inside inside) l held i li) in
          rep_two a y ts n z h k.answer k.amount k.rules

      rep_one : (i a : ℕ) → i < length g.nodes → node g i ≡ rep a → (r : Answer) (n : Amount) → Bounded g line every_rule l (at (node g a)) x r n → Answers l (at (rep a)) x
      rep_one i a li e fail n h = record { answer = ok x no_trees; amount = visiting n; rules = R.rep1 h }
      rep_one i a li e (ok y ts) n h = rep_at i a y ts n li e h (eqb x y) refl

      byte_one : (lo hi : ℕ) (t : Bool) → fits line lo hi x ≡ t → Answers l (at (range lo hi)) x
      byte_one lo hi true q = record { answer = ok (suc x) no_trees; amount = visiting (asking x); rules = R.char1 q }
      byte_one lo hi false q = record { answer = fail; amount = visiting (asking x); rules = R.char2 q }

      -- Every node, given every use of a rule; children have lower numbers.
      module _ (uses : (a : ℕ) → a < length g.roots → Answers l (at (rule a)) x) where
        at_node : (i : ℕ) → i < length g.nodes → ((j : ℕ) → j < i → Answers l (at (node g j)) x) → (p : Node) → node g i ≡ p → Below g i p → Answers l (at p) x
        at_node i li ih empty e b = record { answer = ok x no_trees; amount = visiting nothing; rules = R.empty1 }
        at_node i li ih (range lo hi) e b = byte_one lo hi (fits line lo hi x) refl
        at_node i li ih (rule a) e b = uses a b
        at_node i li ih (seq a c) e b = let h = ih a b.0 in let lc : c < i = b.1 in seq_one a c (omega arith) (ih c b.1) h.answer h.amount h.rules
        at_node i li ih (choice a c) e b = let h = ih a b.0 in choice_one a c (ih c b.1) h.answer h.amount h.rules
        at_node i li ih (not a) e b = let h = ih a b in not_one a h.answer h.amount h.rules
        at_node i li ih (rep a) e b = let h = ih a b in rep_one i a li e h.answer h.amount h.rules

        descend : (j i : ℕ) → i < j → i < length g.nodes → Answers l (at (node g i)) x
        descend zero i lt li = absurd (omega arith)
        descend (suc j) i lt li = at_node i li (λ a la. descend j a (omega arith) (omega arith)) (node g i) refl (good.nodes i li)

      -- A use of a rule, given every visit of its root: growing ends at the line's end at the latest.
      module _ (a : ℕ) (visits : (q : Answer) → Spanned g line (root g a) x q → Answers (noted a x q l) (at (root g a)) x) where
        grown_by : (e : ℕ) (ts : Trees) → ((e' : ℕ) (ts' : Trees) → e < e' → Span g line (root g a) x e' → Answers l (inc a e' ts') x) → (e' : ℕ) (n : Amount) (ts' : Trees)
            → Bounded g line every_rule (noted a x (ok e ts) l) (at (root g a)) x (ok e' ts') n → Span g line (root g a) x e' → (t : Bool) → ltb e e' ≡ t → Answers l (inc a e ts) x
        grown_by e ts k e' n ts' h s true q = let j = k e' ts' (ltb-true e e' q) s in record { answer = j.answer; amount = n ⊕ j.amount; rules = R.inc1 h (ltb-true e e' q) j.rules }
        grown_by e ts k e' n ts' h s false q = record { answer = ok e ts; amount = n; rules = R.inc3 h (ltb-false e e' q) }

        attempt : (e : ℕ) (ts : Trees) → Span g line (root g a) x e → ((e' : ℕ) (ts' : Trees) → e < e' → Span g line (root g a) x e' → Answers l (inc a e' ts') x) → (r : Answer) (n : Amount)
            → Bounded g line every_rule (noted a x (ok e ts) l) (at (root g a)) x r n → Answers l (inc a e ts) x
        attempt e ts s k fail n h = record { answer = ok e ts; amount = n; rules = R.inc2 h }
        attempt e ts s k (ok e' ts') n h = grown_by e ts k e' n ts' h (spans g line h (held_more g line l a x (ok e ts) s held)) (ltb e e') refl

        grown : (m e : ℕ) (ts : Trees) → length line ≤ e + m → Span g line (root g a) x e → Answers l (inc a e ts) x
        grown zero e ts le s =
            let v = visits (ok e ts) s in
            attempt e ts s (λ e' ts' lt s'. let z = s'.inside inside in absurd (omega arith)) v.answer v.amount v.rules
        grown (suc m) e ts le s =
            let v = visits (ok e ts) s in
            attempt e ts s (λ e' ts' lt s'. grown m e' ts' (omega arith) s') v.answer v.amount v.rules

        first : look l a x ≡ none → (r : Answer) (n : Amount) → Bounded g line every_rule (noted a x fail l) (at (root g a)) x r n → Answers l (at (rule a)) x
        first q fail n h = record { answer = fail; amount = visiting n; rules = R.lvar2 refl q h }
        first q (ok e ts) n h =
            let k = grown (length line) e ts (omega arith) (spans g line h (held_more g line l a x fail tt held)) in
            record { answer = wrap a x k.answer; amount = visiting (n ⊕ k.amount); rules = R.lvar1 refl q h k.rules }

      used : (a : ℕ) → (look l a x ≡ none → (q : Answer) → Spanned g line (root g a) x q → Answers (noted a x q l) (at (root g a)) x) → (o : Option Answer) → look l a x ≡ o → Answers l (at (rule a)) x
      used a v none q = let h = v q fail tt in first a (v q) q h.answer h.amount h.rules
      used a v (some r) q = record { answer = wrap a x r; amount = visiting nothing; rules = R.lvar3 refl q }

    -- A rule that isn't live is none of s.
    fresh : (l : List Note) (a : ℕ) (s : List ℕ) → LiveAt l x s → look l a x ≡ none → Absent a s ⊎ In a s → Absent a s
    fresh l a s h q (inl k) = k
    fresh l a s h q (inr k) = absurd (live_in l x a s h k q)

    -- The rules of s are live at x; k others may yet become so.
    level : (k : ℕ) (s : List ℕ) → Distinct (length g.roots) s → length g.roots ≤ k + length s → (l : List Note) → Held g line l → LiveAt l x s → (i : ℕ) → i < length g.nodes
        → Answers l (at (node g i)) x
    level zero s d le l held h i li =
        descend l held
        (λ a la. used l held a (λ q. let z = at_most (length g.roots) (a ∷ s) (la, fresh l a s h q (seek a s), d) in absurd (omega arith)) (look l a x) refl)
        (suc i) i (omega arith) li
    level (suc k) s d le l held h i li =
        descend l held
        (λ a la. used l held a
        (λ q r sp. level k (a ∷ s) (la, fresh l a s h q (seek a s), d) (omega arith) (noted a x r l) (held_more g line l a x r sp held)
        (λ e. some≢none (sym (look_same l a x r) ∙ e), live_more l a x r s h) (root_of g a) (good.roots a la))
        (look l a x) refl)
        (suc i) i (omega arith) li

  module _ (good : Closed g) where
    from : (m x : ℕ) → length line ≤ x + m → x ≤ length line → (l : List Note) → Held g line l → (i : ℕ) → i < length g.nodes → Answers l (at (node g i)) x
    from zero x le inside l held i li = level good x inside (λ y lt ly. absurd (omega arith)) (length g.roots) [] tt (omega arith) l held tt i li
    from (suc m) x le inside l held i li = level good x inside (λ y lt ly. from m y (omega arith) ly) (length g.roots) [] tt (omega arith) l held tt i li

    -- Lemma 2: a node of the grammar at a position of the line, whatever is live (as long as what is held could be an answer).
    pub lemma_2 : (l : List Note) → Held g line l → (i x : ℕ) → i < length g.nodes → x ≤ length line → Answers l (at (node g i)) x
    lemma_2 l held i x li inside = from (length line) x (omega arith) inside l held i li

    pub use_answers : (l : List Note) → Held g line l → (a x : ℕ) → a < length g.roots → x ≤ length line → Answers l (at (rule a)) x
    use_answers l held a x la inside =
        used good x inside (λ y lt ly m h i li. lemma_2 m h i y li ly) l held a
        (λ q r s. lemma_2 (noted a x r l) (held_more g line l a x r s held) (root_of g a) x (good.roots a la) inside) (look l a x) refl

  -- Every line has its reading by the bounded rules.
  pub answered : Closed g → 0 < length g.roots → (r : Answer) × (n : Amount) × Reads g line every_rule r n
  unfolding look
  answered good rules =
      let h = use_answers good [] (λ b w q e. found refl e) 0 0 rules (omega arith) in
      let k = as_reading g line every_rule h.rules in
      (h.answer, k.0, k.1)
