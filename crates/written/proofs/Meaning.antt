-- The table's grammar is the sheet read sign by sign: by the plain rules both give the same answers.
use mathlib.Core.Path.{◌≡◌, refl, sym, ap, ◌∙◌}
use mathlib.Core.Bool.{Bool, true, false, false≢true}
use mathlib.Core.List.{List, [], ◌∷◌, ◌++◌}
use mathlib.Core.Logic.{◌↔◌, ◌≢◌, ◌⊎◌, inl, inr}
use Prim.Native.Nat.{ℕ, suc}
use lib.ListN.{get_or}
use native.Mathlib.Numerals.{one-add}
use borrow.Author.Tests.{eq-eqb}
use Rattle.meaning.proofs.Choose.{by_test}
use Rattle.meaning.specs.Grammar as g
use Rattle.meaning.specs.Grammar.{Node, Grammar, node, root, Trees, no_trees, ◌⋈◌, Answer, fail, ok, Note}
use Rattle.meaning.specs.Rules as r
use Rattle.meaning.specs.Rules.{Plain, Amount, ◌⊕◌, visiting, Bounded}
use Rattle.written.specs.Written.{Name, Written, name, range, star, plus, maybe, deny, then, or, Line}
use Rattle.written.specs.Numbered.{last, nodes, nodes_from, roots_from, same, rule_of, rule_in}
use Rattle.written.specs.Tabulated.{Uses, here, in_star, in_plus, in_maybe, in_deny, then_first, then_second, or_first, or_second, LineAt, first, later, unknown, NamesRight}
use Rattle.written.specs.Means.{sheet_grammar, Means, char1, char2, var, con1, con2, con3, ord1, ord2, not1, not2, rep1, rep2, rep3, plus_is, maybe1, maybe2}

-- The nodes ns stand from number s on, where number i is the node that h says.
abbrev Held : (h : ℕ → Node) → ℕ → List Node → Type 0
Held h s [] = Unit {0}
Held h s (q ∷ ns) = (h s ≡ q) × Held h (suc s) ns

-- The number after the last of them.
abbrev after : ℕ → List Node → ℕ
after s [] = s
after s (q ∷ ns) = after (suc s) ns

-- What is put behind nodes begins where those end; and a list stands where its own numbers say.
after_both : (s t : ℕ) (xs ys : List Node) → after s xs ≡ t → after s (xs ++ ys) ≡ after t ys
after_both s t [] ys e = ap (λ i. after i ys) e
after_both s t (x ∷ xs) ys e = after_both (suc s) t xs ys e

held_first : (h : ℕ → Node) (s : ℕ) (xs ys : List Node) → Held h s (xs ++ ys) → Held h s xs
held_first h s [] ys p = tt
held_first h s (x ∷ xs) ys p = (p.0, held_first h (suc s) xs ys p.1)

held_second : (h : ℕ → Node) (s t : ℕ) (xs ys : List Node) → after s xs ≡ t → Held h s (xs ++ ys) → Held h t ys
held_second h s t [] ys e p = rw e at p
held_second h s t (x ∷ xs) ys e p = held_second h (suc s) t xs ys e p.1

held_shifted : (h : ℕ → Node) (s : ℕ) (ns : List Node) → Held (λ i. h (suc i)) s ns → Held h (suc s) ns
held_shifted h s [] p = tt
held_shifted h s (q ∷ ns) p = (p.0, held_shifted h (suc s) ns p.1)

held_all : (ns : List Node) → Held (λ i. get_or ns i g.empty) 0 ns
held_all [] = tt
held_all (q ∷ ns) = (refl, held_shifted (λ i. get_or (q ∷ ns) i g.empty) 0 ns (held_all ns))

-- After the nodes of what is written comes the number after its last node's.
after_nodes : (f : Name → ℕ) (s : ℕ) (w : Written) → after s (nodes f s w) ≡ suc (last s w)
unfolding nodes
after_nodes f s (name n) = refl
after_nodes f s (range lowest highest) = refl
after_nodes f s (star e) = after_both s _ (nodes f s e) _ (after_nodes f s e)
after_nodes f s (plus e) = after_both s _ (nodes f s e) _ (after_nodes f s e)
after_nodes f s (maybe e) = after_both s _ (nodes f s e) _ (after_nodes f s e)
after_nodes f s (deny e) = after_both s _ (nodes f s e) _ (after_nodes f s e)
after_nodes f s (then a b) =
    after_both s _ (nodes f s a) _ (after_nodes f s a) ∙ after_both (suc (last s a)) _ (nodes f (suc (last s a)) b) _ (after_nodes f (suc (last s a)) b)
after_nodes f s (or a b) =
    after_both s _ (nodes f s a) _ (after_nodes f s a) ∙ after_both (suc (last s a)) _ (nodes f (suc (last s a)) b) _ (after_nodes f (suc (last s a)) b)

-- Empty matches nothing, and answers nothing else.
empty_answer : {p : Grammar} {line : List ℕ} {x : ℕ} {a : Answer} → Plain p line g.empty x a → a ≡ ok x no_trees
empty_answer r.empty1 = refl

matches_nothing : {p : Grammar} {line : List ℕ} {q : Node} {x : ℕ} → q ≡ g.empty → Plain p line q x (ok x no_trees)
matches_nothing e = rw e r.empty1

-- The names of what is written have lines.
abbrev Named : List Line → Written → Type 0
Named ls w = (n : Name) → Uses n w → (l : Line) × LineAt ls (rule_in ls n) l

-- Every name that a line of the sheet uses has a line.
abbrev pub Known : List Line → Type 0
Known ls = (k : ℕ) (m : Line) (n : Name) → LineAt ls k m → Uses n m.alternatives → (l : Line) × LineAt ls (rule_in ls n) l

same_self : (cs : List ℕ) → same cs cs ≡ true
unfolding same
same_self [] = refl
same_self (c ∷ cs) = rw (eq-eqb c c refl) (same_self cs)

-- The letters have no line.
abbrev Lineless : List Line → List ℕ → Type 0
Lineless ls cs = (j : ℕ) (l : Line) → LineAt ls j l → l.name.letters ≢ cs

still_lineless : (m : Line) (ms : List Line) (cs : List ℕ) → same m.name.letters cs ≡ false → Lineless ms cs → Lineless (m ∷ ms) cs
still_lineless m ms cs e none j l first = λ q. false≢true (sym e ∙ rw q (same_self cs))
still_lineless m ms cs e none j l (later {k = k} at) = none k l at

-- Letters have a line, the one that rule_of says, or none.
found : (ls : List Line) (cs : List ℕ) → ((l : Line) × LineAt ls (rule_of ls cs) l) ⊎ Lineless ls cs
unfolding rule_of
found [] cs = inr (λ j l at. elim at [ ])
found (m ∷ ms) cs = by_test (λ i. ((l : Line) × LineAt (m ∷ ms) i l) ⊎ Lineless (m ∷ ms) cs) (same m.name.letters cs) 0 (suc (rule_of ms cs))
    (λ e. inl (m, first)) (λ e. go e (found ms cs))
  where
    go : same m.name.letters cs ≡ false → ((l : Line) × LineAt ms (rule_of ms cs) l) ⊎ Lineless ms cs
        → ((l : Line) × LineAt (m ∷ ms) (suc (rule_of ms cs)) l) ⊎ Lineless (m ∷ ms) cs
    go e (inl l) = inl (l.0, rw (← one-add (rule_of ms cs)) (later l.1))
    go e (inr none) = inr (still_lineless m ms cs e none)

-- Right names have lines.
pub known_if_right : (ls : List Line) → NamesRight ls → Known ls
known_if_right ls right k m n at u = elim (found ls n.letters) [ inl l ↦ l | inr none ↦ absurd (right n (unknown at u none)) ]

module _ (ls : List Line) where
  abbrev gr : Grammar
  gr = sheet_grammar ls

  -- A node of the grammar is what is written. In e+ the same node is e and what e* repeats.
  pub data Is : Written → Node → Type 0 where
    is_name : {n : Name} {l : Line} → LineAt ls (rule_in ls n) l → Is (name n) (g.rule (rule_in ls n))
    is_range : {lowest highest : ℕ} → Is (range lowest highest) (g.range lowest highest)
    is_star : {e : Written} {i : ℕ} → Is e (node gr i) → Is (star e) (g.rep i)
    is_plus : {e : Written} {i j : ℕ} → Is e (node gr i) → node gr j ≡ g.rep i → Is (plus e) (g.seq i j)
    is_maybe : {e : Written} {i j : ℕ} → Is e (node gr i) → node gr j ≡ g.empty → Is (maybe e) (g.choice i j)
    is_deny : {e : Written} {i : ℕ} → Is e (node gr i) → Is (deny e) (g.not i)
    is_then : {a b : Written} {i j : ℕ} → Is a (node gr i) → Is b (node gr j) → Is (then a b) (g.seq i j)
    is_or : {a b : Written} {i j : ℕ} → Is a (node gr i) → Is b (node gr j) → Is (or a b) (g.choice i j)

  starred : {e : Written} {i : ℕ} {q : Node} → Is e (node gr i) → q ≡ g.rep i → Is (star e) q
  starred a e = rw e (is_star a)

  -- The nodes of what is written, and what comes after them.
  parts : (s : ℕ) (w : Written) (ys : List Node) → Held (node gr) s (nodes (rule_in ls) s w ++ ys)
      → Held (node gr) s (nodes (rule_in ls) s w) × Held (node gr) (suc (last s w)) ys
  parts s w ys p = (held_first (node gr) s (nodes (rule_in ls) s w) ys p, held_second (node gr) s _ (nodes (rule_in ls) s w) ys (after_nodes (rule_in ls) s w) p)

  -- Where its nodes stand, the last of them is what is written.
  built : (s : ℕ) (w : Written) → Named ls w → Held (node gr) s (nodes (rule_in ls) s w) → Is w (node gr (last s w))
  unfolding nodes
  built s (name n) k p = rw p.0 (is_name (k n here).1)
  built s (range lowest highest) k p = rw p.0 is_range
  built s (star e) k p =
      let (b, n) = parts s e (g.rep (last s e) ∷ []) p in
      rw n.0 (is_star (built s e (λ n u. k n (in_star u)) b))
  built s (plus e) k p =
      let (b, n) = parts s e (g.rep (last s e) ∷ g.seq (last s e) (suc (last s e)) ∷ []) p in
      rw n.1.0 (is_plus (built s e (λ n u. k n (in_plus u)) b) n.0)
  built s (maybe e) k p =
      let (b, n) = parts s e (g.empty ∷ g.choice (last s e) (suc (last s e)) ∷ []) p in
      rw n.1.0 (is_maybe (built s e (λ n u. k n (in_maybe u)) b) n.0)
  built s (deny e) k p =
      let (b, n) = parts s e (g.not (last s e) ∷ []) p in
      rw n.0 (is_deny (built s e (λ n u. k n (in_deny u)) b))
  built s (then a b) k p =
      let t : ℕ = suc (last s a) in
      let (c, n) = parts s a (nodes (rule_in ls) t b ++ (g.seq (last s a) (last t b) ∷ [])) p in
      let (d, m) = parts t b (g.seq (last s a) (last t b) ∷ []) n in
      rw m.0 (is_then (built s a (λ n u. k n (then_first u)) c) (built t b (λ n u. k n (then_second u)) d))
  built s (or a b) k p =
      let t : ℕ = suc (last s a) in
      let (c, n) = parts s a (nodes (rule_in ls) t b ++ (g.choice (last s a) (last t b) ∷ [])) p in
      let (d, m) = parts t b (g.choice (last s a) (last t b) ∷ []) n in
      rw m.0 (is_or (built s a (λ n u. k n (or_first u)) c) (built t b (λ n u. k n (or_second u)) d))

  -- The same of every line, where the nodes of lines ms stand from number s on.
  lines : (s : ℕ) {ms : List Line} {k : ℕ} {l : Line} → LineAt ms k l → ((j : ℕ) (m : Line) → LineAt ms j m → Named ls m.alternatives)
      → Held (node gr) s (nodes_from (rule_in ls) s ms) → Is l.alternatives (node gr (get_or (roots_from s ms) k 0))
  unfolding nodes_from roots_from
  lines s (first {l = l} {ls = ms}) u p =
      built s l.alternatives (u _ _ first) (parts s l.alternatives (nodes_from (rule_in ls) (suc (last s l.alternatives)) ms) p).0
  lines s (later {l = l} {m = m} {ls = ms} {k = k} at) u p =
      let t : ℕ = suc (last s m.alternatives) in
      rw (one-add k) (lines t at (λ j o h. u _ o (later h)) (parts s m.alternatives (nodes_from (rule_in ls) t ms) p).1)

  module _ (known : Known ls) where
    -- Each rule's root is what stands on the right of its line.
    pub stands : {k : ℕ} {l : Line} → LineAt ls k l → Is l.alternatives (root gr k)
    stands at = lines 0 at (λ j m h n u. known j m n h u) (held_all gr.nodes)

    -- A derivation of what is written is one of its node, rule by rule, and back.
    forth : {line : List ℕ} {w : Written} {q : Node} {x : ℕ} {a : Answer} → Means ls line w x a → Is w q → Plain gr line q x a
    forth (char1 t) is_range = r.char1 t
    forth (char2 t) is_range = r.char2 t
    forth (var at h) (is_name o) = r.var (forth h (stands at))
    forth (con1 h k) (is_then a b) = r.con1 (forth h a) (forth k b)
    forth (con2 h k) (is_then a b) = r.con2 (forth h a) (forth k b)
    forth (con3 h) (is_then a b) = r.con3 (forth h a)
    forth (ord1 h) (is_or a b) = r.ord1 (forth h a)
    forth (ord2 h k) (is_or a b) = r.ord2 (forth h a) (forth k b)
    forth (not1 h) (is_deny a) = r.not1 (forth h a)
    forth (not2 h) (is_deny a) = r.not2 (forth h a)
    forth (rep1 h) (is_star a) = r.rep1 (forth h a)
    forth (rep2 h n k) (is_star a) = r.rep2 (forth h a) n (forth k (is_star a))
    forth (rep3 h) (is_star a) = r.rep3 (forth h a)
    forth (plus_is h) (is_plus a e) = forth h (is_then a (starred a e))
    forth (maybe1 h) (is_maybe a e) = r.ord1 (forth h a)
    forth (maybe2 h) (is_maybe a e) = r.ord2 (forth h a) (matches_nothing e)

    back : {line : List ℕ} {q : Node} {x : ℕ} {a : Answer} → Plain gr line q x a → {w : Written} → Is w q → Means ls line w x a
    back (r.char1 t) is_range = char1 t
    back (r.char2 t) is_range = char2 t
    back (r.var h) (is_name o) = var o (back h (stands o))
    back (r.con1 h k) (is_then a b) = con1 (back h a) (back k b)
    back (r.con1 h k) (is_plus a e) = plus_is (con1 (back h a) (back k (starred a e)))
    back (r.con2 h k) (is_then a b) = con2 (back h a) (back k b)
    back (r.con2 h k) (is_plus a e) = plus_is (con2 (back h a) (back k (starred a e)))
    back (r.con3 h) (is_then a b) = con3 (back h a)
    back (r.con3 h) (is_plus a e) = plus_is (con3 (back h a))
    back (r.ord1 h) (is_or a b) = ord1 (back h a)
    back (r.ord1 h) (is_maybe a e) = maybe1 (back h a)
    back (r.ord2 h k) (is_or a b) = ord2 (back h a) (back k b)
    back (r.ord2 h k) (is_maybe a e) = rw (empty_answer (rw e at k)) (maybe2 (back h a))
    back (r.not1 h) (is_deny a) = not1 (back h a)
    back (r.not2 h) (is_deny a) = not2 (back h a)
    back (r.rep1 h) (is_star a) = rep1 (back h a)
    back (r.rep2 h n k) (is_star a) = rep2 (back h a) n (back k (is_star a))
    back (r.rep3 h) (is_star a) = rep3 (back h a)
    back {line = line} Plain.empty1 {w = w} x9 = elim x9 [ ]

    -- What a line of the sheet means is what the root of its rule answers.
    pub means : (line : List ℕ) (k : ℕ) (l : Line) → LineAt ls k l → (x : ℕ) (a : Answer)
        → Means ls line l.alternatives x a ↔ Plain (sheet_grammar ls) line (root (sheet_grammar ls) k) x a
    means line k l at x a = (λ h. forth h (stands at), λ h. back h (stands at))

-- By the bounded rules: the two answers of e+, by those of e and e*, which never fails; and the two of e?, by those of e.
pub data PlusAnswers (E S : ℕ → Answer → Amount → Type 0) (x : ℕ) : Answer → Amount → Type 0 where
  matched : {y z : ℕ} {ts us : Trees} {n m : Amount} → E x (ok y ts) n → S y (ok z us) m → PlusAnswers E S x (ok z (ts ⋈ us)) (visiting (n ⊕ m))
  failed : {n : Amount} → E x fail n → PlusAnswers E S x fail (visiting n)

pub data MaybeAnswers (E : ℕ → Answer → Amount → Type 0) (x : ℕ) : Answer → Amount → Type 0 where
  matched : {y : ℕ} {ts : Trees} {n : Amount} → E x (ok y ts) n → MaybeAnswers E x (ok y ts) (visiting n)
  without : {n : Amount} → E x fail n → MaybeAnswers E x (ok x no_trees) (visiting (n ⊕ visiting r.nothing))

module _ (p : Grammar) (line : List ℕ) (live : ℕ → Bool) (l : List Note) where
  -- What node i answers.
  abbrev pub Of : (i x : ℕ) → Answer → Amount → Type 0
  Of i x a n = Bounded p line live l (r.at (node p i)) x a n

  abbrev Matches : Answer → Type 0
  Matches fail = ⊥
  Matches (ok y ts) = Unit {0}

  star_matches : {i x : ℕ} {a : Answer} {n : Amount} → Bounded p line live l (r.at (g.rep i)) x a n → Matches a
  star_matches (r.rep1 h) = tt
  star_matches (r.rep2 h q k) = tt
  star_matches (r.rep3 h) = tt

  of_seq : {i j x : ℕ} {a : Answer} {n : Amount} → node p j ≡ g.rep i → Bounded p line live l (r.at (g.seq i j)) x a n → PlusAnswers (Of i) (Of j) x a n
  of_seq e (r.con1 h k) = matched h k
  of_seq e (r.con2 h k) = absurd (star_matches (rw e at k))
  of_seq e (r.con3 h) = failed h

  to_seq : {i j x : ℕ} {a : Answer} {n : Amount} → PlusAnswers (Of i) (Of j) x a n → Bounded p line live l (r.at (g.seq i j)) x a n
  to_seq (matched h k) = r.con1 h k
  to_seq (failed h) = r.con3 h

  of_empty : (i : ℕ) {x : ℕ} {a : Answer} {n m : Amount} → Bounded p line live l (r.at g.empty) x a m → Of i x fail n → MaybeAnswers (Of i) x a (visiting (n ⊕ m))
  of_empty i r.empty1 h = without h

  of_choice : {i j x : ℕ} {a : Answer} {n : Amount} → node p j ≡ g.empty → Bounded p line live l (r.at (g.choice i j)) x a n → MaybeAnswers (Of i) x a n
  of_choice e (r.ord1 h) = matched h
  of_choice e (r.ord2 {a = i} h k) = of_empty i (rw e at k) h

  to_choice : {i j x : ℕ} {a : Answer} {n : Amount} → node p j ≡ g.empty → MaybeAnswers (Of i) x a n → Bounded p line live l (r.at (g.choice i j)) x a n
  to_choice e (matched h) = r.ord1 h
  to_choice {j = j} {x = x} e (without h) = let k : Of j x (ok x no_trees) (visiting r.nothing) = rw e r.empty1 in r.ord2 h k

  -- Node k is e+, where i is e and j is e*.
  pub plus_bounded : (i j k : ℕ) → node p j ≡ g.rep i → node p k ≡ g.seq i j → (x : ℕ) (a : Answer) (n : Amount) → Of k x a n ↔ PlusAnswers (Of i) (Of j) x a n
  plus_bounded i j k e q x a n = rw q (of_seq e, to_seq)

  -- Node k is e?, where i is e and j is empty.
  pub maybe_bounded : (i j k : ℕ) → node p j ≡ g.empty → node p k ≡ g.choice i j → (x : ℕ) (a : Answer) (n : Amount) → Of k x a n ↔ MaybeAnswers (Of i) x a n
  maybe_bounded i j k e q x a n = rw q (of_choice e, to_choice e)
