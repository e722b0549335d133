-- A reading that keeps answers makes at most 2 x nodes x (length + 1) + 1 visits where the plain rules answer, whatever refuses it.
-- Each pair (node, position) is worked at most once and visits at most twice: a pair that is open is not met again, since what it visits has a lower derivation.
use mathlib.Core.Path.{◌≡◌, refl, subst}
use mathlib.Core.Logic.{◌⊎◌, inl, inr}
use Prim.Native.Nat.{ℕ, zero, suc, ◌+◌, ◌*◌, ◌<◌, ◌≤◌}
use mathlib.Core.List.{List, [], ◌∷◌, ◌++◌}
use mathlib.Core.Option.{Option, none, some}
use lib.ListN.{length, length-append}
use native.Mathlib.Omega.{arith}
use Rattle.meaning.specs.Grammar.{Node, rule, Grammar, node, root_of, root, Below, Closed, Answer, Note, look}
use Rattle.meaning.specs.Rules.{Plain, empty1, char1, char2, var}
use Rattle.meaning.specs.Report.{bound}
use Rattle.meaning.specs.Reading.{State, starting, spent, keeping, made, Visit, deep, wrapped, keep, keeps, use_by, use_rule, recall, visited, in_place, visit, read_by}
use Rattle.meaning.proofs.Answers.{found}
use Rattle.meaning.proofs.OnePlain.{height, det}
use Rattle.meaning.proofs.Runs.{Ends, ends_after, ends_map, ends_both, ends_counted}
use Rattle.meaning.proofs.Free.{span}
use Rattle.meaning.proofs.Effort.{effort_left}
use Rattle.meaning.proofs.Walk as W
use Rattle.meaning.proofs.Walk.{Leaf, First, Place, Second, Refusal, by_effort, by_depth, Laws, walk}
use Rattle.meaning.proofs.Kept.{plain_one, plain_two, Right, right_keep}
use Rattle.meaning.proofs.Lower.{first_below, second_below, Lower, root_lower, first_lower, second_lower}
use Rattle.meaning.proofs.Pigeon.{Absent, In, Distinct, seek, at_most, distinct_mid, absent_both}
use Rattle.meaning.proofs.Pairs.{code, code_below, code_number, code_position, codes, length_codes, Inside, missing}

module _ (g : Grammar) (line : List ℕ) where
  abbrev L : ℕ
  L = length line

  abbrev pub pairs : ℕ
  pairs = length g.nodes * suc (length line)

  -- What holds while the pairs of o are open: no pair is open twice, or both open and kept, or kept twice.
  record Inv (o : List ℕ) (s : State) : Type 0 where
    right : Right g line s.kept
    inside : Inside L s.kept
    distinct : Distinct pairs (o ++ codes L s.kept)

  room : (o : List ℕ) (s : State) → Inv o s → length o + length s.kept ≤ pairs
  room o s w =
      let z : length (o ++ codes L s.kept) ≤ pairs = at_most pairs (o ++ codes L s.kept) w.distinct in
      omega (arith, length-append o (codes L s.kept), length_codes L s.kept)

  -- The open pairs have derivations of height h at least.
  abbrev Above : List ℕ → ℕ → Type 0
  Above o h = (j y : ℕ) (c : Answer) (d : Plain g line (node g j) y c) → y ≤ L → In (code L j y) o → h ≤ height g line d

  -- Node p at x has a derivation at least n lower than those of the open pairs.
  record Under (o : List ℕ) (p : Node) (x n : ℕ) : Type 0 where
    answer : Answer
    rules : Plain g line p x answer
    inside : x ≤ L
    above : Above o (n + height g line rules)

  -- The visits made since s are at most n, and two for each answer kept since.
  record Came (o : List ℕ) (p : Node) (x n : ℕ) (s : State) (r : Answer) (t : State) : Type 0 where
    plain : Plain g line p x r
    inv : Inv o t
    count : s.left + 2 * length s.kept ≤ t.left + n + 2 * length t.kept

  -- The visits made since s by a run that is refused: at most n, and two for each pair that was neither open nor kept.
  abbrev Refused : List ℕ → ℕ → State → State → Type 0
  Refused o n s t = s.left + 2 * (length o + length s.kept) ≤ t.left + n + 2 * pairs

  lower_under : {o : List ℕ} {p q : Node} {x : ℕ} (y : ℕ) (u : Under o p x 0) → y ≤ L → Lower g line q y (height g line u.rules) → Under o q y 1
  lower_under y u ly l = record {
    answer = l.answer;
    rules = l.rules;
    inside = ly;
    above = λ j z c d lz m. let a = l.less in let b : 0 + height g line u.rules ≤ height g line d = u.above j z c d lz m in omega arith;
  }

  -- A pair that is entered was not open.
  fresh : (o : List ℕ) (i x : ℕ) (u : Under o (node g i) x 1) → Absent (code L i x) o ⊎ In (code L i x) o → Absent (code L i x) o
  fresh o i x u (inl h) = h
  fresh o i x u (inr m) = let z = u.above i x u.answer u.rules u.inside m in absurd (omega arith)

  same_height : (i j x y : ℕ) {r q : Answer} → i ≡ j → x ≡ y → (d : Plain g line (node g i) x r) (e : Plain g line (node g j) y q) → height g line d ≡ height g line e
  same_height i j x y {r} {q} p w d = subst (λ k. (e : Plain g line (node g k) y q) → height g line d ≡ height g line e) p (λ e. (det g line w d e).count)

  -- The pair is open now: its own derivation is as high as itself.
  under_open : (o : List ℕ) (i x : ℕ) → Under o (node g i) x 1 → Under (code L i x ∷ o) (node g i) x 0
  under_open o i x u = record { answer = u.answer; rules = u.rules; inside = u.inside; above = λ j y c d ly m. at_head j y c d ly m }
    where
      at_head : (j y : ℕ) (c : Answer) (d : Plain g line (node g j) y c) → y ≤ L → (code L j y ≡ code L i x) ⊎ In (code L j y) o → 0 + height g line u.rules ≤ height g line d
      at_head j y c d ly (inl e) =
          let z = same_height j i y x (code_number L j y i x ly u.inside e) (code_position L j y i x ly u.inside e) d u.rules in omega arith
      at_head j y c d ly (inr m) = let z : 1 + height g line u.rules ≤ height g line d = u.above j y c d ly m in omega arith

  enter : (o : List ℕ) (i x n : ℕ) (s : State) → i < length g.nodes → Under o (node g i) x 1 → look s.kept i x ≡ none → Inv o s
      → Inv (code L i x ∷ o) (spent n s)
  enter o i x n s li u e w = record {
    right = w.right;
    inside = w.inside;
    distinct = (
      code_below L (length g.nodes) i x li u.inside,
      absent_both (code L i x) o (codes L s.kept) (fresh o i x u (seek (code L i x) o)) (missing L s.kept i x u.inside w.inside e),
      w.distinct,
    );
  }

  leave : (o : List ℕ) (i x : ℕ) (r : Answer) (s : State) → x ≤ L → Plain g line (node g i) x r → Inv (code L i x ∷ o) s
      → Inv o (keeping i x r s)
  leave o i x r s lx h w = record {
    right = right_keep g line i x r s.kept h w.right;
    inside = (lx, w.inside);
    distinct = distinct_mid pairs (code L i x) o (codes L s.kept) w.distinct.0 w.distinct.1 w.distinct.2;
  }

  module _ (good : Closed g) where
    second_inside : {j : Place} {p q : Node} {i b x y : ℕ} {r : Answer} {f : Answer → Answer} → Second i x j p r b y f → Plain g line q x r → x ≤ L → y ≤ L
    second_inside W.con h lx = (span g line h).inside lx
    second_inside W.ord h lx = lx
    second_inside (W.rep2 n) h lx = (span g line h).inside lx

    module _ (o : List ℕ) where
      abbrev Visits : ℕ → ℕ → State → Answer → State → Type 0
      Visits i x s r t = i < length g.nodes → Under o (node g i) x 1 → Inv o s → Came o (node g i) x 1 s r t

      abbrev Uses : ℕ → ℕ → State → Answer → State → Type 0
      Uses a x s r t = a < length g.roots → Under o (rule a) x 0 → Inv o s → Came o (rule a) x 1 s r t

      abbrev Applies : ℕ → ℕ → State → Answer → State → Type 0
      Applies i x s r t = i < length g.nodes → Under o (node g i) x 0 → Inv o s → Came o (node g i) x 2 s r t

      abbrev Visits' : Refusal → ℕ → ℕ → State → State → Type 0
      Visits' why i x s t = i < length g.nodes → Under o (node g i) x 1 → Inv o s → Refused o 0 s t

      abbrev Uses' : Refusal → ℕ → ℕ → State → State → Type 0
      Uses' why a x s t = a < length g.roots → Under o (rule a) x 0 → Inv o s → Refused o 0 s t

      abbrev Applies' : Refusal → ℕ → ℕ → State → State → Type 0
      Applies' why i x s t = i < length g.nodes → Under o (node g i) x 0 → Inv o s → Refused o 1 s t

      -- The rule that a node uses, and the nodes that it visits, are there and have lower derivations.
      rule_there : (i a : ℕ) → node g i ≡ rule a → i < length g.nodes → a < length g.roots
      rule_there i a e li = subst (Below g i) e (good.nodes i li)

      rule_under : (i a x : ℕ) → node g i ≡ rule a → Under o (node g i) x 0 → Under o (rule a) x 0
      rule_under i a x e u = subst (λ p. Under o p x 0) e u

      first_there : (i a : ℕ) → First (node g i) a → i < length g.nodes → a < length g.nodes
      first_there i a m li = let z : a < i = first_below g m (good.nodes i li) in omega arith

      first_under : (i a x : ℕ) → First (node g i) a → Under o (node g i) x 0 → Under o (node g a) x 1
      first_under i a x m u = lower_under x u u.inside (first_lower g line m u.rules)

      second_there : {j : Place} (i x b y : ℕ) (r : Answer) (f : Answer → Answer) → Second i x j (node g i) r b y f → i < length g.nodes → b < length g.nodes
      second_there i x b y r f n li = let z : b ≤ i = second_below g n (good.nodes i li) in omega arith

      second_under : {j : Place} (i x a b y : ℕ) (r : Answer) (f : Answer → Answer) → First (node g i) a → Second i x j (node g i) r b y f → Plain g line (node g a) x r
          → Under o (node g i) x 0 → Under o (node g b) y 1
      second_under i x a b y r f m n h u = lower_under y u (second_inside n h u.inside) (second_lower g line refl m n h u.rules)

      -- A node that visits none spends none, and keeps none.
      came_leaf : {p : Node} {x : ℕ} {s t : State} {r : Answer} → Leaf line x s p r t → Inv o s → Came o p x 2 s r t
      came_leaf W.empty1 w = record { plain = empty1; inv = w; count = omega arith }
      came_leaf (W.char1 q) w = record { plain = char1 q; inv = record { right = w.right; inside = w.inside; distinct = w.distinct }; count = omega arith }
      came_leaf (W.char2 q) w = record { plain = char2 q; inv = record { right = w.right; inside = w.inside; distinct = w.distinct }; count = omega arith }

      laws : Laws g line (λ j. Visits) Uses Applies (λ j. Visits') Uses' Applies'
      laws = record {
        leaf = λ i x r s t l li u w. came_leaf l w;
        uses = λ i a x r s t e h li u w. let k = h (rule_there i a e li) (rule_under i a x e u) w in let z = k.count in
            record { plain = rw e k.plain; inv = k.inv; count = omega arith };
        one = λ i x a r q s t m n h li u w. let k = h (first_there i a m li) (first_under i a x m u) w in let z = k.count in
            record { plain = plain_one g line m n k.plain; inv = k.inv; count = omega arith };
        two = λ i x a b y j r q f s t t' m n h h' li u w. let k = h (first_there i a m li) (first_under i a x m u) w in
            let k' = h' (second_there i x b y r f n li) (second_under i x a b y r f m n k.plain u) k.inv in
            let z = k.count in let z' = k'.count in
            record { plain = plain_two g line refl m n k.plain k'.plain; inv = k'.inv; count = omega arith };
        uses_refused = λ why i a x s t e h li u w. let z = h (rule_there i a e li) (rule_under i a x e u) w in omega arith;
        one_refused = λ why i x a s t m h li u w. let z = h (first_there i a m li) (first_under i a x m u) w in omega arith;
        two_refused = λ why i x a b y j r f s t t' m n h h' li u w. let k = h (first_there i a m li) (first_under i a x m u) w in
            let z = k.count in let z' = h' (second_there i x b y r f n li) (second_under i x a b y r f m n k.plain u) k.inv in omega arith;
      }

    module _ (v : List Note → Visit) (l : List Note)
        (hv : (o : List ℕ) (i x : ℕ) (s : State) → Ends (Visits' o by_effort i x s) (Visits' o by_depth i x s) (Visits o i x s) (v l i x s)) where
      root_under : (o : List ℕ) (a x : ℕ) → Under o (rule a) x 0 → Under o (root g a) x 1
      root_under o a x u = lower_under x u u.inside (root_lower g line u.rules)

      of_use : (o : List ℕ) (a x : ℕ) (s : State) → Ends (Uses' o by_effort a x s) (Uses' o by_depth a x s) (Uses o a x s) (use_rule g line keeps v l a x s)
      unfolding use_by wrapped
      of_use o a x s =
          ends_after _ (v l (root_of g a) x s) (wrapped a x) (hv o (root_of g a) x s)
          (λ t h la u w. h (good.roots a la) (root_under o a x u) w)
          (λ t h la u w. h (good.roots a la) (root_under o a x u) w)
          (λ r t h la u w. let k = h (good.roots a la) (root_under o a x u) w in record { plain = var k.plain; inv = k.inv; count = k.count })

      -- w visits in place.
      module _ (w : List Note → Visit)
          (hw : (o : List ℕ) (i x : ℕ) (s : State) → Ends (Visits' o by_effort i x s) (Visits' o by_depth i x s) (Visits o i x s) (w l i x s)) where
        -- A visit with n left after it, of a pair that is kept or not.
        of_recall : (o : List ℕ) (i x n : ℕ) (s : State) (m : Option Answer) → s.left ≡ suc n → look s.kept i x ≡ m
            → Ends (Visits' o by_effort i x s) (Visits' o by_depth i x s) (Visits o i x s) (recall g line v w l i x (spent n s) m)
        unfolding recall keep
        of_recall o i x n s (some r) f e = λ li u c.
            record { plain = c.right i x r e; inv = record { right = c.right; inside = c.inside; distinct = c.distinct }; count = omega arith }
        of_recall o i x n s none f e =
            let q : List ℕ = code L i x ∷ o in
            let t : State = spent n s in
            ends_after _ _ (keep i x) (walk (laws q) (v l) (hv q) (w l) (hw q) (use_rule g line keeps v l) (of_use q) i x t)
            (λ t' h li u c. let z = h li (under_open o i x u) (enter o i x n s li u e c) in omega arith)
            (λ t' h li u c. let z = h li (under_open o i x u) (enter o i x n s li u e c) in omega arith)
            (λ r t' h li u c. let k = h li (under_open o i x u) (enter o i x n s li u e c) in
            let z = k.count in
            record { plain = k.plain; inv = leave o i x r t' u.inside k.plain k.inv; count = omega arith })

      of_place : (f : ℕ) (o : List ℕ) (i x : ℕ) (s : State)
          → Ends (Visits' o by_effort i x s) (Visits' o by_depth i x s) (Visits o i x s) (in_place g line keeps f v l i x s)
      unfolding in_place visited
      of_place zero o i x s = hv o i x s
      of_place (suc f) o i x s =
          let w : List Note → Visit = in_place g line keeps f v in
          ends_counted _ _ _ s.left x s (visited g line keeps v w l i x) (λ e li u c. let z = room o s c in omega arith)
          (λ n e. of_recall w (of_place f) o i x n s (look s.kept i x) e refl)

    of_visit : (d : ℕ) (l : List Note) (o : List ℕ) (i x : ℕ) (s : State)
        → Ends (Visits' o by_effort i x s) (Visits' o by_depth i x s) (Visits o i x s) (visit g line keeps d l i x s)
    unfolding visit
    of_visit zero l o i x s =
        ends_counted _ _ _ s.left x s (λ t. deep x s) (λ e li u w. let z = room o s w in omega arith) (λ n e li u w. let z = room o s w in omega arith)
    of_visit (suc d) l o i x s = of_place (visit g line keeps d) l (of_visit d l) s.left o i x s

    -- Where the plain rules answer the use of rule 0 at 0.
    module _ (rule-0 : 0 < length g.roots) {answer : Answer} (answered : Plain g line (rule 0) 0 answer) (allowance : ℕ) where
      -- The visits made are the allowance less what is left.
      pub ceiling : Ends (λ t. allowance ≤ t.left + 2 * pairs) (λ t. allowance ≤ t.left + 2 * pairs) (λ r t. allowance ≤ t.left + 1 + 2 * pairs) (read_by g line keeps allowance)
      unfolding read_by look
      ceiling =
          let s : State = starting allowance in
          let v : List Note → Visit = visit g line keeps 512 in
          let u : Under [] (rule 0) 0 0 = record { answer = _; rules = answered; inside = omega arith; above = λ j y c e ly m. absurd m } in
          let w : Inv [] s = record { right = λ i x r e. found refl e; inside = tt; distinct = tt } in
          ends_map {E = Uses' [] by_effort 0 0 s} {D = Uses' [] by_depth 0 0 s} {P = Uses [] 0 0 s} (use_rule g line keeps v [] 0 0 s) (of_use v [] (of_visit 512 []) [] 0 0 s)
          (λ t h. let z = h rule-0 u w in omega arith)
          (λ t h. let z = h rule-0 u w in omega arith)
          (λ r t h. let k = h rule-0 u w in let z = k.count in let z' = room [] t k.inv in omega arith)

      pub visits_at_most : Ends (λ t. made allowance t ≤ bound g line) (λ t. made allowance t ≤ bound g line) (λ r t. made allowance t ≤ bound g line) (read_by g line keeps allowance)
      visits_at_most = ends_map (read_by g line keeps allowance) ceiling (λ t h. omega arith) (λ t h. omega arith) (λ r t h. omega arith)

      -- EFFORT is given with no visit left, so after more visits than there can be.
      pub never_effort : bound g line ≤ allowance → Ends (λ t. ⊥) (λ t. Unit {0}) (λ r t. Unit {0}) (read_by g line keeps allowance)
      never_effort le = ends_both (read_by g line keeps allowance) ceiling (effort_left g line keeps allowance) (λ t h k. omega arith) (λ t h k. tt) (λ r t h k. tt)
