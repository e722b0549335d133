-- Kept answers: a pair that has one gives it, and a finished pair gets one.
use mathlib.Core.Path.{◌≡◌, refl, sym, subst, ap, ◌∙◌}
use mathlib.Core.Logic.{◌≢◌, ◌⊎◌, inl, inr}
use mathlib.Core.Bool.{Bool, true, false}
use mathlib.Core.List.{List, [], ◌∷◌}
use mathlib.Core.Option.{Option, none, some}
use Prim.Native.Nat.{ℕ, suc, ◌+◌, ◌*◌, ◌<◌, ◌≤◌}
use native.Mathlib.Nat.{add-zero, mul-le-mul_right}
use native.Mathlib.Omega.{arith}
use lib.ListN.{length, get_or}
use lib.Seq.{sets, length-sets}
use lib.Dec.{eqb}
use borrow.Author.Tests.{eqb-true, eqb-false}
use Rattle.meaning.specs.Grammar.{Answer, fail, ok, Note, noted, look, node}
use Rattle.meaning.specs.Reading.{State, keeping, Run, after, Visit, apply, keep, Way, way_of, use_rule, recall, visited}
use Rattle.meaning.proofs.Notes.{look_same, look_other}
use Rattle.meaning.proofs.Sets.{sets_apart, sets_at}
use Rattle.cells.specs.Cells.{trees_at}
use Rattle.cells.proofs.Frame.{arena_same}
use Rattle.visits.specs.Given.{Given, lent, nodes_in, kept_each_in, keeps_in, grows_in, way_in, base_in, allowance_in, grammar_in, Fit}
use Rattle.visits.specs.Words.{place_in, kept_as, kept_at, Stands, Words, Same, Kept}
use Rattle.visits.specs.Says.{Visited, FAILED, STOPPED, Says, Came}
use Rattle.visits.proofs.Frame.{pair_in, same_trees, lives_same}
use Rattle.visits.proofs.Steps.{then_match, then_fail, stopped, came_as, came_when, still, came_failed}
use Rattle.visits.proofs.Nodes.{result}

-- Two words written one after the other.
abbrev pub pair_put : List ℕ → ℕ → ℕ → ℕ → List ℕ
pair_put w p a b = sets w p (a ∷ b ∷ [])

module _ (w : List ℕ) (p a b : ℕ) where
  pub put_other : (i : ℕ) → i ≢ p → i ≢ p + 1 → get_or (pair_put w p a b) i 0 ≡ get_or w i 0
  put_other i h k = sets_apart (a ∷ b ∷ []) w p i (λ l. omega arith)

  pub put_first : p < length w → get_or (pair_put w p a b) p 0 ≡ a
  put_first h = rw (add-zero p) at (sets_at (a ∷ b ∷ []) w p 0 (omega arith) (omega arith))

  pub put_second : p + 1 < length w → get_or (pair_put w p a b) (p + 1) 0 ≡ b
  put_second h = sets_at (a ∷ b ∷ []) w p 1 (omega arith) h

-- Two numbers are the same or not.
pub by_same : {P : Type 0} (i j : ℕ) → (i ≡ j → P) → (i ≢ j → P) → P
by_same {P} i j f g = by_test (eqb i j) refl
  where
    by_test : (t : Bool) → eqb i j ≡ t → P
    by_test true e = f (eqb-true i j e)
    by_test false e = g (eqb-false i j e)

-- What is kept lies above all the other words.
pub kept_others : (given : Given) (old new : List ℕ) (i x end list j : ℕ) → Kept given old new i x end list → end ≤ FAILED → j < base_in given → get_or new j 0 ≡ get_or old j 0
kept_others given old new i x end list j k most h = by_same end STOPPED (λ e. ap (λ w. get_or w j 0) (k.stopped e))
    (λ n. by_same end FAILED (λ e. ap (λ w. get_or w j 0) (k.failed e) ∙ put_other old (place_in given i x) 1 0 j (omega arith) (omega arith))
    (λ m. ap (λ w. get_or w j 0) (k.matched (omega arith)) ∙ put_other old (place_in given i x) (end + 2) list j (omega arith) (omega arith)))

module _ (given : Given) (line : List ℕ) where
  abbrev pair : ℕ → ℕ → ℕ
  pair i x = x * kept_each_in given + i

  less_pair : (i x j y : ℕ) → i < kept_each_in given → x < y → pair i x < pair j y
  less_pair i x j y li lt = let z : (x + 1) * kept_each_in given ≤ y * kept_each_in given = mul-le-mul_right (kept_each_in given) (omega arith) in omega arith

  -- Two pairs with one number are one pair.
  same_position : (i x j y : ℕ) → i < kept_each_in given → j < kept_each_in given → pair i x ≡ pair j y → x ≡ y
  same_position i x j y li lj e = apart (λ lt. let z = less_pair i x j y li lt in absurd (omega arith)) (λ lt. let z = less_pair j y i x lj lt in absurd (omega arith))
    where
      apart : (x < y → ⊥) → (y < x → ⊥) → x ≡ y
      apart f h = by_same x y (λ q. q) (λ q. absurd (split q f h))
        where
          split : x ≢ y → (x < y → ⊥) → (y < x → ⊥) → ⊥
          split q f h = let p : ¬ (x < y) = f in let r : ¬ (y < x) = h in omega arith

  same_node : (i x j y : ℕ) → pair i x ≡ pair j y → x ≡ y → i ≡ j
  same_node i x j y e q = let z : x * kept_each_in given ≡ y * kept_each_in given = ap (λ n. n * kept_each_in given) q in omega arith

  module _ (fit : Fit given line) {w : List ℕ} {live top : ℕ} (words : Words given line w live top) (free : keeps_in given ≡ true) (few : live * 3 ≤ 2041) (low : top ≤ allowance_in given)
      (i x : ℕ) (li : i < nodes_in given) (lx : x ≤ length line) where
    abbrev place : ℕ
    place = place_in given i x

    in_room : place + 1 < length w
    in_room = let z = pair_in given line fit free i x li lx in let r = words.room in omega arith

    module _ (word list : ℕ) (ends : word ≤ length line + 2) (lists : list ≤ top) where
      abbrev new : List ℕ
      new = pair_put w place word list

      pub keep_same : Same given line w new live top
      keep_same =
          let z = pair_in given line fit free i x li lx in
          record {
            uses = λ j h. put_other w place word list j (omega arith) (omega arith);
            cells = λ j p q. put_other w place word list j (omega arith) (omega arith);
            turns = put_other w place word list 2041 (omega arith) (omega arith);
            waiting = λ j low p q. put_other w place word list j (omega arith) (omega arith);
            past = λ j h. put_other w place word list j (omega arith) (omega arith);
          }

      kept_list : (j y : ℕ) → j < nodes_in given → y ≤ length line → get_or new (place_in given j y + 1) 0 ≤ top
      kept_list j y lj ly = by_same (pair j y) (pair i x)
          (λ e. let f : get_or new (place_in given j y + 1) 0 ≡ list = ap (λ k. get_or new (base_in given + k * 2 + 1) 0) e ∙ put_second w place word list in_room in omega arith)
          (λ n. omega (arith, put_other w place word list (place_in given j y + 1) (omega arith) (omega arith), words.kept_lists free j y lj ly))

      kept_end : (j y : ℕ) → j < nodes_in given → y ≤ length line → get_or new (place_in given j y) 0 ≤ length line + 2
      kept_end j y lj ly = by_same (pair j y) (pair i x)
          (λ e. let r = in_room in let f : get_or new (place_in given j y) 0 ≡ word = ap (λ k. get_or new (base_in given + k * 2) 0) e ∙ put_first w place word list (omega arith) in omega arith)
          (λ n. omega (arith, put_other w place word list (place_in given j y) (omega arith) (omega arith), words.kept_ends free j y lj ly))

      pub keep_words : Words given line new live top
      keep_words = record {
        room = omega (arith, words.room, length-sets w place (word ∷ list ∷ []));
        arena = arena_same w new top keep_same.cells (length-sets w place (word ∷ list ∷ [])) words.arena;
        held_lists = λ j lt. omega (arith, keep_same.uses (j * 3 + 2) (omega arith), words.held_lists j lt);
        held_ends = λ j lt. omega (arith, keep_same.uses (j * 3 + 1) (omega arith), words.held_ends j lt);
        kept_lists = λ f j y lj ly. kept_list j y lj ly;
        kept_ends = λ f j y lj ly. kept_end j y lj ly;
      }

      module _ {made : ℕ} (q : Answer) (is : kept_as word (trees_at w list) ≡ some q) (l : List Note) (s : State) (h : Stands given line w live made l s) where
        here : kept_at new place ≡ some q
        here =
            let r = in_room in
            let a : get_or new place 0 ≡ word = put_first w place word list (omega arith) in
            let b : get_or new (place + 1) 0 ≡ list = put_second w place word list in_room in
            let t : trees_at new list ≡ trees_at w list = same_trees given line keep_same list lists in
            rw (a, b, t) is

        there : (j y : ℕ) → j < nodes_in given → y ≤ length line → pair j y ≢ pair i x → kept_at new (place_in given j y) ≡ kept_at w (place_in given j y)
        there j y lj ly n =
            let a : get_or new (place_in given j y) 0 ≡ get_or w (place_in given j y) 0 = put_other w place word list _ (omega arith) (omega arith) in
            let b : get_or new (place_in given j y + 1) 0 ≡ get_or w (place_in given j y + 1) 0 = put_other w place word list _ (omega arith) (omega arith) in
            let t : trees_at new (get_or w (place_in given j y + 1) 0) ≡ trees_at w (get_or w (place_in given j y + 1) 0) =
            same_trees given line keep_same _ (words.kept_lists free j y lj ly) in
            rw (a, b, t) refl

        differs : (j y : ℕ) → pair j y ≢ pair i x → (j ≢ i) ⊎ (y ≢ x)
        differs j y n = by_same j i (λ e. inr (λ f. n (ap (λ k. k * kept_each_in given + j) f ∙ ap (λ k. x * kept_each_in given + k) e))) (λ e. inl e)

        kept_now : (j y : ℕ) → j < nodes_in given → y ≤ length line → look (noted i x q s.kept) j y ≡ kept_at new (place_in given j y)
        kept_now j y lj ly = by_same (pair j y) (pair i x)
            (λ e.
            let each = fit.each free in
            let k : y ≡ x = same_position j y i x (omega arith) (omega arith) e in
            let f : j ≡ i = same_node j y i x e k in
            rw (f, k) (look_same s.kept i x q ∙ sym here))
            (λ n. look_other s.kept i x q j y (differs j y n) ∙ h.kept free j y lj ly ∙ sym (there j y lj ly n))

        pub keep_stands : Stands given line new live made l (keeping i x q s)
        keep_stands = record {
          lives = lives_same given line keep_same live l (omega arith) words.held_lists h.lives;
          left = h.left;
          furthest = h.furthest ∙ sym (put_other w place word list 2044 (omega arith) (omega arith));
          kept = λ f j y lj ly. kept_now j y lj ly;
        }

      -- The finished pair is kept.
      keep_came : {made : ℕ} (end : ℕ) (m : List Note → State → Run) → made ≤ allowance_in given → end ≤ FAILED → (end < STOPPED → end ≤ length line)
          → ((l : List Note) (s : State) → Stands given line w live made l s → Says given line new live l (result end list top made) (m l s)) → Came given line w new live made top (result end list top made) m
      keep_came end m le most e f = record {
        same = keep_same;
        words = keep_words;
        end_most = most;
        end_within = e;
        list_within = λ z. lists;
        top_up = omega arith;
        made_up = omega arith;
        made_within = le;
        says = f;
      }

  -- A run m came to an answer, and then the answer of a pair is kept.
  module _ (fit : Fit given line) (free : keeps_in given ≡ true) (i x : ℕ) (li : i < nodes_in given) (lx : x ≤ length line) {w w' : List ℕ} {live made top end list top' made' : ℕ} {m : List Note → State → Run}
      (c : Came given line w w' live made top (result end list top' made') m) (few : live * 3 ≤ 2041) (low : top' ≤ allowance_in given) where
    abbrev keeping_it : List Note → State → Run
    keeping_it l s = after (m l s) (keep i x)

    keep_fail : end ≡ FAILED → Came given line w (pair_put w' (place_in given i x) 1 0) live made top (result FAILED 0 top' made') keeping_it
    unfolding keep kept_as
    keep_fail e =
        then_fail given line fit.short (λ l. keep i x) c e
        (keep_came fit c.words free few low i x li lx 1 0 (omega arith) (omega arith) FAILED _ c.made_within (omega arith) (λ z. absurd (omega arith))
        (λ l s h. record { end = refl; stands = keep_stands fit c.words free few low i x li lx 1 0 (omega arith) (omega arith) fail refl l s h }))

    keep_match : end < STOPPED → Came given line w (pair_put w' (place_in given i x) (end + 2) list) live made top (result end list top' made') keeping_it
    unfolding keep kept_as
    keep_match e =
        let inside = c.end_within e in
        let below = c.list_within e in
        let two : end + 2 ≡ suc (suc end) = omega arith in
        then_match given line fit.short (λ l. keep i x) c e
        (keep_came fit c.words free few low i x li lx (end + 2) list (omega arith) below end _ c.made_within c.end_most (λ z. inside)
        (λ l s h. (
          same_trees given line (keep_same fit c.words free few low i x li lx (end + 2) list (omega arith) below) list below,
          record { end = refl; inside = inside; stands = keep_stands fit c.words free few low i x li lx (end + 2) list (omega arith) below (ok end (trees_at w' list)) (rw two refl) l s h },
        )))

    module _ {w'' : List ℕ} (kept : Kept (lent [] given.numbers) w' w'' i x end list) where
      by_end : (end ≡ STOPPED) ⊎ ((end ≡ FAILED) ⊎ (end < STOPPED)) → Came given line w w'' live made top (result end list top' made') keeping_it
      by_end (inl e) = rw (kept.stopped e) (stopped given line fit.short (λ l. keep i x) c e)
      by_end (inr (inl e)) = came_failed given line fit.short 0 end list e (rw (kept.failed e) (keep_fail e))
      by_end (inr (inr e)) = rw (kept.matched e) (keep_match e)

      which : end ≤ FAILED → (end ≡ STOPPED) ⊎ ((end ≡ FAILED) ⊎ (end < STOPPED))
      which h = by_same end STOPPED (λ e. inl e) (λ n. by_same end FAILED (λ e. inr (inl e)) (λ k. inr (inr (omega arith))))

      pub kept_came : Came given line w w'' live made top (result end list top' made') keeping_it
      kept_came = by_end (which c.end_most)

  -- v visits while the visit of node i at x is open, u in its place.
  module _ (fit : Fit given line) (v u : List Note → Visit) (i x : ℕ) (li : i < nodes_in given) (lx : x ≤ length line) where
    abbrev working : Way → List Note → State → Run
    working way l s = apply line (v l) (u l) (use_rule (grammar_in given) line way v l) i x s (node (grammar_in given) i)

    abbrev visiting : List Note → State → Run
    visiting l s = visited (grammar_in given) line (way_in given) v u l i x s

    -- Nothing is kept.
    pub visited_plain : {w w' : List ℕ} {live made top : ℕ} {r : Visited} → keeps_in given ≡ false → Came given line w w' live made top r (working (way_in given)) → Came given line w w' live made top r visiting
    unfolding visited
    visited_plain e c = came_as given line fit.short visiting c (λ l s. ap (λ b. working (way_of b (grows_in given)) l s) e ∙ ap (λ b. visited (grammar_in given) line (way_of b (grows_in given)) v u l i x s) (sym e))

    recalled : {w : List ℕ} {live made : ℕ} (free : keeps_in given ≡ true) (l : List Note) (s : State) (q : Option Answer) → Stands given line w live made l s → kept_at w (place_in given i x) ≡ q
        → recall (grammar_in given) line v u l i x s q ≡ visiting l s
    unfolding visited
    recalled free l s q h e =
        ap (recall (grammar_in given) line v u l i x s) (sym e ∙ sym (h.kept free i x li lx)) ∙ ap (λ b. visited (grammar_in given) line (way_of b (grows_in given)) v u l i x s) (sym free)

    module _ {w : List ℕ} {live made top : ℕ} (words : Words given line w live top) (free : keeps_in given ≡ true) (le : made ≤ allowance_in given) where
      -- A failure is kept, or a match is.
      pub visited_fail : get_or w (place_in given i x) 0 ≡ 1 → Came given line w w live made top (result FAILED 0 top made) visiting
      unfolding recall kept_as
      visited_fail e =
          still given line fit.short FAILED 0 visiting words le (omega arith) (λ z. absurd (omega arith)) (λ z. omega arith)
          (λ l s h. subst (Says given line w live l (result FAILED 0 top made)) (recalled free l s (some fail) h (rw e refl)) (record { end = refl; stands = h }))

      pub visited_match : (e : ℕ) → get_or w (place_in given i x) 0 ≡ suc (suc e) → Came given line w w live made top (result e (get_or w (place_in given i x + 1) 0) top made) visiting
      unfolding recall kept_as
      visited_match e q =
          let le₁ : get_or w (place_in given i x + 1) 0 ≤ top = words.kept_lists free i x li lx in
          let le₂ : get_or w (place_in given i x) 0 ≤ length line + 2 = words.kept_ends free i x li lx in
          let inside : e ≤ length line = omega arith in
          let sh = fit.short in
          still given line fit.short e (get_or w (place_in given i x + 1) 0) visiting words le (omega arith) (λ z. inside) (λ z. le₁)
          (λ l s h. subst (Says given line w live l (result e (get_or w (place_in given i x + 1) 0) top made)) (recalled free l s (some (ok e (trees_at w (get_or w (place_in given i x + 1) 0)))) h (rw q refl))
          (refl, record { end = refl; inside = inside; stands = h }))

      -- The node was applied, and its answer kept.
      pub applied_kept : get_or w (place_in given i x) 0 ≡ 0 → {w' : List ℕ} {end list top' made' : ℕ} → Came given line w w' live made top (result end list top' made') (working (way_in given))
          → live * 3 ≤ 2041 → top' ≤ allowance_in given → {w'' : List ℕ} → Kept (lent [] given.numbers) w' w'' i x end list → Came given line w w'' live made top (result end list top' made') visiting
      unfolding recall kept_as
      applied_kept none_kept c few low k =
          came_when given line fit.short visiting (kept_came fit free i x li lx c few low k)
          (λ l s h. ap (λ b. after (working (way_of b (grows_in given)) l s) (keep i x)) free ∙ recalled free l s none h (rw none_kept refl))
