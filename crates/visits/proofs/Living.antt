-- Live uses: a pair that is live gives what is held; a use that becomes live is one entry more.
use mathlib.Core.Path.{◌≡◌, refl, sym, subst, ap, ◌∙◌}
use mathlib.Core.Logic.{◌≢◌, inl, inr}
use mathlib.Core.List.{List, [], ◌∷◌}
use mathlib.Core.Option.{none, some}
use mathlib.Core.Bool.{true}
use Prim.Native.Nat.{ℕ, ◌+◌, ◌*◌, ◌<◌, ◌≤◌}
use native.Mathlib.Nat.{add-zero}
use native.Mathlib.Omega.{arith}
use lib.ListN.{length, get_or}
use lib.Seq.{sets, length-sets}
use Rattle.meaning.specs.Grammar.{Answer, fail, ok, wrap, root_of, Note, noted, look}
use Rattle.meaning.specs.Reading.{State, Run, effort, deep, done, Visit, use_live, use_by}
use Rattle.meaning.proofs.Notes.{look_same, look_other}
use Rattle.meaning.proofs.Answers.{found}
use Rattle.meaning.proofs.Sets.{sets_apart, sets_at}
use Rattle.cells.specs.Cells.{trees_at}
use Rattle.cells.proofs.Frame.{arena_same}
use Rattle.visits.specs.Given.{Given, base_in, allowance_in, grammar_in, Fit}
use Rattle.visits.specs.Words.{key_of, HeldAs, Entry, Lives, place_in, use_at, InOrder, Stands, Words, Same}
use Rattle.visits.specs.Says.{Visited, FAILED, Says, Came}
use Rattle.visits.proofs.Frame.{same_then, same_trees, stands_same}
use Rattle.visits.proofs.Steps.{still}
use Rattle.visits.proofs.Nodes.{result}
use Rattle.visits.proofs.Keeping.{by_same}

module _ (w : List ℕ) (a x : ℕ) where
  -- Another pair than the newest.
  past : (n : Note) (l : List Note) → (a ≡ n.number → x ≡ n.position → ⊥) → look (n ∷ l) a x ≡ look l a x
  past n l f = look_other l n.number n.position n.answer a x (by_same a n.number (λ e. inr (f e)) inl)

  pub look_none : (l : List Note) (live : ℕ) → Lives w live l → ((i : ℕ) → i < live → get_or w (i * 3) 0 ≢ key_of a x) → look l a x ≡ none
  unfolding look
  look_none [] live v f = refl
  look_none (n ∷ l) live v f =
      let e : live ≡ v.0 + 1 = v.1 in
      past n l (λ p q. f v.0 (omega arith) (let k = v.2.key in omega arith))
      ∙ look_none l v.0 v.4 (λ i lt. f i (omega arith))

  -- What a live pair holds.
  pub record Holds (i : ℕ) (l : List Note) : Type 0 where
    pub answer : Answer
    pub found : look l a x ≡ some answer
    pub held : HeldAs (get_or w (i * 3 + 1) 0) (get_or w (i * 3 + 2) 0) (trees_at w (get_or w (i * 3 + 2) 0)) a x answer

  newest : (n : Note) (l : List Note) (i : ℕ) → a ≡ n.number → x ≡ n.position → Entry w i n → Holds i (n ∷ l)
  newest n l i p q e = record {
    answer = n.answer;
    found = rw (p, q) (look_same l n.number n.position n.answer);
    held = rw (p, q) e.held;
  }

  pub look_some : (l : List Note) (live i : ℕ) → Lives w live l → a < 64 → i < live → get_or w (i * 3) 0 ≡ key_of a x → Holds i l
  look_some [] live i v small lt e = let z : live ≡ 0 = v in absurd (omega arith)
  look_some (n ∷ l) live i v small lt e =
      let c : live ≡ v.0 + 1 = v.1 in
      by_same i v.0
      (λ q.
      let k : get_or w (i * 3) 0 ≡ key_of n.number n.position = ap (λ j. get_or w (j * 3) 0) q ∙ v.2.key in
      let b = v.2.small in
      newest n l i (omega arith) (omega arith) (rw q v.2))
      (λ q.
      let h = look_some l v.0 i v.4 small (omega arith) e in
      record {
        answer = h.answer;
        found = past n l (λ p r. found (rw (← p, ← r) at v.3) h.found) ∙ h.found;
        held = h.held;
      })

-- Live uses that stand in order stay so, and at a later position.
pub order_same : (given : Given) (line : List ℕ) {old new : List ℕ} {live top x y : ℕ} → Same given line old new live top → x ≤ y → InOrder old live x → InOrder new live y
order_same given line s le h = record {
  rising = λ i j a b. omega (arith, s.uses (i * 3) (omega arith), s.uses (j * 3) (omega arith), h.rising i j a b);
  newest = λ i a. omega (arith, s.uses (i * 3) (omega arith), h.newest i a);
  ahead = λ i a n. omega (arith, s.uses (i * 3) (omega arith), s.uses (i * 3 + 1) (omega arith), h.ahead i a (λ z. n (s.uses (i * 3 + 2) (omega arith) ∙ z)));
}

-- Three words written one after the other.
abbrev pub use_put : List ℕ → ℕ → ℕ → ℕ → ℕ → List ℕ
use_put w p a b c = sets w p (a ∷ b ∷ c ∷ [])

module _ (w : List ℕ) (p a b c : ℕ) where
  pub use_other : (i : ℕ) → i ≢ p → i ≢ p + 1 → i ≢ p + 2 → get_or (use_put w p a b c) i 0 ≡ get_or w i 0
  use_other i h k m = sets_apart (a ∷ b ∷ c ∷ []) w p i (λ l. omega arith)

  module _ (room : p + 2 < length w) where
    pub use_first : get_or (use_put w p a b c) p 0 ≡ a
    use_first = rw (add-zero p) at (sets_at (a ∷ b ∷ c ∷ []) w p 0 (omega arith) (omega arith))

    pub use_second : get_or (use_put w p a b c) (p + 1) 0 ≡ b
    use_second = sets_at (a ∷ b ∷ c ∷ []) w p 1 (omega arith) (omega arith)

    pub use_third : get_or (use_put w p a b c) (p + 2) 0 ≡ c
    use_third = sets_at (a ∷ b ∷ c ∷ []) w p 2 (omega arith) (omega arith)

module _ (given : Given) (line : List ℕ) (fit : Fit given line) where
  abbrev pub uses : (List Note → Visit) → ℕ → ℕ → List Note → State → Run
  uses v a x l s = use_by (grammar_in given) line true v l a x s

  -- A visit of a live pair.
  module _ {w : List ℕ} {live made top : ℕ} (v : List Note → Visit) (a x i : ℕ) (words : Words given line w live top) (le : made ≤ allowance_in given) (small : a < 64) (lt : i < live)
      (key : get_or w (i * 3) 0 ≡ key_of a x) where
    gives : (l : List Note) (s : State) (h : Holds w a x i l) → done (wrap a x h.answer) s ≡ uses v a x l s
    unfolding use_by use_live
    gives l s h = ap (use_live (λ r. v (noted a x r l) (root_of (grammar_in given) a) x) a x s) (sym h.found)

    says_fail : (l : List Note) (s : State) → Stands given line w live made l s → get_or w (i * 3 + 2) 0 ≡ 0 → (q : Answer)
        → HeldAs (get_or w (i * 3 + 1) 0) (get_or w (i * 3 + 2) 0) (trees_at w (get_or w (i * 3 + 2) 0)) a x q → Says given line w live l (result FAILED 0 top made) (done (wrap a x q) s)
    unfolding wrap
    says_fail l s st z fail h = record { end = refl; stands = st }
    says_fail l s st z (ok e us) h = absurd (h.0 z)

    says_match : (l : List Note) (s : State) → Stands given line w live made l s → get_or w (i * 3 + 2) 0 ≢ 0 → (q : Answer)
        → HeldAs (get_or w (i * 3 + 1) 0) (get_or w (i * 3 + 2) 0) (trees_at w (get_or w (i * 3 + 2) 0)) a x q
        → Says given line w live l (result (get_or w (i * 3 + 1) 0) (get_or w (i * 3 + 2) 0) top made) (done (wrap a x q) s)
    unfolding wrap
    says_match l s st n fail h = absurd (n h)
    says_match l s st n (ok e us) h =
        let q : get_or w (i * 3 + 1) 0 ≡ e = h.1 in
        let b = words.held_ends i lt in
        (h.2, record { end = q; inside = omega arith; stands = st })

    pub held_fail : get_or w (i * 3 + 2) 0 ≡ 0 → Came given line w w live made top (result FAILED 0 top made) (uses v a x)
    held_fail z =
        still given line fit.short FAILED 0 (uses v a x) words le (omega arith) (λ z. absurd (omega arith)) (λ z. omega arith)
        (λ l s st. let h = look_some w a x l live i st.lives small lt key in subst (Says given line w live l (result FAILED 0 top made)) (gives l s h) (says_fail l s st z h.answer h.held))

    pub held_match : get_or w (i * 3 + 2) 0 ≢ 0 → Came given line w w live made top (result (get_or w (i * 3 + 1) 0) (get_or w (i * 3 + 2) 0) top made) (uses v a x)
    held_match n =
        let sh = fit.short in
        let he = words.held_ends i lt in
        still given line fit.short (get_or w (i * 3 + 1) 0) (get_or w (i * 3 + 2) 0) (uses v a x) words le (omega arith) (λ z. words.held_ends i lt) (λ z. words.held_lists i lt)
        (λ l s st. let h = look_some w a x l live i st.lives small lt key in
        subst (Says given line w live l (result (get_or w (i * 3 + 1) 0) (get_or w (i * 3 + 2) 0) top made)) (gives l s h) (says_match l s st n h.answer h.held))

  -- A use of rule a at x becomes live, or holds another answer, as entry `live`.
  module _ {w : List ℕ} {live top : ℕ} (a x end list : ℕ) (words : Words given line w live top) (few : live ≤ 512) (ends : end ≤ length line) (lists : list ≤ top) where
    abbrev entered : List ℕ
    entered = use_put w (live * 3) (key_of a x) end list

    wide : live * 3 + 2 < length w
    wide = let r = words.room in omega arith

    long : length entered ≡ length w
    long = length-sets w (live * 3) (key_of a x ∷ end ∷ list ∷ [])

    pub live_same : Same given line w entered live top
    live_same = record {
      uses = λ i h. use_other w (live * 3) (key_of a x) end list i (omega arith) (omega arith) (omega arith);
      cells = λ i p q. use_other w (live * 3) (key_of a x) end list i (omega arith) (omega arith) (omega arith);
      turns = use_other w (live * 3) (key_of a x) end list 2041 (omega arith) (omega arith) (omega arith);
      waiting = λ i low p q. use_other w (live * 3) (key_of a x) end list i (omega arith) (omega arith) (omega arith);
      past = λ i h. use_other w (live * 3) (key_of a x) end list i (omega arith) (omega arith) (omega arith);
    }

    live_kept : (i : ℕ) → base_in given ≤ i → get_or entered i 0 ≡ get_or w i 0
    live_kept i h = use_other w (live * 3) (key_of a x) end list i (omega arith) (omega arith) (omega arith)

    lists_now : (i : ℕ) → i < live + 1 → get_or entered (i * 3 + 2) 0 ≤ top
    lists_now i lt = by_same i live
        (λ e. let f : get_or entered (i * 3 + 2) 0 ≡ list = ap (λ j. get_or entered (j * 3 + 2) 0) e ∙ use_third w (live * 3) (key_of a x) end list wide in omega arith)
        (λ n. omega (arith, live_same.uses (i * 3 + 2) (omega arith), words.held_lists i (omega arith)))

    ends_now : (i : ℕ) → i < live + 1 → get_or entered (i * 3 + 1) 0 ≤ length line
    ends_now i lt = by_same i live
        (λ e. let f : get_or entered (i * 3 + 1) 0 ≡ end = ap (λ j. get_or entered (j * 3 + 1) 0) e ∙ use_second w (live * 3) (key_of a x) end list wide in omega arith)
        (λ n. omega (arith, live_same.uses (i * 3 + 1) (omega arith), words.held_ends i (omega arith)))

    -- The live uses stay in order.
    pub live_order : a < 64 → (list ≢ 0 → x ≤ end) → InOrder w live x → InOrder entered (live + 1) x
    live_order small up h =
        let old : InOrder entered live x = order_same given line live_same (omega arith) h in
        let last : use_at entered live ≡ x = omega (arith, use_first w (live * 3) (key_of a x) end list wide) in
        let ends : get_or entered (live * 3 + 1) 0 ≡ end = use_second w (live * 3) (key_of a x) end list wide in
        let lists : get_or entered (live * 3 + 2) 0 ≡ list = use_third w (live * 3) (key_of a x) end list wide in
        record {
          rising = λ i j lt le. by_same j live (λ e. rw (e, last) (old.newest i (omega arith))) (λ n. old.rising i j lt (omega arith));
          newest = λ i lt. by_same i live (λ e. rw (e, last) (omega arith)) (λ n. old.newest i (omega arith));
          ahead = λ i lt. by_same i live (λ e. rw (e, last, ends, lists) up) (λ n. old.ahead i (omega arith));
        }

    pub live_words : Words given line entered (live + 1) top
    live_words = record {
      room = omega (arith, words.room, long);
      arena = arena_same w entered top live_same.cells long words.arena;
      held_lists = lists_now;
      held_ends = ends_now;
      kept_lists = λ f j y lj ly. omega (arith, live_kept (place_in given j y + 1) (omega arith), words.kept_lists f j y lj ly);
      kept_ends = λ f j y lj ly. omega (arith, live_kept (place_in given j y) (omega arith), words.kept_ends f j y lj ly);
    }

    module _ (small : a < 64) (q : Answer) (held : HeldAs end list (trees_at w list) a x q) {made : ℕ} {l : List Note} {s : State} (fresh : look l a x ≡ none) (h : Stands given line w live made l s) where
      entry : Entry entered live (record { number = a; position = x; answer = q })
      entry =
          let b : get_or entered (live * 3 + 1) 0 ≡ end = use_second w (live * 3) (key_of a x) end list wide in
          let c : get_or entered (live * 3 + 2) 0 ≡ list = use_third w (live * 3) (key_of a x) end list wide in
          let t : trees_at entered list ≡ trees_at w list = same_trees given line live_same list lists in
          record { key = use_first w (live * 3) (key_of a x) end list wide; small = small; held = rw (b, c, t) held }

      pub live_stands : Stands given line entered (live + 1) made (noted a x q l) s
      live_stands =
          let k = stands_same given line live_same live_kept words (use_other w (live * 3) (key_of a x) end list 2044 (omega arith) (omega arith) (omega arith)) h in
          record { lives = (live, refl, entry, fresh, k.lives); left = h.left; furthest = k.furthest; kept = k.kept }

  -- The use is no longer live.
  drop_stands : {w : List ℕ} {live made : ℕ} {n : Note} {l : List Note} {s : State} → Stands given line w (live + 1) made (n ∷ l) s → Stands given line w live made l s
  drop_stands {w} {live} {made} {n} {l} h =
      let e : live + 1 ≡ h.lives.0 + 1 = h.lives.1 in
      let f : h.lives.0 ≡ live = omega arith in
      record { lives = subst (λ k. Lives w k l) f h.lives.4; left = h.left; furthest = h.furthest; kept = h.kept }

  drop_says : (w : List ℕ) (live : ℕ) (n : Note) (l : List Note) (r : Visited) (m : Run) → Says given line w (live + 1) (n ∷ l) r m → Says given line w live l r m
  drop_says w live n l r (effort p s) h = h
  drop_says w live n l r (deep p s) h = h
  drop_says w live n l r (done fail s) h = record { end = h.end; stands = drop_stands h.stands }
  drop_says w live n l r (done (ok e ts) s) h = (h.0, record { end = h.1.end; inside = h.1.inside; stands = drop_stands h.1.stands })

  drop_words : {w : List ℕ} {live top : ℕ} → Words given line w (live + 1) top → Words given line w live top
  drop_words h = record {
    room = h.room;
    arena = h.arena;
    held_lists = λ i lt. h.held_lists i (omega arith);
    held_ends = λ i lt. h.held_ends i (omega arith);
    kept_lists = h.kept_lists;
    kept_ends = h.kept_ends;
  }

  -- The root was visited while an answer q was held for the pair, which isn't live otherwise.
  pub while_held : {w w' : List ℕ} {live made top : ℕ} {r : Visited} (a x end list : ℕ) (words : Words given line w live top) (few : live ≤ 512) (ends : end ≤ length line) (lists : list ≤ top) → a < 64
      → (q : Answer) → HeldAs end list (trees_at w list) a x q → ((i : ℕ) → i < live → get_or w (i * 3) 0 ≢ key_of a x) → (m : List Note → State → Run)
      → Came given line (use_put w (live * 3) (key_of a x) end list) w' (live + 1) made top r m → Came given line w w' live made top r (λ l s. m (noted a x q l) s)
  while_held {w} {w'} {live} {made} {top} {r} a x end list words few ends lists small q held fresh m c = record {
    same = same_then given line (live_same a x end list words few ends lists) c.same (omega arith) (omega arith);
    words = drop_words c.words;
    end_most = c.end_most;
    end_within = c.end_within;
    list_within = c.list_within;
    top_up = c.top_up;
    made_up = c.made_up;
    made_within = c.made_within;
    says = λ l s h. drop_says w' live (record { number = a; position = x; answer = q }) l r (m (noted a x q l) s)
        (c.says (noted a x q l) s (live_stands a x end list words few ends lists small q held (look_none w a x l live h.lives fresh) h));
  }

  pub while_live : {w w₁ w' : List ℕ} {live made top : ℕ} {r : Visited} (a x end list : ℕ) (words : Words given line w live top) (few : live ≤ 512) (ends : end ≤ length line) (lists : list ≤ top) → a < 64
      → (q : Answer) → HeldAs end list (trees_at w list) a x q → ((i : ℕ) → i < live → get_or w (i * 3) 0 ≢ key_of a x) → (m : List Note → State → Run)
      → w₁ ≡ use_put w (live * 3) (key_of a x) end list → Came given line w₁ w' (live + 1) made top r m → Came given line w w' live made top r (λ l s. m (noted a x q l) s)
  while_live a x end list words few ends lists small q held fresh m e c = while_held a x end list words few ends lists small q held fresh m (rw e at c)

-- A pair that isn't live stays so.
pub fresh_same : (given : Given) (line : List ℕ) {old new : List ℕ} {live top key : ℕ} → Same given line old new live top → ((i : ℕ) → i < live → get_or old (i * 3) 0 ≢ key) → (i : ℕ) → i < live → get_or new (i * 3) 0 ≢ key
fresh_same given line s f i lt e = f i lt (sym (s.uses (i * 3) (omega arith)) ∙ e)
