-- What the application of each kind of node comes to, return by return.
use mathlib.Core.Path.{◌≡◌, refl, sym, ap, ◌∙◌}
use mathlib.Core.Logic.{◌≢◌}
use mathlib.Core.Bool.{Bool, true, false}
use mathlib.Core.List.{List}
use Prim.Native.Nat.{ℕ, ◌+◌, ◌*◌, ◌<◌, ◌≤◌}
use native.Mathlib.Omega.{arith}
use lib.Dec.{eqb}
use lib.ListN.{length}
use borrow.Author.Tests.{eq-eqb, ne_eqb, eqb-true, eqb-false}
use Rattle.meaning.specs.Grammar.{Trees, no_trees, tree, ◌⋈◌, Answer, fail, ok, wrap, Note}
use Rattle.meaning.specs.Reading.{State, Run, done, after, Visit, joined, second, otherwise, denied, repeat_from, repeated, wrapped}
use Rattle.cells.specs.Cells.{trees_at}
use Rattle.cells.proofs.Frame.{trees_none}
use Rattle.visits.specs.Given.{Given, allowance_in, Fit}
use Rattle.visits.specs.Words.{turns_in, Added, Words}
use Rattle.visits.specs.Says.{Visited, FAILED, STOPPED, Came}
use Rattle.visits.proofs.Frame.{same_trees, made_same, made_words, made_stands}
use Rattle.visits.proofs.Steps.{then_match, then_fail, stopped, unmatched, unfailed, came_as, still, came_made}

-- The result of a step as it is written.
abbrev pub result : (end list top made : ℕ) → Visited
result end list top made = record { end = end; list = list; top = top; made = made }

-- What is done after two runs is done after the first, then the second.
pub after_twice : (m : Run) (k j : Answer → State → Run) → after (after m k) j ≡ after m (λ q t. after (k q t) j)
unfolding after
after_twice (Run.effort p s) k j = refl
after_twice (Run.deep p s) k j = refl
after_twice (Run.done r s) k j = refl

module _ (given : Given) (line : List ℕ) (fit : Fit given line) where
  -- A match of nothing, and a failure, with no word changed.
  module _ {w : List ℕ} {live made top : ℕ} (words : Words given line w live top) (le : made ≤ allowance_in given) where
    pub match_still : (e : ℕ) → e ≤ length line → Came given line w w live made top (result e 0 top made) (λ l s. done (ok e no_trees) s)
    match_still e inside = let s = fit.short in still given line fit.short e 0 _ words le (omega arith) (λ z. inside) (λ z. omega arith) (λ l s h. (trees_none w, record { end = refl; inside = inside; stands = h }))

    pub fail_still : Came given line w w live made top (result FAILED 0 top made) (λ l s. done fail s)
    fail_still = still given line fit.short FAILED 0 _ words le (omega arith) (λ z. absurd (omega arith)) (λ z. omega arith) (λ l s h. record { end = refl; stands = h })

  -- A list was made; it is joined to the trees of a match, and a failure stays one.
  module _ {w w₁ : List ℕ} {live top list top' : ℕ} {us : Trees} (few : live * 3 ≤ 2041) (low : top + turns_in w < allowance_in given) (d : Added w w₁ top list top' us) where
    fail_made : {made : ℕ} → Words given line w live top → made ≤ allowance_in given → Came given line w w₁ live made top (result FAILED list top' made) (λ l s. done fail s)
    fail_made h le = record {
      same = made_same given line fit few low d;
      words = made_words given line fit few low d h;
      end_most = omega arith;
      end_within = λ z. absurd (omega arith);
      list_within = λ z. d.within;
      top_up = d.rise;
      made_up = omega arith;
      made_within = le;
      says = λ l s g. record { end = refl; stands = made_stands given line fit few low d h g };
    }

  pub came_joined : {w w₁ w₂ : List ℕ} {live made top end list made₁ top₁ list₂ top₂ : ℕ} {m : List Note → State → Run} → live * 3 ≤ 2041 → top₁ + turns_in w₁ < allowance_in given → (ts : Trees)
      → Came given line w w₁ live made top (result end list top₁ made₁) m → end ≢ STOPPED → Added w₁ w₂ top₁ list₂ top₂ (ts ⋈ trees_at w₁ list)
      → Came given line w w₂ live made top (result end list₂ top₂ made₁) (λ l s. after (m l s) (joined ts))
  unfolding joined
  came_joined {w} {w₁} {w₂} {live} {made} {top} {end} {list} {made₁} {top₁} {list₂} {top₂} {m} few low ts c on d = by (eqb end FAILED) refl
    where
      by : (t : Bool) → eqb end FAILED ≡ t → Came given line w w₂ live made top (result end list₂ top₂ made₁) (λ l s. after (m l s) (joined ts))
      by true q = let e : end ≡ FAILED = eqb-true end FAILED q in rw e (then_fail given line fit.short (λ l. joined ts) c e (fail_made few low d c.words c.made_within))
      by false q =
          let n : end ≢ FAILED = eqb-false end FAILED q in
          let most = c.end_most in
          let lt : end < STOPPED = omega arith in
          then_match given line fit.short (λ l. joined ts) c lt (came_made given line fit.short end fit few low d c.words c.made_within (c.end_within lt))

  module _ {w₀ w₁ : List ℕ} {live made top : ℕ} {a : Visited} (v : List Note → Visit) (x pos : ℕ) (A : Came given line w₀ w₁ live made top a (λ l s. v l x pos s)) where
    -- Sequence.
    module _ (y : ℕ) where
      abbrev sequence : List Note → State → Run
      sequence l s = after (v l x pos s) (second (v l) y)

      pub seq_first : STOPPED ≤ a.end → Came given line w₀ w₁ live made top a sequence
      unfolding second
      seq_first h = unmatched given line fit.short (λ l. second (v l) y) A h (λ l s. refl)

      module _ (h : a.end < STOPPED) {w₂ : List ℕ} {b : Visited} (B : Came given line w₁ w₂ live a.made a.top b (λ l s. v l y a.end s)) where
        pub seq_second : STOPPED ≤ b.end → Came given line w₀ w₂ live made top b sequence
        unfolding second joined
        seq_second g = then_match given line fit.short (λ l. second (v l) y) A h (unmatched given line fit.short (λ l. joined (trees_at w₁ a.list)) B g (λ l s. refl))

        pub seq_join : b.end < STOPPED → live * 3 ≤ 2041 → b.top + turns_in w₂ < allowance_in given → {w₃ : List ℕ} {list top' : ℕ}
            → Added w₂ w₃ b.top list top' (trees_at w₂ a.list ⋈ trees_at w₂ b.list) → Came given line w₀ w₃ live made top (result b.end list top' b.made) sequence
        unfolding second joined
        seq_join g few low {w₃} {list} {top'} m =
            let e : trees_at w₂ a.list ≡ trees_at w₁ a.list = same_trees given line B.same a.list (A.list_within h) in
            let n : Added w₂ w₃ b.top list top' (trees_at w₁ a.list ⋈ trees_at w₂ b.list) = rw e at m in
            then_match given line fit.short (λ l. second (v l) y) A h
            (then_match given line fit.short (λ l. joined (trees_at w₁ a.list)) B g
            (came_made given line fit.short b.end fit few low n B.words B.made_within (B.end_within g)))

    -- Choice.
    module _ (y : ℕ) where
      abbrev choosing : List Note → State → Run
      choosing l s = after (v l x pos s) (otherwise (v l) y pos)

      pub choice_first : a.end ≢ FAILED → Came given line w₀ w₁ live made top a choosing
      unfolding otherwise
      choice_first h = unfailed given line fit.short (λ l. otherwise (v l) y pos) A h (λ l e ts s. refl)

      pub choice_second : a.end ≡ FAILED → {w₂ : List ℕ} {b : Visited} → Came given line w₁ w₂ live a.made a.top b (λ l s. v l y pos s) → Came given line w₀ w₂ live made top b choosing
      unfolding otherwise
      choice_second h B = then_fail given line fit.short (λ l. otherwise (v l) y pos) A h B

    -- Not.
    abbrev denying : List Note → State → Run
    denying l s = after (v l x pos s) (denied pos)

    pub not_stop : a.end ≡ STOPPED → Came given line w₀ w₁ live made top a denying
    not_stop h = stopped given line fit.short (λ l. denied pos) A h

    pub not_match : a.end ≡ FAILED → pos ≤ length line → Came given line w₀ w₁ live made top (result pos 0 a.top a.made) denying
    unfolding denied
    not_match h inside = then_fail given line fit.short (λ l. denied pos) A h (match_still A.words A.made_within pos inside)

    pub not_fail : a.end < STOPPED → Came given line w₀ w₁ live made top (result FAILED 0 a.top a.made) denying
    unfolding denied
    not_fail h = then_match given line fit.short (λ l. denied pos) A h (fail_still A.words A.made_within)

    -- Repetition of node i; u makes its own next visit.
    module _ (u : List Note → Visit) (i : ℕ) where
      abbrev repeating : List Note → State → Run
      repeating l s = after (v l x pos s) (repeated (u l) i pos)

      pub rep_stop : a.end ≡ STOPPED → Came given line w₀ w₁ live made top a repeating
      rep_stop h = stopped given line fit.short (λ l. repeated (u l) i pos) A h

      pub rep_none : a.end ≡ FAILED → pos ≤ length line → Came given line w₀ w₁ live made top (result pos 0 a.top a.made) repeating
      unfolding repeated
      rep_none h inside = then_fail given line fit.short (λ l. repeated (u l) i pos) A h (match_still A.words A.made_within pos inside)

      again_at : (e : ℕ) (t : Bool) → eqb pos e ≡ t → (l : List Note) (ts : Trees) (s : State) → repeat_from (u l) i pos e ts s t ≡ repeated (u l) i pos (ok e ts) s
      unfolding repeated
      again_at e t q l ts s = ap (repeat_from (u l) i pos e ts s) (sym q)

      pub rep_empty : a.end ≡ pos → pos ≤ length line → Came given line w₀ w₁ live made top (result pos 0 a.top a.made) repeating
      unfolding repeat_from
      rep_empty h inside =
          let s = fit.short in
          then_match given line fit.short (λ l. repeated (u l) i pos) A (omega arith)
          (came_as given line fit.short _ (match_still A.words A.made_within pos inside) (λ l s. again_at a.end true (eq-eqb pos a.end (sym h)) l (trees_at w₁ a.list) s))

      -- Another turn.
      module _ (h : a.end < STOPPED) (ne : a.end ≢ pos) where
        again : (l : List Note) (s : State) → after (u l i a.end s) (joined (trees_at w₁ a.list)) ≡ repeated (u l) i pos (ok a.end (trees_at w₁ a.list)) s
        unfolding repeat_from
        again l s = again_at a.end false (ne_eqb pos a.end (λ e. ne (sym e))) l (trees_at w₁ a.list) s

        pub rep_on : {w₂ : List ℕ} {r : Visited} → Came given line w₁ w₂ live a.made a.top r (λ l s. after (u l i a.end s) (joined (trees_at w₁ a.list))) → Came given line w₀ w₂ live made top r repeating
        rep_on C = then_match given line fit.short (λ l. repeated (u l) i pos) A h (came_as given line fit.short _ C again)

        -- The same, with what is done after it.
        pub rep_turn : {w₂ : List ℕ} {r : Visited} (k : Answer → State → Run) → Came given line w₁ w₂ live a.made a.top r (λ l s. after (u l i a.end s) (λ q t. after (joined (trees_at w₁ a.list) q t) k))
            → Came given line w₀ w₂ live made top r (λ l s. after (repeating l s) k)
        rep_turn k C =
            came_as given line fit.short _
            (then_match given line fit.short (λ l q t. after (repeated (u l) i pos q t) k) A h
            (came_as given line fit.short _ C (λ l s. sym (after_twice (u l i a.end s) (joined (trees_at w₁ a.list)) k) ∙ ap (λ m. after m k) (again l s))))
            (λ l s. sym (after_twice (v l x pos s) (repeated (u l) i pos) k))

    -- A use of a rule that doesn't become live; x is its root.
    module _ (rule : ℕ) where
      abbrev use_free : List Note → State → Run
      use_free l s = after (v l x pos s) (wrapped rule pos)

      pub use_unmatched : STOPPED ≤ a.end → Came given line w₀ w₁ live made top a use_free
      unfolding wrapped wrap
      use_unmatched h = unmatched given line fit.short (λ l. wrapped rule pos) A h (λ l s. refl)

      pub use_tree : a.end < STOPPED → live * 3 ≤ 2041 → a.top + turns_in w₁ < allowance_in given → {w₂ : List ℕ} {list top' : ℕ}
          → Added w₁ w₂ a.top list top' (tree rule pos a.end (trees_at w₁ a.list) no_trees) → Came given line w₀ w₂ live made top (result a.end list top' a.made) use_free
      unfolding wrapped wrap
      use_tree h few low m =
          then_match given line fit.short (λ l. wrapped rule pos) A h
          (came_made given line fit.short a.end fit few low m A.words A.made_within (A.end_within h))
