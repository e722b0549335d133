-- How the results of steps are put together, as the runs are: one after another, or one alone.
use mathlib.Core.Path.{◌≡◌, refl, subst, ap₂}
use mathlib.Core.Logic.{◌≢◌}
use mathlib.Core.List.{List}
use Prim.Native.Nat.{ℕ, ◌+◌, ◌*◌, ◌<◌, ◌≤◌}
use native.Mathlib.Omega.{arith}
use lib.ListN.{length}
use Rattle.meaning.specs.Grammar.{Trees, Answer, fail, ok, Note}
use Rattle.meaning.specs.Reading.{State, Run, effort, deep, done, after}
use Rattle.cells.specs.Cells.{trees_at}
use Rattle.visits.specs.Given.{Given, longest_line, allowance_in, Fit}
use Rattle.visits.specs.Words.{turns_in, Added, Stands, Words, Same}
use Rattle.visits.specs.Says.{Visited, FAILED, STOPPED, Says, Came}
use Rattle.visits.proofs.Frame.{same_none, same_then, made_same, made_words, made_stands}

module _ (given : Given) (line : List ℕ) (short : length line ≤ longest_line) where
  module _ (w : List ℕ) (live : ℕ) (l : List Note) (a : Visited) (k : Answer → State → Run) where
    -- The step matched: what follows a match follows.
    pub says_match : (w' : List ℕ) (r : Visited) (m : Run) → Says given line w live l a m → a.end < STOPPED
        → ((s : State) → Stands given line w live a.made l s → Says given line w' live l r (k (ok a.end (trees_at w a.list)) s)) → Says given line w' live l r (after m k)
    unfolding after
    says_match w' r (effort p s) h lt f = let e = h.end in absurd (omega arith)
    says_match w' r (deep p s) h lt f = let e = h.end in absurd (omega arith)
    says_match w' r (done fail s) h lt f = let e = h.end in absurd (omega arith)
    says_match w' r (done (ok e ts) s) h lt f =
        subst (λ q. Says given line w' live l r (k q s)) (ap₂ ok h.1.end h.0) (f s h.1.stands)

    -- The step failed: what follows a failure follows.
    pub says_fail : (w' : List ℕ) (r : Visited) (m : Run) → Says given line w live l a m → a.end ≡ FAILED
        → ((s : State) → Stands given line w live a.made l s → Says given line w' live l r (k fail s)) → Says given line w' live l r (after m k)
    unfolding after
    says_fail w' r (effort p s) h e f = let z = h.end in absurd (omega arith)
    says_fail w' r (deep p s) h e f = let z = h.end in absurd (omega arith)
    says_fail w' r (done fail s) h e f = f s h.stands
    says_fail w' r (done (ok y ts) s) h e f = let z = h.1.end in let i = h.1.inside in absurd (omega arith)

    -- The step was refused: so is the whole.
    pub says_stop : (m : Run) → Says given line w live l a m → a.end ≡ STOPPED → Says given line w live l a (after m k)
    unfolding after
    says_stop (effort p s) h e = h
    says_stop (deep p s) h e = h
    says_stop (done fail s) h e = let z = h.end in absurd (omega arith)
    says_stop (done (ok y ts) s) h e = let z = h.1.end in let i = h.1.inside in absurd (omega arith)

    -- No match, where a failure stays one; no failure, where a match stays as it is.
    says_unmatched : (m : Run) → Says given line w live l a m → STOPPED ≤ a.end → ((s : State) → k fail s ≡ done fail s) → Says given line w live l a (after m k)
    unfolding after
    says_unmatched (effort p s) h e f = h
    says_unmatched (deep p s) h e f = h
    says_unmatched (done fail s) h e f = rw (f s) h
    says_unmatched (done (ok y ts) s) h e f = let z = h.1.end in let i = h.1.inside in absurd (omega arith)

    says_unfailed : (m : Run) → Says given line w live l a m → a.end ≢ FAILED → ((e : ℕ) (ts : Trees) (s : State) → k (ok e ts) s ≡ done (ok e ts) s) → Says given line w live l a (after m k)
    unfolding after
    says_unfailed (effort p s) h e f = h
    says_unfailed (deep p s) h e f = h
    says_unfailed (done fail s) h e f = absurd (e h.end)
    says_unfailed (done (ok y ts) s) h e f = rw (f y ts s) h

  -- A step from the words w₁, to which those of w₀ were changed before it.
  pub came_after : {w₀ w₁ w₂ : List ℕ} {live made top made₁ top₁ : ℕ} {r : Visited} {m : List Note → State → Run} (n : List Note → State → Run) → Same given line w₀ w₁ live top → made ≤ made₁ → top ≤ top₁
      → Came given line w₁ w₂ live made₁ top₁ r m → ((l : List Note) (s : State) → Stands given line w₀ live made l s → Says given line w₂ live l r (n l s)) → Came given line w₀ w₂ live made top r n
  came_after n same more higher d f =
      let t = d.top_up in
      let v = d.made_up in
      record {
        same = same_then given line same d.same (omega arith) higher;
        words = d.words;
        end_most = d.end_most;
        end_within = d.end_within;
        list_within = d.list_within;
        top_up = omega arith;
        made_up = omega arith;
        made_within = d.made_within;
        says = f;
      }

  module _ {w₀ w₁ : List ℕ} {live made top : ℕ} {a : Visited} {m : List Note → State → Run} (k : List Note → Answer → State → Run) (c : Came given line w₀ w₁ live made top a m) where
    alone : ((l : List Note) (s : State) → Stands given line w₀ live made l s → Says given line w₁ live l a (after (m l s) (k l))) → Came given line w₀ w₁ live made top a (λ l s. after (m l s) (k l))
    alone f = record {
      same = c.same;
      words = c.words;
      end_most = c.end_most;
      end_within = c.end_within;
      list_within = c.list_within;
      top_up = c.top_up;
      made_up = c.made_up;
      made_within = c.made_within;
      says = f;
    }

    pub then_match : {w₂ : List ℕ} {r : Visited} → a.end < STOPPED → Came given line w₁ w₂ live a.made a.top r (λ l s. k l (ok a.end (trees_at w₁ a.list)) s)
        → Came given line w₀ w₂ live made top r (λ l s. after (m l s) (k l))
    then_match {w₂} {r} lt d = came_after _ c.same c.made_up c.top_up d (λ l s h. says_match w₁ live l a (k l) w₂ r (m l s) (c.says l s h) lt (λ t g. d.says l t g))

    pub then_fail : {w₂ : List ℕ} {r : Visited} → a.end ≡ FAILED → Came given line w₁ w₂ live a.made a.top r (λ l s. k l fail s)
        → Came given line w₀ w₂ live made top r (λ l s. after (m l s) (k l))
    then_fail {w₂} {r} e d = came_after _ c.same c.made_up c.top_up d (λ l s h. says_fail w₁ live l a (k l) w₂ r (m l s) (c.says l s h) e (λ t g. d.says l t g))

    pub stopped : a.end ≡ STOPPED → Came given line w₀ w₁ live made top a (λ l s. after (m l s) (k l))
    stopped e = alone (λ l s h. says_stop w₁ live l a (k l) (m l s) (c.says l s h) e)

    pub unmatched : STOPPED ≤ a.end → ((l : List Note) (s : State) → k l fail s ≡ done fail s) → Came given line w₀ w₁ live made top a (λ l s. after (m l s) (k l))
    unmatched e f = alone (λ l s h. says_unmatched w₁ live l a (k l) (m l s) (c.says l s h) e (f l))

    pub unfailed : a.end ≢ FAILED → ((l : List Note) (e : ℕ) (ts : Trees) (s : State) → k l (ok e ts) s ≡ done (ok e ts) s) → Came given line w₀ w₁ live made top a (λ l s. after (m l s) (k l))
    unfailed e f = alone (λ l s h. says_unfailed w₁ live l a (k l) (m l s) (c.says l s h) e (f l))

  -- The same run, said otherwise.
  pub came_when : {w w' : List ℕ} {live made top : ℕ} {r : Visited} {m : List Note → State → Run} (n : List Note → State → Run) → Came given line w w' live made top r m
      → ((l : List Note) (s : State) → Stands given line w live made l s → m l s ≡ n l s) → Came given line w w' live made top r n
  came_when {w} {w'} {live} {made} {top} {r} n c f = record {
    same = c.same;
    words = c.words;
    end_most = c.end_most;
    end_within = c.end_within;
    list_within = c.list_within;
    top_up = c.top_up;
    made_up = c.made_up;
    made_within = c.made_within;
    says = λ l s h. subst (Says given line w' live l r) (f l s h) (c.says l s h);
  }

  pub came_as : {w w' : List ℕ} {live made top : ℕ} {r : Visited} {m : List Note → State → Run} (n : List Note → State → Run) → Came given line w w' live made top r m
      → ((l : List Note) (s : State) → m l s ≡ n l s) → Came given line w w' live made top r n
  came_as n c f = came_when n c (λ l s h. f l s)

  -- A step that changes no word.
  pub still : {w : List ℕ} {live made top : ℕ} (end list : ℕ) (m : List Note → State → Run) → Words given line w live top → made ≤ allowance_in given
      → end ≤ FAILED → (end < STOPPED → end ≤ length line) → (end < STOPPED → list ≤ top)
      → ((l : List Note) (s : State) → Stands given line w live made l s → Says given line w live l (record { end = end; list = list; top = top; made = made }) (m l s))
      → Came given line w w live made top (record { end = end; list = list; top = top; made = made }) m
  still {w} {live} {made} {top} end list m h le most e i f = record {
    same = same_none given line w live top;
    words = h;
    end_most = most;
    end_within = e;
    list_within = i;
    top_up = omega arith;
    made_up = omega arith;
    made_within = le;
    says = f;
  }

  -- A match whose trees were made last.
  pub came_made : {w w' : List ℕ} {live made top list top' : ℕ} {ts : Trees} (end : ℕ) → Fit given line → live * 3 ≤ 2041 → top + turns_in w < allowance_in given → Added w w' top list top' ts
      → Words given line w live top → made ≤ allowance_in given → end ≤ length line
      → Came given line w w' live made top (record { end = end; list = list; top = top'; made = made }) (λ l s. done (ok end ts) s)
  came_made end fit few low d h le inside = record {
    same = made_same given line fit few low d;
    words = made_words given line fit few low d h;
    end_most = omega arith;
    end_within = λ z. inside;
    list_within = λ z. d.within;
    top_up = d.rise;
    made_up = omega arith;
    made_within = le;
    says = λ l s g. (d.is, record { end = refl; inside = inside; stands = made_stands given line fit few low d h g });
  }

  -- The same result, by numbers that are equal to those it has.
  pub came_at : {w w' : List ℕ} {live made top end list top' made' : ℕ} {m : List Note → State → Run} (end₁ list₁ top₁ made₁ : ℕ) → end₁ ≡ end → list₁ ≡ list → top₁ ≡ top' → made₁ ≡ made'
      → Came given line w w' live made top (record { end = end; list = list; top = top'; made = made' }) m → Came given line w w' live made top (record { end = end₁; list = list₁; top = top₁; made = made₁ }) m
  came_at end₁ list₁ top₁ made₁ a b d e c = rw (a, b, d, e) c

  -- The list of a failure says nothing.
  failed_any : (w : List ℕ) (live top made list list' : ℕ) (l : List Note) (m : Run) → Says given line w live l (record { end = FAILED; list = list; top = top; made = made }) m
      → Says given line w live l (record { end = FAILED; list = list'; top = top; made = made }) m
  failed_any w live top made list list' l (effort p s) h = let z = h.end in absurd (omega arith)
  failed_any w live top made list list' l (deep p s) h = let z = h.end in absurd (omega arith)
  failed_any w live top made list list' l (done fail s) h = record { end = refl; stands = h.stands }
  failed_any w live top made list list' l (done (ok e ts) s) h = let z = h.1.end in let i = h.1.inside in absurd (omega arith)

  pub came_failed : {w w' : List ℕ} {live made top top' made' : ℕ} {m : List Note → State → Run} (list end list' : ℕ) → end ≡ FAILED
      → Came given line w w' live made top (record { end = FAILED; list = list; top = top'; made = made' }) m → Came given line w w' live made top (record { end = end; list = list'; top = top'; made = made' }) m
  came_failed {w} {w'} {live} {made} {top} {top'} {made'} {m} list end list' e c = rw e (record {
    same = c.same;
    words = c.words;
    end_most = c.end_most;
    end_within = c.end_within;
    list_within = λ z. absurd (omega arith);
    top_up = c.top_up;
    made_up = c.made_up;
    made_within = c.made_within;
    says = λ l s h. failed_any w' live top' made' list list' l (m l s) (c.says l s h);
  })
