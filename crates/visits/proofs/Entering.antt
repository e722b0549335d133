-- A visit before its work: EFFORT, DEEP, or one visit more that is counted and open.
use mathlib.Core.Path.{◌≡◌, refl, sym, ap, ◌∙◌}
use mathlib.Core.Logic.{◌≢◌}
use mathlib.Core.Bool.{true, false}
use mathlib.Core.List.{List}
use Prim.Native.Nat.{ℕ, zero, suc, ◌+◌, ◌*◌, ◌<◌, ◌≤◌, max}
use native.Mathlib.Omega.{arith}
use lib.ListN.{length, get_or, set}
use borrow.Author.Tests.{lt-ltb, le-ltb, le-leb, lt-leb}
use native.Mathlib.Numerals.{add-one}
use Rattle.meaning.specs.Grammar.{fits, Note, Grammar}
use Rattle.meaning.specs.Reading.{State, spent, asked, Run, deep, done, Visit, byte, counted, Way, visited, visit}
use Rattle.meaning.proofs.InPlace.{visit_out, visit_open}
use Rattle.meaning.proofs.Spans.{fits_inside}
use Rattle.visits.specs.Given.{Given, allowance_in, way_in, grammar_in, Fit}
use Rattle.visits.specs.declared.Refusal.{Refusal}
use Rattle.visits.specs.declared.Refusal.TheVariants.{Effort, Deep}
use Rattle.visits.specs.Words.{code_of, furthest_in, reached_in, Stands, Words}
use Rattle.visits.specs.Says.{Visited, FAILED, STOPPED, end_of, Came}
use Rattle.visits.proofs.Frame.{written_same, count_stands, reach_stands}
use Rattle.visits.proofs.Steps.{came_after, came_as, still}
use Rattle.visits.proofs.Nodes.{result, match_still, fail_still}

module _ (g : Grammar) (line : List ℕ) (way : Way) (l : List Note) (i x : ℕ) (s : State) where
  visit_deep_at : (n : ℕ) → s.left ≡ suc n → visit g line way zero l i x s ≡ deep x s
  unfolding visit counted
  visit_deep_at n e = ap (λ m. counted m x s (λ t. deep x s)) e

  visit_open_at : (d n : ℕ) → s.left ≡ suc n → visit g line way (suc d) l i x s ≡ visited g line way (visit g line way d) (visit g line way (suc d)) l i x (spent n s)
  unfolding counted
  visit_open_at d n e = visit_open g line way d l i x s ∙ ap (λ m. counted m x s (visited g line way (visit g line way d) (visit g line way (suc d)) l i x)) e

-- A number above 0 follows another.
follows : (n : ℕ) → 0 < n → (m : ℕ) × (n ≡ suc m)
follows zero h = absurd (omega arith)
follows (suc n) h = (n, refl)

module _ (given : Given) (line : List ℕ) (fit : Fit given line) where
  abbrev reading : ℕ → List Note → Visit
  reading d = visit (grammar_in given) line (way_in given) d

  module _ {w : List ℕ} {live made top : ℕ} (left i x : ℕ) (words : Words given line w live top) (le : made ≤ allowance_in given) (inside : x ≤ length line) where
    pub enter_effort : allowance_in given ≤ made → Came given line w w live made top (result STOPPED (11 * 4096 + x) top made) (λ l s. reading left l i x s)
    enter_effort h =
        still given line fit.short STOPPED (11 * 4096 + x) _ words le (omega arith) (λ z. absurd (omega arith)) (λ z. absurd (omega arith))
        (λ l s st. let e = st.left in rw (visit_out (grammar_in given) line (way_in given) left l i x s (omega arith)) (record { end = refl; list = refl; small = let sh = fit.short in omega arith; left = st.left; furthest = st.furthest }))

    pub enter_deep : made < allowance_in given → left ≡ 0 → Came given line w w live made top (result STOPPED (12 * 4096 + x) top made) (λ l s. reading left l i x s)
    enter_deep h z =
        still given line fit.short STOPPED (12 * 4096 + x) _ words le (omega arith) (λ z. absurd (omega arith)) (λ z. absurd (omega arith))
        (λ l s st. let e = st.left in
        let n = follows s.left (omega arith) in
        rw (z, visit_deep_at (grammar_in given) line (way_in given) l i x s n.0 n.1) (record { end = refl; list = refl; small = let sh = fit.short in omega arith; left = st.left; furthest = st.furthest }))

  spend : {w : List ℕ} {live made : ℕ} {l : List Note} {s : State} (n : ℕ) → s.left ≡ suc n → Stands given line w live made l s → Stands given line w live (made + 1) l (spent n s)
  spend n e h = record { lives = h.lives; left = let z = h.left in omega arith; furthest = h.furthest; kept = h.kept }

  -- f is what is made of the visit.
  pub enter_open : {w w' : List ℕ} {live made top : ℕ} {r : Visited} (f : Run → Run) (left d i x : ℕ) → left ≡ suc d → made < allowance_in given → live * 3 ≤ 2041 → Words given line w live top
      → Came given line (set w 2043 (made + 1)) w' live (made + 1) top r (λ l s. f (visited (grammar_in given) line (way_in given) (reading d) (reading (suc d)) l i x s)) → Came given line w w' live made top r (λ l s. f (reading left l i x s))
  enter_open {w} {made = made} f left d i x e lt few words c =
      came_after given line fit.short _ (written_same given line 2043 (omega arith) (omega arith) w (made + 1) few) (omega arith) (omega arith) c
      (λ l s st.
      let z = st.left in
      let n = follows s.left (omega arith) in
      rw (e, visit_open_at (grammar_in given) line (way_in given) l i x s d n.0 n.1) (c.says l (spent n.0 s) (count_stands given line few words (spend n.0 n.1 st) (made + 1))))

  -- A range is visited at x, and then comes the step.
  pub came_reached : {w w' : List ℕ} {live made top : ℕ} {r : Visited} {m : List Note → State → Run} (x : ℕ) → live * 3 ≤ 2041 → Words given line w live top → Came given line (reached_in w x) w' live made top r m
      → Came given line w w' live made top r (λ l s. m l (asked x s))
  came_reached {w} x few words c =
      came_after given line fit.short _ (written_same given line 2044 (omega arith) (omega arith) w (max (furthest_in w) x) few) (omega arith) (omega arith) c
      (λ l s st. c.says l (asked x s) (reach_stands given line few words st x))

  -- One byte in a range, from words where its position is reached already: none changes.
  pub range_in : {w : List ℕ} {live made top : ℕ} (lo hi x : ℕ) → Words given line w live top → made ≤ allowance_in given → fits line lo hi x ≡ true
      → Came given line w w live made top (result (x + 1) 0 top made) (λ l s. done (byte x (fits line lo hi x)) s)
  unfolding byte
  range_in lo hi x words le e =
      let z : x < length line = fits_inside line lo hi x e in
      let f : x + 1 ≡ suc x = omega arith in
      rw f (came_as given line fit.short _ (match_still given line fit words le (suc x) (omega arith)) (λ l s. ap (λ b. done (byte x b) s) (sym e)))

  pub range_out : {w : List ℕ} {live made top : ℕ} (lo hi x : ℕ) → Words given line w live top → made ≤ allowance_in given → fits line lo hi x ≡ false
      → Came given line w w live made top (result FAILED 0 top made) (λ l s. done (byte x (fits line lo hi x)) s)
  unfolding byte
  range_out lo hi x words le e = came_as given line fit.short _ (fail_still given line fit words le) (λ l s. ap (λ b. done (byte x b) s) (sym e))

-- Where a byte in a range ends.
module _ (line : List ℕ) (lo hi x found : ℕ) (is : found ≡ get_or line x 0) where
  pub range_hit : x < length line → lo ≤ found → found ≤ hi → x + 1 ≡ end_of (byte x (fits line lo hi x))
  unfolding end_of byte fits
  range_hit h a b = rw (lt-ltb _ _ h, ← is, le-leb _ _ a, le-leb _ _ b) (add-one x)

  pub range_low : x < length line → found < lo → FAILED ≡ end_of (byte x (fits line lo hi x))
  unfolding end_of byte fits
  range_low h a = rw (lt-ltb _ _ h, ← is, lt-leb _ _ a) refl

  pub range_high : x < length line → lo ≤ found → hi < found → FAILED ≡ end_of (byte x (fits line lo hi x))
  unfolding end_of byte fits
  range_high h a b = rw (lt-ltb _ _ h, ← is, le-leb _ _ a, lt-leb _ _ b) refl

pub range_past : (line : List ℕ) (lo hi x : ℕ) → length line ≤ x → FAILED ≡ end_of (byte x (fits line lo hi x))
unfolding end_of byte fits
range_past line lo hi x h = rw (le-ltb _ _ h) refl

-- A refusal has a code, which is no 0.
pub code_some : (refusal : Refusal) → code_of refusal ≢ 0
code_some Effort = λ z. absurd (omega (arith, z))
code_some Deep = λ z. absurd (omega (arith, z))
