-- A visit that is counted and open: by the answer that is kept, or by the node's application.
use mathlib.Core.Path.{◌≡◌, refl, sym, ap, ◌∙◌}
use mathlib.Core.Logic.{◌≢◌, inl, inr}
use mathlib.Core.Bool.{true, false}
use mathlib.Core.List.{List, []}
use Prim.Native.Nat.{ℕ, suc, ◌+◌, ◌-◌, ◌*◌, ◌<◌, ◌≤◌}
use native.Mathlib.Omega.{arith}
use lib.ListN.{length, get_or, set}
use Rattle.meaning.proofs.Answers.{clash}
use Rattle.layout.proofs.Laying.{well_laid}
use Rattle.visits.specs.Given.{Given, lent, nodes_in, keeps_in, allowance_in, room_in, left_in, live_in, pos_in, Fit}
use Rattle.visits.specs.Words.{top_in, made_in, place_in, Entered, Roomy, Kept}
use Rattle.visits.specs.Says.{FAILED, STOPPED, end_in, list_in, KeptAnswer, Came, reading, applies, opens, Starts, Ends, EndsVisit}
use Rattle.visits.proofs.Frame.{pair_in}
use Rattle.visits.proofs.Steps.{came_at}
use Rattle.visits.proofs.Nodes.{result}
use Rattle.visits.proofs.Entering.{enter_effort, enter_deep, enter_open}
use Rattle.visits.proofs.Keeping.{by_same, kept_others, visited_plain, visited_fail, visited_match, applied_kept}
use Rattle.visits.proofs.Depth.{left_less, pos_less, space_open, starts_open, came_open, cells_open}

-- There is room for what is kept.
pub roomy : (given : Given) (line w : List ℕ) (i x : ℕ) → Fit given line → keeps_in given ≡ true → room_in given line ≤ length w → i < nodes_in given → x ≤ length line → Roomy (lent [] given.numbers) w i x
roomy given line w i x fit free room li lx =
    let z = pair_in given line fit free i x li lx in
    let n = (well_laid given.table fit.laid).few_nodes in
    let e = fit.each free in
    let l = fit.short in
    record { each = omega arith; allowance = fit.allowance; node_in = omega arith; pos_within = omega arith; room = omega arith }

-- A visit that is counted and open, from the words w, where answers are kept.
module _ (given : Given) (line w : List ℕ) (spot node pos : ℕ) (ready : Starts given line w spot node pos) (room : live_in spot + left_in spot ≤ 512) (free : keeps_in given ≡ true) (w₁ : List ℕ) (is : w₁ ≡ w) (r : ℕ) where
  abbrev word : ℕ
  word = get_or w (place_in given node pos) 0

  few : live_in spot * 3 ≤ 2041
  few = omega arith

  still_open : (end list : ℕ) → end_in r ≡ end → list_in r ≡ list → Came given line w w (live_in spot) (made_in w) (top_in w) (result end list (top_in w) (made_in w)) (λ l s. opens given line (left_in spot) l node pos s)
      → Ends given line w w₁ spot r (λ l s. opens given line (left_in spot) l node pos s)
  still_open end list e f c = rw is (record { came = came_at given line ready.fit.short (end_in r) (list_in r) (top_in w) (made_in w) e f refl refl c; cells = omega arith; ahead = λ p. clash free p })

  kept_failure : word ≡ 1 → end_in r ≡ FAILED → list_in r ≡ 0 → Ends given line w w₁ spot r (λ l s. opens given line (left_in spot) l node pos s)
  kept_failure k e f = still_open FAILED 0 e f (visited_fail given line ready.fit (reading given line (left_in spot)) (reading given line (suc (left_in spot))) node pos ready.node_in ready.pos_within ready.words free ready.made_within k)

  kept_match : 1 < word → end_in r ≡ word - 2 → list_in r ≡ get_or w (place_in given node pos + 1) 0 → Ends given line w w₁ spot r (λ l s. opens given line (left_in spot) l node pos s)
  kept_match k e f = still_open _ _ e f (visited_match given line ready.fit (reading given line (left_in spot)) (reading given line (suc (left_in spot))) node pos ready.node_in ready.pos_within ready.words free ready.made_within (word - 2) (omega arith))

  pub kept_answered : (n : ℕ) → n ≡ word → n ≢ 0 → KeptAnswer (lent [] given.numbers) w node pos n r → Ends given line w w₁ spot r (λ l s. opens given line (left_in spot) l node pos s)
  kept_answered n e some k = by_same n 1 (λ one. kept_failure (sym e ∙ one) (k.failed one).0 (k.failed one).1)
      (λ other. let more : 1 < n = omega arith in kept_match (omega arith) ((k.matched more).0 ∙ ap (λ m. m - 2) e) (k.matched more).1)

  -- The node is applied, and its answer kept.
  module _ (none : word ≡ 0) (w₂ w₃ : List ℕ) (applied : Ends given line w₁ w₂ spot r (λ l s. applies given line (left_in spot) l node pos s))
      (k : Kept (lent [] given.numbers) w₂ w₃ node pos (end_in r) (list_in r)) where
    e : Ends given line w w₂ spot r (λ l s. applies given line (left_in spot) l node pos s)
    e = rw is at applied

    top_kept : top_in w₃ ≡ top_in w₂
    top_kept = kept_others (lent [] given.numbers) w₂ w₃ node pos (end_in r) (list_in r) 2042 k e.came.end_most (omega arith)

    made_kept : made_in w₃ ≡ made_in w₂
    made_kept = kept_others (lent [] given.numbers) w₂ w₃ node pos (end_in r) (list_in r) 2043 k e.came.end_most (omega arith)

    pub open_applied : Ends given line w w₃ spot r (λ l s. opens given line (left_in spot) l node pos s)
    open_applied =
        let t = ready.top_within in
        let m = e.came.made_within in
        let c = e.cells in
        record {
          came = came_at given line ready.fit.short (end_in r) (list_in r) (top_in w₃) (made_in w₃) refl refl top_kept made_kept
              (applied_kept given line ready.fit (reading given line (left_in spot)) (reading given line (suc (left_in spot))) node pos ready.node_in ready.pos_within ready.words free ready.made_within none e.came few (omega arith) k);
          cells = omega (arith, top_kept, made_kept);
          ahead = e.ahead;
        }

-- A visit that is counted, from the words w to w₁, and open: what is called next may start.
pub record Opened (given : Given) (line w w₁ : List ℕ) (spot node : ℕ) : Type 0 where
  pub more : made_in w < allowance_in given
  pub some : left_in spot ≢ 0
  pub counted : w₁ ≡ set w 2043 (made_in w + 1)
  pub there : pos_in (spot - 1) ≡ pos_in spot
  pub starts : Starts given line w₁ (spot - 1) node (pos_in (spot - 1))
  pub space : live_in (spot - 1) + left_in (spot - 1) ≤ 512

module _ (given : Given) (line w : List ℕ) (spot node : ℕ) (ready : Starts given line w spot node (pos_in spot)) {w₁ : List ℕ} where
  pub counts : made_in w < allowance_in given → left_in spot ≢ 0 → w₁ ≡ set w 2043 (made_in w + 1) → Opened given line w w₁ spot node
  counts more some is = record {
    more = more;
    some = some;
    counted = is;
    there = pos_less spot some;
    starts = rw (is, pos_less spot some) (starts_open given line w spot node (pos_in spot) ready more some);
    space = space_open spot some ready.open_in;
  }

  pub opened : Opened given line w w₁ spot node → (w' : List ℕ) (r : ℕ) → Ends given line w₁ w' (spot - 1) r (λ l s. opens given line (left_in (spot - 1)) l node (pos_in (spot - 1)) s)
      → EndsVisit given line w w' spot r (λ l s. reading given line (left_in spot) l node (pos_in spot) s)
  opened o w' r e =
      let h : Ends given line (set w 2043 (made_in w + 1)) w' (spot - 1) r (λ l s. opens given line (left_in (spot - 1)) l node (pos_in spot) s)
      = record { came = (rw (o.counted, o.there) at e).came; cells = (rw o.counted at e).cells; ahead = e.ahead } in
      let c = cells_open given line w spot node (pos_in spot) ready o.more o.some r h in
      record {
        came = enter_open given line ready.fit (λ m. m) (left_in spot) (left_in (spot - 1)) node (pos_in spot) (left_less spot o.some) o.more (let f = ready.open_in in omega arith) ready.words
            (came_open given line w spot node (pos_in spot) ready o.more o.some r h);
        cells = omega arith;
        fewer = λ h. omega arith;
        ahead = λ p. rw (← o.there) (e.ahead p);
      }

-- Where nothing is kept, an open visit is the node's application.
pub plain_opens : (given : Given) (line w : List ℕ) (spot node pos : ℕ) → Starts given line w spot node pos → keeps_in given ≡ false → (w' : List ℕ) (r : ℕ)
    → Ends given line w w' spot r (λ l s. applies given line (left_in spot) l node pos s) → Ends given line w w' spot r (λ l s. opens given line (left_in spot) l node pos s)
plain_opens given line w spot node pos ready plain w' r e = record {
  came = visited_plain given line ready.fit (reading given line (left_in spot)) (reading given line (suc (left_in spot))) node pos ready.node_in ready.pos_within plain e.came;
  cells = e.cells;
  ahead = e.ahead;
}

-- A visit that is entered: refused, or counted.
module _ (given : Given) (line w : List ℕ) (spot node pos : ℕ) (ready : Starts given line w spot node pos) {w₁ : List ℕ} {code : ℕ} where
  pub refused : Entered (lent [] given.numbers) w w₁ spot code → code ≢ 0 → (r : ℕ) → end_in r ≡ STOPPED → list_in r ≡ code * 4096 + pos → pos_in spot ≤ STOPPED → EndsVisit given line w w₁ spot r (λ l s. reading given line (left_in spot) l node pos s)
  refused (inl h) n r e f low =
      let is : code ≡ 11 = h.1 in
      rw h.2 (record {
        came = came_at given line ready.fit.short (end_in r) (list_in r) (top_in w) (made_in w) e (f ∙ ap (λ c. c * 4096 + pos) is) refl refl
            (enter_effort given line ready.fit (left_in spot) node pos ready.words ready.made_within ready.pos_within h.0);
        cells = omega arith;
        fewer = λ z. absurd (omega arith);
        ahead = λ p. rw e low;
      })
  refused (inr (inl h)) n r e f low =
      let is : code ≡ 12 = h.2 in
      rw h.3 (record {
        came = came_at given line ready.fit.short (end_in r) (list_in r) (top_in w) (made_in w) e (f ∙ ap (λ c. c * 4096 + pos) is) refl refl
            (enter_deep given line ready.fit (left_in spot) node pos ready.words ready.made_within ready.pos_within h.0 h.1);
        cells = omega arith;
        fewer = λ z. absurd (omega arith);
        ahead = λ p. rw e low;
      })
  refused (inr (inr h)) n r e f low = absurd (n h.2)

-- A visit that is not refused is counted.
pub entered_open : (given : Given) (line w : List ℕ) (spot node : ℕ) → Starts given line w spot node (pos_in spot) → {w₁ : List ℕ} {code : ℕ} → Entered (lent [] given.numbers) w w₁ spot code → code ≡ 0
    → Opened given line w w₁ spot node
entered_open given line w spot node ready {code = code} (inl h) z = let is : code ≡ 11 = h.1 in absurd (omega arith)
entered_open given line w spot node ready {code = code} (inr (inl h)) z = let is : code ≡ 12 = h.2 in absurd (omega arith)
entered_open given line w spot node ready (inr (inr h)) z = counts given line w spot node ready h.0 h.1 h.3
