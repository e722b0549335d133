-- Where a visit stands, in one number, and the words' own numbers: what a visit is handed, and what comes back from it.
use mathlib.Core.Path.{◌≡◌}
use mathlib.Core.Logic.{◌≢◌}
use mathlib.Core.Bool.{false}
use mathlib.Core.List.{List}
use Prim.Native.Nat.{ℕ, suc, ◌+◌, ◌-◌, ◌*◌, ◌<◌, ◌≤◌}
use native.Mathlib.Omega.{arith}
use lib.ListN.{length, set}
use Rattle.meaning.specs.Grammar.{Note}
use Rattle.meaning.specs.Reading.{State, Run}
use Rattle.visits.specs.Given.{Given, a_in, keeps_in, allowance_in, left_in, live_in, pos_in, Moved}
use Rattle.visits.specs.Words.{key_of, top_in, made_in, Words}
use Rattle.visits.specs.Says.{Came, Visits, after_visit, reading, Starts, Ends, EndsVisit}
use Rattle.visits.proofs.Frame.{written_same, written_words, written_top, count_made}
use Rattle.visits.proofs.Living.{use_put, use_other, order_same}
use Rattle.visits.proofs.Ready.{ready_live}

-- One visit more is open.
pub left_less : (spot : ℕ) → left_in spot ≢ 0 → left_in spot ≡ suc (left_in (spot - 1))
left_less spot h = omega arith

pub live_less : (spot : ℕ) → left_in spot ≢ 0 → live_in (spot - 1) ≡ live_in spot
live_less spot h = omega arith

pub pos_less : (spot : ℕ) → left_in spot ≢ 0 → pos_in (spot - 1) ≡ pos_in spot
pos_less spot h = omega arith

pub space_open : (spot : ℕ) → left_in spot ≢ 0 → live_in spot + left_in spot ≤ 513 → live_in (spot - 1) + left_in (spot - 1) ≤ 512
space_open spot h o = omega (arith, left_less spot h, live_less spot h)

-- One use more is live.
pub left_more : (spot : ℕ) → left_in (spot + 1024) ≡ left_in spot
left_more spot = omega arith

pub live_more : (spot : ℕ) → live_in spot ≤ 512 → live_in (spot + 1024) ≡ live_in spot + 1
live_more spot h = omega arith

pub pos_more : (spot : ℕ) → live_in spot ≤ 512 → pos_in (spot + 1024) ≡ pos_in spot
pos_more spot h = omega arith

module _ (given : Given) (line : List ℕ) where
  -- The visit is counted, and open.
  module _ (w : List ℕ) (spot node pos : ℕ) (ready : Starts given line w spot node pos) (more : made_in w < allowance_in given) (some : left_in spot ≢ 0) where
    abbrev counted : List ℕ
    counted = set w 2043 (made_in w + 1)

    few : live_in spot * 3 ≤ 2041
    few = let o = ready.open_in in omega arith

    long : 2048 ≤ length w
    long = let r = ready.words.room in omega arith

    pub counted_words : Words given line counted (live_in spot) (top_in w)
    counted_words = written_words given line 2043 (omega arith) (omega arith) w (made_in w + 1) few ready.words

    pub starts_open : Starts given line counted (spot - 1) node pos
    starts_open =
        let t = ready.top_within in
        let o = ready.open_in in
        let l = left_less spot some in
        let a : live_in (spot - 1) ≡ live_in spot = live_less spot some in
        let b : top_in counted ≡ top_in w = written_top given line 2043 (omega arith) (omega arith) w (made_in w + 1) in
        let c : made_in counted ≡ made_in w + 1 = count_made given line w (made_in w + 1) long in
        let u = (written_same given line 2043 (omega arith) (omega arith) w (made_in w + 1) {live = live_in spot} {top = 0} few).turns in
        rw (a, b, c) (record { fit = ready.fit; words = counted_words; node_in = ready.node_in; pos_within = ready.pos_within; open_in = omega arith; made_within = omega arith; top_within = omega arith; order = λ p. order_same given line {top = 0} (written_same given line 2043 (omega arith) (omega arith) w (made_in w + 1) few) (omega arith) (ready.order p) })

    module _ {w' : List ℕ} {m : List Note → State → Run} (r : ℕ) (e : Ends given line counted w' (spot - 1) r m) where
      pub came_open : Came given line counted w' (live_in spot) (made_in w + 1) (top_in w) (after_visit r w') m
      came_open =
          let a : live_in (spot - 1) ≡ live_in spot = live_less spot some in
          let b : top_in counted ≡ top_in w = written_top given line 2043 (omega arith) (omega arith) w (made_in w + 1) in
          let c : made_in counted ≡ made_in w + 1 = count_made given line w (made_in w + 1) long in
          (rw (a, b, c) at e).came

      pub cells_open : top_in w' + (made_in w + 1) ≤ top_in w + made_in w'
      cells_open =
          let b : top_in counted ≡ top_in w = written_top given line 2043 (omega arith) (omega arith) w (made_in w + 1) in
          let c : made_in counted ≡ made_in w + 1 = count_made given line w (made_in w + 1) long in
          omega (arith, e.cells)

  -- A use is live.
  module _ (w : List ℕ) (spot root pos rule end list : ℕ) (ready : Starts given line w spot root pos) (room : live_in spot + left_in spot ≤ 512) (inside : end ≤ length line) (below : list ≤ top_in w)
      {w₁ : List ℕ} (put : w₁ ≡ use_put w (live_in spot * 3) (key_of rule pos) end list) where
    top_stays : top_in w₁ ≡ top_in w
    top_stays = rw put (use_other w (live_in spot * 3) (key_of rule pos) end list 2042 (omega arith) (omega arith) (omega arith))

    made_stays : made_in w₁ ≡ made_in w
    made_stays = rw put (use_other w (live_in spot * 3) (key_of rule pos) end list 2043 (omega arith) (omega arith) (omega arith))

    pub starts_live : rule < 64 → (keeps_in given ≡ false → list ≢ 0 → pos ≤ end) → Starts given line w₁ (spot + 1024) root pos
    starts_live small up = rw (top_stays, made_stays, left_more spot, live_more spot (omega arith)) (ready_live rule end list ready room inside below small up put)

    module _ {w' : List ℕ} (r : ℕ) (e : EndsVisit given line w₁ w' (spot + 1024) r (λ l s. reading given line (left_in (spot + 1024)) l root pos s)) where
      pub came_live : Came given line w₁ w' (live_in spot + 1) (made_in w) (top_in w) (after_visit r w') (λ l s. reading given line (left_in spot) l root pos s)
      came_live = (rw (top_stays, made_stays, left_more spot, live_more spot (omega arith)) at e).came

      pub cells_live : top_in w' + made_in w ≤ top_in w + made_in w'
      cells_live = omega (arith, e.cells, top_stays, made_stays)

      pub fewer_live : (after_visit r w').end < 65534 → top_in w' + made_in w < top_in w + made_in w'
      fewer_live h = omega (arith, e.fewer h, top_stays, made_stays)

  -- The same visit, by the position where it stands.
  pub ends_live : {w w' : List ℕ} (spot root r : ℕ) → live_in spot + left_in spot ≤ 512 → EndsVisit given line w w' (spot + 1024) r (λ l s. reading given line (left_in (spot + 1024)) l root (pos_in (spot + 1024)) s)
      → EndsVisit given line w w' (spot + 1024) r (λ l s. reading given line (left_in (spot + 1024)) l root (pos_in spot) s)
  ends_live spot root r room e = record { came = (rw (pos_more spot (omega arith)) at e).came; cells = e.cells; fewer = e.fewer; ahead = e.ahead }

  module _ {spot pos new : ℕ} (m : Moved spot pos new) (node : ℕ) where
    pub starts_moved : {w : List ℕ} → Starts given line w spot node pos → Starts given line w new node (pos_in new)
    starts_moved s = rw (m.left, m.live, m.there) s

    pub ends_moved : {w w' : List ℕ} (r : ℕ) → EndsVisit given line w w' new r (λ l s. reading given line (left_in new) l node (pos_in new) s)
        → Visits given line w w' (live_in spot) pos (made_in w) (top_in w) (after_visit r w') (λ l s. reading given line (left_in spot) l node pos s)
    ends_moved r e = rw (m.left, m.live, m.there) at e

-- A repetition's child was visited at a spot of the same row: the same visit, by where the repetition stands.
pub child_visited : (given : Given) (line : List ℕ) (spot i : ℕ) {here x : ℕ} → Moved spot (pos_in here) here → x ≡ a_in given i → {w w' : List ℕ} (r : ℕ)
    → EndsVisit given line w w' here r (λ l s. reading given line (left_in here) l x (pos_in here) s)
    → Visits given line w w' (live_in spot) (pos_in here) (made_in w) (top_in w) (after_visit r w') (λ l s. reading given line (left_in spot) l (a_in given i) (pos_in here) s)
child_visited given line spot i m is r e = rw is at (ends_moved given line m _ r e)
