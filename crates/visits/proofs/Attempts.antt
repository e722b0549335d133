-- A use that grows, over the words: its first attempt, and each turn of its loop.
use mathlib.Core.Path.{◌≡◌, refl, ◌∙◌}
use mathlib.Core.Logic.{◌≢◌, ◌⊎◌}
use mathlib.Core.Bool.{false}
use mathlib.Core.List.{List}
use Prim.Native.Nat.{ℕ, ◌+◌, ◌*◌, ◌-◌, ◌<◌, ◌≤◌}
use native.Mathlib.Omega.{arith}
use lib.ListN.{length, get_or}
use Rattle.meaning.specs.Grammar.{no_trees, tree, Answer, fail, ok, root_of, Note}
use Rattle.meaning.specs.Reading.{State, effort, Visit}
use Rattle.cells.specs.Cells.{trees_at}
use Rattle.visits.specs.Given.{Given, keeps_in, way_in, allowance_in, grammar_in, left_in, live_in, pos_in, Fit}
use Rattle.visits.specs.Words.{key_of, turns_in, top_in, made_in, HeldAs, Words, Same, Added}
use Rattle.visits.specs.Says.{FAILED, STOPPED, end_in, list_in, Came, after_visit, reading, grows, Starts, Ends, EndsVisit}
use Rattle.visits.proofs.Frame.{same_then, made_same, made_words}
use Rattle.visits.proofs.Steps.{came_at}
use Rattle.meaning.proofs.InPlace.{visit_out}
use Rattle.visits.proofs.Living.{use_put, while_live, fresh_same, order_same}
use Rattle.visits.proofs.Growing.{kids, attempt, grown, Growing, begins, out_stop, out_held, turns, first_out, first_grown}
use Rattle.visits.proofs.Ready.{ready_loop}
use Rattle.visits.proofs.Depth.{pos_more, starts_live, came_live, cells_live, fewer_live}

-- The loop over the words, from those where it began to those where it is.
abbrev pub GrowingIn : (given : Given) (line : List ℕ) (spot root rule pos : ℕ) (w₀ : List ℕ) (end₀ : ℕ) (w : List ℕ) (end : ℕ) → Type 0
GrowingIn given line spot root rule pos w₀ end₀ w end = Growing given line (reading given line (left_in spot)) root rule pos (live_in spot) w₀ end₀ (made_in w₀) (top_in w₀) w end (made_in w) (top_in w)

-- There is room for one tree more.
pub room_tree : (given : Given) (line : List ℕ) {w : List ℕ} {live : ℕ} → Fit given line → Words given line w live (top_in w) → top_in w + turns_in w < allowance_in given → (2048 + 4 * top_in w + 3 < length w) × (top_in w < 1073741823)
room_tree given line fit words low = let r = words.room in let a = fit.allowance in (omega arith, omega arith)

-- A use: what is lent and the line, the words where it begins, where it stands, its rule and the rule's root.
pub record Use : Type 0 where
  pub given : Given
  pub line : List ℕ
  pub start : List ℕ
  pub spot : ℕ
  pub pos : ℕ
  pub rule : ℕ
  pub root : ℕ

module _ (u : Use) where
  open u use {given, line, start, spot, pos, rule, root}

  -- It may become live at the words w: its root may be visited, there is room, and no live use is the same.
  pub record Tried (w : List ℕ) : Type 0 where
    pub ready : Starts given line w spot root pos
    pub there : pos ≡ pos_in spot
    pub room : live_in spot + left_in spot ≤ 512
    pub small : rule < 64
    pub rooted : root ≡ root_of (grammar_in given) rule
    pub fresh : (i : ℕ) → i < live_in spot → get_or w (i * 3) 0 ≢ key_of rule pos

  -- Its root was visited from the words w with a list and its end held: the visit answers r and leaves the words w₂.
  pub record Attempt (w : List ℕ) (end list : ℕ) (w₂ : List ℕ) (r : ℕ) : Type 0 where
    pub live : List ℕ
    pub put : live ≡ use_put w (live_in spot * 3) (key_of rule pos) end list
    pub visit : EndsVisit given line live w₂ (spot + 1024) r (λ l s. reading given line (left_in (spot + 1024)) l root pos s)

  -- The tree of the match r is made: it is the last list of the words w₃.
  pub record Planted (w₂ : List ℕ) (r : ℕ) (w₃ : List ℕ) : Type 0 where
    pub list : ℕ
    pub added : Added w₂ w₃ (top_in w₂) list (top_in w₃) (tree rule pos (end_in r) (trees_at w₂ (list_in r)) no_trees)
    pub next : list ≡ top_in w₂ + 1
    pub top : top_in w₃ ≡ list

  -- The first attempt matched, with the answer r, and its tree is made: the loop begins at the words w₃.
  pub record Begun (r : ℕ) (w₃ : List ℕ) : Type 0 where
    pub tried : Tried start
    pub seen : List ℕ
    pub first : Attempt start 0 0 seen r
    pub short : end_in r < STOPPED
    pub made : Planted seen r w₃

  -- One turn of the loop, from the words w with a match up to `end` held: the next attempt answers q and leaves the words w₂.
  pub record Turned (r : ℕ) (w₃ w : List ℕ) (end : ℕ) (w₂ : List ℕ) (q : ℕ) : Type 0 where
    pub begun : Begun r w₃
    pub growing : GrowingIn given line spot root rule pos w₃ (end_in r) w end
    pub again : Attempt w end (top_in w) w₂ q

  abbrev visiting : List Note → Visit
  visiting = reading given line (left_in spot)

  none_left : (l : List Note) (s : State) → s.left ≡ 0 → visiting l root pos s ≡ effort pos s
  none_left l s e = visit_out (grammar_in given) line (way_in given) (left_in spot) l root pos s e

  made_stays : {w₂ w₃ : List ℕ} {r : ℕ} → Planted w₂ r w₃ → made_in w₃ ≡ made_in w₂
  made_stays p = p.added.below 2043 (omega arith) (omega arith)

  planted_turns : {w : List ℕ} {r : ℕ} {w₁ : List ℕ} → Planted w r w₁ → turns_in w₁ ≡ turns_in w
  planted_turns p = p.added.below 2041 (omega arith) (omega arith)

  -- What an attempt comes to, while h is held.
  attempted : {w w₂ : List ℕ} {end list r : ℕ} → Tried w → Attempt w end list w₂ r → end ≤ length line → list ≤ top_in w → (h : Answer) → HeldAs end list (trees_at w list) rule pos h
      → EndsVisit given line w w₂ spot r (λ l s. attempt given line visiting root rule pos l h s)
  attempted {w} {end = end} {list} {r} t a inside below h held = record {
    came = while_live given line t.ready.fit rule pos end list t.ready.words (omega (arith, t.room)) inside below t.small h held t.fresh (λ l s. visiting l root pos s) a.put
        (came_live given line w spot root pos rule end list t.ready t.room inside below a.put r a.visit);
    cells = cells_live given line w spot root pos rule end list t.ready t.room inside below a.put r a.visit;
    fewer = fewer_live given line w spot root pos rule end list t.ready t.room inside below a.put r a.visit;
    ahead = λ p. rw (← pos_more spot (omega (arith, t.room))) (a.visit.ahead p);
  }

  -- The first attempt, while a failure is held.
  module _ (t : Tried start) {w₂ : List ℕ} {r : ℕ} (a : Attempt start 0 0 w₂ r) where
    pub first_attempt_lem : EndsVisit given line start w₂ spot r (λ l s. attempt given line visiting root rule pos l fail s)
    first_attempt_lem = attempted t a (omega arith) (omega arith) fail refl

    pub first_ends : STOPPED ≤ end_in r → Ends given line start w₂ spot r (λ l s. grows given line (left_in spot) l rule pos s)
    first_ends h = record { came = first_out given line t.ready.fit visiting root rule pos none_left t.rooted t.fresh first_attempt_lem.came h; cells = first_attempt_lem.cells; ahead = first_attempt_lem.ahead }

    pub first_low : end_in r < STOPPED → top_in w₂ + turns_in w₂ < allowance_in given
    first_low h = omega (arith, first_attempt_lem.fewer h, first_attempt_lem.came.made_within, first_attempt_lem.came.same.turns, t.ready.top_within)

  -- Its tree is made, and the loop begins.
  module _ {r : ℕ} {w₃ : List ℕ} (b : Begun r w₃) where
    pub loop_begins : GrowingIn given line spot root rule pos w₃ (end_in r) w₃ (end_in r)
    loop_begins =
        let one = (first_attempt_lem b.tried b.first).came in
        let held : trees_at w₃ (top_in w₃) ≡ tree rule pos (end_in r) (trees_at b.seen (list_in r)) no_trees = rw b.made.top b.made.added.is in
        begins given line b.tried.ready.fit visiting root rule pos none_left
        (made_words given line b.tried.ready.fit (omega (arith, b.tried.room)) (first_low b.tried b.first b.short) b.made.added one.words) (one.end_within b.short) (omega (arith, b.made.top, b.made.next)) (omega (arith, made_stays b.made, one.made_within)) held

    -- At each turn the use may become live anew.
    module _ {w : List ℕ} {end : ℕ} (g : GrowingIn given line spot root rule pos w₃ (end_in r) w end) where
      -- No live use but this one was written since the start.
      same_so_far : Same given line start w (live_in spot) (top_in start)
      same_so_far =
          let first = (first_attempt_lem b.tried b.first).came in
          let up = first.top_up in
          same_then given line (same_then given line first.same (made_same given line {live = live_in spot} b.tried.ready.fit (omega (arith, b.tried.room)) (first_low b.tried b.first b.short) b.made.added) (omega arith) up)
          g.same (omega arith) (omega (arith, up, b.made.top, b.made.next))

      -- What is held ends at or after its position.
      held_up : keeps_in given ≡ false → pos ≤ end
      held_up p = omega (arith, b.tried.there, (first_attempt_lem b.tried b.first).ahead p, g.end_up)

      tried_again : Tried w
      tried_again = record {
        ready = ready_loop b.tried.ready (omega (arith, (first_attempt_lem b.tried b.first).fewer b.short, (first_attempt_lem b.tried b.first).came.same.turns, planted_turns b.made, b.tried.ready.top_within, b.made.top, b.made.next, made_stays b.made)) (λ p. order_same given line same_so_far (omega arith) (b.tried.ready.order p)) g;
        there = b.tried.there;
        room = b.tried.room;
        small = b.tried.small;
        rooted = b.tried.rooted;
        fresh = fresh_same given line same_so_far b.tried.fresh;
      }

      pub starts_next : {w₁ : List ℕ} → w₁ ≡ use_put w (live_in spot * 3) (key_of rule pos) end (top_in w) → Starts given line w₁ (spot + 1024) root pos
      starts_next put = starts_live given line w spot root pos rule end (top_in w) tried_again.ready b.tried.room g.end_within (omega arith) put b.tried.small (λ p n. held_up p)

  -- One turn.
  module _ {r : ℕ} {w₃ w : List ℕ} {end : ℕ} {w₂ : List ℕ} {q : ℕ} (n : Turned r w₃ w end w₂ q) where
    pub next_attempt : EndsVisit given line w w₂ spot q (λ l s. attempt given line visiting root rule pos l (ok end (kids (trees_at w (top_in w)))) s)
    next_attempt = attempted (tried_again n.begun n.growing) n.again n.growing.end_within (omega arith) (ok end (kids (trees_at w (top_in w)))) (λ z. let t = n.growing.top_within in omega arith, refl, n.growing.held)

    -- A way out of the loop is the end of the whole use.
    whole_ends : (a : ℕ) → Came given line w₃ w₂ (live_in spot) (made_in w₃) (top_in w₃) (after_visit a w₂) (λ l s. grown given line visiting root rule pos l s.left (end_in r) (kids (trees_at w₃ (top_in w₃))) s)
        → (keeps_in given ≡ false → pos_in spot ≤ end_in a) → Ends given line start w₂ spot a (λ l s. grows given line (left_in spot) l rule pos s)
    whole_ends a c up =
        let b = n.begun in
        let one = first_attempt_lem b.tried b.first in
        let top_next : top_in w₃ ≡ top_in b.seen + 1 = b.made.top ∙ b.made.next in
        record {
          came = first_grown given line b.tried.ready.fit visiting root rule pos none_left b.tried.rooted b.tried.fresh one.came b.short (omega (arith, b.tried.room)) (first_low b.tried b.first b.short)
              (rw (b.made.top, b.made.next) at b.made.added) (rw (made_stays b.made, top_next) at c);
          cells = omega (arith, next_attempt.cells, n.growing.cells, one.fewer b.short, top_next, made_stays b.made);
          ahead = up;
        }

    pub next_stops : end_in q ≡ STOPPED → Ends given line start w₂ spot q (λ l s. grows given line (left_in spot) l rule pos s)
    next_stops e = whole_ends q (out_stop given line n.begun.tried.ready.fit visiting root rule pos none_left n.growing next_attempt.came e) next_attempt.ahead

    pub held_ends : (a : ℕ) → end_in a ≡ end → list_in a ≡ top_in w → (end_in q ≡ FAILED) ⊎ (end_in q ≤ end) → Ends given line start w₂ spot a (λ l s. grows given line (left_in spot) l rule pos s)
    held_ends a e f c = whole_ends a (came_at given line n.begun.tried.ready.fit.short (end_in a) (list_in a) (top_in w₂) (made_in w₂) e f refl refl (out_held given line n.begun.tried.ready.fit visiting root rule pos none_left n.growing next_attempt.came c))
        (λ p. omega (arith, e, n.begun.tried.there, held_up n.begun n.growing p))

    -- A longer match: its tree is made, and the loop goes on.
    module _ (short : end_in q < STOPPED) where
      pub next_low : top_in w₂ + turns_in w₂ < allowance_in given
      next_low = omega (arith, next_attempt.fewer short, next_attempt.came.made_within, next_attempt.came.same.turns, (tried_again n.begun n.growing).ready.top_within)

      module _ {w₄ : List ℕ} (p : Planted w₂ q w₄) where
        pub loop_turns : end < end_in q → GrowingIn given line spot root rule pos w₃ (end_in r) w₄ (end_in q)
        loop_turns lt =
            let top_next : top_in w₄ ≡ top_in w₂ + 1 = p.top ∙ p.next in
            rw (top_next, made_stays p) (turns given line n.begun.tried.ready.fit visiting root rule pos none_left n.growing next_attempt.came lt short (omega (arith, n.begun.tried.room)) next_low (next_attempt.fewer short) (rw (p.top, p.next) at p.added))

        -- Visits were made.
        pub loop_nearer : allowance_in given - made_in w₄ < allowance_in given - made_in w
        loop_nearer = omega (arith, next_attempt.fewer short, made_stays p, next_attempt.came.made_within, next_attempt.came.top_up)
