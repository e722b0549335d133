-- What the words stand for is not changed by a step that leaves them the same where it counts.
use mathlib.Core.Path.{◌≡◌, refl, sym, ap, ◌∙◌}
use mathlib.Core.Bool.{true}
use mathlib.Core.List.{List, [], ◌∷◌}
use Prim.Native.Nat.{ℕ, ◌+◌, ◌*◌, ◌<◌, ◌≤◌, max}
use native.Mathlib.Nat.{mul-le-mul_right, mul-le-mul}
use native.Mathlib.Omega.{arith}
use lib.ListN.{length, get_or, set, length-set}
use lib.Seq.{get_or-set_same, get_or-set_other}
use Rattle.meaning.specs.Reading.{State, asked}
use Rattle.meaning.specs.Grammar.{Trees, Answer, Note}
use Rattle.cells.specs.Cells.{records_from, trees_at}
use Rattle.cells.proofs.Frame.{trees_same, arena_same}
use Rattle.layout.proofs.Laying.{well_laid}
use Rattle.visits.specs.Given.{Given, longest_line, nodes_in, kept_each_in, keeps_in, base_in, allowance_in, pairs_in, Fit}
use Rattle.visits.specs.Words.{HeldAs, Entry, Lives, turns_in, top_in, made_in, furthest_in, reached_in, place_in, kept_as, kept_at, Stands, Words, Same, Added}

-- What the live uses and the lists of trees stand for depends on these words alone.
pub record Alike (old new : List ℕ) (live top : ℕ) : Type 0 where
  pub uses : (i : ℕ) → i < live * 3 → get_or new i 0 ≡ get_or old i 0
  pub cells : (i : ℕ) → records_from ≤ i → i < 2048 + 4 * top → get_or new i 0 ≡ get_or old i 0

module _ (given : Given) (line : List ℕ) where
  same_alike : {old new : List ℕ} {live top : ℕ} → Same given line old new live top → Alike old new live top
  same_alike s = record { uses = s.uses; cells = s.cells }

  pub same_none : (w : List ℕ) (live top : ℕ) → Same given line w w live top
  same_none w live top = record { uses = λ i h. refl; cells = λ i a b. refl; turns = refl; waiting = λ i low a b. refl; past = λ i h. refl }

  -- One step after another, of which the second leaves at least as much.
  pub same_then : {old mid new : List ℕ} {live top live' top' : ℕ} → Same given line old mid live top → Same given line mid new live' top' → live ≤ live' → top ≤ top'
      → Same given line old new live top
  same_then a b l t = record {
    uses = λ i h. b.uses i (omega arith) ∙ a.uses i h;
    cells = λ i p q. b.cells i p (omega arith) ∙ a.cells i p q;
    turns = b.turns ∙ a.turns;
    waiting = λ i low p q. b.waiting i low (omega (arith, a.turns)) q ∙ a.waiting i low p q;
    past = λ i h. b.past i h ∙ a.past i h;
  }

  module _ {old new : List ℕ} {live top : ℕ} (alike : Alike old new live top) where
    pub alike_trees : (list : ℕ) → list ≤ top → trees_at new list ≡ trees_at old list
    alike_trees list h = trees_same old new top list alike.cells h

    held_same : (end list end' list' : ℕ) (ts us : Trees) (a x : ℕ) (r : Answer) → end' ≡ end → list' ≡ list → us ≡ ts → HeldAs end list ts a x r → HeldAs end' list' us a x r
    held_same end list end' list' ts us a x r e f g h = rw (e, f, g) h

    entry_same : (i : ℕ) (n : Note) → i < live → get_or old (i * 3 + 2) 0 ≤ top → Entry old i n → Entry new i n
    entry_same i n lt le h =
        let list : get_or new (i * 3 + 2) 0 ≡ get_or old (i * 3 + 2) 0 = alike.uses (i * 3 + 2) (omega arith) in
        record {
          key = alike.uses (i * 3) (omega arith) ∙ h.key;
          small = h.small;
          held = held_same _ _ _ _ _ _ n.number n.position n.answer (alike.uses (i * 3 + 1) (omega arith)) list (rw list (alike_trees (get_or old (i * 3 + 2) 0) le)) h.held;
        }

    alike_lives : (k : ℕ) (l : List Note) → k ≤ live → ((i : ℕ) → i < live → get_or old (i * 3 + 2) 0 ≤ top) → Lives old k l → Lives new k l
    alike_lives k [] le h v = v
    alike_lives k (n ∷ l) le h v =
        let e : k ≡ v.0 + 1 = v.1 in
        (v.0, v.1, entry_same v.0 n (omega arith) (h v.0 (omega arith)) v.2, v.3, alike_lives v.0 l (omega arith) h v.4)

  module _ {old new : List ℕ} {live top : ℕ} (same : Same given line old new live top) where
    pub same_trees : (list : ℕ) → list ≤ top → trees_at new list ≡ trees_at old list
    same_trees = alike_trees (same_alike same)

    pub lives_same : (k : ℕ) (l : List Note) → k ≤ live → ((i : ℕ) → i < live → get_or old (i * 3 + 2) 0 ≤ top) → Lives old k l → Lives new k l
    lives_same = alike_lives (same_alike same)

  -- A pair's number is below the number of pairs.
  pub pair_in : Fit given line → keeps_in given ≡ true → (i x : ℕ) → i < nodes_in given → x ≤ length line → x * kept_each_in given + i < pairs_in given line
  pair_in fit free i x li lx =
      let e = fit.each free in
      let z : (x + 1) * nodes_in given ≤ (length line + 1) * nodes_in given = mul-le-mul_right (nodes_in given) (omega arith) in
      rw e (omega arith)

  pub pairs_few : Fit given line → pairs_in given line ≤ 512 * (longest_line + 1)
  pairs_few fit = let l : length line + 1 ≤ longest_line + 1 = let z = fit.short in omega arith in mul-le-mul (well_laid given.table fit.laid).few_nodes l

  kept_as_lem : (v v' : ℕ) (ts us : Trees) → v' ≡ v → us ≡ ts → kept_as v' us ≡ kept_as v ts
  kept_as_lem v v' ts us e f = rw (e, f)

  module _ {old new : List ℕ} {live top : ℕ} (alike : Alike old new live top) (kept : (i : ℕ) → base_in given ≤ i → get_or new i 0 ≡ get_or old i 0) (words : Words given line old live top) where
    kept_same : keeps_in given ≡ true → (i x : ℕ) → i < nodes_in given → x ≤ length line → kept_at new (place_in given i x) ≡ kept_at old (place_in given i x)
    kept_same free i x li lx =
        let list : get_or new (place_in given i x + 1) 0 ≡ get_or old (place_in given i x + 1) 0 = kept _ (omega arith) in
        let le : get_or old (place_in given i x + 1) 0 ≤ top = words.kept_lists free i x li lx in
        kept_as_lem _ _ _ _ (kept _ (omega arith)) (rw list (alike_trees alike (get_or old (place_in given i x + 1) 0) le))

    -- A step that leaves the kept answers too, with the furthest position that the words now hold.
    stands_far : {made : ℕ} {l : List Note} {s : State} (far : ℕ) → far ≡ furthest_in new → Stands given line old live made l s
        → Stands given line new live made l (record { left = s.left; kept = s.kept; furthest = far })
    stands_far {l = l} far e h = record {
      lives = alike_lives alike live l (omega arith) words.held_lists h.lives;
      left = h.left;
      furthest = e;
      kept = λ free i x li lx. h.kept free i x li lx ∙ sym (kept_same free i x li lx);
    }

    -- A step that leaves the furthest position too.
    pub alike_stands : furthest_in new ≡ furthest_in old → {made : ℕ} {l : List Note} {s : State} → Stands given line old live made l s → Stands given line new live made l s
    alike_stands far {s = s} h = stands_far s.furthest (h.furthest ∙ sym far) h

  pub stands_same : {old new : List ℕ} {live top : ℕ} → Same given line old new live top → ((i : ℕ) → base_in given ≤ i → get_or new i 0 ≡ get_or old i 0) → Words given line old live top
      → furthest_in new ≡ furthest_in old → {made : ℕ} {l : List Note} {s : State} → Stands given line old live made l s → Stands given line new live made l s
  stands_same same kept words far h = alike_stands (same_alike same) kept words far h

  made_kept : {old new : List ℕ} {top list top' : ℕ} {ts : Trees} → Fit given line → top < allowance_in given → Added old new top list top' ts → (i : ℕ) → base_in given ≤ i → get_or new i 0 ≡ get_or old i 0
  made_kept fit low made i h = let one = made.one in made.above i (omega arith)

  -- A list was made.
  module _ {old new : List ℕ} {live top list top' : ℕ} {ts : Trees} (fit : Fit given line) (few : live * 3 ≤ 2041) (low : top + turns_in old < allowance_in given) (made : Added old new top list top' ts) where
    pub made_same : Same given line old new live top
    made_same =
        let one = made.one in
        record {
          uses = λ i h. made.below i (omega arith) (omega arith);
          cells = λ i a b. made.below i b (omega arith);
          turns = made.below 2041 (omega arith) (omega arith);
          waiting = λ i from a b. made.above i (omega arith);
          past = λ i h. made.above i (omega arith);
        }

    pub made_words : Words given line old live top → Words given line new live top'
    made_words h =
        let one = made.one in
        let rise = made.rise in
        record {
          room = let l = made.long in let z = h.room in omega arith;
          arena = made.arena;
          held_lists = λ i lt. omega (arith, made_same.uses (i * 3 + 2) (omega arith), h.held_lists i lt);
          held_ends = λ i lt. omega (arith, made_same.uses (i * 3 + 1) (omega arith), h.held_ends i lt);
          kept_lists = λ free j y lj ly. omega (arith, made_kept fit (omega arith) made (place_in given j y + 1) (omega arith), h.kept_lists free j y lj ly);
          kept_ends = λ free j y lj ly. omega (arith, made_kept fit (omega arith) made (place_in given j y) (omega arith), h.kept_ends free j y lj ly);
        }

    pub made_stands : Words given line old live top → {visits : ℕ} {l : List Note} {s : State} → Stands given line old live visits l s → Stands given line new live visits l s
    made_stands words h = stands_same made_same (made_kept fit (omega arith) made) words (made.below 2044 (omega arith) (omega arith)) h

  -- A number was written in word k, one of those between the live uses and the cells.
  module _ (k : ℕ) (from : 2041 ≤ k) (to : k ≤ 2044) (w : List ℕ) (n : ℕ) where
    pub written_kept : (i : ℕ) → base_in given ≤ i → get_or (set w k n) i 0 ≡ get_or w i 0
    written_kept i h = get_or-set_other w k i n 0 (omega arith)

    pub written_alike : {live top : ℕ} → live * 3 ≤ 2041 → Alike w (set w k n) live top
    written_alike few = record { uses = λ i h. get_or-set_other w k i n 0 (omega arith); cells = λ i a b. get_or-set_other w k i n 0 (omega arith) }

    module _ {live top : ℕ} (few : live * 3 ≤ 2041) where
      pub written_words : Words given line w live top → Words given line (set w k n) live top
      written_words words =
          let alike : Alike w (set w k n) live top = written_alike few in
          record {
            room = omega (arith, words.room, length-set w k n);
            arena = arena_same w (set w k n) top alike.cells (length-set w k n) words.arena;
            held_lists = λ i lt. omega (arith, alike.uses (i * 3 + 2) (omega arith), words.held_lists i lt);
            held_ends = λ i lt. omega (arith, alike.uses (i * 3 + 1) (omega arith), words.held_ends i lt);
            kept_lists = λ free j y lj ly. omega (arith, written_kept (place_in given j y + 1) (omega arith), words.kept_lists free j y lj ly);
            kept_ends = λ free j y lj ly. omega (arith, written_kept (place_in given j y) (omega arith), words.kept_ends free j y lj ly);
          }

  -- That of the visits made, or that of the furthest position.
  module _ (k : ℕ) (from : 2043 ≤ k) (to : k ≤ 2044) (w : List ℕ) (n : ℕ) where
    pub written_top : top_in (set w k n) ≡ top_in w
    written_top = get_or-set_other w k 2042 n 0 (omega arith)

    pub written_same : {live top : ℕ} → live * 3 ≤ 2041 → Same given line w (set w k n) live top
    written_same few = record {
      uses = λ i h. get_or-set_other w k i n 0 (omega arith);
      cells = λ i a b. get_or-set_other w k i n 0 (omega arith);
      turns = get_or-set_other w k 2041 n 0 (omega arith);
      waiting = λ i low a b. get_or-set_other w k i n 0 (omega arith);
      past = λ i h. get_or-set_other w k i n 0 (omega arith);
    }

  pub count_made : (w : List ℕ) (n : ℕ) → 2048 ≤ length w → made_in (set w 2043 n) ≡ n
  count_made w n h = get_or-set_same w 2043 n 0 (omega arith)

  pub reach_made : (w : List ℕ) (x : ℕ) → made_in (reached_in w x) ≡ made_in w
  reach_made w x = get_or-set_other w 2044 2043 (max (furthest_in w) x) 0 (omega arith)

  module _ {w : List ℕ} {live top made : ℕ} {l : List Note} {s : State} (few : live * 3 ≤ 2041) (words : Words given line w live top) (h : Stands given line w live made l s) where
    -- The number of visits made was written.
    pub count_stands : (n : ℕ) → Stands given line (set w 2043 n) live made l s
    count_stands n =
        stands_same (written_same 2043 (omega arith) (omega arith) w n few) (written_kept 2043 (omega arith) (omega arith) w n) words (get_or-set_other w 2043 2044 n 0 (omega arith)) h

    -- A range was visited at x.
    pub reach_stands : (x : ℕ) → Stands given line (reached_in w x) live made l (asked x s)
    reach_stands x =
        let far : ℕ = max (furthest_in w) x in
        let room = words.room in
        stands_far (written_alike 2044 (omega arith) (omega arith) w far few) (written_kept 2044 (omega arith) (omega arith) w far) words (max s.furthest x)
        (ap (λ n. max n x) h.furthest ∙ sym (get_or-set_same w 2044 far 0 (omega arith))) h
