-- What can be relied on: how a reading ends, and that its answer is the one of document 003's rules. Nothing new is shown here. With the way given and not
-- chosen by is_free the same stands, over read_by, in Sound and Complete (nothing kept), in Kept and Ceiling (answers kept) and in Effort (either).
use mathlib.Core.Path.{◌≡◌, refl, sym, ap, ◌∙◌}
use Prim.Native.Nat.{ℕ, ◌+◌, ◌<◌, ◌≤◌}
use mathlib.Core.Bool.{Bool, true, false}
use mathlib.Core.List.{List}
use lib.ListN.{length}
use native.Mathlib.Omega.{arith}
use Rattle.meaning.specs.Grammar.{rule, Grammar, root_of, Closed, Answer, wrap}
use Rattle.meaning.specs.Rules.{Plain, furthest_of, var, Amount, every_rule, Reads}
use Rattle.meaning.specs.Report.{start, Free, bound}
use Rattle.meaning.specs.Decide.{left_recursive, is_free}
use Rattle.meaning.specs.Reading.{State, made, Run, effort, deep, done, keeps, grows, way_of, read_by, read}
use Rattle.meaning.proofs.Answers.{Same}
use Rattle.meaning.proofs.Runs.{Ends, All, ends_map, ends_both, all_map}
use Rattle.meaning.proofs.Amounts.{Amounts}
use Rattle.meaning.proofs.OnePlain.{one_answer}
use Rattle.meaning.proofs.OneBounded.{one_reading}
use Rattle.meaning.proofs.Sound.{read_sound}
use Rattle.meaning.proofs.Complete.{read_complete, read_short}
use Rattle.meaning.proofs.Kept.{read_plain}
use Rattle.meaning.proofs.Conserve.{plain_reads, same_furthest}
use Rattle.meaning.proofs.Answered as A
use Rattle.meaning.proofs.Reached.{met_root}
use Rattle.meaning.proofs.Needed.{Enough, Spares, reads_turn}
use Rattle.meaning.proofs.Free.{total}
use Rattle.meaning.proofs.Effort.{effort_left}
use Rattle.meaning.proofs.Older.{older_by, as_older, EndsSo, ends_so}
use Rattle.meaning.proofs.Furthest.{furthest_inside}
use Rattle.meaning.proofs.Ceiling.{visits_at_most, never_effort}
use Rattle.meaning.proofs.Decided.{recursive_iff, free_iff}

module _ (g : Grammar) (line : List ℕ) where
  -- The bounded rules answer r by a reading that amounts to so much, and give no other answer or amount: that two readings agree is OneBounded.one_reading.
  pub record Only (live : ℕ → Bool) (r : Answer) (amount : Amount) : Type 0 where
    pub reads : Reads g line live r amount
    pub only : (q : Answer) (n : Amount) → Reads g line live q n → Same r q amount n

  the_only : {live : ℕ → Bool} {r : Answer} {n : Amount} → Reads g line live r n → Only live r n
  the_only {live} h = record { reads = h; only = λ q m k. one_reading g line live h k }

  -- The left-recursive rules are those that need to become live.
  enough : Closed g → Enough g (left_recursive g)
  enough good = record { needed = λ a la reached recursive. (recursive_iff g good a la).1 recursive }

  module _ (good : Closed g) (rules : 0 < length g.roots) where
    -- Document 003's Lemma 2: a closed grammar with a rule has a reading by the bounded rules on every line, and only that, where every rule becomes live.
    pub answered_every : (r : Answer) × (n : Amount) × Only every_rule r n
    answered_every = let h = A.answered g line good rules in (h.0, h.1, the_only h.2)

    -- So it has where the left-recursive rules do.
    pub answered : (r : Answer) × (n : Amount) × Only (left_recursive g) r n
    answered =
        let h = A.answered g line good rules in
        let k = reads_turn g line good (left_recursive g) (enough good) rules h.2 in
        (h.0, k.0, the_only k.1)

    -- 02, W-205: match and tree are the same both ways, and so are the furthest position and how many visits are open at once; with left-recursive rules alone there are
    -- no more visits.
    pub same_reading : {r q : Answer} {n m : Amount} → Reads g line every_rule r n → Reads g line (left_recursive g) q m → (q ≡ r) × Spares m n
    same_reading {n = n} h k =
        let t = reads_turn g line good (left_recursive g) (enough good) rules h in
        let z = one_reading g line (left_recursive g) k t.1 in
        (z.answer, rw z.count t.2)

    -- Where they answer with left-recursive rules alone, they answer so with every rule.
    pub every_reading : {r : Answer} {m : Amount} → Reads g line (left_recursive g) r m → (n : Amount) × Reads g line every_rule r n × Spares m n
    every_reading h = let e = A.answered g line good rules in let z = same_reading e.2 h in (e.1, rw z.0 e.2, z.1)

  module _ (allowance : ℕ) where
    -- 02, W-205: the reading of before, in which every rule becomes live where answers aren't kept.
    abbrev pub read_before : Run
    read_before = read_by g line (way_of (is_free g) every_rule) allowance

    -- What a reading has in common with one that was done with the answer r and the state t: it is done with that answer, got as far, and made no more visits.
    abbrev pub DoneToo : Answer → State → Run → Type 0
    DoneToo r t m = Ends (λ u. ⊥) (λ u. ⊥) (λ q u. (q ≡ r) × (u.furthest ≡ t.furthest) × (made allowance u ≤ made allowance t)) m

    itself : (m : Run) → All (λ r t. DoneToo r t m) m
    itself (effort p t) = tt
    itself (deep p t) = tt
    itself (done r t) = (refl, refl, omega arith)

    module _ (good : Closed g) where
      -- A grammar that isn't free is read with nothing kept, and its left-recursive rules become live; a free one is read with answers kept. is_free says which it is
      -- (Decided.free_iff), left_recursive which rules they are (Decided.recursive_iff).
      pub as_other : ¬ Free g → read g line allowance ≡ read_by g line (grows (left_recursive g)) allowance
      unfolding read
      as_other not_free = by (is_free g) refl
        where
          by : (free : Bool) → is_free g ≡ free → read_by g line (way_of free (left_recursive g)) allowance ≡ read_by g line (grows (left_recursive g)) allowance
          by true e = absurd (not_free ((free_iff g good).0 e))
          by false e = refl

      pub as_free : Free g → read g line allowance ≡ read_by g line keeps allowance
      unfolding read
      as_free free = rw ((free_iff g good).1 free)

      module _ (not_free : ¬ Free g) where
        -- Not free, sound: a reading that is done is the bounded rules' reading with exactly the visits made and the furthest position reached, and no other is.
        pub other_sound : All (λ r t. (n : Amount) × Only (left_recursive g) r n × Amounts allowance n t) (read g line allowance)
        other_sound = rw (as_other not_free)
            (all_map (read_by g line (grows (left_recursive g)) allowance) (read_sound g line (left_recursive g) allowance) (λ r t h. (h.0, the_only h.1, h.2)))

        -- Not free, complete: where the bounded rules answer r in n visits and so many are allowed, it ends with r and what n amounts to, never EFFORT, and DEEP only if
        -- more than 512 visits are open at once.
        pub other_complete : {r : Answer} {n : Amount} → Reads g line (left_recursive g) r n → n.visits ≤ allowance
            → Ends (λ t. ⊥) (λ t. 512 < n.depth) (λ q t. (q ≡ r) × Amounts allowance n t) (read g line allowance)
        other_complete h le = rw (as_other not_free)
            (ends_both (read_by g line (grows (left_recursive g)) allowance) (read_complete g line (left_recursive g) h allowance le) (read_sound g line (left_recursive g) allowance)
            (λ t z w. z) (λ t z w. z) (λ q t z w. (z.0, rw (one_reading g line (left_recursive g) h w.1).count w.2)))

        -- Where fewer are allowed, or more are open at once, it is never done.
        pub other_short : {r : Answer} {n : Amount} → Reads g line (left_recursive g) r n → allowance < n.visits → All (λ q t. ⊥) (read g line allowance)
        other_short h lt = rw (as_other not_free) (read_short g line (left_recursive g) h allowance lt)

        pub other_deep : {r : Answer} {n : Amount} → Reads g line (left_recursive g) r n → 512 < n.depth → All (λ q t. ⊥) (read g line allowance)
        other_deep h lt =
            all_map (read g line allowance) other_sound
            (λ q t w. let v = ap (λ (a : Amount). a.depth) (one_reading g line (left_recursive g) h w.1.reads).count in let z = w.2.depth in omega arith)

      module _ (free : Free g) where
        -- Free, sound: a reading that is done has the plain rules' answer, the only one, and the furthest position of each of their derivations, whatever was kept;
        -- it is the bounded rules' too (read_bounded).
        pub free_sound : All (λ r t. Plain g line (rule 0) 0 r × ((q : Answer) (d : Plain g line (rule 0) 0 q) → (r ≡ q) × (t.furthest ≡ furthest_of d))) (read g line allowance)
        free_sound = rw (as_free free)
            (all_map (read_by g line keeps allowance) (read_plain g line allowance) (λ r t h. (h.0, λ q d. (one_answer g line h.0 d, h.1 ∙ same_furthest g line refl refl h.0 d))))

        module _ (rules : 0 < length g.roots) where
          -- Every line has an answer by the plain rules.
          pub free_answered : (r : Answer) × Plain g line (rule 0) 0 r
          free_answered = let h = total g line good free (root_of g 0) 0 (good.roots 0 rules) (met_root g start) (omega arith) in (wrap 0 0 h.0, var h.1)

          -- Free, visits: at most 2 x N x (L + 1) + 1 for N nodes and L bytes, done or refused.
          pub free_visits : Ends (λ t. made allowance t ≤ bound g line) (λ t. made allowance t ≤ bound g line) (λ r t. made allowance t ≤ bound g line) (read g line allowance)
          free_visits = rw (as_free free) (visits_at_most g line good rules free_answered.1 allowance)

          -- Free, complete: with that allowance it ends with the plain rules' answer or DEEP, never EFFORT.
          pub free_complete : bound g line ≤ allowance → Ends (λ t. ⊥) (λ t. Unit {0}) (λ r t. Plain g line (rule 0) 0 r) (read g line allowance)
          free_complete le = let v = never_effort g line good rules free_answered.1 allowance le in
              rw (as_free free) (ends_both (read_by g line keeps allowance) v (read_plain g line allowance) (λ t h k. h) (λ t h k. tt) (λ r t h k. k.0))

      -- Where the reading of before is not refused, neither is this one, and the answer and the tree are the same.
      pub as_before : 0 < length g.roots → All (λ r t. DoneToo r t (read g line allowance)) read_before
      unfolding read
      as_before rules = by (is_free g)
        where
          by : (free : Bool) → All (λ r t. DoneToo r t (read_by g line (way_of free (left_recursive g)) allowance)) (read_by g line (way_of free every_rule) allowance)
          by true = itself (read_by g line keeps allowance)
          by false =
              all_map (read_by g line (grows every_rule) allowance) (read_sound g line every_rule allowance)
              (λ r t h.
              let k = reads_turn g line good (left_recursive g) (enough good) rules h.1 in
              let hv = h.2.visits in
              let hf = h.2.furthest in
              let hd = h.2.depth in
              let kv = k.2.visits in
              let kf = k.2.furthest in
              let kd = k.2.depth in
              ends_both (read_by g line (grows (left_recursive g)) allowance) (read_complete g line (left_recursive g) k.1 allowance (omega arith)) (read_sound g line (left_recursive g) allowance)
              (λ u z w. z) (λ u z w. omega arith)
              (λ q u z w. (
                z.0,
                (let c = ap (λ (a : Amount). a.furthest) (one_reading g line (left_recursive g) w.1 k.1).count in let d = w.2.furthest in omega arith),
                (let c = ap (λ (a : Amount). a.visits) (one_reading g line (left_recursive g) w.1 k.1).count in let d = w.2.visits in omega arith),
              )))

    -- 02, W-208: the reading of before, in which a repetition's next visit of itself opened one visit more.
    abbrev pub read_nested : Run
    read_nested = older_by g line (way_of (is_free g) (left_recursive g)) allowance

    -- Where that one was done, this one is, with the same answer and in the same state: visits, furthest position and what is kept. Where that one was refused for
    -- effort, so is this one, at the same place; and this one is refused for depth only where that one was.
    pub as_nested : EndsSo read_nested (read g line allowance)
    unfolding read
    as_nested = ends_so (as_older g line (way_of (is_free g) (left_recursive g)) allowance)

    -- Both ways at once: a reading that is done, of whatever grammar, has the bounded rules' answer, and only that, and the furthest position of their reading.
    pub read_bounded : All (λ r t. (n : Amount) × Only (left_recursive g) r n × (t.furthest ≡ n.furthest)) (read g line allowance)
    unfolding read
    read_bounded = by (is_free g)
      where
        by : (free : Bool) → All (λ r t. (n : Amount) × Only (left_recursive g) r n × (t.furthest ≡ n.furthest)) (read_by g line (way_of free (left_recursive g)) allowance)
        by true = all_map (read_by g line keeps allowance) (read_plain g line allowance) (λ r t h. let k = plain_reads g line (left_recursive g) h.0 in (k.0, the_only k.1, h.1 ∙ sym k.2))
        by false = all_map (read_by g line (grows (left_recursive g)) allowance) (read_sound g line (left_recursive g) allowance) (λ r t h. (h.0, the_only h.1, sym h.2.furthest))

    -- However a reading ends, the furthest position is one of the line's, or its end.
    pub read_inside : Ends (λ t. t.furthest ≤ length line) (λ t. t.furthest ≤ length line) (λ r t. t.furthest ≤ length line) (read g line allowance)
    unfolding read
    read_inside = furthest_inside g line (way_of (is_free g) (left_recursive g)) allowance

    -- Refused for effort, a reading has made exactly the visits allowed, with none left; refused for depth or done, it never has made more.
    pub effort_made : Ends (λ t. (t.left ≡ 0) × (made allowance t ≡ allowance)) (λ t. (0 < t.left) × (made allowance t + t.left ≡ allowance))
        (λ r t. made allowance t + t.left ≡ allowance) (read g line allowance)
    unfolding read
    effort_made = ends_map (read_by g line (way_of (is_free g) (left_recursive g)) allowance) (effort_left g line (way_of (is_free g) (left_recursive g)) allowance)
        (λ t h. (h, omega arith)) (λ t h. let z = h.1 in (h.0, omega arith)) (λ r t h. omega arith)
