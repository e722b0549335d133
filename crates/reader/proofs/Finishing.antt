-- What comes back, return by return, however the run ended.
use mathlib.Core.Path.{◌≡◌, refl, sym, ap, ◌∙◌}
use mathlib.Core.Logic.{◌≢◌, ◌⊎◌, inl, inr}
use mathlib.Core.Bool.{Bool, true, false, ◌&&◌}
use mathlib.Core.List.{List}
use Prim.Native.Nat.{ℕ, ◌-◌, ◌/◌, ◌%◌, ◌<◌, ◌≤◌}
use native.Mathlib.Omega.{arith}
use lib.ListN.{length}
use lib.Dec.{ltb}
use borrow.Author.Tests.{lt-ltb, le-ltb}
use Rattle.meaning.specs.Grammar.{Trees, fail, ok}
use Rattle.meaning.specs.Reading.{EFFORT, DEEP, effort, deep, done}
use Rattle.stored.specs.Version.{version_of}
use Rattle.stored.specs.Stored.{records_of, stored_length, with_stored}
use Rattle.cells.specs.Cells.{saturated, trees_at}
use Rattle.cells.specs.Arena.{Arena}
use Rattle.cells.proofs.Frame.{arena_less}
use Rattle.visits.specs.Words.{furthest_in}
use Rattle.visits.specs.Says.{FAILED, STOPPED, Visited}
use denote.Enum.Bare.{sameb}
use Rattle.reader.specs.contracts.Extent.{the_type}
use Rattle.reader.specs.declared.Extent.{Extent}
use Rattle.reader.specs.declared.Extent.TheVariants.{Prefix, Whole}
use Rattle.reader.specs.Answer.{REST, RECORDS, ROOM, longest_line, Numbers, numbers, is_whole, match_outcome, run_outcome, Leaves}
use Rattle.reader.specs.Steps.{Finishable, Finished}

-- The test of finish, by the comparison that its derive gives.
pub asks_whole : (e : Extent) → is_whole e ≡ sameb the_type e Whole
asks_whole Prefix = refl
asks_whole Whole = refl

same_numbers : {c c' p p' m m' v v' r r' f f' : ℕ} → c ≡ c' → p ≡ p' → m ≡ m' → v ≡ v' → r ≡ r' → f ≡ f' → numbers c p m v r f ≡ numbers c' p' m' v' r' f'
same_numbers a b c d e f = rw (a, b, c, d, e, f) refl

-- The end and the list are those of the result.
module _ (whole : Bool) (long : ℕ) (w : List ℕ) (v : Visited) (room : List ℕ) (f : Finishable long w v × (long ≤ longest_line)) (end list : ℕ) (end_is : end ≡ v.end) (list-is : list ≡ v.list) where
  pub by_effort : end ≡ STOPPED → list / 4096 ≡ EFFORT → Finished whole long w v (numbers EFFORT (list % 4096) 0 v.made 0 (furthest_in w)) room room
  unfolding run_outcome
  by_effort e code allowance (effort p s) work h =
      let l = h.list in
      let z = h.small in
      let q = h.left in
      record { returned = same_numbers refl (omega arith) refl (omega arith) refl (sym h.furthest); working = refl; stored = refl }
  by_effort e code allowance (deep p s) work h = let l = h.list in let z = h.small in absurd (omega arith)
  by_effort e code allowance (done fail s) work h = let q = h.at in absurd (omega arith)
  by_effort e code allowance (done (ok y ts) s) work h = let q = h.2.at in let i = h.1 in let short = f.1 in absurd (omega arith)

  pub by_deep : end ≡ STOPPED → list / 4096 ≢ EFFORT → Finished whole long w v (numbers DEEP (list % 4096) 0 v.made 0 (furthest_in w)) room room
  unfolding run_outcome
  by_deep e code allowance (effort p s) work h = let l = h.list in let z = h.small in absurd (omega arith)
  by_deep e code allowance (deep p s) work h =
      let l = h.list in
      let z = h.small in
      let q = h.left in
      record { returned = same_numbers refl (omega arith) refl (omega arith) refl (sym h.furthest); working = refl; stored = refl }
  by_deep e code allowance (done fail s) work h = let q = h.at in absurd (omega arith)
  by_deep e code allowance (done (ok y ts) s) work h = let q = h.2.at in let i = h.1 in let short = f.1 in absurd (omega arith)

  -- A result that neither stopped nor failed is a match, and its list is in order.
  module _ (runs : end ≢ STOPPED) (fits : end ≢ FAILED) where
    pub matched : end < STOPPED
    matched = let m = f.0.end_most in omega arith

    pub arena_of : Arena w list
    arena_of = let m = matched in let l = f.0.list_within (omega arith) in arena_less w v.top list (omega arith) f.0.arena

    -- What comes back of it is by its end, its trees, the visits made and the furthest position.
    pub by_match : {r : Numbers} {new : List ℕ} → ((work : List ℕ) → Leaves (match_outcome whole long end (trees_at w list) v.made (furthest_in w) work room) r work new) → Finished whole long w v r room new
    unfolding run_outcome
    by_match k allowance (effort p s) work h = let m = matched in let q = h.end in absurd (omega arith)
    by_match k allowance (deep p s) work h = let m = matched in let q = h.end in absurd (omega arith)
    by_match k allowance (done fail s) work h = let m = matched in let q = h.at in absurd (omega arith)
    by_match k allowance (done (ok y ts) s) work h =
        let q = h.2.left in
        let e : end ≡ y = end_is ∙ h.2.at in
        let t : trees_at w list ≡ ts = ap (trees_at w) list-is ∙ h.0 in
        let m : v.made ≡ allowance - s.left = omega arith in
        rw (← e, ← t, ← m, h.2.furthest) (k work)

module _ (whole : Bool) (long e : ℕ) (ts : Trees) (visits furthest : ℕ) (work room : List ℕ) where
  pub as_rest : whole ≡ true → e < long → Leaves (match_outcome whole long e ts visits furthest work room) (numbers REST e e visits 0 furthest) work room
  unfolding match_outcome
  as_rest a b = rw (a, lt-ltb e long b) (record { returned = refl; working = refl; stored = refl })

  -- The line's end is reached, or only a prefix is asked for.
  module _ (reaches : (whole ≡ true × long ≤ e) ⊎ (whole ≡ false)) where
    reached : (whole && ltb e long) ≡ false
    reached = elim reaches [ inl h ↦ rw (h.0, le-ltb e long h.1) refl | inr h ↦ rw h refl ]

    pub as_records : 1000 < records_of ts → Leaves (match_outcome whole long e ts visits furthest work room) (numbers RECORDS e e visits 1001 furthest) work room
    unfolding match_outcome
    as_records lt = rw (reached, lt-ltb 1000 (records_of ts) lt) (record { returned = refl; working = refl; stored = refl })

    -- The version is the one that the line's length gives.
    module _ (few : records_of ts ≤ 1000) (version : ℕ) (version-is : version ≡ version_of long) where
      pub as_room : length room < stored_length version (records_of ts) → Leaves (match_outcome whole long e ts visits furthest work room) (numbers ROOM e e visits (records_of ts) furthest) work room
      unfolding match_outcome
      as_room lt = rw (reached, le-ltb 1000 (records_of ts) few, ← version-is, lt-ltb (length room) (stored_length version (records_of ts)) lt) (record { returned = refl; working = refl; stored = refl })

      pub as_read : stored_length version (records_of ts) ≤ length room → Leaves (match_outcome whole long e ts visits furthest work room) (numbers 0 0 e visits (records_of ts) furthest) work (with_stored room version ts)
      unfolding match_outcome
      as_read le = rw (reached, le-ltb 1000 (records_of ts) few, ← version-is, le-ltb (length room) (stored_length version (records_of ts)) le) (record { returned = refl; working = refl; stored = refl })

-- A count that is at most 1,000 is the true one; one above says so of the true one.
pub true_count : (n m : ℕ) → n ≡ saturated m → n ≤ 1000 → n ≡ m
true_count n m e h = omega arith

pub over_count : (n m : ℕ) → n ≡ saturated m → 1000 < n → 1000 < m
over_count n m e h = omega arith
