-- The visits start: the words stand for nothing live and nothing kept, and what the use of rule 0 says is the reading.
use mathlib.Core.Path.{◌≡◌, refl, sym, subst, ap, ap₂, ◌∙◌}
use mathlib.Core.Bool.{Bool, true, false, cond}
use mathlib.Core.List.{List, [], ◌∷◌}
use Prim.Native.Nat.{ℕ, ◌+◌, ◌<◌, ◌≤◌}
use native.Mathlib.Omega.{arith}
use lib.ListN.{length, get_or}
use lib.Seq.{sets, length-sets}
use lib.Dec.{ltb}
use borrow.Author.Tests.{lt-ltb, le-ltb}
use Rattle.meaning.specs.Grammar.{fail, ok, look}
use Rattle.meaning.specs.Reading.{starting, Run, effort, deep, done, way_of, visit, use_rule, read_by, read}
use Rattle.meaning.specs.Decide.{left_recursive, is_free}
use Rattle.meaning.proofs.Answers.{clash}
use Rattle.meaning.proofs.Sets.{sets_apart, sets_at}
use Rattle.layout.specs.Table.{nodes_of, rules_of, node_at, grammar_of}
use Rattle.layout.proofs.Laying.{well_laid, closed}
use Rattle.sheet.proofs.Accepting.{laid}
use Rattle.report.proofs.Computed.{recursive_bits}
use Rattle.cells.specs.Arena.{Arena}
use Rattle.cells.proofs.Frame.{arena_below}
use Rattle.visits.specs.Given.{Given, lent, nodes_in, root_in, keeps_in, way_in, base_in, room_in, Fit}
use Rattle.visits.specs.Words.{turns_in, top_in, made_in, furthest_in, place_in, kept_as, kept_at, Stands, Words}
use Rattle.visits.specs.Says.{Visited, Starts, Ends, Says, Came, after_visit, uses}
use Rattle.visits.proofs.Frame.{pair_in}
use Rattle.visits.proofs.Ready.{root_within}
use Rattle.reader.specs.Answer.{work_needed}
use Rattle.reader.specs.Steps.{Startable, Tells, Visiting}

pub some_rule : {table line w : List ℕ} {allowance : ℕ} {free : Bool} {mask : ℕ} → Startable table line w allowance free mask → 0 < rules_of table
some_rule {table} s = (well_laid table (laid table s.fitting.accepted)).some_rule

-- From the words w₀, with no turn waiting, no cell in use, no visit made and no range visited.
module _ (table line w₀ w : List ℕ) (allowance each at mask : ℕ) (free : Bool) (s : Startable table line w₀ allowance free mask) (ee : each ≡ cond free (nodes_of table) 0) (ea : at ≡ node_at (rules_of table) 0) (ew : w ≡ sets w₀ 2041 (0 ∷ 0 ∷ 0 ∷ 0 ∷ [])) where
  abbrev given : Given
  given = lent table (allowance ∷ each ∷ at ∷ mask ∷ [])

  long : length w ≡ length w₀
  long = ap length ew ∙ length-sets w₀ 2041 (0 ∷ 0 ∷ 0 ∷ 0 ∷ [])

  -- Each of the four words is zero, by its place among them.
  zeroed : (k : ℕ) → k < 4 → get_or w (2041 + k) 0 ≡ get_or (0 ∷ 0 ∷ 0 ∷ 0 ∷ []) k 0
  zeroed k h = let l = s.arena.long in ap (λ v. get_or v (2041 + k) 0) ew ∙ sets_at (0 ∷ 0 ∷ 0 ∷ 0 ∷ []) w₀ 2041 k h (omega arith)

  no_turn : turns_in w ≡ 0
  no_turn = zeroed 0 (omega arith)

  no_cell : top_in w ≡ 0
  no_cell = zeroed 1 (omega arith)

  no_visit : made_in w ≡ 0
  no_visit = zeroed 2 (omega arith)

  no_range : furthest_in w ≡ 0
  no_range = zeroed 3 (omega arith)

  above : (i : ℕ) → 2045 ≤ i → get_or w i 0 ≡ get_or w₀ i 0
  above i h = ap (λ l. get_or l i 0) ew ∙ sets_apart (0 ∷ 0 ∷ 0 ∷ 0 ∷ []) w₀ 2041 i (λ l. omega arith)

  -- Answers are kept on a free sheet, and there is a node.
  by_free : (b : Bool) → each ≡ cond b (nodes_of table) 0 → (ltb 0 each ≡ b) × (b ≡ true → each ≡ nodes_of table)
  by_free true e = let n = (well_laid table (laid table s.fitting.accepted)).some_node in (lt-ltb 0 each (omega arith), λ q. e)
  by_free false e = (le-ltb 0 each (omega arith), λ q. clash q refl)

  ef : keeps_in given ≡ free
  ef = (by_free free ee).0

  fit : Fit given line
  fit = record {
    laid = laid _ s.fitting.accepted;
    first = ea;
    each = λ k. (by_free free ee).1 (sym ef ∙ k);
    short = s.fitting.short;
    allowance = s.fitting.allowed;
  }

  zero_at : keeps_in given ≡ true → (i : ℕ) → base_in given ≤ i → i < room_in given line → get_or w i 0 ≡ 0
  zero_at k i a b = above i (omega arith) ∙ s.kept (sym ef ∙ k) i a b

  words : Words given line w 0 0
  words =
      let r = s.fitting.room in
      let l = long in
      record {
        room = omega arith;
        arena = subst (λ l. Arena l 0) (sym ew) (arena_below w₀ 0 2041 (0 ∷ 0 ∷ 0 ∷ 0 ∷ []) (omega arith) s.arena);
        held_lists = λ i h. absurd (omega arith);
        held_ends = λ i h. absurd (omega arith);
        kept_lists = λ k i x li lx. let z = zero_at k (place_in given i x + 1) (omega arith) (omega (arith, pair_in given line fit k i x li lx)) in omega arith;
        kept_ends = λ k i x li lx. let z = zero_at k (place_in given i x) (omega arith) (omega (arith, pair_in given line fit k i x li lx)) in omega arith;
      }

  pub ready : Starts given line w 512 (root_in given 0) 0
  ready = rw (no_visit, no_cell) (record {
    fit = fit;
    words = words;
    node_in = root_within given line fit 0 (some_rule s);
    pos_within = omega arith;
    open_in = omega arith;
    made_within = omega arith;
    top_within = omega (arith, no_turn);
    order = λ e. record { rising = λ i j a b. absurd (omega arith); newest = λ i h. absurd (omega arith); ahead = λ i h. absurd (omega arith) };
  })

  none_kept : keeps_in given ≡ true → (i x : ℕ) → i < nodes_in given → x ≤ length line → look [] i x ≡ kept_at w (place_in given i x)
  unfolding look kept_as
  none_kept k i x li lx =
      let z : get_or w (place_in given i x) 0 ≡ 0 = zero_at k _ (omega arith) (let q = pair_in given line fit k i x li lx in omega arith) in
      rw z refl

  stands : Stands given line w 0 0 [] (starting allowance)
  stands = record { lives = refl; left = omega arith; furthest = sym no_range; kept = none_kept }

  -- The use of rule 0 is 01's reading.
  run_is : uses given line 512 [] 0 0 (starting allowance) ≡ read (grammar_of table) line allowance
  unfolding read read_by
  run_is =
      let g = grammar_of table in
      let way : way_in given ≡ way_of (is_free g) (left_recursive g) = ap₂ way_of (ef ∙ s.free_is) (recursive_bits g (closed table (laid table s.fitting.accepted)) s.left_rules) in
      ap (λ b. use_rule g line b (visit g line b 512) [] 0 0 (starting allowance)) way

  told : (w' : List ℕ) (v : Visited) (m : Run) → Says given line w' 0 [] v m → Tells allowance (length line) w' v m
  told w' v (effort q t) h = record { end = h.end; list = h.list; small = h.small; left = h.left; furthest = h.furthest }
  told w' v (deep q t) h = record { end = h.end; list = h.list; small = h.small; left = h.left; furthest = h.furthest }
  told w' v (done fail t) h = record { at = h.end; left = h.stands.left; furthest = h.stands.furthest }
  told w' v (done (ok e ts) t) h = (h.0, h.1.inside, record { at = h.1.end; left = h.1.stands.left; furthest = h.1.stands.furthest })

  module _ (w' : List ℕ) (r : ℕ) (e : Ends given line w w' 512 r (λ l t. uses given line 512 l 0 0 t)) where
    came : Came given line w w' 0 0 0 (after_visit r w') (λ l t. uses given line 512 l 0 0 t)
    came = (rw (no_visit, no_cell) at e).came

    pub tells : Tells allowance (length line) w' (after_visit r w') (read (grammar_of table) line allowance)
    tells = subst (Tells allowance (length line) w' (after_visit r w')) run_is (told w' (after_visit r w') (uses given line 512 [] 0 0 (starting allowance)) (came.says [] (starting allowance) stands))

    pub visiting : Visiting allowance (length line) (work_needed allowance (nodes_of table) (length line)) w₀ w' (after_visit r w')
    visiting = record {
      arena = came.words.arena;
      end_most = came.end_most;
      end_within = came.end_within;
      list_within = came.list_within;
      made_within = came.made_within;
      past = λ i h. came.same.past i h ∙ above i (omega arith);
    }
