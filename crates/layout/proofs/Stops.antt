-- What a search over the nodes stops at: a fault or a repetition, and nothing else.
use mathlib.Core.Path.{◌≡◌, refl, sym, ap, ◌∙◌}
use mathlib.Core.Logic.{◌≢◌}
use mathlib.Core.Bool.{Bool, true, false, ◌&&◌, cond, and-true, and-false, and-eq-true_iff, false≢true}
use mathlib.Core.List.{List}
use Prim.Native.Nat.{ℕ, zero, suc, ◌+◌, ◌-◌, ◌≤◌, ◌<◌}
use native.Mathlib.Numerals.{add-one}
use native.Mathlib.Omega.{arith}
use borrow.Author.Tests.{lt-leb, le-leb, eqb-true, eqb-false, eq-eqb, ne_eqb}
use lib.Dec.{leb, eqb}
use Rattle.std.specs.Prelude.{Result, Ok, Err}
use Rattle.std.specs.Result.{result_unwrap_or}
use Rattle.meaning.proofs.Choose.{by_test}
use Rattle.layout.specs.declared.Refusal.{Refusal}
use Rattle.layout.specs.declared.Refusal.TheVariants.{Short, Version, Count, Length, Root, Kind, Field}
use Rattle.layout.specs.Table.{byte_at, pair_at, nodes_of, rules_of, node_at, kind_of, field_of, a_of, b_of}
use Rattle.layout.specs.Layout.{Verdict, verdict_of, code_of, READ, SHORT, VERSION, COUNT, LENGTH, ROOT, KIND, FIELD, verdict, ◌or_else◌, first_fault, root_fault, fields_fit, fault_of, node_fault, layout_of, Laid}
use Rattle.layout.specs.Survey.{Survey, REPETITION, stop_of, node_stop, stops, StopsAt, NodesSaid, survey_of, is_repetition, FirstOf, Surveyed}
use Rattle.layout.proofs.Laws.{first_begun, first_pass}
use Rattle.layout.proofs.Cases.{search_cases}
use Rattle.layout.proofs.First.{one_first}

-- A refusal has a code other than READ.
pub refuses : (e : Refusal) → code_of e ≢ READ
refuses Short z = absurd (omega arith)
refuses Version z = absurd (omega arith)
refuses Count z = absurd (omega arith)
refuses Length z = absurd (omega arith)
refuses (Root a) z = absurd (omega arith)
refuses (Kind i) z = absurd (omega arith)
refuses (Field i) z = absurd (omega arith)

-- A node that fits has no fault, and no fault is REPETITION.
no_fault : (r i kind a b : ℕ) → kind ≡ 6 → fields_fit r i kind a b ≡ true → fault_of r i kind a b ≡ READ
unfolding fault_of
no_fault r i kind a b k e = rw (e, k)

against : (r i kind a b : ℕ) → kind ≡ 6 → fields_fit r i kind a b ≡ false → fault_of r i kind a b ≡ FIELD
unfolding fault_of
against r i kind a b k e = rw (e, k)

fault_small : (r i kind a b : ℕ) → fault_of r i kind a b ≤ FIELD
unfolding fault_of
fault_small r i kind a b =
    by_test (λ x. x ≤ FIELD) (leb kind 6) (cond (fields_fit r i kind a b) READ FIELD) KIND
    (λ q. by_test (λ x. x ≤ FIELD) (fields_fit r i kind a b) READ FIELD (λ p. omega arith) (λ p. omega arith)) (λ q. omega arith)

-- At a kind above 01's it stops with KIND, whatever the fields.
pub stop_above : (r i kind a b : ℕ) → 6 < kind → KIND ≡ stop_of r i kind a b
unfolding stop_of fault_of
stop_above r i kind a b h = rw (ne_eqb kind 6 (λ (z : kind ≡ 6). omega arith), lt-leb kind 6 h)

-- At a kind of 01's, by its fields.
pub stop_against : (r i kind a b : ℕ) → kind ≤ 6 → fields_fit r i kind a b ≡ false → stop_of r i kind a b ≡ FIELD
unfolding stop_of fault_of
stop_against r i kind a b h e = rw (e, le-leb kind 6 h, and-false)

pub stop_fitting : (r i kind a b : ℕ) → kind ≤ 6 → fields_fit r i kind a b ≡ true → stop_of r i kind a b ≡ cond (eqb kind 6) REPETITION READ
unfolding stop_of fault_of
stop_fitting r i kind a b h e = rw (e, le-leb kind 6 h, and-true)

module _ (r i kind a b : ℕ) where
  -- What is wrong with a node, by what a search stops at.
  fault_of_stop : cond (eqb (stop_of r i kind a b) REPETITION) READ (stop_of r i kind a b) ≡ fault_of r i kind a b
  unfolding stop_of
  fault_of_stop =
      by_test (λ s. cond (eqb s REPETITION) READ s ≡ fault_of r i kind a b) (eqb kind 6 && fields_fit r i kind a b) _ _
      (λ q. let both = (and-eq-true_iff (eqb kind 6) (fields_fit r i kind a b)).0 q in sym (no_fault r i kind a b (eqb-true kind 6 both.0) both.1))
      (λ q. let small = fault_small r i kind a b in rw (ne_eqb (fault_of r i kind a b) REPETITION (λ (z : fault_of r i kind a b ≡ REPETITION). omega arith)))

  -- A fine node that a search does not stop at is no repetition.
  goes_on : stop_of r i kind a b ≡ READ → kind ≢ 6
  unfolding stop_of
  goes_on =
      by_test (λ s. s ≡ READ → kind ≢ 6) (eqb kind 6 && fields_fit r i kind a b) _ _ (λ q (m : REPETITION ≡ READ). absurd (omega arith)) (λ q m k. by q m k (fields_fit r i kind a b) refl)
    where
      by : (eqb kind 6 && fields_fit r i kind a b) ≡ false → fault_of r i kind a b ≡ READ → kind ≡ 6 → (f : Bool) → fields_fit r i kind a b ≡ f → ⊥
      by q m k true p = false≢true (sym q ∙ (and-eq-true_iff (eqb kind 6) (fields_fit r i kind a b)).1 (eq-eqb kind 6 k, p))
      by q m k false p = let z : READ ≡ FIELD = sym m ∙ against r i kind a b k p in omega arith

  -- One that it stops at is one.
  stops_at : stop_of r i kind a b ≢ READ → fault_of r i kind a b ≡ READ → kind ≡ 6
  unfolding stop_of
  stops_at n e =
      by_test (λ s. s ≢ READ → kind ≡ 6) (eqb kind 6 && fields_fit r i kind a b) _ _ (λ q m. eqb-true kind 6 ((and-eq-true_iff (eqb kind 6) (fields_fit r i kind a b)).0 q).0) (λ q m. absurd (m e)) n

module _ (t : List ℕ) where
  pub node_fault_lem : (i stop : ℕ) → stop ≡ node_stop t i → cond (eqb stop REPETITION) READ stop ≡ node_fault t i
  unfolding node_stop node_fault
  node_fault_lem i stop e = rw e (fault_of_stop (rules_of t) i (kind_of t i) (a_of t i) (b_of t i))

  -- What a search stops at, by the numbers that the code reads.
  pub stop_read : (r i a b : ℕ) → r ≡ rules_of t → a ≡ pair_at t (node_at r i + 1) → b ≡ pair_at t (node_at r i + 3) → stop_of r i (byte_at t (node_at r i)) a b ≡ node_stop t i
  unfolding node_stop kind_of field_of
  stop_read r i a b er ea eb = rw (ea, eb, er) refl

  passed : (i : ℕ) → stops t i ≡ false → node_stop t i ≡ READ
  unfolding stops
  passed i e = by (eqb (node_stop t i) READ) refl
    where
      by : (b : Bool) → eqb (node_stop t i) READ ≡ b → node_stop t i ≡ READ
      by true q = eqb-true _ _ q
      by false q = absurd (false≢true (sym (rw q at e)))

  stopped : (i : ℕ) → stops t i ≡ true → node_stop t i ≢ READ
  unfolding stops
  stopped i e r = false≢true (rw (eq-eqb _ _ r) at e)

  fine : (i : ℕ) → stops t i ≡ false → node_fault t i ≡ READ
  fine i e = sym (node_fault_lem i READ (sym (passed i e)))

  no_repetition : (i : ℕ) → node_stop t i ≡ READ → kind_of t i ≢ 6
  unfolding node_stop
  no_repetition i = goes_on (rules_of t) i (kind_of t i) (a_of t i) (b_of t i)

  repetition_there : (i : ℕ) → node_stop t i ≢ READ → node_fault t i ≡ READ → kind_of t i ≡ 6
  unfolding node_stop node_fault
  repetition_there i = stops_at (rules_of t) i (kind_of t i) (a_of t i) (b_of t i)

  -- ---- What the code says of one node.
  pub refused_there : (i : ℕ) (e : Refusal) → StopsAt t i (Err e) → node_fault t i ≡ code_of e
  refused_there i e h = sym (node_fault_lem i (code_of e) (sym h.0)) ∙ by e
    where
      by : (e : Refusal) → cond (eqb (code_of e) REPETITION) READ (code_of e) ≡ code_of e
      by Short = refl
      by Version = refl
      by Count = refl
      by Length = refl
      by (Root a) = refl
      by (Kind j) = refl
      by (Field j) = refl

  pub fine_there : (i : ℕ) (repetition : Bool) → StopsAt t i (Ok repetition) → node_fault t i ≡ READ
  fine_there i true h = sym (node_fault_lem i REPETITION (sym h))
  fine_there i false h = sym (node_fault_lem i READ (sym h))

  pub stops_said : (i : ℕ) (said : Result Bool Refusal) → StopsAt t i said → result_unwrap_or said true ≡ stops t i
  unfolding stops
  stops_said i (Ok true) h = rw h refl
  stops_said i (Ok false) h = rw h refl
  stops_said i (Err e) h = rw (ne_eqb _ _ (λ z. refuses e (sym h.0 ∙ z))) refl

  -- A search for the first fault may begin where a search stops.
  pub skipped : (f : ℕ → ℕ) (n p : ℕ) → p ≤ n → ((i : ℕ) → i < p → f i ≡ READ) → first_fault f 0 n ≡ first_fault f p (n - p)
  skipped f n zero h none = first_begun f n
  skipped f n (suc p) h none =
      skipped f n p (omega arith) (λ i l. none i (omega arith)) ∙ rw add-one at (first_pass f n p (omega arith) (none p (omega arith)))

  module _ (n p : ℕ) (s : FirstOf (stops t) 0 n p) where
    pub from_there : first_fault (node_fault t) 0 n ≡ first_fault (node_fault t) p (n - p)
    from_there = skipped (node_fault t) n p s.most (λ i l. fine i (s.before i (omega arith) l))

    all_fine : (first_fault (node_fault t) p (n - p)).code ≡ READ → (first_fault (node_fault t) p (n - p) ≡ verdict READ 0) × ((j : ℕ) → p ≤ j → j < n → node_fault t j ≡ READ)
    all_fine =
        let most = s.most in
        search_cases (λ v. v.code ≡ READ → (v ≡ verdict READ 0) × ((j : ℕ) → p ≤ j → j < n → node_fault t j ≡ READ)) (node_fault t) p (n - p)
        (λ j h l before z e. absurd (z e)) (λ none e. (refl, λ j h l. none j h (omega arith)))

    -- Where no node has a fault, it stopped at the first repetition.
    first_repetition : ((j : ℕ) → p ≤ j → j < n → node_fault t j ≡ READ) → FirstOf (is_repetition t) 0 n p
    first_repetition none = record {
      least = omega arith;
      most = s.most;
      before = λ i g l. ne_eqb _ _ (no_repetition i (passed i (s.before i g l)));
      there = λ l. eq-eqb _ _ (repetition_there p (stopped p (s.there l)) (none p (omega arith) l));
    }

  -- ---- What the survey says.
  pub survey_refused : (v : Survey) (code place : ℕ) → layout_of t ≡ verdict code place → code ≢ READ → (v.code ≡ code) × (v.place ≡ place) × (v.repetition ≡ 0) → Surveyed t v
  unfolding Laid
  survey_refused v code place e n said =
      let refuses : (layout_of t).code ≡ code = ap (λ (w : Verdict). w.code) e in
      record {
        code = said.0 ∙ sym refuses;
        place = said.1 ∙ sym (ap (λ (w : Verdict). w.place) e);
        repetition = λ laid. absurd (n (sym refuses ∙ laid));
        refused = λ m. said.2;
      }

  -- A root that is refused is what the survey says.
  pub roots_refuse : (r : ℕ) → r ≡ rules_of t → layout_of t ≡ first_fault (root_fault t) 0 (rules_of t) or_else first_fault (node_fault t) 0 (nodes_of t)
      → (e : Refusal) → verdict_of e ≡ first_fault (root_fault t) 0 r → Surveyed t (survey_of (Err e))
  roots_refuse r er says e said =
      survey_refused (survey_of (Err e)) _ _ (says ∙ rw (← er, ← said, ne_eqb (code_of e) READ (refuses e)) refl) (refuses e) (refl, refl, refl)

  -- Where the roots are fine, the nodes decide.
  module _ (n r : ℕ) (en : n ≡ nodes_of t) (er : r ≡ rules_of t)
      (says : layout_of t ≡ first_fault (root_fault t) 0 (rules_of t) or_else first_fault (node_fault t) 0 (nodes_of t)) (roots : verdict READ 0 ≡ first_fault (root_fault t) 0 r) where
    pub nodes_decide : layout_of t ≡ first_fault (node_fault t) 0 n
    nodes_decide = says ∙ rw (← er, ← roots, ← en) refl

    pub survey_nodes : (said : Result ℕ Refusal) → NodesSaid t n said → Surveyed t (survey_of said)
    unfolding Laid
    survey_nodes (Ok p) h =
        let e : layout_of t ≡ verdict READ 0 = nodes_decide ∙ from_there n p h.0 ∙ h.1 in
        let fine = all_fine n p h.0 (ap (λ (w : Verdict). w.code) h.1) in
        let reads : (layout_of t).code ≡ READ = ap (λ (w : Verdict). w.code) e in
        record {
          code = sym reads;
          place = sym (ap (λ (w : Verdict). w.place) e);
          repetition = λ laid. rw (← en) (first_repetition n p h.0 fine.1);
          refused = λ m. absurd (m reads);
        }
    survey_nodes (Err e) h = survey_refused (survey_of (Err e)) _ _ (nodes_decide ∙ h) (refuses e) (refl, refl, refl)

  -- ---- One survey of a table.
  surveyed : (code place repetition : ℕ) → Survey
  surveyed c p r = record { code = c; place = p; repetition = r }

  pub one_survey : (v w : Survey) → Surveyed t v → Surveyed t w → v ≡ w
  unfolding surveyed Laid
  one_survey v w a b = by (eqb (layout_of t).code READ) refl
    where
      all : v.repetition ≡ w.repetition → v ≡ w
      all r =
          let c : v.code ≡ w.code = a.code ∙ sym b.code in
          let p : v.place ≡ w.place = a.place ∙ sym b.place in
          let same : surveyed v.code v.place v.repetition ≡ surveyed w.code w.place w.repetition = cc in
          same

      by : (x : Bool) → eqb (layout_of t).code READ ≡ x → v ≡ w
      by true e = let laid : (layout_of t).code ≡ READ = eqb-true _ _ e in all (one_first (is_repetition t) 0 (nodes_of t) _ _ (a.repetition laid) (b.repetition laid))
      by false e = let out : (layout_of t).code ≢ READ = eqb-false _ _ e in all (a.refused out ∙ sym (b.refused out))

  -- A survey is that of one answer alone: the answer of this code, at this place, with this repetition.
  answer : (code place repetition : ℕ) → Result ℕ Refusal
  answer c p n =
      cond (eqb c READ) (Ok n)
      (Err (cond (eqb c SHORT) Short (cond (eqb c VERSION) Version (cond (eqb c COUNT) Count (cond (eqb c LENGTH) Length
      (cond (eqb c ROOT) (Root p) (cond (eqb c KIND) (Kind p) (Field p))))))))

  answered : (x : Result ℕ Refusal) → answer (survey_of x).code (survey_of x).place (survey_of x).repetition ≡ x
  unfolding answer
  answered (Ok n) = refl
  answered (Err Short) = refl
  answered (Err Version) = refl
  answered (Err Count) = refl
  answered (Err Length) = refl
  answered (Err (Root a)) = refl
  answered (Err (Kind i)) = refl
  answered (Err (Field i)) = refl

  -- So there is one answer.
  pub one_answer : (x y : Result ℕ Refusal) → Surveyed t (survey_of x) → Surveyed t (survey_of y) → x ≡ y
  one_answer x y a b = sym (answered x) ∙ ap (λ (v : Survey). answer v.code v.place v.repetition) (one_survey (survey_of x) (survey_of y) a b) ∙ answered y
