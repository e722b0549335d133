-- 01's checks in 01's order: which row answers a call, and that the working numbers end as 01 says.
use mathlib.Core.Path.{◌≡◌, refl, sym, ap, ◌∙◌}
use mathlib.Core.Logic.{◌≢◌, ◌⊎◌, inl, inr}
use mathlib.Core.Bool.{Bool, true, false, cond}
use mathlib.Core.List.{List, [], ◌∷◌, ◌++◌}
use Prim.Native.Nat.{ℕ, ◌+◌, ◌-◌, ◌*◌, ◌<◌, ◌≤◌}
use native.Mathlib.Omega.{arith}
use native.Mathlib.Nat.{mul-le-mul}
use lib.ListN.{length, get_or, set, drop, replicate, take, length-drop, length-replicate}
use lib.Seq.{ext_get_or, get_or-drop, get_or-set_other, sets, length-sets}
use borrow.Rule.Slice.PartMut.{mid_of, put_mid}
use Rattle.std.proofs.Common.{Err, rules}
use Rattle.std.proofs.lemmas.List.{length-take-le, places}
use borrow.Author.Tests.{lt-ltb, le-ltb, eq-eqb, ne_eqb}
use Rattle.meaning.specs.Decide.{is_free}
use Rattle.meaning.specs.Reading.{read}
use Rattle.layout.specs.Table.{nodes_of, grammar_of}
use Rattle.layout.specs.Layout.{Verdict}
use Rattle.sheet.specs.declared.Refusal.{Refusal}
use Rattle.sheet.specs.Check.{code_of, place_of, verdict_of, check_of, Accepted}
use Rattle.layout.proofs.Laying.{well_laid}
use Rattle.report.specs.Report.{LeftRules}
use Rattle.sheet.proofs.Accepting.{laid, no_read}
use Rattle.cells.specs.Arena.{Arena}
use Rattle.reader.specs.Answer.{LINE, ALLOW, WORK, longest_line, most_allowance, Numbers, numbers, work_needed, cleared, run_outcome, reading_of, Leaves}
use Rattle.reader.specs.Steps.{Fitting, Startable}

module _ (whole : Bool) (table line : List ℕ) (allowance : ℕ) (work room : List ℕ) where
  pub by_check : 0 < (check_of table).code → Leaves (reading_of whole table line allowance work room) (numbers (check_of table).code (check_of table).place 0 0 0 0) work room
  unfolding reading_of
  by_check h = rw (lt-ltb 0 (check_of table).code h) (record { returned = refl; working = refl; stored = refl })

  pub by_refusal : (refusal : Refusal) → verdict_of (Err refusal) ≡ check_of table → Leaves (reading_of whole table line allowance work room) (numbers (code_of refusal) (place_of refusal) 0 0 0 0) work room
  by_refusal refusal e =
      let c : code_of refusal ≡ (check_of table).code = ap (λ (v : Verdict). v.code) e in
      let p : place_of refusal ≡ (check_of table).place = ap (λ (v : Verdict). v.place) e in
      let n = no_read refusal in
      rw (c, p) (by_check (omega arith))

  module _ (accepted : Accepted table) where
    pub by_line : longest_line < length line → Leaves (reading_of whole table line allowance work room) (numbers LINE 0 0 0 0 0) work room
    unfolding Accepted reading_of
    by_line h = rw (accepted, lt-ltb longest_line (length line) h) (record { returned = refl; working = refl; stored = refl })

    module _ (short : length line ≤ longest_line) where
      pub by_allowance : (allowance ≡ 0) ⊎ (allowance ≢ 0 × most_allowance < allowance) → Leaves (reading_of whole table line allowance work room) (numbers ALLOW 0 0 0 0 0) work room
      unfolding Accepted reading_of
      by_allowance (inl e) = rw (accepted, le-ltb longest_line (length line) short, eq-eqb allowance 0 e) (record { returned = refl; working = refl; stored = refl })
      by_allowance (inr h) =
          let some = h.0 in
          let much = h.1 in
          rw (accepted, le-ltb longest_line (length line) short, ne_eqb allowance 0 some, lt-ltb most_allowance allowance much) (record { returned = refl; working = refl; stored = refl })

      module _ (some : allowance ≢ 0) where
        module _ (allowed : allowance ≤ most_allowance) where
          abbrev needed : ℕ
          needed = work_needed allowance (nodes_of table) (length line)

          pub by_work : length work < needed → Leaves (reading_of whole table line allowance work room) (numbers WORK 0 0 0 0 0) work room
          unfolding Accepted reading_of
          by_work h =
              rw (accepted, le-ltb longest_line (length line) short, ne_eqb allowance 0 some, le-ltb most_allowance allowance allowed, lt-ltb (length work) needed h)
              (record { returned = refl; working = refl; stored = refl })

          pub by_reading : needed ≤ length work → {r : Numbers} {work' room' : List ℕ}
              → Leaves (run_outcome whole (length line) allowance (read (grammar_of table) line allowance) (cleared needed work) room) r work' room'
              → Leaves (reading_of whole table line allowance work room) r work' room'
          unfolding Accepted reading_of
          by_reading h l = rw (accepted, le-ltb longest_line (length line) short, ne_eqb allowance 0 some, le-ltb most_allowance allowance allowed, le-ltb (length work) needed h) l

-- The words of a reading, from the first to the last: looked at for the report, kept answers cleared, made ready for cells, visited, cleared.
module _ (table line : List ℕ) (allowance from needed : ℕ) (free : Bool) (w₀ w₁ zeros w₃ : List ℕ) (f : Fitting table line w₀ allowance) (is : needed ≡ work_needed allowance (nodes_of table) (length line))
    (l₁ : length w₁ ≡ length w₀) (rest : (i : ℕ) → 2 * nodes_of table ≤ i → get_or w₁ i 0 ≡ get_or w₀ i 0) (ef : from ≡ cond free (2048 + 4 * allowance) needed)
    (ez : zeros ≡ replicate (length (mid_of from (needed - from) w₁)) 0) (e₃ : w₃ ≡ sets (put_mid from (needed - from) w₁ zeros) 2045 (0 ∷ 0 ∷ 0 ∷ [])) where
  abbrev w₂ : List ℕ
  w₂ = put_mid from (needed - from) w₁ zeros

  within : from ≤ needed
  within = let r = f.room in elim free as (λ b. from ≡ cond b (2048 + 4 * allowance) needed → from ≤ needed) [ true ↦ λ e. omega arith | false ↦ λ e. omega arith ] ef

  many : needed ≤ length w₁
  many = let r = f.room in omega arith

  as_many : length zeros ≡ needed - from
  as_many =
      let a = within in
      let b = many in
      let c : length (replicate {A = ℕ} (length (mid_of from (needed - from) w₁)) 0) ≡ length (mid_of from (needed - from) w₁) = length-replicate (length (mid_of from (needed - from) w₁)) 0 in
      omega (arith, ap length ez, length-take-le (needed - from) (drop from w₁), length-drop from w₁)

  long₂ : length w₂ ≡ length w₁
  long₂ = let a = within in let b = many in let c = as_many in search (rules, places)

  past₂ : (i : ℕ) → needed ≤ i → get_or w₂ i 0 ≡ get_or w₁ i 0
  past₂ i h = let a = within in let b = many in let c = as_many in search (rules, places)

  zero₂ : (i : ℕ) → from ≤ i → i < needed → get_or w₂ i 0 ≡ 0
  zero₂ i a b = let c = within in let d = many in let e = as_many in search (rules, places)

  others : (i : ℕ) → 2048 ≤ i → get_or w₃ i 0 ≡ get_or w₂ i 0
  others i h =
      ap (λ w. get_or w i 0) e₃
      ∙ get_or-set_other (sets w₂ 2045 (0 ∷ 0 ∷ [])) 2047 i 0 0 (omega arith)
      ∙ get_or-set_other (set w₂ 2045 0) 2046 i 0 0 (omega arith)
      ∙ get_or-set_other w₂ 2045 i 0 0 (omega arith)

  long₃ : length w₃ ≡ length w₀
  long₃ = ap length e₃ ∙ length-sets w₂ 2045 (0 ∷ 0 ∷ 0 ∷ []) ∙ long₂ ∙ l₁

  past₃ : (i : ℕ) → needed ≤ i → get_or w₃ i 0 ≡ get_or w₀ i 0
  past₃ i h =
      let n = (well_laid table (laid table f.accepted)).few_nodes in
      others i (omega arith) ∙ past₂ i h ∙ rest i (omega arith)

  pub untouched : (length w₃ ≡ length w₀) × ((i : ℕ) → needed ≤ i → get_or w₃ i 0 ≡ get_or w₀ i 0)
  untouched = (long₃, past₃)

  kept_zero : free ≡ true → (i : ℕ) → 2048 + 4 * allowance ≤ i → i < needed → get_or w₃ i 0 ≡ 0
  kept_zero e i a b = let q : from ≡ 2048 + 4 * allowance = ef ∙ ap (λ t. cond t (2048 + 4 * allowance) needed) e in others i (omega arith) ∙ zero₂ i (omega arith) b

  pub startable : free ≡ is_free (grammar_of table) → {mask : ℕ} → LeftRules (grammar_of table) mask → Arena w₃ 0 → Startable table line w₃ allowance free mask
  startable e m a = record {
    fitting = record { accepted = f.accepted; short = f.short; allowed = f.allowed; room = let r = f.room in let l = long₃ in omega arith };
    free_is = e;
    left_rules = m;
    arena = a;
    kept = λ k i p q. kept_zero k i p (omega arith);
  }

-- The first words are zero, the rest as found.
pub as_cleared : (w₀ w₄ zeros : List ℕ) (needed : ℕ) → zeros ≡ replicate (length (take needed w₄)) 0 → needed ≤ length w₀ → length w₄ ≡ length w₀
    → ((i : ℕ) → needed ≤ i → get_or w₄ i 0 ≡ get_or w₀ i 0) → zeros ++ drop needed w₄ ≡ cleared needed w₀
unfolding cleared
as_cleared w₀ w₄ zeros needed e le long past =
    let rest : drop needed w₄ ≡ drop needed w₀ = ext_get_or 0 (drop needed w₄) (drop needed w₀) (omega (arith, length-drop {A = ℕ}))
    (λ i h. get_or-drop needed w₄ i 0 ∙ past (needed + i) (omega arith) ∙ sym (get_or-drop needed w₀ i 0)) in
    let many : length (take needed w₄) ≡ needed = length-take-le needed w₄ (omega arith) in
    rw (e, many, rest) refl

-- There are no more pairs of a node and a position than fit.
pub pairs_most : (nodes long : ℕ) → nodes ≤ 512 → long ≤ longest_line → nodes * (long + 1) ≤ 512 * (longest_line + 1)
pairs_most nodes long n l = mul-le-mul n (let m : long + 1 ≤ longest_line + 1 = omega arith in m)
