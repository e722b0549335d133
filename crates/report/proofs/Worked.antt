-- 01's sheets A and B. "Report: masks 0 and 1, one set, lowest 0" of A; B is "free", and is so with a left-recursive rule that nobody uses.
-- By computing of their grammars what the contracts say of the code's answers.
use mathlib.Core.Path.{◌≡◌, refl, ap, ◌∙◌}
use mathlib.Core.Bool.{Bool, true, false}
use mathlib.Core.List.{List}
use Rattle.meaning.specs.Grammar.{Grammar}
use Prim.Native.Nat.{ℕ}
use Rattle.bits.specs.Mask.{digit, has, how_many, least, mask_of}
use Rattle.meaning.specs.Decide.{empty_nodes, empty_rules, led_to, led_rules, left_recursive, reachable, is_free}
use Rattle.meaning.proofs.Decided.{free_iff}
use Rattle.layout.proofs.Laying.{closed}
use Rattle.layout.specs.Table.{grammar_of}
use Rattle.layout.specs.Layout.{Verdict, READ, verdict}
use Rattle.sheet.specs.Check.{check_of, Accepted}
use Rattle.sheet.proofs.Accepting.{laid}
use Rattle.layout.proofs.Worked.{tableA, sheetA, tableB, sheetB, table_unused, sheet_unused}
use Rattle.layout.proofs.Worked as layout
use Rattle.sheet.proofs.Worked.{sheets}
use Rattle.report.specs.declared.Judgement.{Judgement}
use Rattle.report.specs.Report.{Numbers, Reported}
use Rattle.report.specs.Lent.{Answered}
use Rattle.empties.proofs.Once.{together}
use Rattle.report.proofs.Computed.{recursive_rules, recursive_mask, computed_empty, computed_recursive}

code : Verdict → ℕ
code v = v.code

place : Verdict → ℕ
place v = v.place

-- Both masks of a grammar, how many are set in the second, the lowest, and whether it is free.
record Shown (g : Grammar) (may_be_empty left_rules count_is lowest : ℕ) (free : Bool) : Type 0 where
  empties : mask_of (empty_rules g) ≡ may_be_empty
  lefts : mask_of (recursive_rules g) ≡ left_rules
  count : how_many (has left_rules) 64 ≡ count_is
  low : least (has left_rules) 64 ≡ lowest
  says_free : is_free g ≡ free

shown : Shown sheetA 0 1 1 0 false × Shown sheetB 0 0 0 64 true × Shown sheet_unused 0 4 1 2 true
unfolding mask_of empty_rules empty_nodes recursive_rules left_recursive led_rules led_to reachable is_free how_many least has digit
shown = (
  record { empties = refl; lefts = refl; count = refl; low = refl; says_free = refl },
  record { empties = refl; lefts = refl; count = refl; low = refl; says_free = refl },
  record { empties = refl; lefts = refl; count = refl; low = refl; says_free = refl },
)

-- The report on a table of that grammar.
module _ (t : List ℕ) (g : Grammar) (accepted : check_of t ≡ verdict READ 0) (is : grammar_of t ≡ g) {m l n w : ℕ} {f : Bool} (s : Shown g m l n w f) where
  is_accepted : Accepted t
  unfolding Accepted code
  is_accepted = ap code accepted

  module _ {x : Numbers} (reported : Reported t x) where
    lefts_are : x.left_recursive ≡ l
    lefts_are = computed_recursive reported is_accepted ∙ ap (λ h. mask_of (recursive_rules h)) is ∙ s.lefts

    free_is : x.free ≡ f
    free_is =
        let both = free_iff (grammar_of t) (closed t (laid t is_accepted)) in
        let said = reported.free is_accepted in
        together x.free (is_free (grammar_of t)) (λ e. both.1 (said.0 e)) (λ e. said.1 (both.0 e)) ∙ ap is_free is ∙ s.says_free

    report_is : (x.code ≡ 0) × (x.place ≡ 0) × (x.may_be_empty ≡ m) × (x.left_recursive ≡ l) × (x.how_many ≡ n) × (x.lowest ≡ w) × (x.free ≡ f)
    unfolding code place
    report_is = (
      reported.code ∙ ap code accepted,
      reported.place ∙ ap place accepted,
      computed_empty reported is_accepted ∙ ap (λ h. mask_of (empty_rules h)) is ∙ s.empties,
      lefts_are,
      reported.count_is ∙ ap (λ h. how_many (has h) 64) lefts_are ∙ s.count,
      reported.lowest ∙ ap (λ h. least (has h) 64) lefts_are ∙ s.low,
      free_is,
    )

  judged_is : {answer : Judgement} {before after : List ℕ} → Answered t answer before after → (answer.left_recursive ≡ l) × (answer.free ≡ f)
  judged_is answered = (
    recursive_mask t is_accepted answered.left_rules ∙ ap (λ h. mask_of (recursive_rules h)) is ∙ s.lefts,
    answered.free ∙ ap is_free is ∙ s.says_free,
  )

-- A has a left-recursive rule at its start, B has none, and the one that B has when a third rule is added is not reachable.
pub report_A : {x : Numbers} → Reported tableA x
    → (x.code ≡ 0) × (x.place ≡ 0) × (x.may_be_empty ≡ 0) × (x.left_recursive ≡ 1) × (x.how_many ≡ 1) × (x.lowest ≡ 0) × (x.free ≡ false)
report_A = report_is tableA sheetA sheets.0 (layout.sheets).1 shown.0

pub report_B : {x : Numbers} → Reported tableB x
    → (x.code ≡ 0) × (x.place ≡ 0) × (x.may_be_empty ≡ 0) × (x.left_recursive ≡ 0) × (x.how_many ≡ 0) × (x.lowest ≡ 64) × (x.free ≡ true)
report_B = report_is tableB sheetB sheets.1 (layout.sheets).3 shown.1

pub report_unused : {x : Numbers} → Reported table_unused x
    → (x.code ≡ 0) × (x.place ≡ 0) × (x.may_be_empty ≡ 0) × (x.left_recursive ≡ 4) × (x.how_many ≡ 1) × (x.lowest ≡ 2) × (x.free ≡ true)
report_unused = report_is table_unused sheet_unused sheets.2 (layout.sheets).5 shown.2

pub judged_A : {answer : Judgement} {before after : List ℕ} → Answered tableA answer before after → (answer.left_recursive ≡ 1) × (answer.free ≡ false)
judged_A = judged_is tableA sheetA sheets.0 (layout.sheets).1 shown.0

pub judged_B : {answer : Judgement} {before after : List ℕ} → Answered tableB answer before after → (answer.left_recursive ≡ 0) × (answer.free ≡ true)
judged_B = judged_is tableB sheetB sheets.1 (layout.sheets).3 shown.1

pub judged_unused : {answer : Judgement} {before after : List ℕ} → Answered table_unused answer before after → (answer.left_recursive ≡ 4) × (answer.free ≡ true)
judged_unused = judged_is table_unused sheet_unused sheets.2 (layout.sheets).5 shown.2
