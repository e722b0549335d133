-- `well_formed_by` tests the head, and then the records.
use mathlib.Core.Path.{◌≡◌, ◌∙◌}
use native.Mathlib.Omega.{arith}
use Rattle.stored.proofs.Judged.{judged_short, judged_head, judged_rest, head_records}
use Rattle.stored.proofs.well_formed_by.Goals as goal
use Rattle.stored.proofs.well_formed_by.Goals.{then-bytes-lt5-via-then-bytes-lt5, then-bytes-lt5-via-else-bytes-lt5+then-not-head_agrees}

pub returns-then-bytes-lt5 : goal.returns-then-bytes-lt5
returns-then-bytes-lt5 c =
    elim c.then-bytes-lt5.branch [
      | then-bytes-lt5-via-then-bytes-lt5 w ↦ judged_short c.args.width c.args.rules c.args.line_length c.args.bytes.now w.if-bytes-lt5.true
      | then-bytes-lt5-via-else-bytes-lt5+then-not-head_agrees w ↦ judged_head c.args.width c.args.rules c.args.line_length c.args.bytes.now w.if-not-head_agrees.ensures
    ]

pub go_through-requires-clause-room : goal.go_through-requires-clause-room
go_through-requires-clause-room c =
    head_records 1 _ c.args.bytes.now (omega arith) (λ i. (c.type_inv.bytes i).fits) (c.from-records.ensures ∙ c.number_at.ensures) (rw c.if-width-eq1.true at c.if-not-head_agrees.ensures)

pub go_through-requires-else-width-eq1-clause-room : goal.go_through-requires-else-width-eq1-clause-room
go_through-requires-else-width-eq1-clause-room c =
    let two : c.args.width ≡ 2 = omega (arith, c.if-width-eq1.false, c.requires.0, c.requires.1) in
    head_records 2 _ c.args.bytes.now (omega arith) (λ i. (c.type_inv.bytes i).fits) (c.from-records.ensures ∙ c.number_at.ensures) (rw two at c.if-not-head_agrees.ensures)

pub returns-then-width-eq1 : goal.returns-then-width-eq1
returns-then-width-eq1 c =
    let n = c.from-records.ensures ∙ c.number_at.ensures in
    rw c.if-width-eq1.true ((rw n at c.go_through.ensures) ∙ judged_rest 1 c.args.rules c.args.line_length c.args.bytes.now (rw c.if-width-eq1.true at c.if-not-head_agrees.ensures))

pub returns-else-width-eq1 : goal.returns-else-width-eq1
returns-else-width-eq1 c =
    let n = c.from-records.ensures ∙ c.number_at.ensures in
    let two : c.args.width ≡ 2 = omega (arith, c.if-width-eq1.false, c.requires.0, c.requires.1) in
    rw two ((rw n at c.go_through-else-width-eq1.ensures) ∙ judged_rest 2 c.args.rules c.args.line_length c.args.bytes.now (rw two at c.if-not-head_agrees.ensures))
