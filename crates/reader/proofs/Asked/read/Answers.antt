use Rattle.std.proofs.Common.{◌≡◌, ap, refl, ◌∙◌, length, arith}
use Rattle.bits.proofs.Marks.{none_marked}
use Rattle.layout.specs.Table.{nodes_of}
use Rattle.std.proofs.lemmas.Result.{err_from_is_err_and}
use Rattle.sheet.proofs.Accepting.{accepted_ok, laid}
use Rattle.reader.specs.Answer.{work_needed}
use Rattle.reader.proofs.Turning.{by_refusal, by_line, by_allowance, by_work, by_reading}
use Rattle.reader.proofs.Asked.read.Goals as goal

pub examine-requires : goal.examine-requires
examine-requires c = (refl, none_marked)

pub returns-in_err-examine : goal.returns-in_err-examine
returns-in_err-examine c =
    let p = err_from_is_err_and c.from_residual.result c.from_residual.ensures.1 in
    rw (p.1, p.2) (by_refusal _ _ _ _ _ _ _ (rw c.in_err-examine.was at c.examine.ensures.verdict))

pub returns-then-line-gt-LONGEST_LINE : goal.returns-then-line-gt-LONGEST_LINE
returns-then-line-gt-LONGEST_LINE c = by_line _ _ _ _ _ _ (accepted_ok _ (rw c.in_ok-examine.was at c.examine.ensures.verdict)) c.if-line-gt-LONGEST_LINE.true

pub returns-then-allowance-eq0 : goal.returns-then-allowance-eq0
returns-then-allowance-eq0 c = by_allowance _ _ _ _ _ _ (accepted_ok _ (rw c.in_ok-examine.was at c.examine.ensures.verdict)) c.if-line-gt-LONGEST_LINE.false c.then-allowance-eq0.either

pub node_count-requires : goal.node_count-requires
node_count-requires c = laid _ (accepted_ok _ (rw c.in_ok-examine.was at c.examine.ensures.verdict))

pub returns-then-work-needed : goal.returns-then-work-needed
returns-then-work-needed c =
    let e = c.work_needed-needed.ensures ∙ ap (λ n. work_needed c.args.self.now.allowance n (length c.args.self.now.line.now)) c.node_count.ensures.0 in
    let l = c.if-work-needed.true in
    by_work _ _ _ _ _ _ (accepted_ok _ (rw c.in_ok-examine.was at c.examine.ensures.verdict)) c.if-line-gt-LONGEST_LINE.false c.if-allowance-eq0.false c.if-allowance-gt-MOST_ALLOWANCE.false (omega arith)

pub read_line-requires : goal.read_line-requires
read_line-requires c =
    let e = c.work_needed-needed.ensures ∙ ap (λ n. work_needed c.args.self.now.allowance n (length c.args.self.now.line.now)) c.node_count.ensures.0 in
    let l = c.if-work-needed.false in
    let accepted = accepted_ok _ (rw c.in_ok-examine.was at c.examine.ensures.verdict) in
    (record { accepted = accepted; short = c.if-line-gt-LONGEST_LINE.false; allowed = c.if-allowance-gt-MOST_ALLOWANCE.false; room = omega arith }, e, c.examine.ensures.marks (laid _ accepted))

pub returns : goal.returns
returns c =
    let e : c.work_needed-needed.result ≡ work_needed c.args.self.now.allowance (nodes_of c.args.self.now.table.now) (length c.args.self.now.line.now) = c.work_needed-needed.ensures ∙ ap (λ n. work_needed c.args.self.now.allowance n (length c.args.self.now.line.now)) c.node_count.ensures.0 in
    let l = c.if-work-needed.false in
    let o = c.read_line.ensures in
    by_reading _ _ _ _ _ _ (accepted_ok _ (rw c.in_ok-examine.was at c.examine.ensures.verdict)) c.if-line-gt-LONGEST_LINE.false c.if-allowance-eq0.false c.if-allowance-gt-MOST_ALLOWANCE.false (omega arith) (rw e at o)
