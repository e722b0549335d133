-- `answers::put_answer` meets its contract.
use Rattle.page.proofs.Laws.{puts_both}
use Rattle.reader.specs.Answer.{numbers_of}
use Rattle.answers.specs.Printed.{read_text}
use Rattle.answers.proofs.Laws.{answer_refused, answer_read}
use Rattle.answers.proofs.put_answer.Goals as goal

pub returns-then-code-gt0 : goal.returns-then-code-gt0
returns-then-code-gt0 c =
    let same = c.numbers.ensures in
    rw (answer_refused (numbers_of c.args.answer) (rw same at c.if-code-gt0.true)) (rw same at c.put_refusal.ensures)

pub returns : goal.returns
unfolding read_text
returns c =
    let same = c.numbers.ensures in
    rw (answer_read (numbers_of c.args.answer) (rw same at c.if-code-gt0.false), ← c.name.ensures) (puts_both c.put_all.ensures (puts_both (rw same at c.put_next.ensures) (puts_both (rw same at c.put_next-2.ensures) (puts_both (rw same at c.put_next-3.ensures) c.put.ensures))))
