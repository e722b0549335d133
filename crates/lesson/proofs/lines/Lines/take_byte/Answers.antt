-- LF ends the line, and any other byte belongs to it.
use Rattle.lesson.proofs.Taking.{line_ends, line_grows}
use Rattle.lesson.proofs.lines.Lines.take_byte.Goals as goal

pub returns-then-byte-eq-LF : goal.returns-then-byte-eq-LF
returns-then-byte-eq-LF c =
    rw c.clear.ensures (line_ends _ _ _ c.if-byte-eq-LF.true (rw c.as_slice.ensures.value at c.answer_line.ensures.printed))

pub returns-else-byte-eq-LF : goal.returns-else-byte-eq-LF
returns-else-byte-eq-LF c = line_grows _ _ _ _ _ c.if-byte-eq-LF.false c.lengthen.ensures
