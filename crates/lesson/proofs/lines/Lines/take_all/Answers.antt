-- A failure ends the taking; until then all so far are taken.
use Rattle.std.proofs.Common.{arith}
use Rattle.lesson.proofs.Taking.{taken_none, taken_one}
use Rattle.lesson.proofs.lines.Lines.take_all.Goals as goal

pub loop-byte-init : goal.loop-byte-init
loop-byte-init c = taken_none _ _ _ c.args.self.now.within

pub loop-byte-preserved : goal.loop-byte-preserved
loop-byte-preserved c = taken_one _ _ (omega arith) c.loop-byte.invariant c.take_byte.ensures
