-- The bytes so far are taken, and no write has failed.
use Rattle.std.proofs.Common.{take}
use Rattle.lesson.specs.Lines.{Taken}
use Rattle.lesson.proofs.lines.Lines.take_all.Given as goal

abbrev pub invariant-loop-byte : goal.invariant-loop-byte
invariant-loop-byte l = Taken l.table l.initial.self.begun.items (take l.byte-index l.bytes) l.initial.page l.self.begun.items l.page
