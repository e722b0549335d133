-- The bytes so far are put.
use Rattle.std.proofs.Common.{take}
use Rattle.page.specs.Page.{Puts}
use Rattle.page.proofs.Page.put_all.Given as goal

abbrev pub invariant-loop-byte : goal.invariant-loop-byte
invariant-loop-byte l = Puts l.initial.self (take l.byte-index l.bytes) l.self
