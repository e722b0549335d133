use Rattle.std.proofs.Common.{arith}
use Rattle.page.proofs.Laws.{puts_none, puts_one}
use Rattle.page.proofs.Page.put_all.Goals as goal

pub loop-byte-init : goal.loop-byte-init
loop-byte-init c = puts_none _

pub loop-byte-preserved : goal.loop-byte-preserved
loop-byte-preserved c = puts_one _ _ (omega arith) c.loop-byte.invariant c.put.ensures
