use native.Mathlib.Omega.{arith}
use Rattle.bits.proofs.Marks.{with_mark}
use Rattle.bits.proofs.mark.Goals as goal

pub returns : goal.returns
returns c = with_mark _ _ _ (omega arith) c.add_rule.ensures
