use mathlib.Core.Path.{sym, ap, ◌∙◌}
use native.Mathlib.Omega.{arith}
use Rattle.layout.proofs.Laying.{node_meant}
use Rattle.layout.proofs.First.{one_more, first_here}
use Rattle.empties.specs.Pass.{alone}
use Rattle.empties.proofs.first_empty.Goals as goal

pub returns-then-by_itself : goal.returns-then-by_itself
returns-then-by_itself c =
    let said = ap alone (sym (node_meant c.args.table.now.bytes.now c.loop-i.i _ (omega arith) c.node.ensures)) ∙ sym c.by_itself.ensures in
    first_here _ 0 c.loop-i.i _ (omega arith) (omega arith) c.loop-i.invariant (said ∙ c.if-by_itself.true)

pub loop-i-preserved : goal.loop-i-preserved
loop-i-preserved c =
    let said = ap alone (sym (node_meant c.args.table.now.bytes.now c.loop-i.i _ (omega arith) c.node.ensures)) ∙ sym c.by_itself.ensures in
    one_more _ 0 c.loop-i.i c.loop-i.invariant (said ∙ c.if-by_itself.false)
