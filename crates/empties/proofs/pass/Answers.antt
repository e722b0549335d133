-- A pass goes on node by node: each is judged by the marks of those before it.
use mathlib.Core.Path.{refl, sym, ap, ◌∙◌}
use native.Mathlib.Omega.{arith}
use Rattle.layout.proofs.Laying.{laid, node_count, closed, node_meant}
use Rattle.bits.specs.Marks.{marked}
use Rattle.empties.specs.Pass.{empty_of}
use Rattle.empties.proofs.Marking.{passed_in, passed_out}
use Rattle.empties.proofs.pass.Goals as goal
use Rattle.empties.proofs.pass.Goals.{then-may_be_empty, else-may_be_empty}

pub loop-i-preserved : goal.loop-i-preserved
loop-i-preserved c =
    let l = c.loop-i in
    let t = c.args.table.now.bytes.now in
    let n = node_count t in
    let judged = c.may_be_empty.ensures ∙ ap (empty_of (marked l.marks) c.args.known) (node_meant t l.i _ (omega arith) c.node.ensures) in
    let good = closed t (laid t c.args.table.now.laid) in
    elim c.if-may_be_empty.branch [
      | then-may_be_empty w ↦ (
        omega arith,
        rw w.marks-is (w.mark.ensures.same_length ∙ l.invariant.1),
        rw w.marks-is (passed_in _ good _ _ _ l.i (omega arith) (omega arith) l.marks _ l.invariant.2 (sym w.if-may_be_empty.true ∙ judged) w.mark.ensures),
      )
      | else-may_be_empty w ↦ (
        omega arith,
        rw w.marks-is l.invariant.1,
        rw w.marks-is (passed_out _ good _ _ _ l.i (omega arith) (omega arith) l.marks _ l.invariant.2 (sym w.if-may_be_empty.false ∙ judged) refl),
      )
    ]
