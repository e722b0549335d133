-- The rules whose root is marked are gathered one by one.
use mathlib.Core.Path.{◌≡◌, sym, ap, ◌∙◌}
use native.Mathlib.Omega.{arith}
use lib.ListN.{length}
use Rattle.bits.specs.Marks.{marked}
use Rattle.layout.specs.Table.{grammar_of}
use Rattle.layout.proofs.Laying.{rule_count, root_is}
use Rattle.empties.proofs.Gathering.{gathered_none, gathered_in, gathered_out}
use Rattle.empties.proofs.gather.Goals as goal
use Rattle.empties.proofs.gather.Goals.{then-marked, else-marked}

pub loop-a-init : goal.loop-a-init
loop-a-init c = (gathered_none _ _, omega arith)

pub loop-a-preserved : goal.loop-a-preserved
loop-a-preserved c =
    let l = c.loop-a in
    let inv = l.invariant in
    let found = c.marked.ensures ∙ ap (marked c.args.marks.now) (c.root.ensures.0 ∙ sym (root_is c.args.table.now.bytes.now l.a (omega arith))) in
    elim c.if-marked.branch [
      | then-marked w ↦
          (rw w.more-is (gathered_in _ _ _ _ inv.0 _ (sym found ∙ w.if-marked.true) w.add_rule-more.ensures.bits), omega (arith, w.add_rule-more.ensures.grows))
      | else-marked w ↦ (rw w.more-is (gathered_out _ _ _ _ inv.0 (sym found ∙ w.if-marked.false)), omega arith)
    ]

pub returns : goal.returns
returns c =
    let t = c.args.table.now.bytes.now in
    let e : c.loop-a.a ≡ length (grammar_of t).roots = omega (arith, rule_count t) in
    (rw (← e) c.loop-a.invariant.0, c.loop-a.invariant.1)
