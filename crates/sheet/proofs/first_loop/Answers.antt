-- The search for the first repetition of nothing, begun at one node, goes on at node i.
use mathlib.Core.Path.{sym, ◌∙◌}
use Prim.Native.Nat.{◌≤◌}
use native.Mathlib.Omega.{arith}
use Rattle.layout.specs.Table.{nodes_of}
use Rattle.layout.proofs.Laws.{first_pass, first_stop, first_end}
use Rattle.sheet.proofs.first_loop.Goals as goal

pub returns-then-repeats_nothing : goal.returns-then-repeats_nothing
returns-then-repeats_nothing c =
    sym (c.loop-i.invariant ∙ first_stop _ _ _ (omega arith) _ (sym (rw c.if-repeats_nothing.true at c.repeats_nothing.ensures)) (omega arith))

pub loop-i-preserved : goal.loop-i-preserved
loop-i-preserved c =
    c.loop-i.invariant ∙ first_pass _ _ _ (omega arith) (sym (rw c.if-repeats_nothing.false at c.repeats_nothing.ensures))

pub returns : goal.returns
returns c =
    let none_left : nodes_of c.args.table.now.bytes.now ≤ c.loop-i.i = omega arith in
    sym (c.loop-i.invariant ∙ first_end _ _ _ none_left)
