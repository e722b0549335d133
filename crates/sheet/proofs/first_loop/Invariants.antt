-- The search for the first repetition of nothing, begun at one node, goes on at node i.
use mathlib.Core.Path.{◌≡◌}
use Prim.Native.Nat.{◌-◌}
use Rattle.layout.specs.Table.{nodes_of}
use Rattle.layout.specs.Layout.{first_fault}
use Rattle.sheet.specs.Check.{loop_fault}
use Rattle.sheet.proofs.first_loop.Given as goal

abbrev pub invariant-loop-i : goal.invariant-loop-i
invariant-loop-i l =
    let t = l.table.bytes.now in
    let n = nodes_of t in
    first_fault (loop_fault t) l.from (n - l.from) ≡ first_fault (loop_fault t) l.i (n - l.i)
