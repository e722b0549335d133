-- The search for the first fault, begun at one node, goes on at node i.
use Rattle.std.proofs.Common.{◌≡◌, ◌-◌}
use Rattle.layout.specs.Layout.{first_fault, node_fault}
use Rattle.layout.proofs.check_rest.Given as goal

abbrev pub invariant-loop-i : goal.invariant-loop-i
invariant-loop-i l = first_fault (node_fault l.table) l.from (l.n - l.from) ≡ first_fault (node_fault l.table) l.i (l.n - l.i)
