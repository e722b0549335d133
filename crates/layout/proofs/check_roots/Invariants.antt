-- The search for the first fault, begun at rule 0, goes on at rule a.
use Rattle.std.proofs.Common.{◌≡◌, ◌-◌}
use Rattle.layout.specs.Layout.{first_fault, root_fault}
use Rattle.layout.proofs.check_roots.Given as goal

abbrev pub invariant-loop-a : goal.invariant-loop-a
invariant-loop-a l = first_fault (root_fault l.table) 0 l.r ≡ first_fault (root_fault l.table) l.a (l.r - l.a)
