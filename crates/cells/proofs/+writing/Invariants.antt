-- A list is tried as one tree before it is gone along. What falls is the list: a cell is made of lists below it.
use Prim.Native.Nat.{◌+◌, ◌*◌}
use Rattle.cells.proofs.Writing.{Along}
use Rattle.cells.proofs.+writing.Given as goal

abbrev pub decreases-write_list : goal.decreases-write_list
decreases-write_list l = l.list * 2 + 1

abbrev pub decreases-write_trees : goal.decreases-write_trees
decreases-write_trees l = l.list * 2

abbrev pub invariant-write_trees-loop-rest : goal.invariant-write_trees-loop-rest
invariant-write_trees-loop-rest l = Along l.work l.initial.room l.room l.width l.list l.end l.rest l.to

abbrev pub decreases-write_trees-loop-rest : goal.decreases-write_trees-loop-rest
decreases-write_trees-loop-rest l = l.rest
