-- Of the table, less is left at each turn.
use Rattle.std.proofs.Common.{◌≡◌, ◌-◌, ◌≤◌, length as count}
use Rattle.lesson.proofs.load.load.Given as goal

abbrev pub invariant-loop-done : goal.invariant-loop-done
invariant-loop-done g l = (count l.table ≡ count l.initial.table) × (l.done ≤ count l.table)

abbrev pub decreases-loop-done : goal.decreases-loop-done
decreases-loop-done g l = count l.initial.table - l.done
