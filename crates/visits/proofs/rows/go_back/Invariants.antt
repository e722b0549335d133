-- `go_back` keeps each pair's answer and joins the trees of the turn before to it, turn by turn: proofs/Returning has the loop.
use mathlib.Core.Path.{◌≡◌}
use Rattle.visits.specs.Given.{numbers, lent}
use Rattle.visits.proofs.Returning.{Going}
use Rattle.visits.proofs.rows.go_back.Given as goal

abbrev pub invariant-loop-waiting : goal.invariant-loop-waiting
invariant-loop-waiting l = Going (lent l.basis.table.now (numbers l.basis.given)) l.basis.line.now l.spot l.node l.before l.initial.work.now l.last l.work.now l.waiting l.at l.done × (l.work.ghost_name ≡ l.initial.work.ghost_name)
