-- Up to node i the search has gone on.
use Rattle.layout.specs.Survey.{stops}
use Rattle.layout.proofs.First.{None}
use Rattle.layout.proofs.check_nodes.Given as goal

abbrev pub invariant-loop-i : goal.invariant-loop-i
invariant-loop-i l = None (stops l.table) 0 l.i
