-- The first node that is empty by itself: none before it is.
use Rattle.layout.specs.Table.{grammar_of}
use Rattle.layout.proofs.First.{None}
use Rattle.empties.specs.Pass.{alone_in}
use Rattle.empties.proofs.first_empty.Given as goal

abbrev pub invariant-loop-i : goal.invariant-loop-i
invariant-loop-i l = None (alone_in (grammar_of l.table.bytes.now)) 0 l.i
