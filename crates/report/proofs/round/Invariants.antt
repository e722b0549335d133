-- A set is widened by the row of each rule in turn.
use mathlib.Core.Path.{◌≡◌}
use Rattle.report.specs.Pass.{root_starts, spread}
use Rattle.report.proofs.round.Given as goal

abbrev pub invariant-loop-a : goal.invariant-loop-a
invariant-loop-a l = l.more ≡ spread (root_starts l.table.bytes.now l.scratch) l.reached l.a
