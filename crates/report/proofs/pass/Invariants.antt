-- A pass writes node after node what is found of it.
use mathlib.Core.Path.{◌≡◌}
use lib.ListN.{length}
use Rattle.bits.specs.Marks.{marked}
use Rattle.layout.specs.Table.{grammar_of}
use Rattle.report.specs.Pass.{passed}
use Rattle.report.proofs.pass.Given as goal

abbrev pub invariant-loop-i : goal.invariant-loop-i
invariant-loop-i l = (length l.scratch ≡ length l.initial.scratch) × (l.scratch ≡ passed (grammar_of l.table.bytes.now) (marked l.marks) l.initial.scratch l.i)
