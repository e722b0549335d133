-- The rules whose root is marked are gathered one by one.
use Prim.Native.Nat.{◌≤◌}
use Rattle.bits.specs.Marks.{marked}
use Rattle.meaning.specs.Grammar.{root_of}
use Rattle.layout.specs.Table.{grammar_of}
use Rattle.empties.specs.Pass.{Gathered}
use Rattle.empties.proofs.gather.Given as goal

abbrev pub invariant-loop-a : goal.invariant-loop-a
invariant-loop-a l = Gathered (λ b. marked l.marks (root_of (grammar_of l.table.bytes.now) b)) l.known l.a l.more × (l.known ≤ l.more)
