-- Where no node is empty by itself nothing may be empty; else the passes find all.
use mathlib.Core.Path.{◌≡◌}
use mathlib.Core.Bool.{false}
use Prim.Native.Nat.{ℕ, ◌<◌}
use native.Mathlib.Omega.{arith}
use lib.ListN.{length}
use Rattle.meaning.specs.Grammar.{node}
use Rattle.layout.specs.Table.{grammar_of}
use Rattle.layout.proofs.Laying.{node_count, closed}
use Rattle.empties.specs.Pass.{alone}
use Rattle.empties.proofs.Repeat.{no_rules, no_nodes}
use Rattle.empties.proofs.mark_empties.Goals as goal

pub returns-in-None : goal.returns-in-None
returns-in-None c =
    let t = c.args.table.now in
    let none : (i : ℕ) → i < length (grammar_of t).nodes → alone (node (grammar_of t) i) ≡ false = λ i h. (rw c.of-table.ensures at c.in-None.ensures).before i (omega arith) (omega (arith, node_count t)) in
    (no_rules (grammar_of t) (closed t c.requires.0) none, no_nodes (grammar_of t) (closed t c.requires.0) none _ c.requires.1)
