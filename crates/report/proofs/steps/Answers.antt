-- Each rule's set is filled with the rules at the start of its root.
use native.Mathlib.Omega.{arith}
use Rattle.layout.proofs.Laying.{laid, well_laid}
use Rattle.report.specs.Pass.{root_starts}
use Rattle.report.proofs.Tables.{root_starts_lem}
use Rattle.report.proofs.Sets.{filled_next}
use Rattle.report.proofs.steps.Goals as goal

pub starts_at-requires : goal.starts_at-requires
starts_at-requires c = omega (arith, well_laid _ (laid _ c.args.table.now.laid))

pub loop-a-preserved : goal.loop-a-preserved
loop-a-preserved c =
    let l = c.loop-a in
    let found = root_starts_lem _ _ l.a _ _ (omega arith) c.root.ensures.0 c.starts_at.ensures in
    filled_next (root_starts _ _) l.to l.a _ (omega arith) l.invariant found
