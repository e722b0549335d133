-- A set is widened by the row of each rule in turn.
use mathlib.Core.Path.{◌≡◌, refl}
use native.Mathlib.Omega.{arith}
use lib.ListN.{length}
use Rattle.layout.specs.Table.{grammar_of}
use Rattle.layout.proofs.Laying.{laid, well_laid, rule_count}
use Rattle.report.specs.Pass.{root_starts, spread}
use Rattle.report.proofs.Tables.{root_starts_lem}
use Rattle.report.proofs.Sets.{spread_next}
use Rattle.report.proofs.round.Goals as goal

pub loop-a-init : goal.loop-a-init
unfolding spread
loop-a-init c = refl

pub starts_at-requires : goal.starts_at-requires
starts_at-requires c = omega (arith, well_laid _ (laid _ c.args.table.now.laid))

pub loop-a-preserved : goal.loop-a-preserved
loop-a-preserved c =
    let l = c.loop-a in
    let found = root_starts_lem _ _ l.a _ _ (omega arith) c.root.ensures.0 c.starts_at.ensures in
    spread_next (root_starts _ _) _ l.a l.more _ _ l.invariant found c.widened-more.ensures

pub returns : goal.returns
returns c =
    let t = c.args.table.now.bytes.now in
    let e : c.loop-a.a ≡ length (grammar_of t).roots = omega (arith, rule_count t) in
    rw (← e) c.loop-a.invariant
