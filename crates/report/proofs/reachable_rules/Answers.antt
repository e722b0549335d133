-- Rounds as long as each finds one more rule: the mask grows with every turn, and it fits 64 bits.
use Prim.Native.Nat.{◌≤◌}
use native.Mathlib.Omega.{arith}
use Rattle.layout.specs.Table.{grammar_of}
use Rattle.layout.proofs.Laying.{laid, well_laid, rule_count, closed}
use Rattle.report.proofs.Sets.{grown}
use Rattle.report.proofs.Reaching.{begun, again, all_reached}
use Rattle.report.proofs.reachable_rules.Goals as goal

pub loop-reached-init : goal.loop-reached-init
loop-reached-init c =
    let t = c.args.table.now.bytes.now in
    let fine = laid t c.args.table.now.laid in
    begun (grammar_of t) _ (omega (arith, rule_count t, (well_laid t fine).some_rule)) c.requires.2

pub loop-reached-smaller : goal.loop-reached-smaller
loop-reached-smaller c =
    let more = c.round-more in
    let grows : c.loop-reached.reached ≤ more.result = grown _ _ _ _ more.ensures in
    omega (arith, c.if-more-reached.false, more.type_inv)

pub loop-reached-preserved : goal.loop-reached-preserved
loop-reached-preserved c =
    let t = c.args.table.now.bytes.now in
    let fine = laid t c.args.table.now.laid in
    let more = c.round-more in
    again (grammar_of t) (closed t fine) (omega (arith, rule_count t, (well_laid t fine).few_rules)) _ c.requires.1 _ _ c.loop-reached.invariant more.ensures more.type_inv

pub returns-then-more-reached : goal.returns-then-more-reached
returns-then-more-reached c =
    let t = c.args.table.now.bytes.now in
    let fine = laid t c.args.table.now.laid in
    let more = c.round-more in
    all_reached (grammar_of t) (closed t fine) (omega (arith, rule_count t, (well_laid t fine).few_rules)) _ c.requires.1 _ _ c.loop-reached.invariant more.ensures c.if-more-reached.true
