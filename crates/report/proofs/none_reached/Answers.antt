-- A table is free if no left-recursive rule is found to be reachable; the masks alone may tell.
use mathlib.Core.Path.{refl}
use mathlib.Core.Logic.{◌≢◌}
use mathlib.Core.Bool.{true, false, false≢true}
use native.Mathlib.Omega.{arith}
use Rattle.layout.specs.Table.{grammar_of}
use Rattle.layout.proofs.Laying.{laid, closed}
use Rattle.report.proofs.Passes.{settled}
use Rattle.report.specs.Pass.{every_node}
use Rattle.report.proofs.Freely.{by_reached, told_one, free_one, untold}
use Rattle.report.proofs.none_reached.Goals as goal

pub returns-then-not-apart : goal.returns-then-not-apart
returns-then-not-apart c =
    let p = c.requires in
    let fine = laid _ c.args.table.now.laid in
    let some = c.apart.ensures in
    record {
      free = free_one _ (closed _ fine) _ p.1 _ p.2 _ some c.if-not-apart.true;
      told = true;
      tells = (λ e. told_one _ (closed _ fine) _ p.1 _ p.2 _ some c.if-not-apart.true, λ h. refl);
      written = refl;
    }

pub reachable_rules-reached-requires : goal.reachable_rules-reached-requires
reachable_rules-reached-requires c =
    let u = c.pass_uses in
    (omega (arith, u.auto.scratch), settled _ (laid _ c.args.table.now.laid) every_node c.args.scratch.now c.requires.0 _ u.ensures, c.requires.2)

pub returns : goal.returns
returns c =
    let p = c.requires in
    let fine = laid _ c.args.table.now.laid in
    let g = grammar_of c.args.table.now.bytes.now in
    let some = c.apart.ensures in
    let left : c.args.left_recursive ≢ 0 = omega arith in
    let none = untold g (closed _ fine) _ p.1 _ p.2 _ some left c.if-not-apart.false in
    record {
      free = by_reached g (closed _ fine) _ p.1 _ c.reachable_rules-reached.ensures _ c.apart-2.ensures;
      told = false;
      tells = (λ e. absurd (false≢true e), λ h. absurd (none h));
      written = c.pass_uses.ensures;
    }
