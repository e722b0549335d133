-- A pass writes node after node what is found of it.
use mathlib.Core.Path.{refl, ◌∙◌}
use Rattle.report.specs.Pass.{passed}
use Rattle.report.proofs.Words.{passed_next}
use Rattle.report.proofs.pass.Goals as goal

pub loop-i-init : goal.loop-i-init
unfolding passed
loop-i-init c = (refl, refl)

pub loop-i-preserved : goal.loop-i-preserved
loop-i-preserved c =
    let p = c.put in
    let l = c.loop-i in
    let inv = l.invariant in
    (p.auto.scratch ∙ inv.0, p.ensures ∙ passed_next _ _ _ l.i l.scratch _ inv.1 c.of_node-x.ensures)
