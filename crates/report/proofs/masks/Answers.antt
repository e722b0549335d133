-- The starts are put down, and the chains follow from them; the working numbers are left as the pass wrote them.
use mathlib.Core.Path.{◌∙◌}
use native.Mathlib.Omega.{arith}
use Rattle.layout.proofs.Laying.{laid}
use Rattle.report.specs.Pass.{empty_node}
use Rattle.report.proofs.Passes.{by_marks, settled}
use Rattle.report.proofs.masks.Goals as goal

pub chains-requires : goal.chains-requires
chains-requires c =
    let p = c.pass in
    let t = c.args.table.now.bytes.now in
    let fine = laid t c.args.table.now.laid in
    (omega (arith, p.auto.scratch, c.requires.1), settled t fine (empty_node t) c.args.scratch.now c.requires.1 _ (p.ensures ∙ by_marks t fine _ c.requires.0 _))

pub returns : goal.returns
returns c =
    let p = c.pass in
    (c.chains.ensures.0, c.chains.ensures.1, p.ensures ∙ by_marks _ (laid _ c.args.table.now.laid) _ c.requires.0 _)
