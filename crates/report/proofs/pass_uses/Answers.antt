-- A pass by which every node is marked.
use mathlib.Core.Path.{◌∙◌}
use native.Mathlib.Omega.{arith}
use Rattle.bits.proofs.Marks.{all_marked}
use Rattle.layout.proofs.Laying.{laid, well_laid}
use Rattle.report.specs.Pass.{every_node}
use Rattle.report.proofs.Passes.{by_another}
use Rattle.report.proofs.pass_uses.Goals as goal

pub returns : goal.returns
returns c =
    let t = c.args.table.now.bytes.now in
    let fine = laid t c.args.table.now.laid in
    c.pass.ensures ∙ by_another t fine _ every_node (λ k h. all_marked k (omega (arith, (well_laid t fine).few_nodes))) _
