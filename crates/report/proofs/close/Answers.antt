-- The sets are closed by way of one rule after the other.
use mathlib.Core.Path.{refl}
use native.Mathlib.Omega.{arith}
use Rattle.report.specs.Pass.{led}
use Rattle.report.proofs.Sets.{turned}
use Rattle.report.proofs.close.Goals as goal

pub loop-k-init : goal.loop-k-init
unfolding led
loop-k-init c = λ a b h. refl

pub loop-k-preserved : goal.loop-k-preserved
loop-k-preserved c =
    let l = c.loop-k in
    let w = c.through in
    λ a b h. turned c.args.to.now l.to w.new.to _ _ (omega arith) l.invariant w.ensures a b (omega (arith, w.auto.to))
