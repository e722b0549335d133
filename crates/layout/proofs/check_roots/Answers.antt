use mathlib.Core.Path.{sym, ◌∙◌}
use native.Mathlib.Omega.{arith}
use Rattle.layout.specs.Table.{root_of}
use Rattle.layout.specs.Layout.{ROOT}
use Rattle.layout.proofs.Laws.{first_pass, first_stop, first_end, root_passes, root_refused}
use Rattle.layout.proofs.check_roots.Goals as goal

pub returns-then-n-pair : goal.returns-then-n-pair
unfolding root_of
returns-then-n-pair c =
    sym (c.loop-a.invariant ∙ first_stop _ _ _ (omega arith) ROOT (root_refused _ _ _ c.pair.ensures.0 (omega arith)) (λ e. omega arith))

pub loop-a-preserved : goal.loop-a-preserved
unfolding root_of
loop-a-preserved c =
    c.loop-a.invariant ∙ first_pass _ _ _ (omega arith) (root_passes _ _ _ c.pair.ensures.0 (omega arith))

pub returns : goal.returns
returns c = sym (c.loop-a.invariant ∙ first_end _ _ _ (omega arith))
