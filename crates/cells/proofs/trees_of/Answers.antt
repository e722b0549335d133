use native.Mathlib.Omega.{arith}
use Rattle.cells.proofs.trees_of.Goals as goal

pub returns : goal.returns
returns c =
    c.requires.trees c.args.list (omega arith)
