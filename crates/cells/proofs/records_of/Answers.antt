use native.Mathlib.Omega.{arith}
use Rattle.cells.proofs.records_of.Goals as goal

pub returns : goal.returns
returns c =
    c.requires.records c.args.list (omega arith)
