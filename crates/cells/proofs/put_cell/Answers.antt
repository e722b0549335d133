use native.Mathlib.Omega.{arith}
use mathlib.Core.List.{[], ◌∷◌}
use lib.ListN.{length-set}
use Rattle.meaning.proofs.Sets.{one_by_one}
use Rattle.cells.specs.Cells.{with_cell}
use Rattle.cells.proofs.put_cell.Goals as goal

pub bounds-work-at-2 : goal.bounds-work-at-2
bounds-work-at-2 c = simp length-set (omega arith)

pub bounds-work-at-3 : goal.bounds-work-at-3
bounds-work-at-3 c = simp length-set (omega arith)

pub returns : goal.returns
unfolding with_cell
returns c = one_by_one c.args.work.now _ _ (c.args.records ∷ c.args.second ∷ c.args.trees ∷ [])
