-- `no_visits` writes the four numbers as 0.
use native.Mathlib.Omega.{arith}
use mathlib.Core.Path.{refl}
use lib.ListN.{length-set}
use Rattle.visits.proofs.no_visits.Goals as goal

pub bounds-work-2042 : goal.bounds-work-2042
bounds-work-2042 c = simp length-set (omega arith)

pub bounds-work-2043 : goal.bounds-work-2043
bounds-work-2043 c = simp length-set (omega arith)

pub bounds-work-2044 : goal.bounds-work-2044
bounds-work-2044 c = simp length-set (omega arith)

pub returns : goal.returns
returns c = refl
