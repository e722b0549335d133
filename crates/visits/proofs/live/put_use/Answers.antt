-- `put_use` writes its three words.
use native.Mathlib.Omega.{arith}
use mathlib.Core.List.{[], ◌∷◌}
use lib.ListN.{length-set}
use Rattle.meaning.proofs.Sets.{one_by_one}
use Rattle.visits.proofs.live.put_use.Goals as goal

pub bounds-work-at-2 : goal.bounds-work-at-2
bounds-work-at-2 c = simp length-set (omega arith)

pub returns : goal.returns
returns c = one_by_one c.args.work.now _ _ (c.args.end ∷ c.args.list ∷ [])
