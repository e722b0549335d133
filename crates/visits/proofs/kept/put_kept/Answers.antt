-- `put_kept` writes its two words.
use mathlib.Core.List.{[], ◌∷◌}
use Rattle.meaning.proofs.Sets.{one_by_one}
use Rattle.visits.proofs.kept.put_kept.Goals as goal

pub returns : goal.returns
returns c = one_by_one c.args.work.now _ _ (c.args.list ∷ [])
