-- What is put down are the two halves.
use mathlib.Core.List.{[], ◌∷◌}
use Rattle.meaning.proofs.Sets.{one_by_one}
use Rattle.report.specs.Pass.{put}
use Rattle.report.proofs.put.Goals as goal

pub returns : goal.returns
unfolding put
returns c =
    rw (c.low_half.ensures, c.high_half.ensures) (one_by_one c.args.scratch.now _ _ (_ ∷ []))
