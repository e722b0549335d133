-- `planted` makes a tree and writes the number of cells in use.
use mathlib.Core.Path.{refl}
use Rattle.visits.proofs.Adding.{added, top_written}
use Rattle.visits.proofs.trees.planted.Goals as goal

pub returns : goal.returns
returns c =
    let made = c.put_tree.ensures.made in
    record { added = added made; list = (refl, top_written made) }
