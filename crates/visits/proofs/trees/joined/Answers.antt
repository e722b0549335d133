-- `joined` joins two lists and writes the number of cells in use.
use Rattle.visits.proofs.Adding.{added}
use Rattle.visits.proofs.trees.joined.Goals as goal

pub returns : goal.returns
returns c =
    let made = c.join-held.ensures.made in
    (c.answer.ensures.0, rw c.answer.ensures.1 (added made))
