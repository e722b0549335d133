-- `turn_of` reads the two words of a turn.
use mathlib.Core.Path.{refl}
use Rattle.visits.proofs.rows.turn_of.Goals as goal

pub returns : goal.returns
returns c =
    let place = c.turn_at-at.ensures in
    record { turn = (rw (← place) c.answer.ensures.0, rw (← place) c.answer.ensures.1); words = refl }
