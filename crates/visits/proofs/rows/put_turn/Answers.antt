-- `put_turn` writes the two words of a turn, and how many wait.
use native.Mathlib.Omega.{arith}
use mathlib.Core.Path.{refl}
use Prim.Native.Nat.{◌+◌}
use lib.ListN.{set, length-set}
use Rattle.visits.proofs.rows.put_turn.Goals as goal

pub bounds-work-at-2 : goal.bounds-work-at-2
bounds-work-at-2 c =
    omega (arith, length-set c.args.work.now c.turn_at-at.result c.args.pos, c.turn_at-at.ensures, c.requires.some, c.requires.within, c.requires.room)

pub bounds-work-2041 : goal.bounds-work-2041
bounds-work-2041 c =
    let one = set c.args.work.now c.turn_at-at.result c.args.pos in
    omega (arith, length-set one (c.turn_at-at.result + 1) c.args.list, length-set c.args.work.now c.turn_at-at.result c.args.pos, c.requires.room)

pub returns : goal.returns
returns c = rw c.turn_at-at.ensures refl
