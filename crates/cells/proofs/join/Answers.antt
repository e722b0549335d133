-- `join` makes a list of two joined, without a cell where a side is empty.
use native.Mathlib.Omega.{arith}
use Rattle.cells.proofs.Making.{join_right, join_left, join_both}
use Rattle.cells.proofs.join.Goals as goal

pub returns-then-left-eq0 : goal.returns-then-left-eq0
returns-then-left-eq0 c =
    let both =
    join_right c.args.work.now c.args.top c.args.left c.args.right c.requires.arena.0 c.requires.arena.1.0 c.requires.arena.1.1 c.if-left-eq0.true
    in record { words = both.0; made = both.1 }

pub returns-then-right-eq0 : goal.returns-then-right-eq0
returns-then-right-eq0 c =
    let both =
    join_left c.args.work.now c.args.top c.args.left c.args.right
    c.requires.arena.0 c.requires.arena.1.0 c.requires.arena.1.1 c.if-left-eq0.false c.if-right-eq0.true
    in record { words = both.0; made = both.1 }

pub returns-else-right-eq0 : goal.returns-else-right-eq0
returns-else-right-eq0 c =
    let if1 = c.if-left-eq0 in
    let if2 = c.if-right-eq0 in
    let both =
    join_both c.args.work.now c.args.top c.args.left c.args.right c.requires.arena.0 c.requires.arena.1.0 c.requires.arena.1.1 _ if1.false if2.false
    c.requires.room.0 (omega arith) c.put_join.ensures
    in record { words = both.0; made = both.1 }
