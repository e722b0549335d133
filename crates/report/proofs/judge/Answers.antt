-- The masks are found, then whether a left-recursive rule is reachable.
use Rattle.report.proofs.Passes.{used}
use Rattle.report.proofs.judge.Goals as goal

pub returns : goal.returns
returns c =
    let m = rw c.of-table.ensures at c.masks-found.ensures in
    let j = rw c.of-table.ensures at c.none_reached-free.ensures in
    record { left_rules = m.0; free = j.free; used = used _ c.requires.0 c.args.scratch.now c.requires.2 _ m.2 _ j }
