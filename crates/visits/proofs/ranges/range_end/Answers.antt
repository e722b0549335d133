-- Where a byte in a range ends: past the line's end there is none.
use Rattle.std.proofs.Common.{◌≡◌, ◌<◌, ◌≤◌, length, get_or, arith}
use Rattle.visits.proofs.Entering.{range_hit, range_low, range_high, range_past}
use Rattle.visits.proofs.ranges.range_end.Goals.{else-lowest-found-via-then-lowest-found+else-found-highest, else-lowest-found-via-else-lowest-found}
use Rattle.visits.proofs.ranges.range_end.Goals as goal

pub returns-in_err-get : goal.returns-in_err-get
returns-in_err-get c =
    let past : length c.args.line.now ≤ c.args.pos = grind arith in
    rw c.from_residual.ensures (range_past _ _ _ _ past)

pub returns-then-found-highest : goal.returns-then-found-highest
returns-then-found-highest c =
    let inside : c.args.pos < length c.args.line.now = grind arith in
    let is : c.from-found.result ≡ get_or c.args.line.now c.args.pos 0 = grind arith in
    range_hit _ _ _ _ _ is inside c.if-lowest-found.true c.if-found-highest.true

pub returns : goal.returns
returns c =
    let inside : c.args.pos < length c.args.line.now = grind arith in
    let is : c.from-found.result ≡ get_or c.args.line.now c.args.pos 0 = grind arith in
    elim c.else-lowest-found.branch [
      | else-lowest-found-via-then-lowest-found+else-found-highest w ↦ range_high _ _ _ _ _ is inside w.if-lowest-found.true w.if-found-highest.false
      | else-lowest-found-via-else-lowest-found w ↦ range_low _ _ _ _ _ is inside w.if-lowest-found.false
    ]
