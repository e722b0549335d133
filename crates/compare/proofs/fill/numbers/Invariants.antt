-- `numbers` is safe: each number is below its modulus.
use Prim.Native.Nat.{◌<◌}
use Rattle.compare.proofs.fill.numbers.Given as goal

abbrev pub invariant-loop-place : goal.invariant-loop-place
invariant-loop-place l = l.number < 65537
