-- The place of a kept answer is a small number.
use native.Mathlib.Nat.{mul-le-mul}
use Prim.Native.Nat.{ℕ, ◌*◌, ◌≤◌}
use Rattle.visits.specs.Given.{longest_line}

pub pairs_before : (pos each : ℕ) → pos ≤ longest_line → each ≤ 512 → pos * each ≤ longest_line * 512
pairs_before pos each near few = mul-le-mul near few
