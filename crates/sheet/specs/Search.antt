-- What the contracts of the code's own functions cite.
use Rattle.std.specs.Prelude.{Bool, ◌&&◌, List, ℕ, eqb}
use Rattle.std.proofs.Math.Bool as B
use Rattle.layout.specs.Table.{kind_of, a_of}

-- A repetition whose child is no range. A range is never empty, so no other can be refused.
unfoldable pub suspect : List ℕ → ℕ → Bool
suspect t i = eqb (kind_of t i) 6 && B.not (eqb (kind_of t (a_of t i)) 1)
