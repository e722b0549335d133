use native.Mathlib.Omega.{arith}
use Rattle.layout.proofs.Laying.{node_inside, node_place}
use Rattle.layout.proofs.kind_from.Goals as goal

pub bounds-table-at : goal.bounds-table-at
bounds-table-at c =
    let p = node_place _ c.requires.0 _ _ c.requires.1.1 c.requires.1.0 in
    omega (arith, node_inside _ c.requires.0 _ c.requires.1.0)
