use mathlib.Core.Path.{◌≡◌}
use native.Mathlib.Omega.{arith}
use Rattle.layout.specs.Table.{field_of}
use Rattle.layout.proofs.Laying.{small_field, node_inside, node_place}
use Rattle.layout.proofs.field_from.Goals as goal

pub overflow_mul-i : goal.overflow_mul-i
overflow_mul-i c = let p = node_place _ c.requires.has_node.0 _ _ c.requires.has_node.1.1 c.requires.has_node.1.0 in omega arith

pub overflow_add-first : goal.overflow_add-first
overflow_add-first c = let p = node_place _ c.requires.has_node.0 _ _ c.requires.has_node.1.1 c.requires.has_node.1.0 in omega arith

pub overflow_add-first-2 : goal.overflow_add-first-2
overflow_add-first-2 c = let p = node_place _ c.requires.has_node.0 _ _ c.requires.has_node.1.1 c.requires.has_node.1.0 in omega arith

pub pair-requires : goal.pair-requires
pair-requires c =
    let p = node_place _ c.requires.has_node.0 _ _ c.requires.has_node.1.1 c.requires.has_node.1.0 in
    omega (arith, node_inside _ c.requires.has_node.0 _ c.requires.has_node.1.0)

pub returns : goal.returns
unfolding field_of
returns c =
    let p = (node_place _ c.requires.has_node.0 _ _ c.requires.has_node.1.1 c.requires.has_node.1.0).0 in
    let e : c.pair.result ≡ field_of c.args.table.now c.args.i c.args.at = cc in
    (e, omega (arith, small_field _ c.requires.has_node.0 _ _ c.requires.has_node.1.0 c.requires.at_value.0 c.requires.at_value.1))
