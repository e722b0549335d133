-- Each kind has its node.
use mathlib.Core.Path.{◌≡◌, refl}
use native.Mathlib.Omega.{arith}
use Rattle.layout.proofs.Laying.{is_node}
use Rattle.layout.proofs.node_from.Goals as goal

pub returns-in-1 : goal.returns-in-1
returns-in-1 c = is_node _ c.requires.0 _ _ _ _ c.requires.1.0 c.kind_from.ensures.0 c.field_a_from-a.ensures.0 c.field_b_from-b.ensures.0 _ (rw c.in-1.is refl)

pub returns-in-2 : goal.returns-in-2
returns-in-2 c = is_node _ c.requires.0 _ _ _ _ c.requires.1.0 c.kind_from.ensures.0 c.field_a_from-a.ensures.0 c.field_b_from-b.ensures.0 _ (rw c.in-2.is refl)

pub returns-in-3 : goal.returns-in-3
returns-in-3 c = is_node _ c.requires.0 _ _ _ _ c.requires.1.0 c.kind_from.ensures.0 c.field_a_from-a.ensures.0 c.field_b_from-b.ensures.0 _ (rw c.in-3.is refl)

pub returns-in-4 : goal.returns-in-4
returns-in-4 c = is_node _ c.requires.0 _ _ _ _ c.requires.1.0 c.kind_from.ensures.0 c.field_a_from-a.ensures.0 c.field_b_from-b.ensures.0 _ (rw c.in-4.is refl)

pub returns-in-5 : goal.returns-in-5
returns-in-5 c = is_node _ c.requires.0 _ _ _ _ c.requires.1.0 c.kind_from.ensures.0 c.field_a_from-a.ensures.0 c.field_b_from-b.ensures.0 _ (rw c.in-5.is refl)

pub returns-in-6 : goal.returns-in-6
returns-in-6 c = is_node _ c.requires.0 _ _ _ _ c.requires.1.0 c.kind_from.ensures.0 c.field_a_from-a.ensures.0 c.field_b_from-b.ensures.0 _ (rw c.in-6.is refl)

pub returns-in_default : goal.returns-in_default
returns-in_default c =
    let none : c.kind_from.result ≡ 0 = omega arith in
    is_node _ c.requires.0 _ _ _ _ c.requires.1.0 c.kind_from.ensures.0 c.field_a_from-a.ensures.0 c.field_b_from-b.ensures.0 _ (rw none refl)
