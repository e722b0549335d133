-- The left-recursive rules are those from which a chain of starts leads back; those at the start of rule 0, itself and those to which one leads from it.
use mathlib.Core.Path.{◌≡◌, ap}
use Prim.Native.Nat.{ℕ, ◌<◌}
use native.Mathlib.Omega.{arith}
use lib.ListN.{length}
use Rattle.bits.specs.Mask.{has}
use Rattle.layout.specs.Table.{grammar_of}
use Rattle.layout.proofs.Laying.{laid, rule_count, closed}
use Rattle.report.specs.Pass.{in_set}
use Rattle.report.proofs.Passes.{empties_said}
use Rattle.report.proofs.Recursion.{left_found, start_found}
use Rattle.report.proofs.chains.Goals as goal

pub returns : goal.returns
returns c =
    let t = c.args.table.now.bytes.now in
    let to = c.steps in
    let few = rule_count t in
    let g = grammar_of t in
    let good = closed t (laid t c.args.table.now.laid) in
    let r : length to.new.to ≡ length g.roots = omega (arith, few, to.ensures.0) in
    let s : length c.close.new.to ≡ length g.roots = omega (arith, r, c.close.auto.to) in
    let step = λ (a b : ℕ) (h : a < length g.roots). ap (λ x. has x b) (to.ensures.1 a (omega (arith, few))) in
    let led = rw r at c.close.ensures in
    let back = c.led_back in
    let first = c.add_rule in (
      left_found g good (omega arith) _ (empties_said t (laid t c.args.table.now.laid)) _ c.requires.1 (in_set to.new.to) step _ led _ back.type_inv (rw s at back.ensures),
      start_found g good (omega arith) _ (empties_said t (laid t c.args.table.now.laid)) _ c.requires.1 (in_set to.new.to) step _ led (omega (arith, few)) _ first.type_inv first.ensures.bits,
    )
