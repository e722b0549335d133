use native.Mathlib.Omega.{arith}
use mathlib.Core.Path.{◌≡◌}
use Prim.Native.Nat.{◌*◌}
use Rattle.stored.specs.Stored.{records_of, record_size}
use Rattle.cells.specs.Cells.{saturated, trees_at}
use Rattle.cells.proofs.Frame.{arena_less}
use Rattle.cells.proofs.Writing.{records_both, bytes_both, bytes_one, along_all, along_none, along_tree, between_is, along_first, along_second, some_list, leaf_wrote}
use Rattle.cells.proofs.+writing.Goals as goal

pub write_list-cell_at-requires : goal.write_list-cell_at-requires
write_list-cell_at-requires t c =
    let one : 1 ≡ saturated (records_of (trees_at c.args.work.now c.args.list)) = omega arith in
    (c.requires.arena, some_list c.args.work.now c.args.list one)

pub write_list-returns-in-Tree : goal.write_list-returns-in-Tree
write_list-returns-in-Tree t c =
    let one : 1 ≡ saturated (records_of (trees_at c.args.work.now c.args.list)) = omega arith in
    leaf_wrote _ _ _ _ _ c.in-Tree.ensures.trees one _ _ _ _ (rw c.record_size.ensures at c.put_record.ensures.1)

pub write_trees-loop-rest-init : goal.write_trees-loop-rest-init
write_trees-loop-rest-init t c =
    along_all c.args.work.now c.args.room.now c.args.width c.args.list c.args.end c.requires.few.0 c.requires.fits.0

pub write_trees-overflow_sub-to : goal.write_trees-overflow_sub-to
write_trees-overflow_sub-to t c =
    let b = bytes_one _ _ _ _ _ c.in-Tree.ensures.trees c.args.width in
    omega (arith, c.loop-rest.invariant.left, b)

pub write_trees-put_record-requires : goal.write_trees-put_record-requires
write_trees-put_record-requires t c =
    let loop = c.loop-rest in
    let b = bytes_one _ _ _ _ _ c.in-Tree.ensures.trees c.args.width in
    (omega (arith, c.requires.fits.1, loop.invariant.long, loop.invariant.order, loop.invariant.left, b), c.requires.few.1)

pub write_trees-loop-rest-preserved-in-Tree : goal.write_trees-loop-rest-preserved-in-Tree
write_trees-loop-rest-preserved-in-Tree t c =
    let loop = c.loop-rest in
    let b = bytes_one _ _ _ _ _ c.in-Tree.ensures.trees c.args.width in
    along_tree loop.invariant _ _ _ _ c.in-Tree.ensures.trees c.in-Tree.ensures.below _ _ _ c.trees_of-number.ensures (omega (arith, loop.invariant.left, b)) c.put_record.ensures.1

pub write_trees-overflow_sub-between : goal.write_trees-overflow_sub-between
write_trees-overflow_sub-between t c =
    let between = between_is c.loop-rest.invariant _ _ c.in-Join.ensures.trees c.in-Join.ensures.below _ c.records_of-records.ensures in
    rw c.record_size.ensures (omega (arith, between))

pub write_trees-write_trees-requires : goal.write_trees-write_trees-requires
write_trees-write_trees-requires t c =
    let loop = c.loop-rest in
    let join = c.in-Join.ensures in
    let w = c.args.work.now in
    let both = records_both (trees_at w loop.rest) (trees_at w c.in-Join.left) (trees_at w c.in-Join.right) join.trees in
    let between = between_is loop.invariant _ _ join.trees join.below _ c.records_of-records.ensures in
    let size : c.record_size.result * c.records_of-records.result ≡ record_size c.args.width * c.records_of-records.result = rw c.record_size.ensures in (
      omega (arith, loop.invariant.within, join.below),
      (
        arena_less w c.args.list c.in-Join.left (omega (arith, loop.invariant.within, join.below)) c.requires.arena,
        (
          (omega (arith, loop.invariant.few, both), c.requires.few.1),
          (omega (arith, between, size), omega (arith, between, size, c.requires.fits.1, loop.invariant.long, loop.invariant.order)),
        ),
      ),
    )

pub write_trees-loop-rest-preserved-then-records_of-records : goal.write_trees-loop-rest-preserved-then-records_of-records
write_trees-loop-rest-preserved-then-records_of-records t c =
    let size : c.record_size.result * c.records_of-records.result ≡ record_size c.args.width * c.records_of-records.result = rw c.record_size.ensures in
    along_second c.loop-rest.invariant _ _ c.in-Join.ensures.trees c.in-Join.ensures.below _ c.records_of-records.ensures _ _ (omega (arith, size)) c.write_trees.ensures

pub write_trees-write_list-requires : goal.write_trees-write_list-requires
write_trees-write_list-requires t c =
    let loop = c.loop-rest in
    let join = c.in-Join.ensures in
    let w = c.args.work.now in
    let both = records_both (trees_at w loop.rest) (trees_at w c.in-Join.left) (trees_at w c.in-Join.right) join.trees in
    let b = bytes_both (trees_at w loop.rest) (trees_at w c.in-Join.left) (trees_at w c.in-Join.right) join.trees c.args.width in (
      omega (arith, loop.invariant.within, join.below),
      (
        arena_less w c.args.list c.in-Join.right (omega (arith, loop.invariant.within, join.below)) c.requires.arena,
        (
          (omega (arith, loop.invariant.few, both), c.requires.few.1),
          (omega (arith, loop.invariant.left, b), omega (arith, c.requires.fits.1, loop.invariant.long, loop.invariant.order)),
        ),
      ),
    )

pub write_trees-loop-rest-preserved : goal.write_trees-loop-rest-preserved
write_trees-loop-rest-preserved t c =
    rw c.record_size.ensures (along_first c.loop-rest.invariant _ _ c.in-Join.ensures.trees c.in-Join.ensures.below _ c.records_of-records.ensures _ c.write_list.ensures)

pub write_trees-returns : goal.write_trees-returns
write_trees-returns t c = along_none c.loop-rest.invariant c.loop-rest-test.false
