-- `write` puts the head, and then the records so that they end where the stored reading does.
use native.Mathlib.Omega.{arith}
use Rattle.cells.proofs.Writing.{end_is, all_wrote}
use Rattle.cells.proofs.write.Goals as goal

pub write_trees-requires : goal.write_trees-requires
write_trees-requires c =
    let at-records-of = c.records_of-records in
    let at-put-head = c.put_head in
    let at-stored-length = c.stored_length-end in
    let p = c.requires in
    let e = end_is c.args.width at-records-of.result _ p.few.0 at-records-of.ensures in
    record { arena = p.arena; few = p.few; fits = (omega (arith, e, at-stored-length.ensures), omega (arith, e, at-stored-length.ensures, p.fits, at-put-head.auto.room)) }

pub returns : goal.returns
returns c =
    let at-records-of = c.records_of-records in
    let at-put-head = c.put_head in
    let at-stored-length = c.stored_length-end in
    let at-write-trees = c.write_trees in
    let p = c.requires in
    all_wrote c.args.room.now _ _ c.args.width _ _ _ p.few.0 p.fits at-records-of.ensures at-put-head.ensures at-stored-length.ensures at-write-trees.ensures
