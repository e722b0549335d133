-- Each return of `finish` is the row of 01 that its tests say.
use Rattle.std.proofs.Common.{sym, ap, ◌∙◌, arith}
use Rattle.stored.specs.Stored.{stored_length}
use Rattle.reader.specs.Answer.{is_whole}
use Rattle.reader.proofs.Finishing.{asks_whole, by_effort, by_deep, arena_of, by_match, as_rest, as_records, as_room, as_read, true_count, over_count}
use Rattle.reader.proofs.Asked.finish.Goals as goal

pub returns-then-list-eq-EFFORT : goal.returns-then-list-eq-EFFORT
returns-then-list-eq-EFFORT c =
    by_effort _ _ _ _ _ c.requires _ _ c.end_of-end.ensures c.list_of-list.ensures c.if-end-eq-STOPPED.true c.if-list-eq-EFFORT.true

pub returns-then-end-eq-STOPPED : goal.returns-then-end-eq-STOPPED
returns-then-end-eq-STOPPED c =
    by_deep _ _ _ _ _ c.requires _ _ c.end_of-end.ensures c.list_of-list.ensures c.if-end-eq-STOPPED.true c.if-list-eq-EFFORT.false

pub returns-then-matched-line : goal.returns-then-matched-line
returns-then-matched-line c =
    by_match _ _ _ _ _ c.requires _ _ c.end_of-end.ensures c.list_of-list.ensures (omega arith) (omega arith)
    (λ work. as_rest _ _ _ _ _ _ work _ (asks_whole c.args.self.now.extent ∙ sym c.eq.ensures ∙ c.if-eq.true) c.if-matched-line.true)

pub records_of-records-requires : goal.records_of-records-requires
records_of-records-requires c =
    arena_of (is_whole c.args.self.now.extent) _ _ _ c.args.room.now c.requires _ _ c.end_of-end.ensures c.list_of-list.ensures (omega arith) (omega arith)

pub returns-then-records-gt-MOST_RECORDS : goal.returns-then-records-gt-MOST_RECORDS
returns-then-records-gt-MOST_RECORDS c =
    by_match _ _ _ _ _ c.requires _ _ c.end_of-end.ensures c.list_of-list.ensures (omega arith) (omega arith)
    (λ work. as_records _ _ _ _ _ _ work _ (rw (asks_whole c.args.self.now.extent ∙ sym c.eq.ensures) c.else-eq.either) (over_count _ _ c.records_of-records.ensures c.if-records-gt-MOST_RECORDS.true))

pub returns-then-room-stored_length : goal.returns-then-room-stored_length
returns-then-room-stored_length c =
    let few = c.if-records-gt-MOST_RECORDS.false in
    let version = c.version_of-version.result in
    let counted = true_count _ _ c.records_of-records.ensures few in
    let long = c.stored_length.ensures ∙ ap (stored_length version) counted in
    by_match _ _ _ _ _ c.requires _ _ c.end_of-end.ensures c.list_of-list.ensures (omega arith) (omega arith)
    (λ work. rw counted (as_room _ _ _ _ _ _ work _ (rw (asks_whole c.args.self.now.extent ∙ sym c.eq.ensures) c.else-eq.either) (omega arith) version c.version_of-version.ensures.is (omega arith)))

pub write-requires : goal.write-requires
write-requires c =
    let few = c.if-records-gt-MOST_RECORDS.false in
    let counted = true_count _ _ c.records_of-records.ensures few in
    let long = c.stored_length.ensures ∙ ap (stored_length c.version_of-version.result) counted in
    let arena = arena_of (is_whole c.args.self.now.extent) _ _ _ c.args.room.now c.requires _ _ c.end_of-end.ensures c.list_of-list.ensures (omega arith) (omega arith) in
    record { arena = arena; few = (omega arith, c.version_of-version.ensures.widths); fits = omega arith }

pub returns : goal.returns
returns c =
    let few = c.if-records-gt-MOST_RECORDS.false in
    let version = c.version_of-version.result in
    let counted = true_count _ _ c.records_of-records.ensures few in
    let long = c.stored_length.ensures ∙ ap (stored_length version) counted in
    by_match _ _ _ _ _ c.requires _ _ c.end_of-end.ensures c.list_of-list.ensures (omega arith) (omega arith)
    (λ work. rw (counted, c.write.ensures) (as_read _ _ _ _ _ _ work _ (rw (asks_whole c.args.self.now.extent ∙ sym c.eq.ensures) c.else-eq.either) (omega arith) version c.version_of-version.ensures.is (omega arith)))
