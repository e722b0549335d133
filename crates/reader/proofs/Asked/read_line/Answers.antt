use Rattle.std.proofs.Common.{◌≡◌, ◌+◌, ◌*◌, cond, ◌∙◌, arith}
use Rattle.meaning.specs.Reading.{read}
use Rattle.layout.specs.Table.{grammar_of}
use Rattle.sheet.proofs.Accepting.{laid}
use Rattle.reader.specs.Answer.{cleared}
use Rattle.reader.proofs.Turning.{untouched, startable, as_cleared}
use Rattle.reader.proofs.Choosing.{by_true, by_false}
use Rattle.reader.proofs.Asked.read_line.Goals as goal
use Rattle.reader.proofs.Asked.read_line.Goals.{then-judged, else-judged}

pub judge-judged-requires : goal.judge-judged-requires
judge-judged-requires c = (laid _ c.requires.0.accepted, c.requires.2, omega (arith, c.requires.0.room))

pub start-answer-requires : goal.start-answer-requires
start-answer-requires c =
    let from : c.if-judged.kept ≡ cond c.judge-judged.result.free (2048 + 4 * c.args.self.now.allowance) c.args.needed = elim c.if-judged.branch [ then-judged w ↦ by_true _ w.if-judged.true w.kept-is | else-judged w ↦ by_false _ w.if-judged.false w.kept-is ] in
    let used = c.judge-judged.ensures.used in
    startable _ _ _ _ _ c.judge-judged.result.free _ _ _ _ c.requires.0 c.requires.1 used.same_length used.rest from (c.fill.ensures.after (λ y e. e)) c.no_cells.ensures.words c.judge-judged.ensures.free c.judge-judged.ensures.left_rules c.no_cells.ensures.arena

pub returns : goal.returns
returns c =
    let from : c.if-judged.kept ≡ cond c.judge-judged.result.free (2048 + 4 * c.args.self.now.allowance) c.args.needed = elim c.if-judged.branch [ then-judged w ↦ by_true _ w.if-judged.true w.kept-is | else-judged w ↦ by_false _ w.if-judged.false w.kept-is ] in
    let used = c.judge-judged.ensures.used in
    let l = c.finish.ensures c.args.self.now.allowance (read (grammar_of c.args.self.now.table.now) c.args.self.now.line.now c.args.self.now.allowance) (cleared c.args.needed c.args.work.now) c.start-answer.ensures.tells in
    let ready = untouched _ _ _ _ _ c.judge-judged.result.free _ _ _ _ c.requires.0 c.requires.1 used.same_length used.rest from (c.fill.ensures.after (λ y e. e)) c.no_cells.ensures.words in
    let same = c.start-answer.auto.work ∙ ready.0 in
    record {
      returned = rw (c.visits_made.ensures, c.furthest_visited.ensures) l.returned;
      working = as_cleared _ _ _ _ (c.fill-2.ensures.after (λ y e. e)) (omega (arith, c.requires.0.room)) (omega arith) (λ j h. c.start-answer.ensures.numbers.past j (omega arith) ∙ ready.1 j h) ∙ l.working;
      stored = l.stored;
    }
