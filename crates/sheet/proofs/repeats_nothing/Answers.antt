-- LOOP at a repetition whose child is marked.
use mathlib.Core.Path.{◌≡◌, sym, ap, ◌∙◌}
use mathlib.Core.Bool.{false}
use lib.ListN.{get_or}
use Rattle.bits.specs.Marks.{marked}
use Rattle.layout.specs.Table.{a_of, grammar_of}
use Rattle.layout.proofs.Laying.{laid}
use Rattle.meaning.specs.Decide.{empty_nodes}
use Rattle.sheet.proofs.ByKind as kinds
use Rattle.sheet.proofs.Searching.{computed, no_repetition, repetition, child_there}
use Rattle.sheet.proofs.repeats_nothing.Goals as goal

pub returns-in_default : goal.returns-in_default
returns-in_default c =
    let good = laid c.args.table.now.bytes.now c.args.table.now.laid in
    sym (no_repetition _ good _ c.requires.0 (kinds.no_repetition _ good _ c.requires.0 _ c.node.ensures c.in_default.not-Repetition))

pub returns-in-Repetition : goal.returns-in-Repetition
returns-in-Repetition c =
    let t = c.args.table.now.bytes.now in
    let good = laid t c.args.table.now.laid in
    let there = c.requires.0 in
    let r = kinds.is_repetition t good _ there _ c.node.ensures c.in-Repetition.child c.in-Repetition.is in
    let mark : c.marked.result ≡ get_or (empty_nodes (grammar_of t)) (a_of t c.args.i) false =
    c.marked.ensures ∙ ap (marked c.args.marks.now) r.1 ∙ computed t good c.args.marks.now c.requires.1 _ (child_there t good _ there r.0) in
    rw mark (sym (repetition t good _ there r.0))
