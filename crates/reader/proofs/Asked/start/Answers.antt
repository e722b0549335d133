-- The use of rule 0 starts with nothing live and nothing kept; what comes back is the whole of the working numbers that were lent.
use Rattle.std.proofs.Common.{◌≡◌, cond, sym, ◌∙◌}
use Rattle.sheet.proofs.Accepting.{laid}
use Rattle.layout.specs.Table.{nodes_of}
use Rattle.reader.proofs.Starting.{some_rule, ready, tells, visiting}
use Rattle.reader.proofs.Choosing.{by_true, by_false}
use Rattle.reader.proofs.Asked.start.Goals as goal
use Rattle.reader.proofs.Asked.start.Goals.{then-judged, else-judged}

pub first_node-first-requires : goal.first_node-first-requires
first_node-first-requires c = laid _ c.requires.fitting.accepted

pub node_count-requires : goal.node_count-requires
node_count-requires c = laid _ c.requires.fitting.accepted

pub read_line-requires : goal.read_line-requires
read_line-requires c =
    let each : c.if-judged.each ≡ cond c.args.judged.now.free (nodes_of c.args.self.now.table.now) 0 = elim c.if-judged.branch [ then-judged w ↦ by_true _ w.if-judged.true (w.each-is ∙ w.node_count.ensures.0) | else-judged w ↦ by_false _ w.if-judged.false w.each-is ] in
    record { ready = ready _ _ _ _ _ _ _ _ _ c.requires each c.first_node-first.ensures.0 c.no_visits.ensures; some = some_rule c.requires }

pub returns : goal.returns
returns c =
    let each : c.if-judged.each ≡ cond c.args.judged.now.free (nodes_of c.args.self.now.table.now) 0 = elim c.if-judged.branch [ then-judged w ↦ by_true _ w.if-judged.true (w.each-is ∙ w.node_count.ensures.0) | else-judged w ↦ by_false _ w.if-judged.false w.each-is ] in
    let all_back = c.work-2-1.given.1.0 (sym c.read_line.ensures.lent) in
    record {
      numbers = rw all_back (visiting _ _ _ _ _ _ _ _ _ c.requires each c.first_node-first.ensures.0 c.no_visits.ensures _ _ c.read_line.ensures.says);
      tells = rw all_back (tells _ _ _ _ _ _ _ _ _ c.requires each c.first_node-first.ensures.0 c.no_visits.ensures _ _ c.read_line.ensures.says);
    }
