use mathlib.Core.Path.{◌≡◌, sym, ◌∙◌}
use Rattle.cells.specs.Cells.{records_word, with_tree}
use Rattle.cells.proofs.Making.{made_tree}
use Rattle.cells.proofs.put_tree.Goals as goal

pub returns-clause-made : goal.returns-clause-made
returns-clause-made c =
    let a = c.args in
    let p = c.requires in
    let counted : c.records_of.result ≡ records_word a.work.now a.children = c.records_of.ensures ∙ sym (p.arena.0.records a.children p.arena.1) in
    let e : c.put_cell.new.work ≡ with_tree a.work.now a.top a.rule a.start a.end a.children = c.put_cell.ensures ∙ rw (c.min-records.ensures, counted) in
    rw e (made_tree a.work.now a.top p.room.0 p.arena.0 a.rule a.start a.end a.children p.small.0 p.small.1.0 p.small.1.1 p.arena.1)
