-- Where no repetition is suspected there is nothing to refuse; else the marks decide, from the first that is.
use mathlib.Core.Path.{refl, sym, ◌∙◌}
use Rattle.bits.proofs.Marks.{none_marked}
use Rattle.layout.proofs.Laying.{laid}
use Rattle.sheet.proofs.Searching.{from_suspect, none_suspected}
use Rattle.sheet.proofs.loops.Goals as goal

pub returns-in-None : goal.returns-in-None
returns-in-None c = none_suspected _ (laid _ c.args.table.now.laid) _ _ _ refl c.requires c.in-None.ensures refl

pub mark_empties-requires : goal.mark_empties-requires
mark_empties-requires c = (laid _ c.args.table.now.laid, (refl, none_marked))

pub returns-in-Some : goal.returns-in-Some
returns-in-Some c =
    c.first_loop.ensures ∙ sym (from_suspect _ (laid _ c.args.table.now.laid) _ _ _ refl c.requires c.in-Some.ensures)
