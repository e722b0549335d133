-- The layout's rows decide first; then the marks are made, and the repetitions decide.
use mathlib.Core.Path.{refl, ◌∙◌}
use Rattle.layout.proofs.Stops.{refuses}
use Rattle.sheet.proofs.Searching.{laid_by, layout_refuses, not_laid, from_repetition}
use Rattle.sheet.proofs.examine.Goals as goal

pub returns-in-Err : goal.returns-in-Err
returns-in-Err c =
    let s = c.in-Err.ensures in
    let out = not_laid _ _ s (refuses _) in
    record { verdict = layout_refuses _ _ s (refuses _); rules = λ laid. absurd (out laid); marks = λ laid. absurd (out laid); refused = λ m. (refl, refl) }

pub mark_empties-empty_rules-requires : goal.mark_empties-empty_rules-requires
mark_empties-empty_rules-requires c = (laid_by _ _ c.in-Ok.ensures refl, c.requires)

pub of-table-requires : goal.of-table-requires
of-table-requires c = laid_by _ _ c.in-Ok.ensures refl

pub first_loop-verdict-requires : goal.first_loop-verdict-requires
first_loop-verdict-requires c =
    let s = c.in-Ok.ensures in
    rw c.of-table.ensures ((s.repetition (laid_by _ _ s refl)).most, c.mark_empties-empty_rules.ensures.1)

pub returns-in-Ok : goal.returns-in-Ok
returns-in-Ok c =
    let s = c.in-Ok.ensures in
    let laid = laid_by _ _ s refl in
    let m = c.mark_empties-empty_rules.ensures in
    record {
      verdict = rw c.of-table.ensures at c.first_loop-verdict.ensures ∙ from_repetition _ laid _ _ refl (s.repetition laid);
      rules = λ l. m.0;
      marks = λ l. m.1;
      refused = λ out. absurd (out laid);
    }
