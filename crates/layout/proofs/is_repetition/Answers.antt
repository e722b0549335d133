use mathlib.Core.Path.{refl, sym, ◌∙◌}
use Rattle.layout.proofs.Stops.{stop_read, stop_above, stop_against, stop_fitting}
use Rattle.layout.proofs.is_repetition.Goals as goal

pub returns-in-None : goal.returns-in-None
returns-in-None c =
    (sym (stop_read _ _ _ _ _ c.requires.2 c.pair.ensures.0 c.pair-2.ensures.0) ∙ sym (stop_above _ _ _ _ _ c.in-None.ensures), refl)

pub returns-in-Some-false : goal.returns-in-Some-false
returns-in-Some-false c =
    let said = c.in-Some-false.ensures in
    (sym (stop_read _ _ _ _ _ c.requires.2 c.pair.ensures.0 c.pair-2.ensures.0) ∙ stop_against _ _ _ _ _ said.0 (sym said.1 ∙ c.in-Some-false.field-0-test), refl)

pub returns-in-Some-true : goal.returns-in-Some-true
returns-in-Some-true c =
    let said = c.in-Some-true.ensures in
    sym (stop_read _ _ _ _ _ c.requires.2 c.pair.ensures.0 c.pair-2.ensures.0) ∙ stop_fitting _ _ _ _ _ said.0 (sym said.1 ∙ c.in-Some-true.field-0-test)
