-- The fields of the node are the ends of the range.
use mathlib.Core.Path.{sym, ap, ◌∙◌}
use Rattle.visits.specs.Says.{ended}
use Rattle.visits.proofs.ranges.visit_range.Goals as goal

pub returns-in-Some-clause-range : goal.returns-in-Some-clause-range
returns-in-Some-clause-range c =
    let at-end = rw (c.a_of-lowest.ensures.0, c.b_of-highest.ensures.0) at c.range_end.ensures in
    (c.answer.ensures.0 ∙ sym (ap ended c.in-Some.is) ∙ at-end, c.answer.ensures.1)

pub returns-in-None-clause-range : goal.returns-in-None-clause-range
returns-in-None-clause-range c =
    let at-end = rw (c.a_of-lowest.ensures.0, c.b_of-highest.ensures.0) at c.range_end.ensures in
    (c.answer-in-None.ensures.0 ∙ sym (ap ended c.in-None.is) ∙ at-end, c.answer-in-None.ensures.1)
