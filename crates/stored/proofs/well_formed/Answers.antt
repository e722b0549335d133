-- `well_formed` asks for a line that is not too long, and for the version that the line gives.
use mathlib.Core.Path.{◌∙◌}
use borrow.Author.Tests.{lt-leb}
use Rattle.stored.proofs.Versions.{too_long, not_too_long}
use Rattle.stored.proofs.well_formed.Goals as goal

pub returns-then-long-le-LONGEST_LINE : goal.returns-then-long-le-LONGEST_LINE
returns-then-long-le-LONGEST_LINE c = c.well_formed_by.ensures ∙ not_too_long _ _ _ _ c.if-long-le-LONGEST_LINE.true c.version_of.ensures.is

pub returns-else-long-le-LONGEST_LINE : goal.returns-else-long-le-LONGEST_LINE
returns-else-long-le-LONGEST_LINE c = lt-leb _ _ c.if-long-le-LONGEST_LINE.false ∙ too_long _ _ _ c.if-long-le-LONGEST_LINE.false
