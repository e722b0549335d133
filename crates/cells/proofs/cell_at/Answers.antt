use Rattle.cells.proofs.Frame.{cell_tree, cell_join}
use Rattle.cells.proofs.cell_at.Goals as goal

pub returns-then-second-ge-MARK-clause-trees : goal.returns-then-second-ge-MARK-clause-trees
returns-then-second-ge-MARK-clause-trees c = cell_tree c.args.work.now c.args.list c.requires.0 c.requires.1 c.if-second-ge-MARK.true

pub returns-else-second-ge-MARK-clause-trees : goal.returns-else-second-ge-MARK-clause-trees
returns-else-second-ge-MARK-clause-trees c = cell_join c.args.work.now c.args.list c.requires.0 c.requires.1 c.if-second-ge-MARK.false
