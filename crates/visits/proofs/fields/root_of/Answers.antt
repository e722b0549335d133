-- `root_of` gives a root as a u32: there are at most 512 nodes.
use native.Mathlib.Omega.{arith}
use Rattle.layout.proofs.Laying.{well_laid}
use Rattle.visits.proofs.fields.root_of.Goals as goal

pub overflow_cast-result : goal.overflow_cast-result
overflow_cast-result c = omega (arith, c.root.ensures.1, (well_laid _ c.requires.0).few_nodes)
