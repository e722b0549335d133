-- `kept_at` gives the place of a pair: the numbers are small, so nothing overflows.
use native.Mathlib.Omega.{arith}
use lib.ListN.{get_or}
use Rattle.visits.specs.Given.{numbers}
use Rattle.visits.proofs.Places.{pairs_before}
use Rattle.visits.proofs.kept.kept_at.Goals as goal

pub overflow_mul-pair : goal.overflow_mul-pair
overflow_mul-pair c =
    omega (arith, pairs_before c.args.pos (get_or (numbers c.args.given.now) 1 0) c.requires.1.1.1 c.requires.0)

pub overflow_add-pair : goal.overflow_add-pair
overflow_add-pair c =
    omega (arith, pairs_before c.args.pos (get_or (numbers c.args.given.now) 1 0) c.requires.1.1.1 c.requires.0)

pub overflow_mul-result-2 : goal.overflow_mul-result-2
overflow_mul-result-2 c =
    omega (arith, pairs_before c.args.pos (get_or (numbers c.args.given.now) 1 0) c.requires.1.1.1 c.requires.0)

pub overflow_add-result-2 : goal.overflow_add-result-2
overflow_add-result-2 c =
    omega (arith, pairs_before c.args.pos (get_or (numbers c.args.given.now) 1 0) c.requires.1.1.1 c.requires.0)

pub returns : goal.returns
returns c = omega arith
