-- `no_cells` leaves no cells, and counts of zero for list 0.
use mathlib.Core.Path.{◌≡◌}
use mathlib.Core.List.{[], ◌∷◌}
use native.Mathlib.Omega.{arith}
use lib.ListN.{length, take, drop}
use Rattle.std.proofs.lemmas.List.{length-take, length-drop}
use Rattle.cells.proofs.Making.{put_in_place, no_cells}
use Rattle.cells.proofs.no_cells.Goals as goal

pub returns : goal.returns
returns c =
    let n : length (take 3 (drop 2045 c.args.work.now)) ≡ 3 = omega (arith, length-take 3 (drop 2045 c.args.work.now), length-drop 2045 c.args.work.now) in
    let e = put_in_place c.args.work.now 2045 3 (0 ∷ 0 ∷ 0 ∷ []) c.fill.new.self (rw n at (c.fill.ensures.after (λ y same. same))) (omega arith) (omega arith) in
    record { words = e; arena = rw e (no_cells c.args.work.now c.requires) }
