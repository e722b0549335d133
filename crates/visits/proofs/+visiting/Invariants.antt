-- What falls from call to call in the cycle of a visit: the open visits left, and within one visit a rank of the functions. And what its three loops keep.
use Prim.Native.Nat.{◌+◌, ◌-◌, ◌*◌}
use mathlib.Core.Path.{◌≡◌}
use Rattle.visits.specs.Given.{numbers, lent, left_in, pos_in, Moved}
use Rattle.visits.specs.Words.{turns_in, top_in, made_in}
use Rattle.visits.proofs.Attempts.{GrowingIn}
use Rattle.visits.proofs.KeptRowsHere.{KeptRowIn}
use Rattle.visits.proofs.RowsHere.{RowIn}
use Rattle.visits.proofs.+visiting.Given as goal

abbrev pub decreases-apply : goal.decreases-apply
decreases-apply l = left_in l.spot * 6 + 3

abbrev pub decreases-keep_row : goal.decreases-keep_row
decreases-keep_row l = left_in l.spot * 6 + 1

abbrev pub decreases-use_fresh : goal.decreases-use_fresh
decreases-use_fresh l = left_in l.spot * 6 + 2

abbrev pub decreases-use_live : goal.decreases-use_live
decreases-use_live l = left_in l.spot * 6 + 1

abbrev pub decreases-use_once : goal.decreases-use_once
decreases-use_once l = left_in l.spot * 6 + 1

abbrev pub decreases-use_rule : goal.decreases-use_rule
decreases-use_rule l = left_in l.spot * 6 + 3

abbrev pub decreases-visit : goal.decreases-visit
decreases-visit l = left_in l.spot * 6

abbrev pub decreases-visit_choice : goal.decreases-visit_choice
decreases-visit_choice l = left_in l.spot * 6 + 1

abbrev pub decreases-visit_not : goal.decreases-visit_not
decreases-visit_not l = left_in l.spot * 6 + 1

abbrev pub decreases-visit_open : goal.decreases-visit_open
decreases-visit_open l = left_in l.spot * 6 + 4

abbrev pub decreases-visit_pair : goal.decreases-visit_pair
decreases-visit_pair l = left_in l.spot * 6 + 2

abbrev pub decreases-visit_repetition : goal.decreases-visit_repetition
decreases-visit_repetition l = left_in l.spot * 6 + 2

abbrev pub decreases-visit_row : goal.decreases-visit_row
decreases-visit_row l = left_in l.spot * 6 + 1

abbrev pub decreases-visit_sequence : goal.decreases-visit_sequence
decreases-visit_sequence l = left_in l.spot * 6 + 1

-- The visit at hand stands at `here`, and its row has waited since the loop began.
abbrev pub invariant-keep_row-loop-work : goal.invariant-keep_row-loop-work
invariant-keep_row-loop-work l =
    KeptRowIn (lent l.basis.table.now (numbers l.basis.given)) l.basis.line.now l.spot l.node l.initial.work.now l.work.now (pos_in l.here) (turns_in l.work.now) × ((l.before ≡ turns_in l.initial.work.now) × (Moved l.spot (pos_in l.here) l.here × (l.work.ghost_name ≡ l.initial.work.ghost_name)))

abbrev pub decreases-keep_row-loop-work : goal.decreases-keep_row-loop-work
decreases-keep_row-loop-work l = l.basis.given.allowance - made_in l.work.now

abbrev pub invariant-use_live-loop-next : goal.invariant-use_live-loop-next
invariant-use_live-loop-next l =
    GrowingIn (lent l.basis.table.now (numbers l.basis.given)) l.basis.line.now l.spot l.root l.rule (pos_in l.spot) l.initial.work.now l.initial.end l.work.now l.end × ((l.held ≡ top_in l.work.now) × (l.work.ghost_name ≡ l.initial.work.ghost_name))

abbrev pub decreases-use_live-loop-next : goal.decreases-use_live-loop-next
decreases-use_live-loop-next l = l.basis.given.allowance - made_in l.work.now

abbrev pub invariant-visit_row-loop-turn : goal.invariant-visit_row-loop-turn
invariant-visit_row-loop-turn l =
    RowIn (lent l.basis.table.now (numbers l.basis.given)) l.basis.line.now l.spot l.node l.initial.work.now l.work.now (pos_in l.here) l.list × (Moved l.spot (pos_in l.here) l.here × (l.work.ghost_name ≡ l.initial.work.ghost_name))

abbrev pub decreases-visit_row-loop-turn : goal.decreases-visit_row-loop-turn
decreases-visit_row-loop-turn l = l.basis.given.allowance - made_in l.work.now
