-- `go_back` keeps each pair's answer and joins the trees of the turn before to it, turn by turn: proofs/Returning has the loop.
use Prim.Native.Nat.{◌+◌, ◌-◌}
use native.Mathlib.Omega.{arith}
use mathlib.Core.Logic.{◌≢◌}
use mathlib.Core.Path.{◌≡◌, refl}
use Rattle.visits.proofs.Returning.{loop_begins, keep_ready, join_ready, loop_turns, gone_back}
use Rattle.visits.proofs.rows.go_back.Goals as goal

pub loop-waiting-init : goal.loop-waiting-init
loop-waiting-init c = (loop_begins _ _ _ _ _ c.requires _ c.pos_of-at.ensures, refl)

pub keep-requires : goal.keep-requires
keep-requires c = keep_ready _ _ _ _ _ c.requires c.loop-waiting.invariant.0 c.end_of.ensures

pub joined-done-requires-clause-lists : goal.joined-done-requires-clause-lists
joined-done-requires-clause-lists c =
    let some : c.loop-waiting.waiting ≢ c.args.before = omega (arith, c.loop-waiting-test.true) in
    let one : c.loop-waiting.waiting - 1 + 1 ≡ c.loop-waiting.waiting = omega (arith, c.loop-waiting-test.true) in
    let turn = rw one at c.turn_of-turn.ensures.turn in
    (join_ready _ _ _ _ _ c.requires c.loop-waiting.invariant.0 some c.end_of.ensures c.list_of.ensures c.keep.ensures
    _ turn.0 turn.1 c.turn_of-turn.ensures.words c.list_of-in-loop-waiting.ensures c.list_of-in-loop-waiting-2.ensures).0

pub loop-waiting-preserved : goal.loop-waiting-preserved
loop-waiting-preserved c =
    let some : c.loop-waiting.waiting ≢ c.args.before = omega (arith, c.loop-waiting-test.true) in
    let one : c.loop-waiting.waiting - 1 + 1 ≡ c.loop-waiting.waiting = omega (arith, c.loop-waiting-test.true) in
    let turn = rw one at c.turn_of-turn.ensures.turn in (
      loop_turns _ _ _ _ _ c.requires c.loop-waiting.invariant.0 some c.end_of.ensures c.list_of.ensures c.keep.ensures
          _ turn.0 turn.1 c.turn_of-turn.ensures.words c.list_of-in-loop-waiting.ensures c.list_of-in-loop-waiting-2.ensures
          _ c.end_of-in-loop-waiting.ensures c.joined-done.ensures.0 c.joined-done.ensures.1 c.end_of-at.ensures,
      c.loop-waiting.invariant.1,
    )

pub returns-clause-says : goal.returns-clause-says
returns-clause-says c = gone_back _ _ _ _ _ c.requires c.loop-waiting.invariant.0 (omega (arith, c.loop-waiting-test.false)) c.set_turns.ensures
