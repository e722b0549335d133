-- `go_through` judges the records. The loop: what is left to go through, with the spans not yet taken, gives the judgement of all.
use mathlib.Core.Path.{◌≡◌, sym, ap, ◌∙◌}
use mathlib.Core.List.{◌∷◌, [], ◌++◌}
use lib.Dec.{eqb}
use lib.ListN.{length, take, set}
use native.Mathlib.Omega.{arith}
use native.Mathlib.Nat.{mul-add}
use Prim.Native.Nat.{◌≤◌, ◌+◌}
use Rattle.std.proofs.lemmas.List.{length-set, length-take-le, take_more_set, take-take}
use Rattle.stored.specs.Stored.{record_size}
use Rattle.stored.proofs.Goes.{none_left, read_outside, read_fault, read_more}
use Rattle.stored.proofs.go_through.Goals as goal

pub returns-then-not-in_range : goal.returns-then-not-in_range
returns-then-not-in_range g c =
    let loop = c.loop-k in
    read_outside c.args.rules c.args.line_length g.row.WIDTH c.args.bytes.now (take loop.untaken loop.spans) _ _ c.record_at-record.result _
    (omega arith) (rw c.record_size.ensures at c.record_at-record.ensures) loop.invariant.2 c.if-not-in_range.ensures

pub returns-in_default : goal.returns-in_default
returns-in_default g c =
    let loop = c.loop-k in
    read_fault c.args.rules c.args.line_length g.row.WIDTH c.args.bytes.now (take loop.untaken loop.spans) _ _ c.record_at-record.result _
    (omega arith) (rw c.record_size.ensures at c.record_at-record.ensures) loop.invariant.2 c.if-not-in_range.ensures c.in_default.ensures.taken

pub loop-k-preserved : goal.loop-k-preserved
loop-k-preserved g c =
    let loop = c.loop-k in
    let left = c.in-Some.left in
    let long : length (take loop.untaken loop.spans) ≡ loop.untaken = length-take-le loop.untaken loop.spans (omega (arith, loop.invariant.0, loop.invariant.1)) in
    let fewer : left ≤ loop.untaken = omega (arith, long, c.in-Some.ensures.within) in
    let put : take (left + 1) (set loop.spans left c.record_at-record.result.span) ≡ take left (take loop.untaken loop.spans) ++ (c.record_at-record.result.span ∷ []) =
    rw (take-take left loop.untaken loop.spans fewer) (take_more_set loop.spans left c.record_at-record.result.span (omega (arith, fewer, loop.invariant.0, loop.invariant.1))) in (
      omega (arith, fewer, loop.invariant.0),
      length-set loop.spans left _ ∙ loop.invariant.1,
      read_more c.args.rules c.args.line_length g.row.WIDTH c.args.bytes.now (take loop.untaken loop.spans) _ _ c.record_at-record.result _
          (omega arith) (rw c.record_size.ensures at c.record_at-record.ensures) loop.invariant.2 c.if-not-in_range.ensures _ left _ _
          put (omega (arith, mul-add (record_size g.row.WIDTH) loop.k 1)) (omega arith) c.in-Some.ensures.taken,
    )

pub returns : goal.returns
returns g c =
    let loop = c.loop-k in
    let long : length (take loop.untaken loop.spans) ≡ loop.untaken = length-take-le loop.untaken loop.spans (omega (arith, loop.invariant.0, loop.invariant.1)) in
    ap (λ n. eqb n 1) (sym long) ∙ none_left (take loop.untaken loop.spans) c.args.rules c.args.line_length g.row.WIDTH c.args.bytes.now _ _ _ (omega arith) loop.invariant.2
