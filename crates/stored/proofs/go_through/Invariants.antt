-- `go_through` judges the records. The loop: what is left to go through, with the spans not yet taken, gives the judgement of all.
use mathlib.Core.Path.{◌≡◌}
use mathlib.Core.List.{[]}
use lib.ListN.{length, take}
use Prim.Native.Nat.{◌≤◌, ◌+◌, ◌-◌, ◌*◌}
use Rattle.stored.specs.Stored.{record_size}
use Rattle.stored.specs.WellFormed.{records_at}
use Rattle.stored.specs.Scratch.{spans_of}
use Rattle.stored.proofs.Goes.{rest}
use Rattle.stored.proofs.go_through.Given as goal

abbrev pub invariant-loop-k : goal.invariant-loop-k
invariant-loop-k g l =
    (l.untaken ≤ l.k)
    × (length l.spans ≡ 13106)
    × (rest l.rules l.line_length (records_at g.row.WIDTH l.bytes (5 + record_size g.row.WIDTH * l.k) (l.records - l.k)) (spans_of (take l.untaken l.spans)) ≡ rest l.rules l.line_length (records_at g.row.WIDTH l.bytes 5 l.records) [])
