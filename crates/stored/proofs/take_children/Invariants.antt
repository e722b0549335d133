-- `take_children` takes the newest spans. The loop: what is left to take gives what taking all of them gives.
use mathlib.Core.Path.{◌≡◌}
use Rattle.std.specs.Slice.Iter.{iter_rest}
use Rattle.stored.specs.WellFormed.{takes}
use Rattle.stored.specs.Scratch.{spans_of}
use Rattle.stored.proofs.Goes.{to_take}
use Rattle.stored.proofs.take_children.Given as goal

abbrev pub invariant-loop-child : goal.invariant-loop-child
invariant-loop-child l =
    to_take l.spans l.parent.span.start l.left (iter_rest l.child-iterator.iter) l.bound ≡ takes l.parent.children l.parent.span.start l.parent.span.end (spans_of l.spans)
