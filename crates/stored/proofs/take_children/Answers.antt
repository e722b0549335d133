use mathlib.Core.Path.{◌≡◌, sym, ◌∙◌}
use native.Mathlib.Omega.{arith}
use Prim.Native.Nat.{◌-◌}
use lib.ListN.{drop, length}
use Rattle.std.specs.Slice.Iter.{iter_rest}
use Rattle.std.proofs.lemmas.List.{take_rest}
use Rattle.stored.proofs.Goes.{take_no_children, take_none, take_begun, take_late, take_early, take_more, take_ended}
use Rattle.stored.proofs.take_children.Goals as goal
use Rattle.stored.proofs.take_children.Goals.{then-bound-child-via-then-bound-child, then-bound-child-via-else-bound-child+then-child-parent}

pub returns-then-children-eq0-clause-taken : goal.returns-then-children-eq0-clause-taken
returns-then-children-eq0-clause-taken c =
    take_no_children c.args.spans.now c.args.parent.span.start c.args.parent.children c.args.parent.span.end (sym c.from-children.ensures ∙ c.if-children-eq0.true)

pub returns-then-spans-children-clause-taken : goal.returns-then-spans-children-clause-taken
returns-then-spans-children-clause-taken c =
    take_none c.args.spans.now c.args.parent.span.start c.args.parent.children c.args.parent.span.end (λ h. omega (arith, h, c.from-children.ensures, c.if-spans-children.true))

pub loop-child-init : goal.loop-child-init
loop-child-init c =
    let left = length c.args.spans.now - c.from-children.result in
    let all : iter_rest c.into_iter-child-iterator.result.iter ≡ drop left c.args.spans.now =
    rw (c.into_iter-child-iterator.ensures.into_iter_gives, c.rev-child-items.ensures.source) (c.iter.ensures.rest ∙ take_rest c.args.spans.now left) in
    rw all (take_begun c.args.spans.now c.args.parent.span.start c.args.parent.children left c.args.parent.span.end (omega (arith, c.from-children.ensures, c.if-spans-children.false)) (omega (arith, c.from-children.ensures)))

pub returns-then-bound-child-clause-taken : goal.returns-then-bound-child-clause-taken
returns-then-bound-child-clause-taken c =
    let loop = c.loop-child in
    elim c.then-bound-child.branch [
      | then-bound-child-via-then-bound-child w ↦ take_late c.args.spans.now c.args.parent.span.start _ _ _ _ _ c.in-Some.ensures.steps w.if-bound-child.true ∙ loop.invariant
      | then-bound-child-via-else-bound-child+then-child-parent w ↦
          take_early c.args.spans.now c.args.parent.span.start _ _ _ _ _ c.in-Some.ensures.steps w.if-bound-child.false w.if-child-parent.true ∙ loop.invariant
    ]

pub loop-child-preserved : goal.loop-child-preserved
loop-child-preserved c =
    take_more c.args.spans.now c.args.parent.span.start _ _ _ _ _ c.in-Some.ensures.steps c.if-bound-child.false c.if-child-parent.false ∙ c.loop-child.invariant

pub returns-clause-taken : goal.returns-clause-taken
returns-clause-taken c =
    sym (take_ended c.args.spans.now c.args.parent.span.start (length c.args.spans.now - c.from-children.result) c.loop-child.bound _ c.in-None.ensures.steps.0) ∙ c.loop-child.invariant
