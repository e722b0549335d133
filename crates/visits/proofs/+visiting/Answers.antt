-- The answers for the functions that call one another, function by function. They stand in one file, since no other is read for their goals.
use Prim.Native.Nat.{◌*◌, ◌+◌, ◌-◌, ◌<◌, ◌≤◌}
use Rattle.cells.specs.Cells.{trees_at}
use Rattle.layout.proofs.Laying.{well_laid}
use Rattle.meaning.specs.Grammar.{no_trees, tree}
use Rattle.visits.proofs.Attempts.{Attempt, Begun, GrowingIn, Planted, Tried, Turned, Use, first_ends, held_ends, loop_begins, loop_nearer, loop_turns, next_attempt, next_low, next_stops, room_tree, starts_next}
use Rattle.visits.proofs.ByKind.{above_six, apply_above, apply_choice, apply_empty, apply_not, apply_rule, apply_sequence, choice_children, keeps_no, keeps_yes, not_child, range_ends, repetition_child, rule_used, sequence_children, uses_once}
use Rattle.visits.proofs.Depth.{child_visited, ends_live, ends_moved, left_less, pos_more, starts_live, starts_moved}
use Rattle.visits.proofs.Holding.{answers_held, found_some}
use Rattle.visits.proofs.KeptRowsHere as kept_row
use Rattle.visits.proofs.Living.{use_put}
use Rattle.visits.proofs.Nodes.{choice_first, choice_second, not_fail, not_match, not_stop, seq_first, use_tree, use_unmatched}
use Rattle.visits.proofs.Opening.{Opened, entered_open, kept_answered, open_applied, opened, plain_opens, refused, roomy}
use Rattle.visits.proofs.Pairs.{matched, sequence_joined, sequence_second, starts_second}
use Rattle.visits.proofs.Ready.{ready_at, ready_next, root_is, root_within}
use Rattle.visits.proofs.RowsHere as row
use Rattle.visits.proofs.RowsHere.{counts}
use Rattle.visits.proofs.Steps.{came_at}
use Rattle.visits.specs.Given.{numbers, allowance_in, grows_in, left_in, lent, live_in, pos_in, rules_in}
use Rattle.visits.specs.Says.{KeptIn, Ends, STOPPED, applies, end_in, list_in, reading}
use Rattle.visits.specs.Words.{Added, Roomy, key_of, made_in, place_in, top_in, turns_in}
use lib.ListN.{get_or, set}
use mathlib.Core.List.{[]}
use mathlib.Core.Logic.{inl, inr, ⊎_elim, ◌≢◌}
use mathlib.Core.Path.{ap, refl, sym, ◌∙◌, ◌≡◌}
use native.Mathlib.Omega.{arith}
use Rattle.visits.proofs.+visiting.Goals.{apply-in-0, apply-in-1, apply-in-2, apply-in-3, apply-in-4, apply-in-5, apply-in-6, apply-in_default}
use Rattle.visits.proofs.+visiting.Goals as goal
use Rattle.std.specs.Prelude.{Some}
use Rattle.visits.specs.Words.{code_of, code_in}
use Rattle.visits.proofs.Entering.{code_some}

-- ---- apply: a node is applied, by its kind; then its answer is kept, where answers are.

pub apply-use_once-done-requires : goal.apply-use_once-done-requires
apply-use_once-done-requires t c =
    let given = lent c.args.basis.now.table.now (numbers c.args.basis.now.given) in
    let at-a-of = c.a_of in
    let at-kind-of = c.kind_of in
    let at-match = c.in-2 in
    let ready = c.requires.ready in
    let fit = c.requires.ready.fit in
    let e = at-a-of.ensures.0 in
    let kind = sym at-kind-of.ensures.0 ∙ at-match.is in
    let r = rule_used _ _ fit c.args.node ready.node_in kind in
    let la : at-a-of.result < rules_in given = omega arith in
    let few_rules = (well_laid _ fit.laid).few_rules in
    (omega (arith, c.decreases), (ready_at _ ready (root_within _ _ fit _ la), (c.requires.«open», (omega arith, la))))

pub apply-visit_not-done-requires : goal.apply-visit_not-done-requires
apply-visit_not-done-requires t c =
    let at-a-of2 = c.a_of-in-5 in
    let at-kind-of = c.kind_of in
    let at-match = c.in-5 in
    let ready = c.requires.ready in
    let fit = c.requires.ready.fit in
    let e = at-a-of2.ensures.0 in
    let k = not_child _ _ fit c.args.node ready.node_in (sym at-kind-of.ensures.0 ∙ at-match.is) in
    (omega (arith, c.decreases), (ready_at _ ready (omega arith), c.requires.«open»))

pub apply-returns-then-basis-eq0-clause-says : goal.apply-returns-then-basis-eq0-clause-says
apply-returns-then-basis-eq0-clause-says t c =
    let given = lent c.args.basis.now.table.now (numbers c.args.basis.now.given) in
    let line = c.args.basis.now.line.now in
    let the-met : (
    Ends given line c.args.work.now.now c.match-kind_of.work.now c.args.spot c.match-kind_of.done
    (λ l s. applies given line (left_in c.args.spot) l c.args.node (pos_in c.args.spot) s)
    × (c.match-kind_of.work.ghost_name ≡ c.args.work.now.ghost_name))
    = let ready = c.requires.ready in
    let fit = ready.fit in
    let kind = sym c.kind_of.ensures.0 in
    elim c.match-kind_of.branch [
      | apply-in-0 w ↦ rw (w.work-is, w.done-is) (
        record {
          came = came_at _ _ fit.short _ _ _ _ (w.answer-done.ensures.0 ∙ w.pos_of.ensures) w.answer-done.ensures.1 refl refl
              (apply_empty _ _ fit _ _ _ ready.node_in ready.words ready.made_within (kind ∙ w.in-0.is) ready.pos_within);
          cells = omega arith;
          ahead = λ p. omega (arith, w.answer-done.ensures.0, w.pos_of.ensures);
        },
        refl,
      )
      | apply-in-1 w ↦
          let range = rw w.pos_of-in-1.ensures at w.visit_range-done.ensures in
          rw (w.work-is, w.done-is) (range_ends _ _ c.args.spot c.args.node _ ready (kind ∙ w.in-1.is) range.range range.reached, range.lent)
      | apply-in-2 w ↦ rw (w.work-is, w.done-is) (
        record {
          came = apply_rule _ _ fit _ _ _ ready.node_in (kind ∙ w.in-2.is) _ w.a_of.ensures.0
              (uses_once _ _ fit _ _ _ (inl (c.requires.kept.0 (kind ∙ w.in-2.is))) _
              (let a = w.a_of.ensures.0 in let r = rule_used _ _ fit c.args.node ready.node_in (kind ∙ w.in-2.is) in omega arith) refl w.use_once-done.ensures.says.came);
          cells = w.use_once-done.ensures.says.cells;
          ahead = w.use_once-done.ensures.says.ahead;
        },
        w.use_once-done.ensures.lent,
      )
      | apply-in-3 w ↦ rw (w.work-is, w.done-is) (w.visit_pair-done.ensures.says, w.visit_pair-done.ensures.lent)
      | apply-in-4 w ↦ rw (w.work-is, w.done-is) (w.visit_pair-done-in-4.ensures.says, w.visit_pair-done-in-4.ensures.lent)
      | apply-in-5 w ↦ rw (w.work-is, w.done-is) (
        record {
          came = apply_not _ _ fit _ _ _ ready.node_in (kind ∙ w.in-5.is) _ w.a_of-in-5.ensures.0 w.visit_not-done.ensures.says.came;
          cells = w.visit_not-done.ensures.says.cells;
          ahead = w.visit_not-done.ensures.says.ahead;
        },
        w.visit_not-done.ensures.lent,
      )
      | apply-in-6 w ↦ rw (w.work-is, w.done-is) (w.visit_repetition-done.ensures.says, w.visit_repetition-done.ensures.lent)
      | apply-in_default w ↦
          let r = w.in_default.in_default-own.rest in
          let q = above_six c.kind_of.result r.0.0.0.0.0.0.1 r.0.0.0.0.0.1 r.0.0.0.0.1 r.0.0.0.1 r.0.0.1 r.0.1 r.1 in
          rw (w.work-is, w.done-is) (
            record {
              came = came_at _ _ fit.short _ _ _ _ (w.answer-done-in_default.ensures.0 ∙ w.pos_of-in_default.ensures) w.answer-done-in_default.ensures.1 refl refl
                  (apply_above _ _ fit _ _ _ ready.node_in ready.words ready.made_within q.0 (kind ∙ q.1) ready.pos_within);
              cells = omega arith;
              ahead = λ p. omega (arith, w.answer-done-in_default.ensures.0, w.pos_of-in_default.ensures);
            },
            refl,
          )
    ] in
    let at-if1 = c.if-basis-eq0 in
    let ready = c.requires.ready in
    let met = the-met in
    plain_opens given line c.args.work.now.now c.args.spot c.args.node (pos_in c.args.spot) ready (keeps_no _ at-if1.true) _ _ met.0

pub apply-keep-requires : goal.apply-keep-requires
apply-keep-requires t c =
    let given = lent c.args.basis.now.table.now (numbers c.args.basis.now.given) in
    let line = c.args.basis.now.line.now in
    let the-met : (
    Ends given line c.args.work.now.now c.match-kind_of.work.now c.args.spot c.match-kind_of.done
    (λ l s. applies given line (left_in c.args.spot) l c.args.node (pos_in c.args.spot) s)
    × (c.match-kind_of.work.ghost_name ≡ c.args.work.now.ghost_name))
    = let ready = c.requires.ready in
    let fit = ready.fit in
    let kind = sym c.kind_of.ensures.0 in
    elim c.match-kind_of.branch [
      | apply-in-0 w ↦ rw (w.work-is, w.done-is) (
        record {
          came = came_at _ _ fit.short _ _ _ _ (w.answer-done.ensures.0 ∙ w.pos_of.ensures) w.answer-done.ensures.1 refl refl
              (apply_empty _ _ fit _ _ _ ready.node_in ready.words ready.made_within (kind ∙ w.in-0.is) ready.pos_within);
          cells = omega arith;
          ahead = λ p. omega (arith, w.answer-done.ensures.0, w.pos_of.ensures);
        },
        refl,
      )
      | apply-in-1 w ↦
          let range = rw w.pos_of-in-1.ensures at w.visit_range-done.ensures in
          rw (w.work-is, w.done-is) (range_ends _ _ c.args.spot c.args.node _ ready (kind ∙ w.in-1.is) range.range range.reached, range.lent)
      | apply-in-2 w ↦ rw (w.work-is, w.done-is) (
        record {
          came = apply_rule _ _ fit _ _ _ ready.node_in (kind ∙ w.in-2.is) _ w.a_of.ensures.0
              (uses_once _ _ fit _ _ _ (inl (c.requires.kept.0 (kind ∙ w.in-2.is))) _
              (let a = w.a_of.ensures.0 in let r = rule_used _ _ fit c.args.node ready.node_in (kind ∙ w.in-2.is) in omega arith) refl w.use_once-done.ensures.says.came);
          cells = w.use_once-done.ensures.says.cells;
          ahead = w.use_once-done.ensures.says.ahead;
        },
        w.use_once-done.ensures.lent,
      )
      | apply-in-3 w ↦ rw (w.work-is, w.done-is) (w.visit_pair-done.ensures.says, w.visit_pair-done.ensures.lent)
      | apply-in-4 w ↦ rw (w.work-is, w.done-is) (w.visit_pair-done-in-4.ensures.says, w.visit_pair-done-in-4.ensures.lent)
      | apply-in-5 w ↦ rw (w.work-is, w.done-is) (
        record {
          came = apply_not _ _ fit _ _ _ ready.node_in (kind ∙ w.in-5.is) _ w.a_of-in-5.ensures.0 w.visit_not-done.ensures.says.came;
          cells = w.visit_not-done.ensures.says.cells;
          ahead = w.visit_not-done.ensures.says.ahead;
        },
        w.visit_not-done.ensures.lent,
      )
      | apply-in-6 w ↦ rw (w.work-is, w.done-is) (w.visit_repetition-done.ensures.says, w.visit_repetition-done.ensures.lent)
      | apply-in_default w ↦
          let r = w.in_default.in_default-own.rest in
          let q = above_six c.kind_of.result r.0.0.0.0.0.0.1 r.0.0.0.0.0.1 r.0.0.0.0.1 r.0.0.0.1 r.0.0.1 r.0.1 r.1 in
          rw (w.work-is, w.done-is) (
            record {
              came = came_at _ _ fit.short _ _ _ _ (w.answer-done-in_default.ensures.0 ∙ w.pos_of-in_default.ensures) w.answer-done-in_default.ensures.1 refl refl
                  (apply_above _ _ fit _ _ _ ready.node_in ready.words ready.made_within q.0 (kind ∙ q.1) ready.pos_within);
              cells = omega arith;
              ahead = λ p. omega (arith, w.answer-done-in_default.ensures.0, w.pos_of-in_default.ensures);
            },
            refl,
          )
    ] in
    let at_end_of = c.end_of in
    let at-pos-of4 = c.pos_of-2 in
    let ready = c.requires.ready in
    let met = the-met in
    let e = at_end_of.ensures in
    let m = met.0.came.end_most in
    let free = keeps_yes _ c.if-basis-eq0.false in
    let room = roomy given line _ c.args.node (pos_in c.args.spot) ready.fit free met.0.came.words.room ready.node_in ready.pos_within in
    (rw at-pos-of4.ensures room, omega arith)

pub apply-returns-clause-says : goal.apply-returns-clause-says
apply-returns-clause-says t c =
    let given = lent c.args.basis.now.table.now (numbers c.args.basis.now.given) in
    let line = c.args.basis.now.line.now in
    let the-met : (
    Ends given line c.args.work.now.now c.match-kind_of.work.now c.args.spot c.match-kind_of.done
    (λ l s. applies given line (left_in c.args.spot) l c.args.node (pos_in c.args.spot) s)
    × (c.match-kind_of.work.ghost_name ≡ c.args.work.now.ghost_name))
    = let ready = c.requires.ready in
    let fit = ready.fit in
    let kind = sym c.kind_of.ensures.0 in
    elim c.match-kind_of.branch [
      | apply-in-0 w ↦ rw (w.work-is, w.done-is) (
        record {
          came = came_at _ _ fit.short _ _ _ _ (w.answer-done.ensures.0 ∙ w.pos_of.ensures) w.answer-done.ensures.1 refl refl
              (apply_empty _ _ fit _ _ _ ready.node_in ready.words ready.made_within (kind ∙ w.in-0.is) ready.pos_within);
          cells = omega arith;
          ahead = λ p. omega (arith, w.answer-done.ensures.0, w.pos_of.ensures);
        },
        refl,
      )
      | apply-in-1 w ↦
          let range = rw w.pos_of-in-1.ensures at w.visit_range-done.ensures in
          rw (w.work-is, w.done-is) (range_ends _ _ c.args.spot c.args.node _ ready (kind ∙ w.in-1.is) range.range range.reached, range.lent)
      | apply-in-2 w ↦ rw (w.work-is, w.done-is) (
        record {
          came = apply_rule _ _ fit _ _ _ ready.node_in (kind ∙ w.in-2.is) _ w.a_of.ensures.0
              (uses_once _ _ fit _ _ _ (inl (c.requires.kept.0 (kind ∙ w.in-2.is))) _
              (let a = w.a_of.ensures.0 in let r = rule_used _ _ fit c.args.node ready.node_in (kind ∙ w.in-2.is) in omega arith) refl w.use_once-done.ensures.says.came);
          cells = w.use_once-done.ensures.says.cells;
          ahead = w.use_once-done.ensures.says.ahead;
        },
        w.use_once-done.ensures.lent,
      )
      | apply-in-3 w ↦ rw (w.work-is, w.done-is) (w.visit_pair-done.ensures.says, w.visit_pair-done.ensures.lent)
      | apply-in-4 w ↦ rw (w.work-is, w.done-is) (w.visit_pair-done-in-4.ensures.says, w.visit_pair-done-in-4.ensures.lent)
      | apply-in-5 w ↦ rw (w.work-is, w.done-is) (
        record {
          came = apply_not _ _ fit _ _ _ ready.node_in (kind ∙ w.in-5.is) _ w.a_of-in-5.ensures.0 w.visit_not-done.ensures.says.came;
          cells = w.visit_not-done.ensures.says.cells;
          ahead = w.visit_not-done.ensures.says.ahead;
        },
        w.visit_not-done.ensures.lent,
      )
      | apply-in-6 w ↦ rw (w.work-is, w.done-is) (w.visit_repetition-done.ensures.says, w.visit_repetition-done.ensures.lent)
      | apply-in_default w ↦
          let r = w.in_default.in_default-own.rest in
          let q = above_six c.kind_of.result r.0.0.0.0.0.0.1 r.0.0.0.0.0.1 r.0.0.0.0.1 r.0.0.0.1 r.0.0.1 r.0.1 r.1 in
          rw (w.work-is, w.done-is) (
            record {
              came = came_at _ _ fit.short _ _ _ _ (w.answer-done-in_default.ensures.0 ∙ w.pos_of-in_default.ensures) w.answer-done-in_default.ensures.1 refl refl
                  (apply_above _ _ fit _ _ _ ready.node_in ready.words ready.made_within q.0 (kind ∙ q.1) ready.pos_within);
              cells = omega arith;
              ahead = λ p. omega (arith, w.answer-done-in_default.ensures.0, w.pos_of-in_default.ensures);
            },
            refl,
          )
    ] in
    let at-if1 = c.if-basis-eq0 in
    let at-pos-of4 = c.pos_of-2 in
    let at_end_of = c.end_of in
    let at-list-of = c.list_of in
    let at-keep = c.keep in
    let ready = c.requires.ready in
    let free = keeps_yes _ at-if1.false in
    let met = the-met in
    let kept = rw (at-pos-of4.ensures, at_end_of.ensures, at-list-of.ensures) at at-keep.ensures in
    open_applied given _ _ _ _ _ ready c.requires.«open» free _ refl _ (c.requires.kept.1 free) _ _ met.0 kept

-- ---- use_fresh: a use of a rule that is not live.

pub use_fresh-has_rule-requires : goal.use_fresh-has_rule-requires
use_fresh-has_rule-requires t c =
    let the-small : (c.args.rule < 64) = omega (arith, c.requires.«open».1, (well_laid _ c.requires.ready.fit.laid).few_rules) in
    omega (arith, the-small)

pub use_fresh-use_live-requires : goal.use_fresh-use_live-requires
use_fresh-use_live-requires t c =
    let given = lent c.args.basis.now.table.now (numbers c.args.basis.now.given) in
    let the-small : (c.args.rule < 64) = omega (arith, c.requires.«open».1, (well_laid _ c.requires.ready.fit.laid).few_rules) in
    let the-bit : (grows_in given c.args.rule ≡ c.has_rule.result) = sym c.has_rule.ensures in
    let few = c.requires.«open» in
    let grows = the-bit ∙ c.if-has_rule.true in
    (omega (arith, c.decreases), (c.requires.ready, ((few.0, (the-small, few.1)), c.requires.fresh grows)))

pub use_fresh-use_once-requires : goal.use_fresh-use_once-requires
use_fresh-use_once-requires t c =
    let the-small : (c.args.rule < 64) = omega (arith, c.requires.«open».1, (well_laid _ c.requires.ready.fit.laid).few_rules) in
    let few = c.requires.«open» in
    (omega (arith, c.decreases), (c.requires.ready, (few.0, (the-small, few.1))))

pub use_fresh-returns-clause-says : goal.use_fresh-returns-clause-says
use_fresh-returns-clause-says t c =
    let given = lent c.args.basis.now.table.now (numbers c.args.basis.now.given) in
    let the-bit : (grows_in given c.args.rule ≡ c.has_rule.result) = sym c.has_rule.ensures in
    let once = c.use_once.ensures.says in
    let still = the-bit ∙ c.if-has_rule.false in
    record { came = uses_once _ _ c.requires.ready.fit _ _ _ (inr still) _ c.requires.«open».1 refl once.came; cells = once.cells; ahead = once.ahead }

-- ---- use_once: a use whose root is visited once.

pub use_once-returns-then-end-ge-STOPPED-clause-says : goal.use_once-returns-then-end-ge-STOPPED-clause-says
use_once-returns-then-end-ge-STOPPED-clause-says t c =
    let at-visit = c.visit-a in
    let at_end_of = c.end_of-end in
    let at-if1 = c.if-end-ge-STOPPED in
    let at-root-of = c.root_of-root in
    let fit = c.requires.ready.fit in
    let given = lent c.args.basis.now.table.now (numbers c.args.basis.now.given) in
    let line = c.args.basis.now.line.now in
    let visiting = reading given line (left_in c.args.spot) in
    let one = at-visit.ensures.says.came in
    let stop = let q : 65534 ≤ end_in at-visit.result = rw (← at_end_of.ensures) at-if1.true in q in
    record { came = use_unmatched _ _ fit visiting _ _ (rw at-root-of.ensures.0 at one) _ stop; cells = at-visit.ensures.says.cells; ahead = at-visit.ensures.says.ahead }

pub use_once-returns-clause-says : goal.use_once-returns-clause-says
use_once-returns-clause-says t c =
    let at-visit = c.visit-a in
    let at_end_of = c.end_of-end in
    let at-if1 = c.if-end-ge-STOPPED in
    let at-planted = c.planted-list in
    let at-pos-of = c.pos_of-pos in
    let at-list-of = c.list_of in
    let at-answer = c.answer in
    let at-root-of = c.root_of-root in
    let ready = c.requires.ready in
    let fit = c.requires.ready.fit in
    let few-open = c.requires.«open».0 in
    let given = lent c.args.basis.now.table.now (numbers c.args.basis.now.given) in
    let line = c.args.basis.now.line.now in
    let visiting = reading given line (left_in c.args.spot) in
    let one = at-visit.ensures.says.came in
    let short = let q : end_in at-visit.result < 65534 = rw (← at_end_of.ensures) at-if1.false in q in
    let words-after = at-visit.new.work.now in
    let words-planted = at-planted.new.work in
    let fewer = at-visit.ensures.says.fewer short in
    let added : Added words-after words-planted (top_in words-after) at-planted.result (top_in words-planted) (tree c.args.rule (pos_in c.args.spot) (end_in at-visit.result) (trees_at words-after (list_in at-visit.result)) no_trees)
    = rw (← at-pos-of.ensures, ← at_end_of.ensures, ← at-list-of.ensures) at-planted.ensures.added in
    let made : made_in words-planted ≡ made_in words-after = added.below 2043 (omega arith) (omega arith) in record {
      came = came_at _ _ fit.short _ _ _ _ (at-answer.ensures.0 ∙ at_end_of.ensures) at-answer.ensures.1 refl made
          (use_tree _ _ fit visiting _ _ (rw at-root-of.ensures.0 at one) _ short (omega (arith, few-open)) (omega (arith, one.made_within, ready.top_within)) added);
      cells = omega (arith, added.one);
      ahead = λ p. omega (arith, at-visit.ensures.says.ahead p, at_end_of.ensures, at-answer.ensures.0);
    }

-- ---- visit_choice: a choice.

pub visit_choice-returns-then-end-ne-FAILED-clause-says : goal.visit_choice-returns-then-end-ne-FAILED-clause-says
visit_choice-returns-then-end-ne-FAILED-clause-says t c =
    let given = lent c.args.basis.now.table.now (numbers c.args.basis.now.given) in
    let line = c.args.basis.now.line.now in
    let at-visit = c.visit-a in
    let at-if1 = c.if-end-ne-FAILED in
    let at_end_of = c.end_of-end in
    let ready = c.requires.ready in
    let visiting = reading given line (left_in c.args.spot) in
    let first = at-visit.ensures.says in
    record { came = choice_first _ _ ready.fit visiting _ _ first.came _ (λ e. at-if1.true (at_end_of.ensures ∙ e)); cells = first.cells; ahead = first.ahead }

pub visit_choice-visit-requires : goal.visit_choice-visit-requires
visit_choice-visit-requires t c =
    let at-visit = c.visit-a in
    let ready = c.requires.ready in
    let room = c.requires.«open» in
    let first = at-visit.ensures.says in
    (omega (arith, c.decreases), ready_next _ _ ready first.came first.cells room.1 ready.pos_within (λ p. omega arith))

pub visit_choice-returns-clause-says : goal.visit_choice-returns-clause-says
visit_choice-returns-clause-says t c =
    let given = lent c.args.basis.now.table.now (numbers c.args.basis.now.given) in
    let line = c.args.basis.now.line.now in
    let at-visit = c.visit-a in
    let at-visit2 = c.visit in
    let at_end_of = c.end_of-end in
    let at-if1 = c.if-end-ne-FAILED in
    let ready = c.requires.ready in
    let visiting = reading given line (left_in c.args.spot) in
    let first = at-visit.ensures.says in
    let next = at-visit2.ensures.says in
    record { came = choice_second _ _ ready.fit visiting _ _ first.came _ (sym at_end_of.ensures ∙ at-if1.false) next.came; cells = omega (arith, first.cells, next.cells); ahead = next.ahead }

-- ---- visit_not: a not.

pub visit_not-returns-then-end-eq-STOPPED-clause-says : goal.visit_not-returns-then-end-eq-STOPPED-clause-says
visit_not-returns-then-end-eq-STOPPED-clause-says t c =
    let given = lent c.args.basis.now.table.now (numbers c.args.basis.now.given) in
    let line = c.args.basis.now.line.now in
    let at-visit = c.visit-a in
    let at_end_of = c.end_of-end in
    let at-if1 = c.if-end-eq-STOPPED in
    let ready = c.requires.ready in
    let visiting = reading given line (left_in c.args.spot) in
    let first = at-visit.ensures.says in
    record { came = not_stop _ _ ready.fit visiting _ _ first.came (sym at_end_of.ensures ∙ at-if1.true); cells = first.cells; ahead = first.ahead }

pub visit_not-returns-then-end-eq-FAILED-clause-says : goal.visit_not-returns-then-end-eq-FAILED-clause-says
visit_not-returns-then-end-eq-FAILED-clause-says t c =
    let given = lent c.args.basis.now.table.now (numbers c.args.basis.now.given) in
    let line = c.args.basis.now.line.now in
    let at-visit = c.visit-a in
    let at-answer = c.answer in
    let at-pos-of = c.pos_of in
    let at_end_of = c.end_of-end in
    let at-if2 = c.if-end-eq-FAILED in
    let ready = c.requires.ready in
    let visiting = reading given line (left_in c.args.spot) in
    let first = at-visit.ensures.says in record {
      came = came_at _ _ ready.fit.short _ _ _ _ (at-answer.ensures.0 ∙ at-pos-of.ensures) at-answer.ensures.1 refl refl
          (not_match _ _ ready.fit visiting _ _ first.came (sym at_end_of.ensures ∙ at-if2.true) ready.pos_within);
      cells = first.cells;
      ahead = λ p. omega (arith, at-answer.ensures.0, at-pos-of.ensures);
    }

pub visit_not-returns-clause-says : goal.visit_not-returns-clause-says
visit_not-returns-clause-says t c =
    let given = lent c.args.basis.now.table.now (numbers c.args.basis.now.given) in
    let line = c.args.basis.now.line.now in
    let at-visit = c.visit-a in
    let at-answer2 = c.answer-2 in
    let at_end_of = c.end_of-end in
    let at-if1 = c.if-end-eq-STOPPED in
    let at-if2 = c.if-end-eq-FAILED in
    let ready = c.requires.ready in
    let visiting = reading given line (left_in c.args.spot) in
    let first = at-visit.ensures.says in record {
      came = came_at _ _ ready.fit.short _ _ _ _ at-answer2.ensures.0 at-answer2.ensures.1 refl refl
          (not_fail _ _ ready.fit visiting _ _ first.came (omega (arith, at_end_of.ensures, at-if1.false, at-if2.false, first.came.end_most)));
      cells = first.cells;
      ahead = λ p. omega (arith, at-answer2.ensures.0, ready.pos_within, ready.fit.short);
    }

-- ---- visit_open: an open visit, by its kind.

pub visit_open-use_rule-requires : goal.visit_open-use_rule-requires
visit_open-use_rule-requires t c =
    let given = lent c.args.basis.now.table.now (numbers c.args.basis.now.given) in
    let at-a-of = c.a_of in
    let at-kind-of = c.kind_of in
    let at-match = c.in-2 in
    let ready = c.requires.ready in
    let fit = ready.fit in
    let e = at-a-of.ensures.0 in
    let r = rule_used _ _ fit c.args.node ready.node_in (sym at-kind-of.ensures.0 ∙ at-match.is) in
    let la : at-a-of.result < rules_in given = omega arith in
    (omega (arith, c.decreases), (ready_at _ ready (root_within _ _ fit _ la), ((c.requires.«open».0, la), c.requires.«open».1)))

pub visit_open-returns-in-1-clause-says : goal.visit_open-returns-in-1-clause-says
visit_open-returns-in-1-clause-says t c =
    let given = lent c.args.basis.now.table.now (numbers c.args.basis.now.given) in
    let line = c.args.basis.now.line.now in
    let at-kind-of = c.kind_of in
    let at-match = c.in-1 in
    let at-range = rw c.pos_of.ensures at c.visit_range.ensures in
    let ready = c.requires.ready in plain_opens given line c.args.work.now.now c.args.spot c.args.node (pos_in c.args.spot) ready c.requires.«open».1 _ _
    (range_ends _ _ c.args.spot c.args.node _ ready (sym at-kind-of.ensures.0 ∙ at-match.is) at-range.range at-range.reached)

pub visit_open-returns-in-2-clause-says : goal.visit_open-returns-in-2-clause-says
visit_open-returns-in-2-clause-says t c =
    let given = lent c.args.basis.now.table.now (numbers c.args.basis.now.given) in
    let line = c.args.basis.now.line.now in
    let at-kind-of = c.kind_of in
    let at-match = c.in-2 in
    let at-a-of = c.a_of in
    let at-use-rule = c.use_rule in
    let ready = c.requires.ready in plain_opens given line c.args.work.now.now c.args.spot c.args.node (pos_in c.args.spot) ready c.requires.«open».1 _ _
    (record {
      came = apply_rule _ _ ready.fit _ _ _ ready.node_in (sym at-kind-of.ensures.0 ∙ at-match.is) _ at-a-of.ensures.0 at-use-rule.ensures.says.came;
      cells = at-use-rule.ensures.says.cells;
      ahead = at-use-rule.ensures.says.ahead;
    })

pub visit_open-returns-in-3-clause-says : goal.visit_open-returns-in-3-clause-says
visit_open-returns-in-3-clause-says t c =
    let given = lent c.args.basis.now.table.now (numbers c.args.basis.now.given) in
    let line = c.args.basis.now.line.now in
    let at-visit-pair = c.visit_pair in
    plain_opens given line c.args.work.now.now c.args.spot c.args.node (pos_in c.args.spot) c.requires.ready c.requires.«open».1 _ _ at-visit-pair.ensures.says

pub visit_open-returns-in-4-clause-says : goal.visit_open-returns-in-4-clause-says
visit_open-returns-in-4-clause-says t c =
    let given = lent c.args.basis.now.table.now (numbers c.args.basis.now.given) in
    let line = c.args.basis.now.line.now in
    let at-visit-pair2 = c.visit_pair-in-4 in
    plain_opens given line c.args.work.now.now c.args.spot c.args.node (pos_in c.args.spot) c.requires.ready c.requires.«open».1 _ _ at-visit-pair2.ensures.says

-- ---- visit_pair: a sequence or a choice, by its kind.

pub visit_pair-visit_sequence-requires : goal.visit_pair-visit_sequence-requires
visit_pair-visit_sequence-requires t c =
    let at-a-of = c.a_of-x in
    let at-b-of = c.b_of-y in
    let at-kind-of = c.kind_of in
    let at-if1 = c.if-kind_of-eq3 in
    let ready = c.requires.ready in
    let e = at-a-of.ensures.0 in
    let f = at-b-of.ensures.0 in
    let k = sequence_children _ _ ready.fit c.args.node ready.node_in (sym at-kind-of.ensures.0 ∙ at-if1.true) in
    (omega (arith, c.decreases), (ready_at _ ready (omega arith), (c.requires.«open».0, omega arith)))

pub visit_pair-returns-then-kind_of-eq3-clause-says : goal.visit_pair-returns-then-kind_of-eq3-clause-says
visit_pair-returns-then-kind_of-eq3-clause-says t c =
    let at-kind-of = c.kind_of in
    let at-if1 = c.if-kind_of-eq3 in
    let at-a-of = c.a_of-x in
    let at-b-of = c.b_of-y in
    let at-visit-sequence = c.visit_sequence in
    let ready = c.requires.ready in record {
      came = apply_sequence _ _ ready.fit _ _ _ ready.node_in (sym at-kind-of.ensures.0 ∙ at-if1.true) _ _ at-a-of.ensures.0 at-b-of.ensures.0 at-visit-sequence.ensures.says.came;
      cells = at-visit-sequence.ensures.says.cells;
      ahead = at-visit-sequence.ensures.says.ahead;
    }

pub visit_pair-visit_choice-requires : goal.visit_pair-visit_choice-requires
visit_pair-visit_choice-requires t c =
    let at-a-of = c.a_of-x in
    let at-b-of = c.b_of-y in
    let at-if1 = c.if-kind_of-eq3 in
    let at-kind-of = c.kind_of in
    let ready = c.requires.ready in
    let e = at-a-of.ensures.0 in
    let f = at-b-of.ensures.0 in
    let four = ⊎_elim (λ three. absurd (at-if1.false (at-kind-of.ensures.0 ∙ three))) (λ four. four) c.requires.«open».1 in
    let k = choice_children _ _ ready.fit c.args.node ready.node_in four in
    (omega (arith, c.decreases), (ready_at _ ready (omega arith), (c.requires.«open».0, omega arith)))

pub visit_pair-returns-clause-says : goal.visit_pair-returns-clause-says
visit_pair-returns-clause-says t c =
    let at-if1 = c.if-kind_of-eq3 in
    let at-kind-of = c.kind_of in
    let at-a-of = c.a_of-x in
    let at-b-of = c.b_of-y in
    let at-visit-choice = c.visit_choice in
    let ready = c.requires.ready in
    let four = ⊎_elim (λ three. absurd (at-if1.false (at-kind-of.ensures.0 ∙ three))) (λ four. four) c.requires.«open».1 in record {
      came = apply_choice _ _ ready.fit _ _ _ ready.node_in four _ _ at-a-of.ensures.0 at-b-of.ensures.0 at-visit-choice.ensures.says.came;
      cells = at-visit-choice.ensures.says.cells;
      ahead = at-visit-choice.ensures.says.ahead;
    }

-- ---- visit_sequence: a sequence.

pub visit_sequence-returns-then-end-ge-STOPPED-clause-says : goal.visit_sequence-returns-then-end-ge-STOPPED-clause-says
visit_sequence-returns-then-end-ge-STOPPED-clause-says t c =
    let given = lent c.args.basis.now.table.now (numbers c.args.basis.now.given) in
    let line = c.args.basis.now.line.now in
    let at-visit = c.visit-a in
    let at_end_of = c.end_of-end in
    let at-if1 = c.if-end-ge-STOPPED in
    let ready = c.requires.ready in
    let visiting = reading given line (left_in c.args.spot) in
    let first = at-visit.ensures.says in
    record { came = seq_first _ _ ready.fit visiting _ _ first.came _ (omega (arith, at_end_of.ensures, at-if1.true)); cells = first.cells; ahead = first.ahead }

pub visit_sequence-visit-b-requires : goal.visit_sequence-visit-b-requires
visit_sequence-visit-b-requires t c =
    let at-visit = c.visit-a in
    let at_moved = c.moved in
    let at_end_of = c.end_of-end in
    let at-if1 = c.if-end-ge-STOPPED in
    let ready = c.requires.ready in
    let room = c.requires.«open» in
    let first = at-visit.ensures.says in
    (omega (arith, c.decreases, at_moved.ensures.left), starts_moved _ _ at_moved.ensures _ (starts_second _ _ _ _ _ _ ready first _ at_end_of.ensures at-if1.false _ room.1 (λ p. omega (arith, first.ahead p, at_end_of.ensures))))

pub visit_sequence-returns-then-last-ge-STOPPED-clause-says : goal.visit_sequence-returns-then-last-ge-STOPPED-clause-says
visit_sequence-returns-then-last-ge-STOPPED-clause-says t c =
    let at-visit = c.visit-a in
    let at_moved = c.moved in
    let at-visit2 = c.visit-b in
    let at_end_of = c.end_of-end in
    let at-if1 = c.if-end-ge-STOPPED in
    let at-end-of2 = c.end_of-last in
    let at-if2 = c.if-last-ge-STOPPED in
    let ready = c.requires.ready in
    let first = at-visit.ensures.says in
    let next = ends_moved _ _ at_moved.ensures _ _ at-visit2.ensures.says in
    let same = at-visit2.ensures.lent ∙ at-visit.ensures.lent in
    sequence_second _ _ _ _ _ _ ready first _ at_end_of.ensures at-if1.false _ _ next _ at-end-of2.ensures at-if2.true

pub visit_sequence-returns-clause-says : goal.visit_sequence-returns-clause-says
visit_sequence-returns-clause-says t c =
    let at-visit = c.visit-a in
    let at_moved = c.moved in
    let at-visit2 = c.visit-b in
    let at_end_of = c.end_of-end in
    let at-if1 = c.if-end-ge-STOPPED in
    let at-end-of2 = c.end_of-last in
    let at-if2 = c.if-last-ge-STOPPED in
    let at-list-of = c.list_of in
    let at-list-of2 = c.list_of-2 in
    let at_joined = c.joined in
    let ready = c.requires.ready in
    let room = c.requires.«open» in
    let first = at-visit.ensures.says in
    let next = ends_moved _ _ at_moved.ensures _ _ at-visit2.ensures.says in
    let same = at-visit2.ensures.lent ∙ at-visit.ensures.lent in sequence_joined _ _ _ _ _ _ ready first _ at_end_of.ensures at-if1.false _ _ next _ at-end-of2.ensures at-if2.false
    at-list-of.ensures at-list-of2.ensures room.0 _ at_joined.ensures.0 at_joined.ensures.1

-- ---- use_live: a use that becomes live and grows, attempt by attempt.

pub use_live-visit-first-requires : goal.use_live-visit-first-requires
use_live-visit-first-requires t c =
    let given = lent c.args.basis.now.table.now (numbers c.args.basis.now.given) in
    let line = c.args.basis.now.line.now in
    let use-here : Use = record { given = given; line = line; start = c.args.work.now.now; spot = c.args.spot; pos = pos_in c.args.spot; rule = c.args.rule; root = c.root_of-root.result } in
    let the-tried : (Tried use-here use-here.start) = record {
      ready = rw (← c.root_of-root.ensures.0) at c.requires.ready;
      there = refl;
      room = c.requires.«open».0;
      small = c.requires.«open».1.0;
      rooted = c.root_of-root.ensures.0 ∙ root_is _ _ c.requires.ready.fit _ c.requires.«open».1.1;
      fresh = c.requires.fresh;
    } in
    let the-put : (let u = use-here in c.put_use.new.work ≡ use_put u.start (live_in u.spot * 3) (key_of u.rule u.pos) 0 0) = rw (← c.live_of-live.ensures, ← c.pos_of-pos.ensures) c.put_use.ensures in
    let tried = the-tried in
    (omega (arith, c.decreases), rw (pos_more c.args.spot (omega (arith, tried.room))) (starts_live _ _ _ _ _ _ _ 0 0 tried.ready tried.room (omega arith) (omega arith) the-put tried.small (λ p n. absurd (n refl))))

pub use_live-returns-then-reached-ge-STOPPED-clause-says : goal.use_live-returns-then-reached-ge-STOPPED-clause-says
use_live-returns-then-reached-ge-STOPPED-clause-says t c =
    let given = lent c.args.basis.now.table.now (numbers c.args.basis.now.given) in
    let line = c.args.basis.now.line.now in
    let use-here : Use = record { given = given; line = line; start = c.args.work.now.now; spot = c.args.spot; pos = pos_in c.args.spot; rule = c.args.rule; root = c.root_of-root.result } in
    let the-tried : (Tried use-here use-here.start) = record {
      ready = rw (← c.root_of-root.ensures.0) at c.requires.ready;
      there = refl;
      room = c.requires.«open».0;
      small = c.requires.«open».1.0;
      rooted = c.root_of-root.ensures.0 ∙ root_is _ _ c.requires.ready.fit _ c.requires.«open».1.1;
      fresh = c.requires.fresh;
    } in
    let the-put : (let u = use-here in c.put_use.new.work ≡ use_put u.start (live_in u.spot * 3) (key_of u.rule u.pos) 0 0) = rw (← c.live_of-live.ensures, ← c.pos_of-pos.ensures) c.put_use.ensures in
    let the-first : (Attempt use-here use-here.start 0 0 c.visit-first.new.work.now c.visit-first.result) = let u = use-here in
    record { live = c.put_use.new.work; put = the-put; visit = ends_live _ _ u.spot u.root c.visit-first.result the-tried.room c.visit-first.ensures.says } in
    first_ends _ the-tried the-first (omega (arith, c.end_of-reached.ensures, c.if-reached-ge-STOPPED.true))

pub use_live-loop-next-init : goal.use_live-loop-next-init
use_live-loop-next-init t c =
    let given = lent c.args.basis.now.table.now (numbers c.args.basis.now.given) in
    let line = c.args.basis.now.line.now in
    let use-here : Use = record { given = given; line = line; start = c.args.work.now.now; spot = c.args.spot; pos = pos_in c.args.spot; rule = c.args.rule; root = c.root_of-root.result } in
    let the-tried : (Tried use-here use-here.start) = record {
      ready = rw (← c.root_of-root.ensures.0) at c.requires.ready;
      there = refl;
      room = c.requires.«open».0;
      small = c.requires.«open».1.0;
      rooted = c.root_of-root.ensures.0 ∙ root_is _ _ c.requires.ready.fit _ c.requires.«open».1.1;
      fresh = c.requires.fresh;
    } in
    let the-put : (let u = use-here in c.put_use.new.work ≡ use_put u.start (live_in u.spot * 3) (key_of u.rule u.pos) 0 0) = rw (← c.live_of-live.ensures, ← c.pos_of-pos.ensures) c.put_use.ensures in
    let the-first : (Attempt use-here use-here.start 0 0 c.visit-first.new.work.now c.visit-first.result) = let u = use-here in
    record { live = c.put_use.new.work; put = the-put; visit = ends_live _ _ u.spot u.root c.visit-first.result the-tried.room c.visit-first.ensures.says } in
    let the-short : (end_in c.visit-first.result < 65534) = rw (← c.end_of-reached.ensures) c.if-reached-ge-STOPPED.false in
    let the-begun : (Begun use-here c.visit-first.result c.planted-held.new.work) = record {
      tried = the-tried;
      seen = c.visit-first.new.work.now;
      first = the-first;
      short = the-short;
      made = record {
        list = c.planted-held.result;
        added = rw (← c.pos_of-pos.ensures, ← c.end_of-reached.ensures, ← c.list_of.ensures) c.planted-held.ensures.added;
        next = c.planted-held.ensures.list.0;
        top = c.planted-held.ensures.list.1;
      };
    } in
    (rw c.end_of-reached.ensures (loop_begins _ the-begun), (sym c.planted-held.ensures.list.1, refl))

pub use_live-visit-next-requires : goal.use_live-visit-next-requires
use_live-visit-next-requires t c =
    let given = lent c.args.basis.now.table.now (numbers c.args.basis.now.given) in
    let line = c.args.basis.now.line.now in
    let use-here : Use = record { given = given; line = line; start = c.args.work.now.now; spot = c.args.spot; pos = pos_in c.args.spot; rule = c.args.rule; root = c.root_of-root.result } in
    let the-tried : (Tried use-here use-here.start) = record {
      ready = rw (← c.root_of-root.ensures.0) at c.requires.ready;
      there = refl;
      room = c.requires.«open».0;
      small = c.requires.«open».1.0;
      rooted = c.root_of-root.ensures.0 ∙ root_is _ _ c.requires.ready.fit _ c.requires.«open».1.1;
      fresh = c.requires.fresh;
    } in
    let the-put : (let u = use-here in c.put_use.new.work ≡ use_put u.start (live_in u.spot * 3) (key_of u.rule u.pos) 0 0) = rw (← c.live_of-live.ensures, ← c.pos_of-pos.ensures) c.put_use.ensures in
    let the-first : (Attempt use-here use-here.start 0 0 c.visit-first.new.work.now c.visit-first.result) = let u = use-here in
    record { live = c.put_use.new.work; put = the-put; visit = ends_live _ _ u.spot u.root c.visit-first.result the-tried.room c.visit-first.ensures.says } in
    let the-short : (end_in c.visit-first.result < 65534) = rw (← c.end_of-reached.ensures) c.if-reached-ge-STOPPED.false in
    let the-begun : (Begun use-here c.visit-first.result c.planted-held.new.work) = record {
      tried = the-tried;
      seen = c.visit-first.new.work.now;
      first = the-first;
      short = the-short;
      made = record {
        list = c.planted-held.result;
        added = rw (← c.pos_of-pos.ensures, ← c.end_of-reached.ensures, ← c.list_of.ensures) c.planted-held.ensures.added;
        next = c.planted-held.ensures.list.0;
        top = c.planted-held.ensures.list.1;
      };
    } in
    let the-growing : (let u = use-here in GrowingIn u.given u.line u.spot u.root u.rule u.pos c.planted-held.new.work (end_in c.visit-first.result) c.loop-next.work.now c.loop-next.end) = rw (← c.end_of-reached.ensures) c.loop-next.invariant.0 in
    let the-held : (let u = use-here in let w = c.loop-next.work.now in c.put_use-in-loop-next.new.work ≡ use_put w (live_in u.spot * 3) (key_of u.rule u.pos) c.loop-next.end (top_in w)) = rw (← c.loop-next.invariant.1.0, ← c.live_of-live.ensures, ← c.pos_of-pos.ensures) c.put_use-in-loop-next.ensures in
    let begun = the-begun in
    (omega (arith, c.decreases), rw (pos_more c.args.spot (omega (arith, begun.tried.room))) (starts_next _ begun the-growing the-held))

pub use_live-planted-held-requires-in-loop-next-clause-cell : goal.use_live-planted-held-requires-in-loop-next-clause-cell
use_live-planted-held-requires-in-loop-next-clause-cell t c =
    let given = lent c.args.basis.now.table.now (numbers c.args.basis.now.given) in
    let line = c.args.basis.now.line.now in
    let use-here : Use = record { given = given; line = line; start = c.args.work.now.now; spot = c.args.spot; pos = pos_in c.args.spot; rule = c.args.rule; root = c.root_of-root.result } in
    let the-tried : (Tried use-here use-here.start) = record {
      ready = rw (← c.root_of-root.ensures.0) at c.requires.ready;
      there = refl;
      room = c.requires.«open».0;
      small = c.requires.«open».1.0;
      rooted = c.root_of-root.ensures.0 ∙ root_is _ _ c.requires.ready.fit _ c.requires.«open».1.1;
      fresh = c.requires.fresh;
    } in
    let the-put : (let u = use-here in c.put_use.new.work ≡ use_put u.start (live_in u.spot * 3) (key_of u.rule u.pos) 0 0) = rw (← c.live_of-live.ensures, ← c.pos_of-pos.ensures) c.put_use.ensures in
    let the-first : (Attempt use-here use-here.start 0 0 c.visit-first.new.work.now c.visit-first.result) = let u = use-here in
    record { live = c.put_use.new.work; put = the-put; visit = ends_live _ _ u.spot u.root c.visit-first.result the-tried.room c.visit-first.ensures.says } in
    let the-short : (end_in c.visit-first.result < 65534) = rw (← c.end_of-reached.ensures) c.if-reached-ge-STOPPED.false in
    let the-begun : (Begun use-here c.visit-first.result c.planted-held.new.work) = record {
      tried = the-tried;
      seen = c.visit-first.new.work.now;
      first = the-first;
      short = the-short;
      made = record {
        list = c.planted-held.result;
        added = rw (← c.pos_of-pos.ensures, ← c.end_of-reached.ensures, ← c.list_of.ensures) c.planted-held.ensures.added;
        next = c.planted-held.ensures.list.0;
        top = c.planted-held.ensures.list.1;
      };
    } in
    let the-growing : (let u = use-here in GrowingIn u.given u.line u.spot u.root u.rule u.pos c.planted-held.new.work (end_in c.visit-first.result) c.loop-next.work.now c.loop-next.end) = rw (← c.end_of-reached.ensures) c.loop-next.invariant.0 in
    let the-held : (let u = use-here in let w = c.loop-next.work.now in c.put_use-in-loop-next.new.work ≡ use_put w (live_in u.spot * 3) (key_of u.rule u.pos) c.loop-next.end (top_in w)) = rw (← c.loop-next.invariant.1.0, ← c.live_of-live.ensures, ← c.pos_of-pos.ensures) c.put_use-in-loop-next.ensures in
    let the-turned : (Turned use-here c.visit-first.result c.planted-held.new.work c.loop-next.work.now c.loop-next.end c.visit-next.new.work.now c.visit-next.result) = let u = use-here in
    let begun = the-begun in
    record {
      begun = begun;
      growing = the-growing;
      again = record { live = c.put_use-in-loop-next.new.work; put = the-held; visit = ends_live _ _ u.spot u.root c.visit-next.result begun.tried.room c.visit-next.ensures.says };
    } in
    let the-longer : ((c.loop-next.end < end_in c.visit-next.result) × (end_in c.visit-next.result < 65534)) = let e = c.end_of-reached-in-loop-next.ensures in
    (omega (arith, e, c.if-reached-end.false), omega (arith, e, c.if-reached-eq-STOPPED.false, c.if-reached-eq-FAILED.false, (next_attempt _ the-turned).came.end_most)) in
    let turned = the-turned in
    let tried = turned.begun.tried in
    let fit = tried.ready.fit in
    let short = the-longer.1 in
    let two = (next_attempt _ turned).came in room_tree _ _ fit two.words (next_low _ turned short)

pub use_live-loop-next-smaller : goal.use_live-loop-next-smaller
use_live-loop-next-smaller t c =
    let given = lent c.args.basis.now.table.now (numbers c.args.basis.now.given) in
    let line = c.args.basis.now.line.now in
    let use-here : Use = record { given = given; line = line; start = c.args.work.now.now; spot = c.args.spot; pos = pos_in c.args.spot; rule = c.args.rule; root = c.root_of-root.result } in
    let the-tried : (Tried use-here use-here.start) = record {
      ready = rw (← c.root_of-root.ensures.0) at c.requires.ready;
      there = refl;
      room = c.requires.«open».0;
      small = c.requires.«open».1.0;
      rooted = c.root_of-root.ensures.0 ∙ root_is _ _ c.requires.ready.fit _ c.requires.«open».1.1;
      fresh = c.requires.fresh;
    } in
    let the-put : (let u = use-here in c.put_use.new.work ≡ use_put u.start (live_in u.spot * 3) (key_of u.rule u.pos) 0 0) = rw (← c.live_of-live.ensures, ← c.pos_of-pos.ensures) c.put_use.ensures in
    let the-first : (Attempt use-here use-here.start 0 0 c.visit-first.new.work.now c.visit-first.result) = let u = use-here in
    record { live = c.put_use.new.work; put = the-put; visit = ends_live _ _ u.spot u.root c.visit-first.result the-tried.room c.visit-first.ensures.says } in
    let the-short : (end_in c.visit-first.result < 65534) = rw (← c.end_of-reached.ensures) c.if-reached-ge-STOPPED.false in
    let the-begun : (Begun use-here c.visit-first.result c.planted-held.new.work) = record {
      tried = the-tried;
      seen = c.visit-first.new.work.now;
      first = the-first;
      short = the-short;
      made = record {
        list = c.planted-held.result;
        added = rw (← c.pos_of-pos.ensures, ← c.end_of-reached.ensures, ← c.list_of.ensures) c.planted-held.ensures.added;
        next = c.planted-held.ensures.list.0;
        top = c.planted-held.ensures.list.1;
      };
    } in
    let the-growing : (let u = use-here in GrowingIn u.given u.line u.spot u.root u.rule u.pos c.planted-held.new.work (end_in c.visit-first.result) c.loop-next.work.now c.loop-next.end) = rw (← c.end_of-reached.ensures) c.loop-next.invariant.0 in
    let the-held : (let u = use-here in let w = c.loop-next.work.now in c.put_use-in-loop-next.new.work ≡ use_put w (live_in u.spot * 3) (key_of u.rule u.pos) c.loop-next.end (top_in w)) = rw (← c.loop-next.invariant.1.0, ← c.live_of-live.ensures, ← c.pos_of-pos.ensures) c.put_use-in-loop-next.ensures in
    let the-turned : (Turned use-here c.visit-first.result c.planted-held.new.work c.loop-next.work.now c.loop-next.end c.visit-next.new.work.now c.visit-next.result) = let u = use-here in
    let begun = the-begun in
    record {
      begun = begun;
      growing = the-growing;
      again = record { live = c.put_use-in-loop-next.new.work; put = the-held; visit = ends_live _ _ u.spot u.root c.visit-next.result begun.tried.room c.visit-next.ensures.says };
    } in
    let the-longer : ((c.loop-next.end < end_in c.visit-next.result) × (end_in c.visit-next.result < 65534)) = let e = c.end_of-reached-in-loop-next.ensures in
    (omega (arith, e, c.if-reached-end.false), omega (arith, e, c.if-reached-eq-STOPPED.false, c.if-reached-eq-FAILED.false, (next_attempt _ the-turned).came.end_most)) in
    let the-grown : (Planted use-here c.visit-next.new.work.now c.visit-next.result c.planted-held-in-loop-next.new.work) = record {
      list = c.planted-held-in-loop-next.result;
      added = rw (← c.pos_of-pos.ensures, ← c.end_of-reached-in-loop-next.ensures, ← c.list_of-in-loop-next.ensures) c.planted-held-in-loop-next.ensures.added;
      next = c.planted-held-in-loop-next.ensures.list.0;
      top = c.planted-held-in-loop-next.ensures.list.1;
    } in
    loop_nearer _ the-turned the-longer.1 the-grown

pub use_live-loop-next-preserved : goal.use_live-loop-next-preserved
use_live-loop-next-preserved t c =
    let given = lent c.args.basis.now.table.now (numbers c.args.basis.now.given) in
    let line = c.args.basis.now.line.now in
    let use-here : Use = record { given = given; line = line; start = c.args.work.now.now; spot = c.args.spot; pos = pos_in c.args.spot; rule = c.args.rule; root = c.root_of-root.result } in
    let the-tried : (Tried use-here use-here.start) = record {
      ready = rw (← c.root_of-root.ensures.0) at c.requires.ready;
      there = refl;
      room = c.requires.«open».0;
      small = c.requires.«open».1.0;
      rooted = c.root_of-root.ensures.0 ∙ root_is _ _ c.requires.ready.fit _ c.requires.«open».1.1;
      fresh = c.requires.fresh;
    } in
    let the-put : (let u = use-here in c.put_use.new.work ≡ use_put u.start (live_in u.spot * 3) (key_of u.rule u.pos) 0 0) = rw (← c.live_of-live.ensures, ← c.pos_of-pos.ensures) c.put_use.ensures in
    let the-first : (Attempt use-here use-here.start 0 0 c.visit-first.new.work.now c.visit-first.result) = let u = use-here in
    record { live = c.put_use.new.work; put = the-put; visit = ends_live _ _ u.spot u.root c.visit-first.result the-tried.room c.visit-first.ensures.says } in
    let the-short : (end_in c.visit-first.result < 65534) = rw (← c.end_of-reached.ensures) c.if-reached-ge-STOPPED.false in
    let the-begun : (Begun use-here c.visit-first.result c.planted-held.new.work) = record {
      tried = the-tried;
      seen = c.visit-first.new.work.now;
      first = the-first;
      short = the-short;
      made = record {
        list = c.planted-held.result;
        added = rw (← c.pos_of-pos.ensures, ← c.end_of-reached.ensures, ← c.list_of.ensures) c.planted-held.ensures.added;
        next = c.planted-held.ensures.list.0;
        top = c.planted-held.ensures.list.1;
      };
    } in
    let the-growing : (let u = use-here in GrowingIn u.given u.line u.spot u.root u.rule u.pos c.planted-held.new.work (end_in c.visit-first.result) c.loop-next.work.now c.loop-next.end) = rw (← c.end_of-reached.ensures) c.loop-next.invariant.0 in
    let the-held : (let u = use-here in let w = c.loop-next.work.now in c.put_use-in-loop-next.new.work ≡ use_put w (live_in u.spot * 3) (key_of u.rule u.pos) c.loop-next.end (top_in w)) = rw (← c.loop-next.invariant.1.0, ← c.live_of-live.ensures, ← c.pos_of-pos.ensures) c.put_use-in-loop-next.ensures in
    let the-turned : (Turned use-here c.visit-first.result c.planted-held.new.work c.loop-next.work.now c.loop-next.end c.visit-next.new.work.now c.visit-next.result) = let u = use-here in
    let begun = the-begun in
    record {
      begun = begun;
      growing = the-growing;
      again = record { live = c.put_use-in-loop-next.new.work; put = the-held; visit = ends_live _ _ u.spot u.root c.visit-next.result begun.tried.room c.visit-next.ensures.says };
    } in
    let the-longer : ((c.loop-next.end < end_in c.visit-next.result) × (end_in c.visit-next.result < 65534)) = let e = c.end_of-reached-in-loop-next.ensures in
    (omega (arith, e, c.if-reached-end.false), omega (arith, e, c.if-reached-eq-STOPPED.false, c.if-reached-eq-FAILED.false, (next_attempt _ the-turned).came.end_most)) in
    let the-grown : (Planted use-here c.visit-next.new.work.now c.visit-next.result c.planted-held-in-loop-next.new.work) = record {
      list = c.planted-held-in-loop-next.result;
      added = rw (← c.pos_of-pos.ensures, ← c.end_of-reached-in-loop-next.ensures, ← c.list_of-in-loop-next.ensures) c.planted-held-in-loop-next.ensures.added;
      next = c.planted-held-in-loop-next.ensures.list.0;
      top = c.planted-held-in-loop-next.ensures.list.1;
    } in
    let longer = the-longer in (
      rw (c.end_of-reached.ensures, c.end_of-reached-in-loop-next.ensures) (loop_turns _ the-turned longer.1 the-grown longer.0),
      (sym c.planted-held-in-loop-next.ensures.list.1, c.visit-next.ensures.lent ∙ c.loop-next.invariant.1.1),
    )

pub use_live-returns-then-reached-eq-STOPPED-clause-says : goal.use_live-returns-then-reached-eq-STOPPED-clause-says
use_live-returns-then-reached-eq-STOPPED-clause-says t c =
    let given = lent c.args.basis.now.table.now (numbers c.args.basis.now.given) in
    let line = c.args.basis.now.line.now in
    let use-here : Use = record { given = given; line = line; start = c.args.work.now.now; spot = c.args.spot; pos = pos_in c.args.spot; rule = c.args.rule; root = c.root_of-root.result } in
    let the-tried : (Tried use-here use-here.start) = record {
      ready = rw (← c.root_of-root.ensures.0) at c.requires.ready;
      there = refl;
      room = c.requires.«open».0;
      small = c.requires.«open».1.0;
      rooted = c.root_of-root.ensures.0 ∙ root_is _ _ c.requires.ready.fit _ c.requires.«open».1.1;
      fresh = c.requires.fresh;
    } in
    let the-put : (let u = use-here in c.put_use.new.work ≡ use_put u.start (live_in u.spot * 3) (key_of u.rule u.pos) 0 0) = rw (← c.live_of-live.ensures, ← c.pos_of-pos.ensures) c.put_use.ensures in
    let the-first : (Attempt use-here use-here.start 0 0 c.visit-first.new.work.now c.visit-first.result) = let u = use-here in
    record { live = c.put_use.new.work; put = the-put; visit = ends_live _ _ u.spot u.root c.visit-first.result the-tried.room c.visit-first.ensures.says } in
    let the-short : (end_in c.visit-first.result < 65534) = rw (← c.end_of-reached.ensures) c.if-reached-ge-STOPPED.false in
    let the-begun : (Begun use-here c.visit-first.result c.planted-held.new.work) = record {
      tried = the-tried;
      seen = c.visit-first.new.work.now;
      first = the-first;
      short = the-short;
      made = record {
        list = c.planted-held.result;
        added = rw (← c.pos_of-pos.ensures, ← c.end_of-reached.ensures, ← c.list_of.ensures) c.planted-held.ensures.added;
        next = c.planted-held.ensures.list.0;
        top = c.planted-held.ensures.list.1;
      };
    } in
    let the-growing : (let u = use-here in GrowingIn u.given u.line u.spot u.root u.rule u.pos c.planted-held.new.work (end_in c.visit-first.result) c.loop-next.work.now c.loop-next.end) = rw (← c.end_of-reached.ensures) c.loop-next.invariant.0 in
    let the-held : (let u = use-here in let w = c.loop-next.work.now in c.put_use-in-loop-next.new.work ≡ use_put w (live_in u.spot * 3) (key_of u.rule u.pos) c.loop-next.end (top_in w)) = rw (← c.loop-next.invariant.1.0, ← c.live_of-live.ensures, ← c.pos_of-pos.ensures) c.put_use-in-loop-next.ensures in
    let the-turned : (Turned use-here c.visit-first.result c.planted-held.new.work c.loop-next.work.now c.loop-next.end c.visit-next.new.work.now c.visit-next.result) = let u = use-here in
    let begun = the-begun in
    record {
      begun = begun;
      growing = the-growing;
      again = record { live = c.put_use-in-loop-next.new.work; put = the-held; visit = ends_live _ _ u.spot u.root c.visit-next.result begun.tried.room c.visit-next.ensures.says };
    } in
    next_stops _ the-turned (sym c.end_of-reached-in-loop-next.ensures ∙ c.if-reached-eq-STOPPED.true)

pub use_live-returns-then-reached-eq-FAILED-clause-says : goal.use_live-returns-then-reached-eq-FAILED-clause-says
use_live-returns-then-reached-eq-FAILED-clause-says t c =
    let given = lent c.args.basis.now.table.now (numbers c.args.basis.now.given) in
    let line = c.args.basis.now.line.now in
    let use-here : Use = record { given = given; line = line; start = c.args.work.now.now; spot = c.args.spot; pos = pos_in c.args.spot; rule = c.args.rule; root = c.root_of-root.result } in
    let the-tried : (Tried use-here use-here.start) = record {
      ready = rw (← c.root_of-root.ensures.0) at c.requires.ready;
      there = refl;
      room = c.requires.«open».0;
      small = c.requires.«open».1.0;
      rooted = c.root_of-root.ensures.0 ∙ root_is _ _ c.requires.ready.fit _ c.requires.«open».1.1;
      fresh = c.requires.fresh;
    } in
    let the-put : (let u = use-here in c.put_use.new.work ≡ use_put u.start (live_in u.spot * 3) (key_of u.rule u.pos) 0 0) = rw (← c.live_of-live.ensures, ← c.pos_of-pos.ensures) c.put_use.ensures in
    let the-first : (Attempt use-here use-here.start 0 0 c.visit-first.new.work.now c.visit-first.result) = let u = use-here in
    record { live = c.put_use.new.work; put = the-put; visit = ends_live _ _ u.spot u.root c.visit-first.result the-tried.room c.visit-first.ensures.says } in
    let the-short : (end_in c.visit-first.result < 65534) = rw (← c.end_of-reached.ensures) c.if-reached-ge-STOPPED.false in
    let the-begun : (Begun use-here c.visit-first.result c.planted-held.new.work) = record {
      tried = the-tried;
      seen = c.visit-first.new.work.now;
      first = the-first;
      short = the-short;
      made = record {
        list = c.planted-held.result;
        added = rw (← c.pos_of-pos.ensures, ← c.end_of-reached.ensures, ← c.list_of.ensures) c.planted-held.ensures.added;
        next = c.planted-held.ensures.list.0;
        top = c.planted-held.ensures.list.1;
      };
    } in
    let the-growing : (let u = use-here in GrowingIn u.given u.line u.spot u.root u.rule u.pos c.planted-held.new.work (end_in c.visit-first.result) c.loop-next.work.now c.loop-next.end) = rw (← c.end_of-reached.ensures) c.loop-next.invariant.0 in
    let the-held : (let u = use-here in let w = c.loop-next.work.now in c.put_use-in-loop-next.new.work ≡ use_put w (live_in u.spot * 3) (key_of u.rule u.pos) c.loop-next.end (top_in w)) = rw (← c.loop-next.invariant.1.0, ← c.live_of-live.ensures, ← c.pos_of-pos.ensures) c.put_use-in-loop-next.ensures in
    let the-turned : (Turned use-here c.visit-first.result c.planted-held.new.work c.loop-next.work.now c.loop-next.end c.visit-next.new.work.now c.visit-next.result) = let u = use-here in
    let begun = the-begun in
    record {
      begun = begun;
      growing = the-growing;
      again = record { live = c.put_use-in-loop-next.new.work; put = the-held; visit = ends_live _ _ u.spot u.root c.visit-next.result begun.tried.room c.visit-next.ensures.says };
    } in
    let held = c.answer-last.ensures.1 ∙ c.loop-next.invariant.1.0 in
    held_ends _ the-turned _ c.answer-last.ensures.0 held (inl (sym c.end_of-reached-in-loop-next.ensures ∙ c.if-reached-eq-FAILED.true))

pub use_live-returns-then-reached-end-clause-says : goal.use_live-returns-then-reached-end-clause-says
use_live-returns-then-reached-end-clause-says t c =
    let given = lent c.args.basis.now.table.now (numbers c.args.basis.now.given) in
    let line = c.args.basis.now.line.now in
    let use-here : Use = record { given = given; line = line; start = c.args.work.now.now; spot = c.args.spot; pos = pos_in c.args.spot; rule = c.args.rule; root = c.root_of-root.result } in
    let the-tried : (Tried use-here use-here.start) = record {
      ready = rw (← c.root_of-root.ensures.0) at c.requires.ready;
      there = refl;
      room = c.requires.«open».0;
      small = c.requires.«open».1.0;
      rooted = c.root_of-root.ensures.0 ∙ root_is _ _ c.requires.ready.fit _ c.requires.«open».1.1;
      fresh = c.requires.fresh;
    } in
    let the-put : (let u = use-here in c.put_use.new.work ≡ use_put u.start (live_in u.spot * 3) (key_of u.rule u.pos) 0 0) = rw (← c.live_of-live.ensures, ← c.pos_of-pos.ensures) c.put_use.ensures in
    let the-first : (Attempt use-here use-here.start 0 0 c.visit-first.new.work.now c.visit-first.result) = let u = use-here in
    record { live = c.put_use.new.work; put = the-put; visit = ends_live _ _ u.spot u.root c.visit-first.result the-tried.room c.visit-first.ensures.says } in
    let the-short : (end_in c.visit-first.result < 65534) = rw (← c.end_of-reached.ensures) c.if-reached-ge-STOPPED.false in
    let the-begun : (Begun use-here c.visit-first.result c.planted-held.new.work) = record {
      tried = the-tried;
      seen = c.visit-first.new.work.now;
      first = the-first;
      short = the-short;
      made = record {
        list = c.planted-held.result;
        added = rw (← c.pos_of-pos.ensures, ← c.end_of-reached.ensures, ← c.list_of.ensures) c.planted-held.ensures.added;
        next = c.planted-held.ensures.list.0;
        top = c.planted-held.ensures.list.1;
      };
    } in
    let the-growing : (let u = use-here in GrowingIn u.given u.line u.spot u.root u.rule u.pos c.planted-held.new.work (end_in c.visit-first.result) c.loop-next.work.now c.loop-next.end) = rw (← c.end_of-reached.ensures) c.loop-next.invariant.0 in
    let the-held : (let u = use-here in let w = c.loop-next.work.now in c.put_use-in-loop-next.new.work ≡ use_put w (live_in u.spot * 3) (key_of u.rule u.pos) c.loop-next.end (top_in w)) = rw (← c.loop-next.invariant.1.0, ← c.live_of-live.ensures, ← c.pos_of-pos.ensures) c.put_use-in-loop-next.ensures in
    let the-turned : (Turned use-here c.visit-first.result c.planted-held.new.work c.loop-next.work.now c.loop-next.end c.visit-next.new.work.now c.visit-next.result) = let u = use-here in
    let begun = the-begun in
    record {
      begun = begun;
      growing = the-growing;
      again = record { live = c.put_use-in-loop-next.new.work; put = the-held; visit = ends_live _ _ u.spot u.root c.visit-next.result begun.tried.room c.visit-next.ensures.says };
    } in
    let held = c.answer-last-then-reached-end.ensures.1 ∙ c.loop-next.invariant.1.0 in
    held_ends _ the-turned _ c.answer-last-then-reached-end.ensures.0 held (inr (omega (arith, c.end_of-reached-in-loop-next.ensures, c.if-reached-end.true)))

-- ---- keep_row: a repetition where answers are kept, and the way back over the row.

pub keep_row-loop-work-init : goal.keep_row-loop-work-init
keep_row-loop-work-init t c =
    (kept_row.begins _ _ _ _ _ c.requires.ready c.requires.«open».0 c.requires.«open».1 c.requires.free, (refl, (record { left = refl; live = refl; there = refl }, refl)))

pub keep_row-visit-a-requires : goal.keep_row-visit-a-requires
keep_row-visit-a-requires t c =
    let at-a-of = c.a_of-x in
    let at-loop = c.loop-work in
    let x = at-a-of.ensures.0 in
    let here = at-loop.invariant.1.1.0 in
    (omega (arith, c.decreases, here.left), rw x (starts_moved _ _ here _ (kept_row.child_starts _ _ _ _ _ c.requires.ready c.requires.«open».0 c.requires.«open».1 c.requires.free at-loop.invariant.0 (repetition_child _ _ c.requires.ready.fit _ c.requires.ready.node_in c.requires.«open».1))))

pub keep_row-go_back-last-requires : goal.keep_row-go_back-last-requires
keep_row-go_back-last-requires t c =
    let given = lent c.args.basis.now.table.now (numbers c.args.basis.now.given) in
    let line = c.args.basis.now.line.now in
    let the-visited = child_visited given line c.args.spot c.args.node c.loop-work.invariant.1.1.0 c.a_of-x.ensures.0 _ c.visit-a.ensures.says in
    let at-loop = c.loop-work in
    let at_end_of = c.end_of-end in
    let at-if2 = c.if-end-eq-FAILED in
    let at-answer = c.answer in
    let at-pos-of = c.pos_of in
    kept_row.end_ready _ _ _ _ _ c.requires.ready c.requires.«open».0 c.requires.«open».1 c.requires.free at-loop.invariant.0 _ the-visited (inl (sym at_end_of.ensures ∙ at-if2.true)) _ (at-answer.ensures.0 ∙ at-pos-of.ensures) at-answer.ensures.1 _ at-loop.invariant.1.1.0

pub keep_row-go_back-last-requires-then-end-pos_of : goal.keep_row-go_back-last-requires-then-end-pos_of
keep_row-go_back-last-requires-then-end-pos_of t c =
    let given = lent c.args.basis.now.table.now (numbers c.args.basis.now.given) in
    let line = c.args.basis.now.line.now in
    let the-visited = child_visited given line c.args.spot c.args.node c.loop-work.invariant.1.1.0 c.a_of-x.ensures.0 _ c.visit-a.ensures.says in
    let at-loop = c.loop-work in
    let at_end_of = c.end_of-end in
    let at-if3 = c.if-end-pos_of in
    let at-pos-of2 = c.pos_of-in-loop-work in
    let at-answer2 = c.answer-then-end-pos_of in
    let at-pos-of3 = c.pos_of-then-end-pos_of in
    kept_row.end_ready _ _ _ _ _ c.requires.ready c.requires.«open».0 c.requires.«open».1 c.requires.free at-loop.invariant.0 _ the-visited (inr (sym at_end_of.ensures ∙ at-if3.true ∙ at-pos-of2.ensures)) _ (at-answer2.ensures.0 ∙ at-pos-of3.ensures) at-answer2.ensures.1 _ at-loop.invariant.1.1.0

pub keep_row-kept_answer-requires : goal.keep_row-kept_answer-requires
keep_row-kept_answer-requires t c =
    let given = lent c.args.basis.now.table.now (numbers c.args.basis.now.given) in
    let line = c.args.basis.now.line.now in
    let the-visited = child_visited given line c.args.spot c.args.node c.loop-work.invariant.1.1.0 c.a_of-x.ensures.0 _ c.visit-a.ensures.says in
    let the-counted : (let words = c.visit-a.new.work.now in (made_in words < allowance_in (lent [] (numbers c.args.basis.now.given))) × (c.enter_in_place.new.work.now ≡ set words 2043 (made_in words + 1))) = counts (lent [] (numbers c.args.basis.now.given)) _ _ _ c.enter_in_place.ensures.says (ap code_in c.in_default.is) in
    let at_end_of = c.end_of-end in
    let at-if1 = c.if-end-eq-STOPPED in
    let at-if2 = c.if-end-eq-FAILED in
    let at-visit = c.visit-a in
    let at-loop = c.loop-work in
    let at-if3 = c.if-end-pos_of in
    let at-pos-of2 = c.pos_of-in-loop-work in
    let match = matched at_end_of.ensures the-visited.came.end_most at-if1.false at-if2.false in
    let less = let e = at_end_of.ensures in let q : end_in at-visit.result < STOPPED = omega arith in q in
    let other = let q : end_in at-visit.result ≢ pos_in at-loop.here = λ e. at-if3.false (at_end_of.ensures ∙ e ∙ sym at-pos-of2.ensures) in q in
    rw (at_end_of.ensures, the-counted.1) (kept_row.look_room _ _ _ _ _ c.requires.ready c.requires.«open».0 c.requires.«open».1 c.requires.free at-loop.invariant.0 _ the-visited less other the-counted.0)

pub keep_row-joined-both-requires-clause-lists : goal.keep_row-joined-both-requires-clause-lists
keep_row-joined-both-requires-clause-lists t c =
    let given = lent c.args.basis.now.table.now (numbers c.args.basis.now.given) in
    let line = c.args.basis.now.line.now in
    let the-visited = child_visited given line c.args.spot c.args.node c.loop-work.invariant.1.1.0 c.a_of-x.ensures.0 _ c.visit-a.ensures.says in
    let the-counted : (let words = c.visit-a.new.work.now in (made_in words < allowance_in (lent [] (numbers c.args.basis.now.given))) × (c.enter_in_place.new.work.now ≡ set words 2043 (made_in words + 1))) = counts (lent [] (numbers c.args.basis.now.given)) _ _ _ c.enter_in_place.ensures.says (ap code_in c.in_default.is) in
    let the-looked : (c.kept_answer.new.work.now ≡ set c.visit-a.new.work.now 2043 (made_in c.visit-a.new.work.now + 1)) = ap (λ r. r.now) c.kept_answer.ensures.1 ∙ the-counted.1 in
    let the-found : KeptIn (lent [] (numbers c.args.basis.now.given)) (set c.visit-a.new.work.now 2043 (made_in c.visit-a.new.work.now + 1)) c.args.node (end_in c.visit-a.result) (Some c.in-Some.rest) = rw (c.end_of-end.ensures, the-counted.1) at c.in-Some.ensures.0 in
    let at_end_of = c.end_of-end in
    let at-if1 = c.if-end-eq-STOPPED in
    let at-if2 = c.if-end-eq-FAILED in
    let at-visit = c.visit-a in
    let at-loop = c.loop-work in
    let at-if3 = c.if-end-pos_of in
    let at-pos-of2 = c.pos_of-in-loop-work in
    let at-list-of = c.list_of in
    let at-list-of2 = c.list_of-in-Some in
    let match = matched at_end_of.ensures the-visited.came.end_most at-if1.false at-if2.false in
    let less = let e = at_end_of.ensures in let q : end_in at-visit.result < STOPPED = omega arith in q in
    let other = let q : end_in at-visit.result ≢ pos_in at-loop.here = λ e. at-if3.false (at_end_of.ensures ∙ e ∙ sym at-pos-of2.ensures) in q in
    rw the-looked (kept_row.join_ready _ _ _ _ _ c.requires.ready c.requires.«open».0 c.requires.«open».1 c.requires.free at-loop.invariant.0 _ the-visited less other the-counted.0 _ refl (omega (arith, the-found.0)) _ the-found.1 _ _ at-list-of.ensures at-list-of2.ensures).0

pub keep_row-go_back-last-requires-in-Some : goal.keep_row-go_back-last-requires-in-Some
keep_row-go_back-last-requires-in-Some t c =
    let given = lent c.args.basis.now.table.now (numbers c.args.basis.now.given) in
    let line = c.args.basis.now.line.now in
    let the-visited = child_visited given line c.args.spot c.args.node c.loop-work.invariant.1.1.0 c.a_of-x.ensures.0 _ c.visit-a.ensures.says in
    let the-counted : (let words = c.visit-a.new.work.now in (made_in words < allowance_in (lent [] (numbers c.args.basis.now.given))) × (c.enter_in_place.new.work.now ≡ set words 2043 (made_in words + 1))) = counts (lent [] (numbers c.args.basis.now.given)) _ _ _ c.enter_in_place.ensures.says (ap code_in c.in_default.is) in
    let the-looked : (c.kept_answer.new.work.now ≡ set c.visit-a.new.work.now 2043 (made_in c.visit-a.new.work.now + 1)) = ap (λ r. r.now) c.kept_answer.ensures.1 ∙ the-counted.1 in
    let the-found : KeptIn (lent [] (numbers c.args.basis.now.given)) (set c.visit-a.new.work.now 2043 (made_in c.visit-a.new.work.now + 1)) c.args.node (end_in c.visit-a.result) (Some c.in-Some.rest) = rw (c.end_of-end.ensures, the-counted.1) at c.in-Some.ensures.0 in
    let at_end_of = c.end_of-end in
    let at-if1 = c.if-end-eq-STOPPED in
    let at-if2 = c.if-end-eq-FAILED in
    let at-visit = c.visit-a in
    let at-loop = c.loop-work in
    let at-if3 = c.if-end-pos_of in
    let at-pos-of2 = c.pos_of-in-loop-work in
    let at_joined = c.joined-both in
    let at-end-of2 = c.end_of in
    let at-list-of = c.list_of in
    let at-list-of2 = c.list_of-in-Some in
    let match = matched at_end_of.ensures the-visited.came.end_most at-if1.false at-if2.false in
    let less = let e = at_end_of.ensures in let q : end_in at-visit.result < STOPPED = omega arith in q in
    let other = let q : end_in at-visit.result ≢ pos_in at-loop.here = λ e. at-if3.false (at_end_of.ensures ∙ e ∙ sym at-pos-of2.ensures) in q in
    kept_row.found_ready _ _ _ _ _ c.requires.ready c.requires.«open».0 c.requires.«open».1 c.requires.free at-loop.invariant.0 _ the-visited less other the-counted.0 _ refl (omega (arith, the-found.0)) _ the-found.1 _ (at_joined.ensures.0 ∙ at-end-of2.ensures) (rw (the-looked, at-list-of.ensures, at-list-of2.ensures) at at_joined.ensures.1) _ at-loop.invariant.1.1.0

pub keep_row-loop-work-smaller : goal.keep_row-loop-work-smaller
keep_row-loop-work-smaller t c =
    let given = lent c.args.basis.now.table.now (numbers c.args.basis.now.given) in
    let line = c.args.basis.now.line.now in
    let the-visited = child_visited given line c.args.spot c.args.node c.loop-work.invariant.1.1.0 c.a_of-x.ensures.0 _ c.visit-a.ensures.says in
    let the-counted : (let words = c.visit-a.new.work.now in (made_in words < allowance_in (lent [] (numbers c.args.basis.now.given))) × (c.enter_in_place.new.work.now ≡ set words 2043 (made_in words + 1))) = counts (lent [] (numbers c.args.basis.now.given)) _ _ _ c.enter_in_place.ensures.says (ap code_in c.in_default.is) in
    let the-looked : (c.kept_answer.new.work.now ≡ set c.visit-a.new.work.now 2043 (made_in c.visit-a.new.work.now + 1)) = ap (λ r. r.now) c.kept_answer.ensures.1 ∙ the-counted.1 in
    let at_end_of = c.end_of-end in
    let at-if1 = c.if-end-eq-STOPPED in
    let at-if2 = c.if-end-eq-FAILED in
    let at-visit = c.visit-a in
    let at-loop = c.loop-work in
    let at-if3 = c.if-end-pos_of in
    let at-pos-of2 = c.pos_of-in-loop-work in
    let at-pos-of4 = c.pos_of-in-loop-work-2 in
    let at-put-turn = c.put_turn in
    let match = matched at_end_of.ensures the-visited.came.end_most at-if1.false at-if2.false in
    let less = let e = at_end_of.ensures in let q : end_in at-visit.result < STOPPED = omega arith in q in
    let other = let q : end_in at-visit.result ≢ pos_in at-loop.here = λ e. at-if3.false (at_end_of.ensures ∙ e ∙ sym at-pos-of2.ensures) in q in
    let none : get_or (set c.visit-a.new.work.now 2043 (made_in c.visit-a.new.work.now + 1)) (place_in given c.args.node (end_in c.visit-a.result)) 0 ≡ 0 = rw (c.end_of-end.ensures, the-counted.1) at c.in_default-kept_answer.ensures.0 in
    kept_row.nearer _ _ _ _ _ c.requires.ready c.requires.«open».0 c.requires.«open».1 c.requires.free at-loop.invariant.0 _ the-visited less other the-counted.0 none _
    (rw (
      (ap turns_in the-looked ∙ kept_row.still_turns _ _ _ _ _ c.requires.ready c.requires.«open».0 c.requires.«open».1 c.requires.free at-loop.invariant.0 _ the-visited less other the-counted.0),
      the-looked,
      at-pos-of4.ensures,
    ) at at-put-turn.ensures)

pub keep_row-loop-work-preserved : goal.keep_row-loop-work-preserved
keep_row-loop-work-preserved t c =
    let given = lent c.args.basis.now.table.now (numbers c.args.basis.now.given) in
    let line = c.args.basis.now.line.now in
    let the-visited = child_visited given line c.args.spot c.args.node c.loop-work.invariant.1.1.0 c.a_of-x.ensures.0 _ c.visit-a.ensures.says in
    let the-counted : (let words = c.visit-a.new.work.now in (made_in words < allowance_in (lent [] (numbers c.args.basis.now.given))) × (c.enter_in_place.new.work.now ≡ set words 2043 (made_in words + 1))) = counts (lent [] (numbers c.args.basis.now.given)) _ _ _ c.enter_in_place.ensures.says (ap code_in c.in_default.is) in
    let the-looked : (c.kept_answer.new.work.now ≡ set c.visit-a.new.work.now 2043 (made_in c.visit-a.new.work.now + 1)) = ap (λ r. r.now) c.kept_answer.ensures.1 ∙ the-counted.1 in
    let at_end_of = c.end_of-end in
    let at-if1 = c.if-end-eq-STOPPED in
    let at-if2 = c.if-end-eq-FAILED in
    let at-visit = c.visit-a in
    let at-loop = c.loop-work in
    let at-if3 = c.if-end-pos_of in
    let at-pos-of2 = c.pos_of-in-loop-work in
    let at_moved = c.moved-here in
    let at-pos-of4 = c.pos_of-in-loop-work-2 in
    let at-put-turn = c.put_turn in
    let at-list-of3 = c.list_of-in-loop-work in
    let at-enter-in-place = c.enter_in_place in
    let match = matched at_end_of.ensures the-visited.came.end_most at-if1.false at-if2.false in
    let less = let e = at_end_of.ensures in let q : end_in at-visit.result < STOPPED = omega arith in q in
    let other = let q : end_in at-visit.result ≢ pos_in at-loop.here = λ e. at-if3.false (at_end_of.ensures ∙ e ∙ sym at-pos-of2.ensures) in q in
    let none : get_or (set c.visit-a.new.work.now 2043 (made_in c.visit-a.new.work.now + 1)) (place_in given c.args.node (end_in c.visit-a.result)) 0 ≡ 0 = rw (c.end_of-end.ensures, the-counted.1) at c.in_default-kept_answer.ensures.0 in
    let on = at_moved.ensures in
    let here = at-loop.invariant.1.1.0 in
    let turns = ap turns_in the-looked ∙ kept_row.still_turns _ _ _ _ _ c.requires.ready c.requires.«open».0 c.requires.«open».1 c.requires.free at-loop.invariant.0 _ the-visited less other the-counted.0 in
    let put = rw (turns, the-looked, at-pos-of4.ensures) at at-put-turn.ensures in
    let next = kept_row.goes_on _ _ _ _ _ c.requires.ready c.requires.«open».0 c.requires.«open».1 c.requires.free at-loop.invariant.0 _ the-visited less other the-counted.0 none _ put at-list-of3.ensures in
    (rw (on.there, at_end_of.ensures, next.turns_within) next, (at-loop.invariant.1.0, (record { left = on.left ∙ here.left; live = on.live ∙ here.live; there = refl }, ap (λ r. r.ghost_name) c.kept_answer.ensures.1 ∙ at-enter-in-place.ensures.lent ∙ at-visit.ensures.lent ∙ at-loop.invariant.1.1.1)))

pub keep_row-returns-then-end-eq-STOPPED-clause-says : goal.keep_row-returns-then-end-eq-STOPPED-clause-says
keep_row-returns-then-end-eq-STOPPED-clause-says t c =
    let given = lent c.args.basis.now.table.now (numbers c.args.basis.now.given) in
    let line = c.args.basis.now.line.now in
    let the-visited = child_visited given line c.args.spot c.args.node c.loop-work.invariant.1.1.0 c.a_of-x.ensures.0 _ c.visit-a.ensures.says in
    let at-loop = c.loop-work in
    let at_end_of = c.end_of-end in
    let at-if1 = c.if-end-eq-STOPPED in
    let at-set-turns = c.set_turns in
    let at-visit = c.visit-a in
    kept_row.refuses _ _ _ _ _ c.requires.ready c.requires.«open».0 c.requires.«open».1 c.requires.free at-loop.invariant.0 _ the-visited (sym at_end_of.ensures ∙ at-if1.true) at-set-turns.ensures

pub keep_row-returns-then-end-eq-FAILED-clause-says : goal.keep_row-returns-then-end-eq-FAILED-clause-says
keep_row-returns-then-end-eq-FAILED-clause-says t c =
    let given = lent c.args.basis.now.table.now (numbers c.args.basis.now.given) in
    let line = c.args.basis.now.line.now in
    let the-visited = child_visited given line c.args.spot c.args.node c.loop-work.invariant.1.1.0 c.a_of-x.ensures.0 _ c.visit-a.ensures.says in
    let at-loop = c.loop-work in
    let at_end_of = c.end_of-end in
    let at-if2 = c.if-end-eq-FAILED in
    let at-answer = c.answer in
    let at-pos-of = c.pos_of in
    let at-go-back = c.go_back-last in
    let at-visit = c.visit-a in
    kept_row.ends _ _ _ _ _ c.requires.ready c.requires.«open».0 c.requires.«open».1 c.requires.free at-loop.invariant.0 _ the-visited (inl (sym at_end_of.ensures ∙ at-if2.true)) _ (at-answer.ensures.0 ∙ at-pos-of.ensures) at-answer.ensures.1 _ at-loop.invariant.1.1.0 _ at-go-back.ensures.says

pub keep_row-returns-then-end-pos_of-clause-says : goal.keep_row-returns-then-end-pos_of-clause-says
keep_row-returns-then-end-pos_of-clause-says t c =
    let given = lent c.args.basis.now.table.now (numbers c.args.basis.now.given) in
    let line = c.args.basis.now.line.now in
    let the-visited = child_visited given line c.args.spot c.args.node c.loop-work.invariant.1.1.0 c.a_of-x.ensures.0 _ c.visit-a.ensures.says in
    let at-loop = c.loop-work in
    let at_end_of = c.end_of-end in
    let at-if3 = c.if-end-pos_of in
    let at-pos-of2 = c.pos_of-in-loop-work in
    let at-answer2 = c.answer-then-end-pos_of in
    let at-pos-of3 = c.pos_of-then-end-pos_of in
    let at-go-back2 = c.go_back-last-then-end-pos_of in
    let at-visit = c.visit-a in
    kept_row.ends _ _ _ _ _ c.requires.ready c.requires.«open».0 c.requires.«open».1 c.requires.free at-loop.invariant.0 _ the-visited (inr (sym at_end_of.ensures ∙ at-if3.true ∙ at-pos-of2.ensures)) _ (at-answer2.ensures.0 ∙ at-pos-of3.ensures) at-answer2.ensures.1 _ at-loop.invariant.1.1.0 _ at-go-back2.ensures.says

pub keep_row-returns-in-Err-clause-says : goal.keep_row-returns-in-Err-clause-says
keep_row-returns-in-Err-clause-says t c =
    let given = lent c.args.basis.now.table.now (numbers c.args.basis.now.given) in
    let line = c.args.basis.now.line.now in
    let the-visited = child_visited given line c.args.spot c.args.node c.loop-work.invariant.1.1.0 c.a_of-x.ensures.0 _ c.visit-a.ensures.says in
    let at_end_of = c.end_of-end in
    let at-if1 = c.if-end-eq-STOPPED in
    let at-if2 = c.if-end-eq-FAILED in
    let at-visit = c.visit-a in
    let at-loop = c.loop-work in
    let at-if3 = c.if-end-pos_of in
    let at-pos-of2 = c.pos_of-in-loop-work in
    let match = matched at_end_of.ensures the-visited.came.end_most at-if1.false at-if2.false in
    let less = let e = at_end_of.ensures in let q : end_in at-visit.result < STOPPED = omega arith in q in
    let other = let q : end_in at-visit.result ≢ pos_in at-loop.here = λ e. at-if3.false (at_end_of.ensures ∙ e ∙ sym at-pos-of2.ensures) in q in
    kept_row.full _ _ _ _ _ c.requires.ready c.requires.«open».0 c.requires.«open».1 c.requires.free at-loop.invariant.0 _ the-visited less other c.in-Err.ensures.says (code_some c.in-Err.refusal) c.set_turns-in-Err.ensures _ c.stopped-last.ensures.0 (c.stopped-last.ensures.1 ∙ ap (λ n. code_of c.in-Err.refusal * 4096 + n) at_end_of.ensures)

pub keep_row-returns-in-Some-clause-says : goal.keep_row-returns-in-Some-clause-says
keep_row-returns-in-Some-clause-says t c =
    let given = lent c.args.basis.now.table.now (numbers c.args.basis.now.given) in
    let line = c.args.basis.now.line.now in
    let the-visited = child_visited given line c.args.spot c.args.node c.loop-work.invariant.1.1.0 c.a_of-x.ensures.0 _ c.visit-a.ensures.says in
    let the-counted : (let words = c.visit-a.new.work.now in (made_in words < allowance_in (lent [] (numbers c.args.basis.now.given))) × (c.enter_in_place.new.work.now ≡ set words 2043 (made_in words + 1))) = counts (lent [] (numbers c.args.basis.now.given)) _ _ _ c.enter_in_place.ensures.says (ap code_in c.in_default.is) in
    let the-looked : (c.kept_answer.new.work.now ≡ set c.visit-a.new.work.now 2043 (made_in c.visit-a.new.work.now + 1)) = ap (λ r. r.now) c.kept_answer.ensures.1 ∙ the-counted.1 in
    let the-found : KeptIn (lent [] (numbers c.args.basis.now.given)) (set c.visit-a.new.work.now 2043 (made_in c.visit-a.new.work.now + 1)) c.args.node (end_in c.visit-a.result) (Some c.in-Some.rest) = rw (c.end_of-end.ensures, the-counted.1) at c.in-Some.ensures.0 in
    let at_end_of = c.end_of-end in
    let at-if1 = c.if-end-eq-STOPPED in
    let at-if2 = c.if-end-eq-FAILED in
    let at-visit = c.visit-a in
    let at-loop = c.loop-work in
    let at-if3 = c.if-end-pos_of in
    let at-pos-of2 = c.pos_of-in-loop-work in
    let at_joined = c.joined-both in
    let at-end-of2 = c.end_of in
    let at-list-of = c.list_of in
    let at-list-of2 = c.list_of-in-Some in
    let at-go-back3 = c.go_back-last-in-Some in
    let at-enter-in-place = c.enter_in_place in
    let match = matched at_end_of.ensures the-visited.came.end_most at-if1.false at-if2.false in
    let less = let e = at_end_of.ensures in let q : end_in at-visit.result < STOPPED = omega arith in q in
    let other = let q : end_in at-visit.result ≢ pos_in at-loop.here = λ e. at-if3.false (at_end_of.ensures ∙ e ∙ sym at-pos-of2.ensures) in q in
    let end = at_joined.ensures.0 ∙ at-end-of2.ensures in
    let both = rw (the-looked, at-list-of.ensures, at-list-of2.ensures) at at_joined.ensures.1 in
    let ended = kept_row.found_ends _ _ _ _ _ c.requires.ready c.requires.«open».0 c.requires.«open».1 c.requires.free at-loop.invariant.0 _ the-visited less other the-counted.0 _ refl (omega (arith, the-found.0)) _ the-found.1 _ end both _ at-loop.invariant.1.1.0 _ at-go-back3.ensures.says in
    ended

-- ---- use_rule: a use where nothing is kept: what is held, if it is live.

pub use_rule-live_use-requires-clause-few : goal.use_rule-live_use-requires-clause-few
use_rule-live_use-requires-clause-few t c =
    let the-small : (c.args.rule < 64) = omega (arith, c.requires.«open».1, (well_laid _ c.requires.ready.fit.laid).few_rules) in
    let ready = c.requires.ready in
    let few = c.requires.«open».0 in
    (omega (arith, ready.words.room, few), (omega (arith, few), (the-small, omega (arith, ready.pos_within, ready.fit.short))))

pub use_rule-live_use-requires-clause-order : goal.use_rule-live_use-requires-clause-order
use_rule-live_use-requires-clause-order t c =
    let ready = c.requires.ready in
    let few = c.requires.«open».0 in
    (ready.order c.requires.plain).rising

pub use_rule-returns-in-Some-clause-says : goal.use_rule-returns-in-Some-clause-says
use_rule-returns-in-Some-clause-says t c =
    let small : c.args.rule < 64 = omega (arith, c.requires.«open».1, (well_laid _ c.requires.ready.fit.laid).few_rules) in
    let same : c.live_use.new.work.now ≡ c.args.work.now.now = ap (λ w. w.now) c.live_use.ensures.1 in
    let live = found_some (lent [] (numbers c.args.basis.now.given)) c.args.work.now.now c.args.spot c.args.rule (c.in-Some.live + 1) c.in-Some.ensures.0 (omega arith) in
    let holds = rw same at c.held_by.ensures.0 in
    rw (ap (λ w. w.now) c.held_by.ensures.1, same) (answers_held _ _ _ _ _ _ _ _ _ c.requires.ready c.requires.plain live.0 small live.1 holds refl)

-- ---- visit: a visit: the answer that is kept, a range, or a node that is applied.

pub visit-returns-in-Err-clause-says : goal.visit-returns-in-Err-clause-says
visit-returns-in-Err-clause-says t c =
    let ready = c.requires.ready in
    let listed = c.stopped.ensures.1 ∙ ap (λ p. code_of c.in-Err.refusal * 4096 + p) c.pos_of.ensures in
    refused _ _ _ _ _ _ ready c.in-Err.ensures.says (code_some c.in-Err.refusal) _ c.stopped.ensures.0 listed (omega (arith, ready.pos_within, ready.fit.short))

pub visit-visit_open-requires : goal.visit-visit_open-requires
visit-visit_open-requires t c =
    let given = lent c.args.basis.now.table.now (numbers c.args.basis.now.given) in
    let line = c.args.basis.now.line.now in
    let the-opened : (Opened given line c.args.work.now.now c.enter.new.work.now c.args.spot c.args.node) = entered_open _ _ _ _ _ c.requires.ready c.enter.ensures.says (ap code_in c.in_default.is) in
    let o = the-opened in
    (omega (arith, c.decreases, left_less c.args.spot o.some), (o.starts, (o.space, keeps_no _ c.if-basis-eq0.true)))

pub visit-returns-then-basis-eq0-clause-says : goal.visit-returns-then-basis-eq0-clause-says
visit-returns-then-basis-eq0-clause-says t c =
    let given = lent c.args.basis.now.table.now (numbers c.args.basis.now.given) in
    let line = c.args.basis.now.line.now in
    let the-opened : (Opened given line c.args.work.now.now c.enter.new.work.now c.args.spot c.args.node) = entered_open _ _ _ _ _ c.requires.ready c.enter.ensures.says (ap code_in c.in_default.is) in
    opened _ _ _ _ _ c.requires.ready the-opened _ _ c.visit_open.ensures.says

pub visit-kept_answer-requires : goal.visit-kept_answer-requires
visit-kept_answer-requires t c =
    let given = lent c.args.basis.now.table.now (numbers c.args.basis.now.given) in
    let line = c.args.basis.now.line.now in
    let the-opened : (Opened given line c.args.work.now.now c.enter.new.work.now c.args.spot c.args.node) = entered_open _ _ _ _ _ c.requires.ready c.enter.ensures.says (ap code_in c.in_default.is) in
    let the-roomy : (Roomy (lent [] (numbers c.args.basis.now.given)) c.enter.new.work.now c.args.node c.pos_of-pos.result) = let starts = the-opened.starts in
    rw (c.pos_of-pos.ensures ∙ sym the-opened.there) (roomy given _ _ _ _ starts.fit (keeps_yes _ c.if-basis-eq0.false) starts.words.room starts.node_in starts.pos_within) in
    the-roomy

pub visit-returns-in-Some-clause-says : goal.visit-returns-in-Some-clause-says
visit-returns-in-Some-clause-says t c =
    let given = lent c.args.basis.now.table.now (numbers c.args.basis.now.given) in
    let line = c.args.basis.now.line.now in
    let the-opened : (Opened given line c.args.work.now.now c.enter.new.work.now c.args.spot c.args.node) = entered_open _ _ _ _ _ c.requires.ready c.enter.ensures.says (ap code_in c.in_default.is) in
    let same : c.kept_answer.new.work.now ≡ c.enter.new.work.now = ap (λ r. r.now) c.kept_answer.ensures.1 in
    let o = the-opened in
    let there = c.pos_of-pos.ensures ∙ sym o.there in
    let kept : KeptIn (lent [] (numbers c.args.basis.now.given)) c.enter.new.work.now c.args.node (pos_in (c.args.spot - 1)) (Some c.in-Some.kept) = rw there at c.in-Some.ensures.0 in
    let answered = kept_answered _ _ _ _ _ _ o.starts o.space (keeps_yes _ c.if-basis-eq0.false) _ same _ _ refl (omega (arith, kept.0)) kept.1 in
    opened _ _ _ _ _ c.requires.ready o _ _ answered

pub visit-keep-requires : goal.visit-keep-requires
visit-keep-requires t c =
    let given = lent c.args.basis.now.table.now (numbers c.args.basis.now.given) in
    let line = c.args.basis.now.line.now in
    let the-opened : (Opened given line c.args.work.now.now c.enter.new.work.now c.args.spot c.args.node) = entered_open _ _ _ _ _ c.requires.ready c.enter.ensures.says (ap code_in c.in_default.is) in
    let same : c.kept_answer.new.work.now ≡ c.enter.new.work.now = ap (λ r. r.now) c.kept_answer.ensures.1 in
    let the-ranged : (
    Ends given line c.enter.new.work.now c.visit_range-done.new.work.now (c.args.spot - 1) c.visit_range-done.result
    (λ l s. applies given line (left_in (c.args.spot - 1)) l c.args.node (pos_in (c.args.spot - 1)) s))
    = let o = the-opened in
    let there = c.pos_of-pos.ensures ∙ sym o.there in
    let range = rw there at c.visit_range-done.ensures.range in
    let reached = rw (there, same) at c.visit_range-done.ensures.reached in
    range_ends _ _ (c.args.spot - 1) c.args.node _ o.starts (sym c.kind_of.ensures.0 ∙ c.if-kind_of-eq1.true) range reached in
    let o = the-opened in
    let ranged = the-ranged in
    let free = keeps_yes _ c.if-basis-eq0.false in
    let room = roomy given _ _ _ _ o.starts.fit free ranged.came.words.room o.starts.node_in o.starts.pos_within in
    (rw (c.pos_of-pos.ensures ∙ sym o.there) room, omega (arith, ranged.came.end_most, c.end_of.ensures))

pub visit-returns-then-kind_of-eq1-clause-says : goal.visit-returns-then-kind_of-eq1-clause-says
visit-returns-then-kind_of-eq1-clause-says t c =
    let given = lent c.args.basis.now.table.now (numbers c.args.basis.now.given) in
    let line = c.args.basis.now.line.now in
    let the-opened : (Opened given line c.args.work.now.now c.enter.new.work.now c.args.spot c.args.node) = entered_open _ _ _ _ _ c.requires.ready c.enter.ensures.says (ap code_in c.in_default.is) in
    let same : c.kept_answer.new.work.now ≡ c.enter.new.work.now = ap (λ r. r.now) c.kept_answer.ensures.1 in
    let the-ranged : (
    Ends given line c.enter.new.work.now c.visit_range-done.new.work.now (c.args.spot - 1) c.visit_range-done.result
    (λ l s. applies given line (left_in (c.args.spot - 1)) l c.args.node (pos_in (c.args.spot - 1)) s))
    = let o = the-opened in
    let there = c.pos_of-pos.ensures ∙ sym o.there in
    let range = rw there at c.visit_range-done.ensures.range in
    let reached = rw (there, same) at c.visit_range-done.ensures.reached in
    range_ends _ _ (c.args.spot - 1) c.args.node _ o.starts (sym c.kind_of.ensures.0 ∙ c.if-kind_of-eq1.true) range reached in
    let o = the-opened in
    let there = c.pos_of-pos.ensures ∙ sym o.there in
    let ranged = the-ranged in
    let none : get_or c.enter.new.work.now (place_in given c.args.node (pos_in (c.args.spot - 1))) 0 ≡ 0 = rw (c.pos_of-pos.ensures ∙ sym o.there) at c.in_default-kept_answer.ensures.0 in
    let kept = rw (there, c.end_of.ensures, c.list_of.ensures) at c.keep.ensures in
    let applied = open_applied _ _ _ _ _ _ o.starts o.space (keeps_yes _ c.if-basis-eq0.false) _ refl _ none _ _ ranged kept in
    opened _ _ _ _ _ c.requires.ready o _ _ applied

pub visit-apply-requires : goal.visit-apply-requires
visit-apply-requires t c =
    let given = lent c.args.basis.now.table.now (numbers c.args.basis.now.given) in
    let line = c.args.basis.now.line.now in
    let the-opened : (Opened given line c.args.work.now.now c.enter.new.work.now c.args.spot c.args.node) = entered_open _ _ _ _ _ c.requires.ready c.enter.ensures.says (ap code_in c.in_default.is) in
    let same : c.kept_answer.new.work.now ≡ c.enter.new.work.now = ap (λ r. r.now) c.kept_answer.ensures.1 in
    let o = the-opened in
    let free = keeps_yes _ c.if-basis-eq0.false in
    let none : get_or c.enter.new.work.now (place_in given c.args.node (pos_in (c.args.spot - 1))) 0 ≡ 0 = rw (c.pos_of-pos.ensures ∙ sym o.there) at c.in_default-kept_answer.ensures.0 in
    (omega (arith, c.decreases, left_less c.args.spot o.some), (rw same o.starts, (o.space, (λ _. free, λ _. rw same none))))

pub visit-returns-clause-says : goal.visit-returns-clause-says
visit-returns-clause-says t c =
    let given = lent c.args.basis.now.table.now (numbers c.args.basis.now.given) in
    let line = c.args.basis.now.line.now in
    let the-opened : (Opened given line c.args.work.now.now c.enter.new.work.now c.args.spot c.args.node) = entered_open _ _ _ _ _ c.requires.ready c.enter.ensures.says (ap code_in c.in_default.is) in
    let same : c.kept_answer.new.work.now ≡ c.enter.new.work.now = ap (λ r. r.now) c.kept_answer.ensures.1 in
    opened _ _ _ _ _ c.requires.ready the-opened _ _ (rw same at c.apply.ensures.says)

-- ---- visit_row: a repetition where nothing is kept.

pub visit_row-loop-turn-init : goal.visit_row-loop-turn-init
visit_row-loop-turn-init t c =
    (row.begins _ _ _ _ _ c.requires.ready c.requires.«open».0 c.requires.«open».1 c.requires.plain, (record { left = refl; live = refl; there = refl }, refl))

pub visit_row-visit-turn-requires : goal.visit_row-visit-turn-requires
visit_row-visit-turn-requires t c =
    let at-a-of = c.a_of-x in
    let at-loop = c.loop-turn in
    let x = at-a-of.ensures.0 in
    let here = at-loop.invariant.1.0 in
    (omega (arith, c.decreases, here.left), rw x (starts_moved _ _ here _ (row.child_starts _ _ _ _ _ c.requires.ready c.requires.«open».0 c.requires.«open».1 c.requires.plain at-loop.invariant.0 (repetition_child _ _ c.requires.ready.fit _ c.requires.ready.node_in c.requires.«open».1))))

pub visit_row-loop-turn-smaller : goal.visit_row-loop-turn-smaller
visit_row-loop-turn-smaller t c =
    let given = lent c.args.basis.now.table.now (numbers c.args.basis.now.given) in
    let line = c.args.basis.now.line.now in
    let the-visited = child_visited given line c.args.spot c.args.node c.loop-turn.invariant.1.0 c.a_of-x.ensures.0 _ c.visit-turn.ensures.says in
    let at_end_of = c.end_of-end in
    let at-if1 = c.if-end-eq-STOPPED in
    let at-if2 = c.if-end-eq-FAILED in
    let at-visit = c.visit-turn in
    let at-loop = c.loop-turn in
    let at-if3 = c.if-end-pos_of in
    let at-pos-of2 = c.pos_of-in-loop-turn in
    let at-list-of = c.list_of in
    let at_joined = c.joined-both in
    let at-enter-in-place = c.enter_in_place in
    let match = matched at_end_of.ensures the-visited.came.end_most at-if1.false at-if2.false in
    let less = let e = at_end_of.ensures in let q : end_in at-visit.result < STOPPED = omega arith in q in
    let other = let q : end_in at-visit.result ≢ pos_in at-loop.here = λ e. at-if3.false (at_end_of.ensures ∙ e ∙ sym at-pos-of2.ensures) in q in
    row.nearer _ _ _ _ _ c.requires.ready c.requires.«open».0 c.requires.«open».1 c.requires.plain at-loop.invariant.0 _ the-visited less other (rw at-list-of.ensures at at_joined.ensures.1) at-enter-in-place.ensures.says (ap code_in c.in_default.is)

pub visit_row-loop-turn-preserved : goal.visit_row-loop-turn-preserved
visit_row-loop-turn-preserved t c =
    let given = lent c.args.basis.now.table.now (numbers c.args.basis.now.given) in
    let line = c.args.basis.now.line.now in
    let the-visited = child_visited given line c.args.spot c.args.node c.loop-turn.invariant.1.0 c.a_of-x.ensures.0 _ c.visit-turn.ensures.says in
    let at_end_of = c.end_of-end in
    let at-if1 = c.if-end-eq-STOPPED in
    let at-if2 = c.if-end-eq-FAILED in
    let at-visit = c.visit-turn in
    let at-loop = c.loop-turn in
    let at-if3 = c.if-end-pos_of in
    let at-pos-of2 = c.pos_of-in-loop-turn in
    let at_moved = c.moved-here in
    let at-list-of2 = c.list_of-list in
    let at-list-of = c.list_of in
    let at_joined = c.joined-both in
    let at-enter-in-place = c.enter_in_place in
    let match = matched at_end_of.ensures the-visited.came.end_most at-if1.false at-if2.false in
    let less = let e = at_end_of.ensures in let q : end_in at-visit.result < STOPPED = omega arith in q in
    let other = let q : end_in at-visit.result ≢ pos_in at-loop.here = λ e. at-if3.false (at_end_of.ensures ∙ e ∙ sym at-pos-of2.ensures) in q in
    let on = at_moved.ensures in
    let here = at-loop.invariant.1.0 in
    let both = rw at-list-of.ensures at at_joined.ensures.1 in
    let entered = ap code_in c.in_default.is in
    let next = row.goes_on _ _ _ _ _ c.requires.ready c.requires.«open».0 c.requires.«open».1 c.requires.plain at-loop.invariant.0 _ the-visited less other both at-enter-in-place.ensures.says entered in
    (rw (on.there, at_end_of.ensures, at-list-of2.ensures) next, (record { left = on.left ∙ here.left; live = on.live ∙ here.live; there = refl }, at-enter-in-place.ensures.lent ∙ at-visit.ensures.lent ∙ at-loop.invariant.1.1))

pub visit_row-returns-then-end-eq-STOPPED-clause-says : goal.visit_row-returns-then-end-eq-STOPPED-clause-says
visit_row-returns-then-end-eq-STOPPED-clause-says t c =
    let given = lent c.args.basis.now.table.now (numbers c.args.basis.now.given) in
    let line = c.args.basis.now.line.now in
    let the-visited = child_visited given line c.args.spot c.args.node c.loop-turn.invariant.1.0 c.a_of-x.ensures.0 _ c.visit-turn.ensures.says in
    let at-loop = c.loop-turn in
    let at_end_of = c.end_of-end in
    let at-if1 = c.if-end-eq-STOPPED in
    let at-visit = c.visit-turn in
    row.refuses _ _ _ _ _ c.requires.ready c.requires.«open».0 c.requires.«open».1 c.requires.plain at-loop.invariant.0 _ the-visited (sym at_end_of.ensures ∙ at-if1.true)

pub visit_row-returns-then-end-eq-FAILED-clause-says : goal.visit_row-returns-then-end-eq-FAILED-clause-says
visit_row-returns-then-end-eq-FAILED-clause-says t c =
    let given = lent c.args.basis.now.table.now (numbers c.args.basis.now.given) in
    let line = c.args.basis.now.line.now in
    let the-visited = child_visited given line c.args.spot c.args.node c.loop-turn.invariant.1.0 c.a_of-x.ensures.0 _ c.visit-turn.ensures.says in
    let at-loop = c.loop-turn in
    let at_end_of = c.end_of-end in
    let at-if2 = c.if-end-eq-FAILED in
    let at-answer = c.answer-last in
    let at-pos-of = c.pos_of in
    let at-visit = c.visit-turn in
    row.ends _ _ _ _ _ c.requires.ready c.requires.«open».0 c.requires.«open».1 c.requires.plain at-loop.invariant.0 _ the-visited (inl (sym at_end_of.ensures ∙ at-if2.true)) _ (at-answer.ensures.0 ∙ at-pos-of.ensures) at-answer.ensures.1

pub visit_row-returns-then-end-pos_of-clause-says : goal.visit_row-returns-then-end-pos_of-clause-says
visit_row-returns-then-end-pos_of-clause-says t c =
    let given = lent c.args.basis.now.table.now (numbers c.args.basis.now.given) in
    let line = c.args.basis.now.line.now in
    let the-visited = child_visited given line c.args.spot c.args.node c.loop-turn.invariant.1.0 c.a_of-x.ensures.0 _ c.visit-turn.ensures.says in
    let at-if3 = c.if-end-pos_of in
    let at-pos-of2 = c.pos_of-in-loop-turn in
    let at-loop = c.loop-turn in
    let at_end_of = c.end_of-end in
    let at-answer2 = c.answer-last-then-end-pos_of in
    let at-visit = c.visit-turn in
    let there = at-if3.true ∙ at-pos-of2.ensures in
    row.ends _ _ _ _ _ c.requires.ready c.requires.«open».0 c.requires.«open».1 c.requires.plain at-loop.invariant.0 _ the-visited (inr (sym at_end_of.ensures ∙ there)) _ (at-answer2.ensures.0 ∙ there) at-answer2.ensures.1

pub visit_row-returns-in-Err-clause-says : goal.visit_row-returns-in-Err-clause-says
visit_row-returns-in-Err-clause-says t c =
    let given = lent c.args.basis.now.table.now (numbers c.args.basis.now.given) in
    let line = c.args.basis.now.line.now in
    let the-visited = child_visited given line c.args.spot c.args.node c.loop-turn.invariant.1.0 c.a_of-x.ensures.0 _ c.visit-turn.ensures.says in
    let at_end_of = c.end_of-end in
    let at-if1 = c.if-end-eq-STOPPED in
    let at-if2 = c.if-end-eq-FAILED in
    let at-visit = c.visit-turn in
    let at-loop = c.loop-turn in
    let at-if3 = c.if-end-pos_of in
    let at-pos-of2 = c.pos_of-in-loop-turn in
    let at-list-of = c.list_of in
    let at_joined = c.joined-both in
    let match = matched at_end_of.ensures the-visited.came.end_most at-if1.false at-if2.false in
    let less = let e = at_end_of.ensures in let q : end_in at-visit.result < STOPPED = omega arith in q in
    let other = let q : end_in at-visit.result ≢ pos_in at-loop.here = λ e. at-if3.false (at_end_of.ensures ∙ e ∙ sym at-pos-of2.ensures) in q in
    let both = rw at-list-of.ensures at at_joined.ensures.1 in
    let answered = c.stopped-last.ensures.1 ∙ ap (λ n. code_of c.in-Err.refusal * 4096 + n) at_end_of.ensures in
    let refused = row.full _ _ _ _ _ c.requires.ready c.requires.«open».0 c.requires.«open».1 c.requires.plain at-loop.invariant.0 _ the-visited less other both c.in-Err.ensures.says (code_some c.in-Err.refusal) _ c.stopped-last.ensures.0 answered in
    refused
