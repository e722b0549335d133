-- `check` meets its contract: one law for each answer.
use mathlib.Core.Path.{◌≡◌, refl, sym, ◌∙◌}
use mathlib.Core.Bool.{false}
use native.Mathlib.Omega.{arith}
use lib.ListN.{length}
use Rattle.std.proofs.lemmas.Result.{err_from_is_err_and}
use Rattle.layout.specs.Table.{length_of, nodes_of, rules_of, formula}
use Rattle.layout.specs.Layout.{SHORT, VERSION, COUNT, LENGTH, counts_fit, all_equal}
use Rattle.layout.proofs.Laws.{counts_in, nodes_out, rules_out, lengths_agree, said_differs, formula_differs, says_short, says_version, says_count, says_length, says_rest}
use Rattle.layout.proofs.Stops.{survey_refused, roots_refuse, survey_nodes}
use Rattle.layout.proofs.check.Goals as goal
use Rattle.layout.proofs.check.Goals.{then-not-in_range-via-then-not-in_range, then-not-in_range-via-else-not-in_range+then-not-in_range-2}
use Rattle.layout.proofs.check.Goals.{then-table-pair-via-then-table-pair, then-table-pair-via-else-table-pair+then-table-r}

pub returns-then-table-lt7 : goal.returns-then-table-lt7
returns-then-table-lt7 c = survey_refused _ _ SHORT 0 (says_short _ c.if-table-lt7.true) (λ e. omega arith) (refl, refl, refl)

pub returns-then-table-ne1 : goal.returns-then-table-ne1
returns-then-table-ne1 c = survey_refused _ _ VERSION 0 (says_version _ c.if-table-lt7.false c.if-table-ne1.true) (λ e. omega arith) (refl, refl, refl)

pub returns-then-not-in_range : goal.returns-then-not-in_range
unfolding nodes_of rules_of
returns-then-not-in_range c =
    let against : counts_fit (nodes_of c.args.table.now) (rules_of c.args.table.now) ≡ false =
    elim c.then-not-in_range.branch [
      | then-not-in_range-via-then-not-in_range w ↦ nodes_out c.args.table.now _ _ c.pair-n.ensures.0 c.pair-r.ensures.0 (sym c.in_range.ensures ∙ w.if-not-in_range.true)
      | then-not-in_range-via-else-not-in_range+then-not-in_range-2 w ↦ rules_out c.args.table.now _ _ c.pair-n.ensures.0 c.pair-r.ensures.0 (sym w.in_range-else-not-in_range.ensures ∙ w.if-not-in_range-2.true)
    ] in
    survey_refused _ _ COUNT 0 (says_count _ c.if-table-lt7.false c.if-table-ne1.false against) (λ e. omega arith) (refl, refl, refl)

pub returns-then-table-pair : goal.returns-then-table-pair
unfolding nodes_of rules_of length_of formula
returns-then-table-pair c =
    let t = c.args.table.now in
    let fit = counts_in t _ _ c.pair-n.ensures.0 c.pair-r.ensures.0 (sym c.in_range.ensures ∙ c.if-not-in_range.false) (sym c.in_range-else-not-in_range.ensures ∙ c.if-not-in_range-2.false) in
    let against : all_equal (length t) (length_of t) (formula t) ≡ false =
    elim c.then-table-pair.branch [
      | then-table-pair-via-then-table-pair w ↦ said_differs t _ _ c.pair-n.ensures.0 c.pair-r.ensures.0 _ c.pair.ensures.0 w.if-table-pair.true
      | then-table-pair-via-else-table-pair+then-table-r w ↦ formula_differs t _ _ c.pair-n.ensures.0 c.pair-r.ensures.0 _ c.pair.ensures.0 w.if-table-r.true
    ] in
    survey_refused _ _ LENGTH 0 (says_length _ c.if-table-lt7.false c.if-table-ne1.false fit against) (λ e. omega arith) (refl, refl, refl)

pub returns-in_err-check_roots : goal.returns-in_err-check_roots
unfolding nodes_of rules_of length_of formula
returns-in_err-check_roots c =
    let t = c.args.table.now in
    let fit = counts_in t _ _ c.pair-n.ensures.0 c.pair-r.ensures.0 (sym c.in_range.ensures ∙ c.if-not-in_range.false) (sym c.in_range-else-not-in_range.ensures ∙ c.if-not-in_range-2.false) in
    let agree = lengths_agree t _ _ c.pair-n.ensures.0 c.pair-r.ensures.0 _ c.pair.ensures.0 c.if-table-pair.false c.if-table-r.false in
    let says = says_rest t c.if-table-lt7.false c.if-table-ne1.false fit agree in
    let p = err_from_is_err_and c.from_residual.result c.from_residual.ensures.1 in
    rw (p.1, p.2) (roots_refuse t _ c.pair-r.ensures.0 says c.in_err-check_roots.field-0.0 c.in_err-check_roots.ensures)

pub returns : goal.returns
unfolding nodes_of rules_of length_of formula
returns c =
    let t = c.args.table.now in
    let fit = counts_in t _ _ c.pair-n.ensures.0 c.pair-r.ensures.0 (sym c.in_range.ensures ∙ c.if-not-in_range.false) (sym c.in_range-else-not-in_range.ensures ∙ c.if-not-in_range-2.false) in
    let agree = lengths_agree t _ _ c.pair-n.ensures.0 c.pair-r.ensures.0 _ c.pair.ensures.0 c.if-table-pair.false c.if-table-r.false in
    let says = says_rest t c.if-table-lt7.false c.if-table-ne1.false fit agree in
    survey_nodes _ _ _ c.pair-n.ensures.0 c.pair-r.ensures.0 says c.in_ok-check_roots.ensures c.check_nodes.result c.check_nodes.ensures
