use mathlib.Core.Path.{sym, ap, ◌∙◌}
use native.Mathlib.Omega.{arith}
use Rattle.std.proofs.lemmas.Result.{err_from_is_err_and}
use Rattle.layout.specs.Layout.{code_of, verdict}
use Rattle.layout.proofs.Laws.{first_pass, first_stop, first_end}
use Rattle.layout.proofs.Stops.{refuses, refused_there, fine_there}
use Rattle.layout.proofs.check_rest.Goals as goal

pub returns-in_err-is_repetition : goal.returns-in_err-is_repetition
returns-in_err-is_repetition c =
    let p = err_from_is_err_and c.from_residual.result c.from_residual.ensures.1 in
    let said = c.in_err-is_repetition.ensures in
    let e = c.in_err-is_repetition.field-0.0 in
    rw (p.1, p.2)
    (ap (λ x. verdict (code_of e) x) said.1 ∙ sym (c.loop-i.invariant ∙ first_stop _ _ _ (omega arith) (code_of e) (refused_there _ _ e said) (refuses e)))

pub loop-i-preserved : goal.loop-i-preserved
loop-i-preserved c =
    c.loop-i.invariant ∙ first_pass _ _ _ (omega arith) (fine_there _ _ c.in_ok-is_repetition.field-0 c.in_ok-is_repetition.ensures)

pub returns : goal.returns
returns c = sym (c.loop-i.invariant ∙ first_end _ _ _ (omega arith))
