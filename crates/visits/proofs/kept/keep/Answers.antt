-- `keep` writes nothing where the visit was stopped; else a failure, or the end and the list.
use native.Mathlib.Omega.{arith}
use mathlib.Core.Path.{refl, sym}
use Rattle.visits.proofs.kept.keep.Goals as goal

pub returns-then-end-eq-STOPPED : goal.returns-then-end-eq-STOPPED
returns-then-end-eq-STOPPED c =
    record {
      stopped = λ _. refl;
      failed = λ e. absurd (omega (arith, c.if-end-eq-STOPPED.true));
      matched = λ e. absurd (omega (arith, c.if-end-eq-STOPPED.true));
    }

pub returns-then-end-eq-FAILED : goal.returns-then-end-eq-FAILED
returns-then-end-eq-FAILED c =
    let ended = c.if-end-eq-FAILED.true in
    let written = c.put_kept.ensures in
    let place = c.kept_at-at.ensures in
    record {
      stopped = λ e. absurd (omega (arith, ended));
      failed = λ _. rw (sym place) written;
      matched = λ e. absurd (omega (arith, ended));
    }

pub returns : goal.returns
returns c =
    let not-failed = c.if-end-eq-FAILED.false in
    let not_stopped = c.if-end-eq-STOPPED.false in
    let written = c.put_kept-2.ensures in
    let place = c.kept_at-at.ensures in
    record {
      stopped = λ e. absurd (not_stopped e);
      failed = λ e. absurd (not-failed e);
      matched = λ _. rw (sym place) written;
    }
