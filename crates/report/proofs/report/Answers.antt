-- A refused table is reported by its code and place alone; an accepted one by both masks, and by whether a left-recursive rule is reachable.
use mathlib.Core.Path.{◌≡◌, refl, ap}
use native.Mathlib.Omega.{arith}
use Rattle.std.proofs.lemmas.Result.{err_from_is_err_and}
use Rattle.bits.proofs.Laws.{count_none, lowest_none}
use Rattle.bits.proofs.Marks.{none_marked}
use Rattle.layout.specs.Layout.{Verdict}
use Rattle.std.proofs.Common.{Ok}
use Rattle.sheet.specs.Check.{verdict_of, check_of}
use Rattle.sheet.proofs.Accepting.{accepted_ok, not_accepted, laid}
use Rattle.report.proofs.Freely.{free_said}
use Rattle.report.proofs.report.Goals as goal

pub examine-examined-requires : goal.examine-examined-requires
examine-examined-requires c = (refl, none_marked)

pub returns-in_err-examined : goal.returns-in_err-examined
returns-in_err-examined c =
    let p = err_from_is_err_and c.from_residual.result c.from_residual.ensures.1 in
    let v = rw c.in_err-examined.was at c.examine-examined.ensures.verdict in
    let n = not_accepted _ _ v in
    rw (p.1, p.2) (record {
      code = ap (λ (v : Verdict). v.code) v;
      place = ap (λ (v : Verdict). v.place) v;
      may_be_empty = λ a. absurd (n a);
      left_rules = λ a. absurd (n a);
      free = λ a. absurd (n a);
      count_is = count_none;
      lowest = lowest_none;
      refused = λ n. (refl, refl, refl, refl, refl);
    })

pub judge-found-requires : goal.judge-found-requires
judge-found-requires c =
    let v = c.examine-examined.ensures in
    let good = laid _ (accepted_ok _ (rw c.in_ok-examined.was at v.verdict)) in
    (good, v.marks good, omega arith)

pub returns : goal.returns
returns c =
    let v = c.examine-examined.ensures in
    let is : verdict_of (Ok tt) ≡ check_of c.args.table.now = rw c.in_ok-examined.was at v.verdict in
    let a = accepted_ok _ is in
    let found = c.judge-found.ensures in
    record {
      code = ap (λ (v : Verdict). v.code) is;
      place = ap (λ (v : Verdict). v.place) is;
      may_be_empty = λ x. v.rules (laid _ a);
      left_rules = λ x. found.left_rules;
      count_is = c.count.ensures;
      lowest = c.lowest.ensures;
      free = λ x. free_said _ (laid _ a) found.free;
      refused = λ n. absurd (n a);
    }
