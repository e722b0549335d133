-- The digits that `io::decimal` makes are the number in decimal.
use Rattle.page.proofs.Digits.{decimal_digits}
use Rattle.page.proofs.Page.put_number.Goals as goal

pub returns : goal.returns
returns c =
    let d = c.decimal-places in
    rw (← decimal_digits _ _ d.ensures.len, ← d.ensures.digits) c.put_all.ensures
