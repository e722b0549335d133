-- `answers::put_next` meets its contract.
use Rattle.page.proofs.Laws.{puts_both}
use Rattle.answers.proofs.put_next.Goals as goal

pub returns : goal.returns
returns c = puts_both c.put.ensures c.put_number.ensures
