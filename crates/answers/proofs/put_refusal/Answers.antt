-- `answers::put_refusal` meets its contract.
use Rattle.page.proofs.Laws.{puts_both}
use Rattle.answers.specs.Printed.{refusal_text}
use Rattle.answers.proofs.put_refusal.Goals as goal

pub returns : goal.returns
unfolding refusal_text
returns c =
    rw (← c.name.ensures) (puts_both c.put_all.ensures (puts_both c.put_next.ensures (puts_both c.put_next-2.ensures c.put.ensures)))
