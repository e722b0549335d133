use Rattle.lesson.specs.Texts.{verdict_text}
use Rattle.lesson.proofs.put_verdict.Goals as goal

pub returns : goal.returns
unfolding verdict_text
returns c = rw (← c.code.ensures, ← c.place.ensures) c.put_refusal.ensures
