-- `answers::answer_line` meets its contract: the reading is that of the definitions, and its answer is put.
use mathlib.Core.Path.{refl}
use borrow.Author.Rules.{rules}
use Rattle.answers.proofs.Lent.{answered}
use Rattle.answers.proofs.answer_line.Goals as goal

pub returns : goal.returns
returns c =
    let r = c.read_whole-answer in
    answered _ _ _ _ _ _ _ _ r.ensures c.put_answer.ensures refl (search rules) (search rules)
