use mathlib.Core.Path.{◌≡◌}
use lib.ListN.{length}
use borrow.Author.Rules.{rules}
use Rattle.lesson.proofs.Taking.{no_last, a_last}
use Rattle.lesson.proofs.lines.Lines.put_last.Goals as goal

pub returns-then-not-is_empty : goal.returns-then-not-is_empty
returns-then-not-is_empty c =
    let some : length c.args.self.now.begun.items ≡ 0 → ⊥ = search rules in
    a_last _ _ _ some (rw c.as_slice.ensures.value at c.answer_line.ensures.printed)

pub returns-else-not-is_empty : goal.returns-else-not-is_empty
returns-else-not-is_empty c =
    let none : length c.args.self.now.begun.items ≡ 0 = search rules in
    no_last _ _ _ none
