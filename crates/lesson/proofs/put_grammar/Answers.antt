use Rattle.answers.specs.Quoted.{bytes}
use Rattle.lesson.specs.Texts.{grammar_text}
use Rattle.lesson.proofs.put_grammar.Goals as goal

pub returns : goal.returns
unfolding grammar_text bytes
returns c = c.put_all.ensures
