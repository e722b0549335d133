-- What is printed where there is no line to answer.
use Rattle.std.specs.Prelude.{List, ℕ}
use Rattle.layout.specs.Layout.{Verdict}
use Rattle.answers.specs.Quoted.{bytes}
use Rattle.answers.specs.Printed.{refusal_text}

-- 01: "an unopened file prints GRAMMAR".
unfoldable pub grammar_text : List ℕ
grammar_text = bytes "GRAMMAR\n"

-- 01: "A refused table prints one such line". No visit was made.
unfoldable pub verdict_text : Verdict → List ℕ
verdict_text v = refusal_text v.code v.place 0
