-- 01's three lines of sheet B as the program prints them, and a refused table.
use mathlib.Core.Path.{◌≡◌, refl}
use Rattle.page.specs.Decimal.{decimal, decimal_within}
use Rattle.reader.specs.Answer.{numbers}
use Rattle.answers.specs.Quoted.{bytes}
use Rattle.answers.specs.Printed.{names, name_of, refusal_text, read_text, answer_text}

pub read_3_8_3 : answer_text (numbers 0 0 3 8 3 2) ≡ bytes "READ 3 8 3\n"
unfolding answer_text read_text name_of names bytes decimal decimal_within
read_3_8_3 = refl

pub rest_1_7 : answer_text (numbers 14 1 1 7 0 1) ≡ bytes "REST 1 7\n"
unfolding answer_text refusal_text name_of names bytes decimal decimal_within
rest_1_7 = refl

pub fail_0_5 : answer_text (numbers 13 0 0 5 0 0) ≡ bytes "FAIL 0 5\n"
unfolding answer_text refusal_text name_of names bytes decimal decimal_within
fail_0_5 = refl

pub loop_at_5 : refusal_text 17 5 0 ≡ bytes "LOOP 5 0\n"
unfolding refusal_text name_of names bytes decimal decimal_within
loop_at_5 = refl

pub kind_at_511 : refusal_text 6 511 0 ≡ bytes "KIND 511 0\n"
unfolding refusal_text name_of names bytes decimal decimal_within
kind_at_511 = refl
