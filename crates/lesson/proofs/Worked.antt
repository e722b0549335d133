-- 01's example of the program: sheet B with input `1,5`, `1.5`, `,5`.
use mathlib.Core.Path.{◌≡◌, refl}
use Rattle.meaning.specs.Grammar.{wrap, fits, look}
use Rattle.meaning.specs.Decide.{empty_nodes, led_to, led_rules, left_recursive, is_free}
use Rattle.meaning.specs.Reading.{after, byte, joined, second, otherwise, denied, repeat_from, repeated, wrapped, apply, longer, attempted, grow, first_attempt, use_live, keep, counted, use_by}
use Rattle.meaning.specs.Reading.{recall, visited, in_place, visit, read_by, read}
use Rattle.layout.specs.Table.{length_of, nodes_of, rules_of, root_of, formula, kind_of, field_of, node_of, grammar_of}
use Rattle.layout.specs.Layout.{first_fault, root_fault, fields_fit, fault_of, node_fault, layout_of}
use Rattle.sheet.specs.Check.{loop_fault, check_of}
use Rattle.layout.proofs.Worked.{tableB}
use Rattle.stored.specs.Version.{version_of}
use Rattle.stored.specs.Stored.{records_of}
use Rattle.reader.specs.Answer.{reading_of, run_outcome, match_outcome}
use Rattle.page.specs.Decimal.{decimal, decimal_within}
use Rattle.answers.specs.Quoted.{bytes}
use Rattle.answers.specs.Printed.{names, name_of, refusal_text, read_text, answer_text, line_text}
use Rattle.lesson.specs.Lines.{text_of, begun_by, last_text, all_text}

pub three_lines : all_text tableB (bytes "1,5\n1.5\n,5\n") ≡ bytes "READ 3 8 3\nREST 1 7\nFAIL 0 5\n"
unfolding all_text text_of last_text begun_by line_text answer_text read_text refusal_text name_of names bytes decimal decimal_within reading_of run_outcome match_outcome version_of wrap fits look after byte joined second
    otherwise denied repeat_from repeated wrapped apply longer attempted grow first_attempt use_live keep counted use_by recall visited in_place visit read_by read empty_nodes led_to led_rules
    left_recursive is_free check_of loop_fault layout_of first_fault root_fault node_fault fault_of fields_fit length_of nodes_of rules_of root_of formula kind_of field_of node_of grammar_of records_of
three_lines = refl

-- the last line's LF may be missing
pub no_last_end : all_text tableB (bytes "1,5\n1.5\n,5") ≡ bytes "READ 3 8 3\nREST 1 7\nFAIL 0 5\n"
unfolding all_text text_of last_text begun_by line_text answer_text read_text refusal_text name_of names bytes decimal decimal_within reading_of run_outcome match_outcome version_of wrap fits look after byte joined second
    otherwise denied repeat_from repeated wrapped apply longer attempted grow first_attempt use_live keep counted use_by recall visited in_place visit read_by read empty_nodes led_to led_rules
    left_recursive is_free check_of loop_fault layout_of first_fault root_fault node_fault fault_of fields_fit length_of nodes_of rules_of root_of formula kind_of field_of node_of grammar_of records_of
no_last_end = refl
