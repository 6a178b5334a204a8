-- Document 01's listing, computed.
use mathlib.Core.Path.{refl}
use Rattle.lines.specs.Lines.{lines_of, words, digits_alone, is_number, value_of, read_send, read_arrival, read_release, read_words, read_numbers}
use Rattle.lines.specs.AnswerLine.{decimal_from, answer_line}
use Rattle.seat.proofs.Computed.{computed}
use Rattle.steps.specs.Session.{sent, send_told, found, arrived, arrive_told, released, release_told, step_told, list_of, opened}
use Rattle.steps.specs.Printed.{walked, printed_lines}
use Rattle.steps.specs.Document.{input, output, DocumentsList}

pub documents_list : DocumentsList
unfolding input output computed lines_of words digits_alone is_number value_of read_send read_arrival read_release read_words read_numbers decimal_from answer_line
    sent send_told found arrived arrive_told released release_told step_told list_of opened walked printed_lines
documents_list = refl
