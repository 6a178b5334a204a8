-- `put_answer` meets its contract: the parts of the line are written one after another, and each finds room.
use Rattle.std.proofs.Common.{[], ◌∷◌, rules, arith}
use Rattle.lines.specs.Lines.{line_feed}
use Rattle.lines.specs.AnswerLine.{spaced, answer_line, answer_most}
use Rattle.lines.proofs.AnswerLength.{InRange, to_number_short, to_answer_short, to_sender_short, to_edit_short, answer_line_short}
use Rattle.lines.proofs.Writing.{wrote_byte, wrote_then, wrote_long, wrote_room}
use Rattle.lines.proofs.answer.put_answer.Goals as goal

pub put_number-answer_at-requires : goal.put_number-answer_at-requires
put_number-answer_at-requires c =
    let fits : InRange c.args.number c.args.answer c.args.sender c.args.edit = search rules in
    omega (arith, c.requires, to_number_short fits)

pub put_spaced-sender_at-requires : goal.put_spaced-sender_at-requires
put_spaced-sender_at-requires c =
    let fits : InRange c.args.number c.args.answer c.args.sender c.args.edit = search rules in
    wrote_room (spaced c.args.answer) answer_most c.put_number-answer_at.ensures (to_answer_short fits) c.requires

pub put_spaced-edit_at-requires : goal.put_spaced-edit_at-requires
put_spaced-edit_at-requires c =
    let fits : InRange c.args.number c.args.answer c.args.sender c.args.edit = search rules in
    let to_answer = wrote_then c.put_number-answer_at.ensures c.put_spaced-sender_at.ensures in
    wrote_room (spaced c.args.sender) answer_most to_answer (to_sender_short fits) c.requires

pub put_spaced-end-requires : goal.put_spaced-end-requires
put_spaced-end-requires c =
    let fits : InRange c.args.number c.args.answer c.args.sender c.args.edit = search rules in
    let to_answer = wrote_then c.put_number-answer_at.ensures c.put_spaced-sender_at.ensures in
    let to_sender = wrote_then to_answer c.put_spaced-edit_at.ensures in
    wrote_room (spaced c.args.edit) answer_most to_sender (to_edit_short fits) c.requires

pub bounds-out-end : goal.bounds-out-end
unfolding answer_line
bounds-out-end c =
    let fits : InRange c.args.number c.args.answer c.args.sender c.args.edit = search rules in
    let to_answer = wrote_then c.put_number-answer_at.ensures c.put_spaced-sender_at.ensures in
    let to_edit = wrote_then (wrote_then to_answer c.put_spaced-edit_at.ensures) c.put_spaced-end.ensures in
    omega (arith, wrote_room (line_feed ∷ []) answer_most to_edit (answer_line_short fits) c.requires)

pub overflow_add-result : goal.overflow_add-result
unfolding answer_line
overflow_add-result c =
    let fits : InRange c.args.number c.args.answer c.args.sender c.args.edit = search rules in
    let to_answer = wrote_then c.put_number-answer_at.ensures c.put_spaced-sender_at.ensures in
    let to_edit = wrote_then (wrote_then to_answer c.put_spaced-edit_at.ensures) c.put_spaced-end.ensures in
    omega (arith, wrote_room (line_feed ∷ []) answer_most to_edit (answer_line_short fits) c.requires, wrote_long to_edit)

pub returns : goal.returns
unfolding answer_line
returns c =
    let to_answer = wrote_then c.put_number-answer_at.ensures c.put_spaced-sender_at.ensures in
    let to_edit = wrote_then (wrote_then to_answer c.put_spaced-edit_at.ensures) c.put_spaced-end.ensures in
    wrote_then to_edit (wrote_byte _ _ _)
