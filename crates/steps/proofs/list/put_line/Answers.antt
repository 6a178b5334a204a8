-- `put_line` meets its contract.
use Rattle.std.proofs.Common.{rules}
use Rattle.lines.proofs.AnswerLength.{InRange, answer_line_short}
use Rattle.steps.proofs.list.put_line.Goals as goal

pub returns-clause-short : goal.returns-clause-short
returns-clause-short c =
    let report = c.in-Some.report in
    let fits : InRange c.in-Some.number report.answer report.edit.sender.0 report.edit.number.0 = search rules in
    rw c.in-Some.is (answer_line_short fits)
