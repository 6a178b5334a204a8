-- What the step-list program prints for an input (document 01, "The step-list program").
use Rattle.std.specs.Prelude.{ℕ, suc, cond, ◌&&◌, List, [], ◌∷◌, ◌++◌, leb, Option, Some, None}
use Rattle.answers.specs.Answers.{bare}
use Rattle.answers.specs.declared.Report.{Report}
use Rattle.lines.specs.Lines.{lines_of, read_step, read_opening}
use Rattle.lines.specs.AnswerLine.{answer_line}
use Rattle.lines.specs.declared.Opening.{Opening}
use Rattle.steps.specs.Session as walks
use Rattle.steps.specs.Session.{step_told, opened}

-- The line of a step: its number, its answer, and the edit's sender and sequence number.
abbrev pub line_of : ℕ → Report → List ℕ
line_of number report = answer_line number report.answer report.edit.sender.0 report.edit.number.0

-- The lines after the first, each a step with a number of its own.
unfoldable pub walked : ℕ → walks.Session → List (List ℕ) → List ℕ
walked number session [] = []
walked number session (line ∷ lines) =
    line_of number (step_told session (read_step line)).report ++ walked (suc number) (step_told session (read_step line)).session lines

-- A bad or missing first line.
abbrev pub bad_first : List ℕ
bad_first = line_of 0 (bare 21)

-- Line one names n, 1 to 16, and the slot count of every shelf, 0 to 8.
abbrev pub walked_from : Option Opening → List (List ℕ) → List ℕ
walked_from (Some opening) lines =
    cond (leb 1 opening.n && leb opening.n 16 && leb opening.slots 8) (walked 1 (opened opening.n opening.slots) lines) bad_first
walked_from None lines = bad_first

unfoldable pub printed_lines : List (List ℕ) → List ℕ
printed_lines [] = bad_first
printed_lines (first ∷ lines) = walked_from (read_opening first) lines

-- The whole output for a whole input.
abbrev pub printed : List ℕ → List ℕ
printed input = printed_lines (lines_of input)
