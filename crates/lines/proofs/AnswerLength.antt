-- No answer line is longer than `answer_most`, and so no part that it starts with.
use Prim.Native.Nat.{ℕ, ◌^◌, ◌≤◌, ◌<◌}
use mathlib.Core.List.{List, [], ◌∷◌, ◌++◌}
use native.Mathlib.Omega.{arith}
use lib.ListN.{length, length-append}
use Rattle.lines.specs.Lines.{line_feed}
use Rattle.lines.specs.AnswerLine.{decimal, spaced, answer_line, answer_most}
use Rattle.lines.proofs.Decimal.{decimal_short}

-- the numbers of an answer line have the widths of their types
pub record InRange (number answer sender edit : ℕ) : Type 0 where
  pub number_fits : number < 2 ^ 64
  pub answer_fits : answer < 256
  pub sender_fits : sender < 256
  pub edit_fits : edit < 65536

start_short : (first second : List ℕ) (most : ℕ) → length (first ++ second) ≤ most → length first ≤ most
start_short first second most h = omega (arith, length-append first second)

module _ {number answer sender edit : ℕ} (fits : InRange number answer sender edit) where
  pub answer_line_short : length (answer_line number answer sender edit) ≤ answer_most
  unfolding answer_line
  answer_line_short =
      simp length-append
      (omega (arith, decimal_short 19 number (omega arith), decimal_short 2 answer (omega arith), decimal_short 2 sender (omega arith), decimal_short 4 edit (omega arith)))

  pub to_edit_short : length (decimal number ++ spaced answer ++ spaced sender ++ spaced edit) ≤ answer_most
  unfolding answer_line
  to_edit_short = start_short (decimal number ++ spaced answer ++ spaced sender ++ spaced edit) (line_feed ∷ []) answer_most answer_line_short

  pub to_sender_short : length (decimal number ++ spaced answer ++ spaced sender) ≤ answer_most
  to_sender_short = start_short (decimal number ++ spaced answer ++ spaced sender) (spaced edit) answer_most to_edit_short

  pub to_answer_short : length (decimal number ++ spaced answer) ≤ answer_most
  to_answer_short = start_short (decimal number ++ spaced answer) (spaced sender) answer_most to_sender_short

  pub to_number_short : length (decimal number) ≤ answer_most
  to_number_short = start_short (decimal number) (spaced answer) answer_most to_answer_short
