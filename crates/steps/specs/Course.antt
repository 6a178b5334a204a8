-- How far a list has come: what is still to be printed when the input comes in pieces.
use Rattle.std.specs.Prelude.{ℕ, ◌+◌, ◌*◌, ◌≤◌, ◌≡◌, Bool, true, false, List, [], ◌++◌, eqb, length, take, Option, Some, None, ⊤}
use Rattle.answers.specs.declared.Report.{Report}
use Rattle.lines.specs.Lines.{lines_of}
use Rattle.lines.specs.Kept.{line_most, NoFeed}
use Rattle.lines.specs.AnswerLine.{answer_most}
use Rattle.steps.specs.Memory.{session_in, Bounded}
use Rattle.steps.specs.Printed.{line_of, walked, printed_lines}
use Rattle.steps.specs.declared.list.Line.{Line}
use Rattle.steps.specs.declared.list.Stage.{Stage}
use Rattle.steps.specs.declared.list.Stage.TheVariants.{First, Walking, Ended}
use Rattle.steps.specs.declared.list.Course.{Course}
use Rattle.steps.specs.declared.list.Answered.{Answered}
use Rattle.steps.specs.declared.list.Taken.{Taken}

-- The part of a line that has come so far.
abbrev pub line_in : Line → List ℕ
line_in line = take line.length line.bytes

-- What is printed for a line: a number and a report, or nothing.
abbrev pub text_of : Option (ℕ × Report) → List ℕ
text_of None = []
text_of (Some (number, report)) = line_of number report

-- What is printed for the lines to come.
unfoldable pub for_lines : Stage → List ℕ → List ℕ → List (List ℕ) → List ℕ
for_lines First shelves packets lines = printed_lines lines
for_lines (Walking number walk) shelves packets lines = walked number (session_in walk shelves packets) lines
for_lines Ended shelves packets lines = []

abbrev pub for_course : Course → List ℕ → List ℕ → List (List ℕ) → List ℕ
for_course course shelves packets lines = for_lines course.stage shelves packets lines

-- The number of the next step, and 0 where there is none.
abbrev pub number_at : Stage → ℕ
number_at First = 0
number_at (Walking number walk) = number
number_at Ended = 0

abbrev pub number_in : Course → ℕ
number_in course = number_at course.stage

-- The numbers of a list's session are in their bounds.
abbrev pub BoundedAt : Stage → Type 0
BoundedAt First = ⊤
BoundedAt (Walking number walk) = Bounded walk
BoundedAt Ended = ⊤

-- What is printed for the text to come.
unfoldable pub still : Course → List ℕ → List ℕ → List ℕ → List ℕ
still course shelves packets text = for_course course shelves packets (lines_of (line_in course.line ++ text))

-- A list that can go on.
pub record Ready (course : Course) : Type 0 where
  pub bounded : BoundedAt course.stage
  pub short : course.line.length ≤ line_most
  pub long : length course.line.bytes ≡ line_most
  pub no_feed : NoFeed (line_in course.line)

-- More text was kept, as far as a line is kept.
pub record KeptMore (line : Line) (text : List ℕ) (next : Line) : Type 0 where
  pub line_is : line_in next ≡ take line_most (line_in line ++ text)
  pub short : next.length ≤ line_most
  pub long : length next.bytes ≡ line_most

-- A list with more text, which has no line feed.
pub record CourseKept (course : Course) (text : List ℕ) (next : Course) : Type 0 where
  pub ready : Ready next
  pub number_is : number_in next ≡ number_in course
  pub still_is : (shelves packets rest : List ℕ) → still next shelves packets rest ≡ still course shelves packets (text ++ rest)

-- A list between two lines.
pub record FreshAt (stage : Stage) (course : Course) : Type 0 where
  pub stage_is : course.stage ≡ stage
  pub fresh : course.line.length ≡ 0
  pub line_long : length course.line.bytes ≡ line_most

-- A line was taken: for all lines to come, what is printed for it and what is still to be printed are what was to be printed.
pub record LineTaken (number : ℕ) (before : List (List ℕ) → List ℕ) (answered : Answered) (shelves packets : List ℕ) : Type 0 where
  pub prints : (lines : List (List ℕ)) → text_of answered.line ++ for_course answered.course shelves packets lines ≡ before lines
  pub no_more : for_course answered.course shelves packets [] ≡ []
  pub fresh : answered.course.line.length ≡ 0
  pub line_long : length answered.course.line.bytes ≡ line_most
  pub bounded : BoundedAt answered.course.stage
  pub counts : number_in answered.course ≤ number + 1

-- No line is left: line one has come, and nothing after the last line feed.
abbrev pub done_at : Stage → ℕ → Bool
done_at First kept = false
done_at (Walking number walk) kept = eqb kept 0
done_at Ended kept = eqb kept 0

abbrev pub is_done : Course → Bool
is_done course = done_at course.stage course.line.length

-- Nothing more is printed, whatever comes.
abbrev pub is_over : Stage → Bool
is_over First = false
is_over (Walking number walk) = false
is_over Ended = true

-- A piece of the input was taken.
pub record PieceTaken (course : Course) (text shelves packets : List ℕ) (taken : Taken) (shelves-left packets-left out-left : List ℕ) : Type 0 where
  pub prints : (rest : List ℕ)
      → take taken.end out-left ++ still taken.course shelves-left packets-left rest ≡ still course shelves packets (text ++ rest)
  pub ready : Ready taken.course
  pub high : taken.end ≤ answer_most * length text
  pub counts : number_in taken.course ≤ number_in course + length text

-- The rest was printed.
pub record Finished (course : Course) (shelves packets : List ℕ) (end : ℕ) (out-left : List ℕ) : Type 0 where
  pub prints : take end out-left ≡ still course shelves packets []
  pub high : end ≤ answer_most

-- Every step has a number of 64 bits.
abbrev pub number_most : ℕ
number_most = 18446744073709551615
