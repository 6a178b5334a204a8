-- What a line prints, and what is still to be printed after it.
use Prim.Native.Nat.{ℕ, suc, ◌+◌, ◌-◌, ◌≤◌, ◌<◌, min}
use mathlib.Core.Bool.{true, false, ◌&&◌}
use mathlib.Core.Path.{◌≡◌, refl, subst, sym, ap, ◌∙◌}
use mathlib.Core.List.{List, [], ◌∷◌, ◌++◌, append-nil}
use native.Mathlib.Nat.{min-eq_left, min-eq_right}
use native.Mathlib.Numerals.{add-one}
use native.Mathlib.Decide.{dec_le}
use native.Mathlib.Omega.{arith}
use lib.Dec.{leb}
use lib.ListN.{length, take, drop, length-append, length-take}
use lib.Seq.{sets, sets-eq, take_at, take_all, length-take-le, length-sets, take-append-add, get_or-take}
use Rattle.lines.specs.Lines.{lines_of, read_step, read_opening}
use Rattle.lines.specs.Kept.{line_most, NoFeed, first_line, other_lines}
use Rattle.lines.specs.AnswerLine.{Wrote}
use Rattle.lines.specs.declared.Opening.{Opening}
use Rattle.std.specs.Prelude.{Option, Some, None}
use Rattle.answers.specs.Answers.{bare}
use Rattle.lines.specs.declared.Step.{Step}
use Rattle.lines.proofs.LongLines.{long_step, long_opening}
use Rattle.lines.proofs.Cut.{cut_first}
use Rattle.steps.specs.Session.{Session, step_told, opened}
use Rattle.steps.specs.Memory.{session_in, Bounded, Walks}
use Rattle.steps.specs.Printed.{line_of, walked, bad_first, walked_from, printed_lines, printed}
use Rattle.steps.specs.Course.{line_in, for_lines, still, number_at, BoundedAt, FreshAt, KeptMore, LineTaken}
use Rattle.steps.specs.declared.list.Line.{Line}
use Rattle.steps.specs.declared.list.Stage.{Stage}
use Rattle.steps.specs.declared.list.Stage.TheVariants.{First, Walking, Ended}
use Rattle.steps.specs.declared.list.Course.{Course}
use Rattle.steps.specs.declared.list.Answered.{Answered}
use Rattle.steps.specs.declared.walk.Walk.{Walk}
use Rattle.steps.specs.declared.walk.Walked.{Walked}

-- what was written stands behind what stood there
pub wrote_prints : {out after bytes : List ℕ} {at next : ℕ} → Wrote out at bytes next after → at + length bytes ≤ length out
    → take next after ≡ take at out ++ bytes
wrote_prints {out} {after} {bytes} {at} {next} wrote room =
    let front = take at out ++ bytes in
    let long : length front ≡ next = length-append (take at out) bytes ∙ ap (λ (k : ℕ). k + length bytes) (length-take-le at out (omega arith)) ∙ sym wrote.ends in
    ap (take next) (wrote.holds ∙ sets-eq bytes out at room) ∙ take_at front (drop (at + length bytes) out) next long

-- ---- a line after the first

pub step_taken : (number : ℕ) (line : List ℕ) (before : Session) {shelves packets : List ℕ} (walked-on : Walked) (step : Option Step) (course : Course) → step ≡ read_step line
    → Walks (step_told before step) walked-on shelves packets → FreshAt (Walking (number + 1) walked-on.walk) course
    → LineTaken number (λ lines. walked number before (line ∷ lines)) (record { course = course; line = Some (number, walked-on.report) }) shelves packets
unfolding for_lines walked
step_taken number line before {shelves} {packets} walked-on step course is so goes-on =
    record {
      prints = λ lines.
          ap (λ (l : List ℕ). line_of number walked-on.report ++ l) (ap (λ (s : Stage). for_lines s shelves packets lines) goes-on.stage_is)
          ∙ (λ p. line_of number (so.report_is p) ++ walked (add-one number p) (so.session_is p) lines)
          ∙ (λ p. line_of number (step_told before (is p)).report ++ walked (suc number) (step_told before (is p)).session lines);
      no_more = ap (λ (s : Stage). for_lines s shelves packets []) goes-on.stage_is;
      fresh = goes-on.fresh;
      line_long = goes-on.line_long;
      bounded = subst BoundedAt (sym goes-on.stage_is) so.bounded;
      counts = omega (arith, ap number_at goes-on.stage_is);
    }

-- ---- line one

pub good_opening : (opening : Opening) (lines : List (List ℕ)) → (leb 1 opening.n && leb opening.n 16 && leb opening.slots 8) ≡ true
    → walked_from (Some opening) lines ≡ walked 1 (opened opening.n opening.slots) lines
good_opening opening lines so = rw so

pub bad_opening : (opening : Opening) (lines : List (List ℕ)) → (leb 1 opening.n && leb opening.n 16 && leb opening.slots 8) ≡ false
    → walked_from (Some opening) lines ≡ bad_first
bad_opening opening lines so = rw so

-- the same line taken, where the same is printed before it
pub taken_alike : {number : ℕ} {before other : List (List ℕ) → List ℕ} {answered : Answered} {shelves packets : List ℕ}
    → ((lines : List (List ℕ)) → before lines ≡ other lines) → LineTaken number before answered shelves packets → LineTaken number other answered shelves packets
taken_alike alike so =
    record {
      prints = λ lines. so.prints lines ∙ alike lines;
      no_more = so.no_more;
      fresh = so.fresh;
      line_long = so.line_long;
      bounded = so.bounded;
      counts = so.counts;
    }

pub taken_at : {number other : ℕ} {before : List (List ℕ) → List ℕ} {answered : Answered} {shelves packets : List ℕ} → number ≡ other
    → LineTaken number before answered shelves packets → LineTaken other before answered shelves packets
taken_at {before = before} {answered = answered} {shelves = shelves} {packets = packets} is so =
    subst (λ (number : ℕ). LineTaken number before answered shelves packets) is so

-- a bad first line ends the list
pub list_refused : {number : ℕ} {course : Course} {shelves packets : List ℕ} → FreshAt Ended course
    → LineTaken number (λ lines. bad_first) (record { course = course; line = Some (0, bare 21) }) shelves packets
unfolding for_lines
list_refused {shelves = shelves} {packets = packets} ended =
    record {
      prints = λ lines. ap (λ (l : List ℕ). bad_first ++ l) (ap (λ (s : Stage). for_lines s shelves packets lines) ended.stage_is) ∙ append-nil bad_first;
      no_more = ap (λ (s : Stage). for_lines s shelves packets []) ended.stage_is;
      fresh = ended.fresh;
      line_long = ended.line_long;
      bounded = subst BoundedAt (sym ended.stage_is) tt;
      counts = omega (arith, ap number_at ended.stage_is);
    }

-- line one is good
pub list_begun : (session : Session) (number : ℕ) (course : Course) (walk : Walk) (packets : List ℕ) {shelves : List ℕ} → FreshAt (Walking 1 walk) course → Bounded walk
    → session_in walk shelves packets ≡ session → LineTaken number (walked 1 session) (record { course = course; line = None }) shelves packets
unfolding for_lines walked
list_begun session number course walk packets {shelves} goes-on bounded is =
    record {
      prints = λ lines. ap (λ (s : Stage). for_lines s shelves packets lines) goes-on.stage_is ∙ ap (λ (s : Session). walked 1 s lines) is;
      no_more = ap (λ (s : Stage). for_lines s shelves packets []) goes-on.stage_is;
      fresh = goes-on.fresh;
      line_long = goes-on.line_long;
      bounded = subst BoundedAt (sym goes-on.stage_is) bounded;
      counts = omega (arith, ap number_at goes-on.stage_is);
    }

-- nothing has come, and all is to be printed
module _ (course : Course) (first : FreshAt First course) where
  none : line_in course.line ≡ []
  none = λ p. take (first.fresh p) course.line.bytes

  pub start_prints : (shelves packets text : List ℕ) → still course shelves packets text ≡ printed text
  unfolding still for_lines
  start_prints shelves packets text = λ p. for_lines (first.stage_is p) shelves packets (lines_of (none p ++ text))

-- ---- a line, whichever it is

module _ (stage : Stage) (shelves packets line : List ℕ) (lines : List (List ℕ)) where
  pub first_line_is : stage ≡ First → walked_from (read_opening line) lines ≡ for_lines stage shelves packets (line ∷ lines)
  unfolding for_lines printed_lines
  first_line_is is = λ p. for_lines (sym is p) shelves packets (line ∷ lines)

  pub walking_line : (number : ℕ) (walk : Walk) → stage ≡ Walking number walk
      → walked number (session_in walk shelves packets) (line ∷ lines) ≡ for_lines stage shelves packets (line ∷ lines)
  unfolding for_lines
  walking_line number walk is = λ p. for_lines (sym is p) shelves packets (line ∷ lines)

  pub ended_line : stage ≡ Ended → [] ≡ for_lines stage shelves packets (line ∷ lines)
  unfolding for_lines
  ended_line is = λ p. for_lines (sym is p) shelves packets (line ∷ lines)

-- a list that has ended goes on with nothing
pub list_ended : {number : ℕ} {before : List (List ℕ) → List ℕ} {course : Course} {shelves packets : List ℕ} → FreshAt Ended course
    → ((lines : List (List ℕ)) → [] ≡ before lines) → LineTaken number before (record { course = course; line = None }) shelves packets
unfolding for_lines
list_ended {shelves = shelves} {packets = packets} ended none =
    record {
      prints = λ lines. ap (λ (s : Stage). for_lines s shelves packets lines) ended.stage_is ∙ none lines;
      no_more = ap (λ (s : Stage). for_lines s shelves packets []) ended.stage_is;
      fresh = ended.fresh;
      line_long = ended.line_long;
      bounded = subst BoundedAt (sym ended.stage_is) tt;
      counts = omega (arith, ap number_at ended.stage_is);
    }

-- ---- a line that is kept only so far

-- a line that is too long is printed like any other that is
long_alike : (stage : Stage) (shelves packets one other : List ℕ) (lines : List (List ℕ)) → line_most ≤ length one → line_most ≤ length other
    → for_lines stage shelves packets (one ∷ lines) ≡ for_lines stage shelves packets (other ∷ lines)
unfolding for_lines printed_lines walked
long_alike First shelves packets one other lines long-one long-other =
    ap (λ (o : Option Opening). walked_from o lines) (long_opening one long-one ∙ sym (long_opening other long-other))
long_alike (Walking number walk) shelves packets one other lines long-one long-other =
    let session = session_in walk shelves packets in
    ap (λ (s : Option Step). line_of number (step_told session s).report ++ walked (suc number) (step_told session s).session lines) (long_step one long-one ∙ sym (long_step other long-other))
long_alike Ended shelves packets one other lines long-one long-other = refl

pub no_feed_start : (p : List ℕ) (n : ℕ) → NoFeed p → NoFeed (take n p)
no_feed_start p n so =
    record {
      none = λ k h e.
          let below : k < n = omega (arith, length-take n p) in
          so.none k (omega (arith, length-take n p)) (sym (get_or-take n p k 0 below) ∙ e);
    }

pub kept_alike : (stage : Stage) (shelves packets p text : List ℕ) → NoFeed p
    → for_lines stage shelves packets (lines_of (take line_most p ++ text)) ≡ for_lines stage shelves packets (lines_of (p ++ text))
kept_alike stage shelves packets p text so =
    elim (dec_le (length p) line_most) [
      | yes short ↦ ap (λ (l : List ℕ). for_lines stage shelves packets (lines_of (l ++ text))) (take_all line_most p short)
      | no long ↦ let kept : length (take line_most p) ≡ line_most = length-take-le line_most p (omega arith) in
          ap (for_lines stage shelves packets) (cut_first (take line_most p) text (no_feed_start p line_most so) (omega arith))
          ∙ long_alike stage shelves packets (take line_most p ++ first_line text) (p ++ first_line text) (other_lines text)
          (omega (arith, length-append (take line_most p) (first_line text))) (omega (arith, length-append p (first_line text)))
          ∙ sym (ap (for_lines stage shelves packets) (cut_first p text so (omega arith)))
    ]

-- as much of the text as there is room for
kept_part : (room m : ℕ) (text : List ℕ) → m ≡ min room (length text) → take m text ≡ take room text
kept_part room m text is =
    elim (dec_le room (length text)) [
      | yes more ↦ ap (λ (k : ℕ). take k text) (is ∙ min-eq_left more)
      | no all ↦ ap (λ (k : ℕ). take k text) (is ∙ min-eq_right (omega arith)) ∙ take_all (length text) text (omega arith) ∙ sym (take_all room text (omega arith))
    ]

pub kept_more : (line : Line) (text bytes : List ℕ) (m : ℕ) → line.length ≤ line_most → length line.bytes ≡ line_most → m ≡ min (line_most - line.length) (length text)
    → bytes ≡ sets line.bytes line.length (take m text) → KeptMore line text (record { bytes = bytes; length = line.length + m })
kept_more line text bytes m short long is put =
    let there : length (take m text) ≡ m = length-take-le m text (omega (arith, is)) in
    let front : length (take line.length line.bytes) ≡ line.length = length-take-le line.length line.bytes (omega arith) in
    let wrote : Wrote line.bytes line.length (take m text) (line.length + m) bytes = record { ends = omega arith; holds = put } in
    let e : line_most ≡ length (take line.length line.bytes) + (line_most - line.length) = omega arith in
    record {
      line_is = wrote_prints wrote (omega (arith, is)) ∙ ap (λ (l : List ℕ). line_in line ++ l) (kept_part (line_most - line.length) m text is)
          ∙ sym (ap (λ (k : ℕ). take k (line_in line ++ text)) e ∙ take-append-add (line_in line) text (line_most - line.length));
      short = omega (arith, is);
      long = ap length put ∙ length-sets line.bytes line.length (take m text) ∙ long;
    }
