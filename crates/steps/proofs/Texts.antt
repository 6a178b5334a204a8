-- Text that comes in pieces: up to a line feed or to a piece's end, a whole piece, and the end of the input.
use Prim.Native.Nat.{ℕ, suc, ◌+◌, ◌*◌, ◌-◌, ◌≤◌, ◌<◌}
use mathlib.Core.Bool.{Bool, true, false}
use mathlib.Core.Path.{◌≡◌, refl, subst, sym, ap, ◌∙◌}
use mathlib.Core.List.{List, [], ◌∷◌, ◌++◌, append_assoc, append-nil}
use native.Mathlib.Decide.{dec_lt}
use native.Mathlib.Omega.{arith}
use borrow.Author.Tests.{eqb-true, eqb-false}
use lib.Dec.{eqb}
use lib.ListN.{length, get_or, take, length-append, length-take, length-drop, take-append-drop, get_or-append}
use lib.Seq.{length-take-le, drop-cons, get_or-take, get_or-append-add}
use Rattle.lines.specs.Lines.{line_feed, lines_of, words, read_numbers}
use Rattle.lines.specs.Kept.{line_most, NoFeed}
use Rattle.lines.specs.AnswerLine.{answer_most, Wrote}
use Rattle.lines.proofs.Cut.{cut_feed, cut_last, no_feed_none}
use Rattle.steps.specs.Memory.{session_in}
use Rattle.steps.specs.Printed.{walked, printed_lines}
use Rattle.steps.specs.Course.{text_of, line_in, number_in, for_lines, for_course, still, Ready, KeptMore, CourseKept, LineTaken, PieceTaken, done_at, is_done, Finished}
use Rattle.steps.specs.declared.list.Line.{Line}
use Rattle.steps.specs.declared.list.Stage.{Stage}
use Rattle.steps.specs.declared.list.Stage.TheVariants.{First, Walking, Ended}
use Rattle.steps.specs.declared.list.Course.{Course}
use Rattle.steps.specs.declared.list.Answered.{Answered}
use Rattle.lines.proofs.Writing.{wrote_long}
use Rattle.lines.proofs.Places.{FirstAt, behind, behind_is}
use Rattle.steps.proofs.Printing.{wrote_prints, kept_alike, no_feed_start}

no_feed_joined : (p q : List ℕ) → NoFeed p → NoFeed q → NoFeed (p ++ q)
no_feed_joined p q one other =
    record {
      none = λ k h e.
          elim (dec_lt k (length p)) [
            | yes below ↦ one.none k below (sym (get_or-append p q 0 k below) ∙ e)
            | no above ↦ let at : k ≡ length p + (k - length p) = omega arith in
                other.none (k - length p) (omega (arith, length-append p q))
                (sym (get_or-append-add p q (k - length p) 0) ∙ sym (ap (λ (i : ℕ). get_or (p ++ q) i 0) at) ∙ e)
          ];
    }

-- ---- where a line feed first stands

-- text up to its first line feed, and all of a text that has none
module _ (text : List ℕ) (place : ℕ) (at : FirstAt line_feed text place) where
  pub before_feed : NoFeed (take place text)
  before_feed =
      record {
        none = λ k h e.
            let below : k < place = omega (arith, length-take place text) in
            at.not_before k below (sym (get_or-take place text k 0 below) ∙ e);
      }

  pub at_feed : place < length text → text ≡ take place text ++ (line_feed ∷ behind text place)
  at_feed there =
      sym (take-append-drop place text)
      ∙ ap (λ (l : List ℕ). take place text ++ l) (drop-cons text place 0 there ∙ (λ p. at.there there p ∷ sym (behind_is text place) p))

pub no_feed_at_all : (text : List ℕ) → FirstAt line_feed text (length text) → NoFeed text
no_feed_at_all text at = record { none = at.not_before }

-- ---- more text is kept

module _ (course : Course) (text : List ℕ) (next : Line) (ready : Ready course) (free : NoFeed text) (kept : KeptMore course.line text next) where
  abbrev after : Course
  after = record { stage = course.stage; line = next }

  line_no_feed : NoFeed (line_in course.line ++ text)
  line_no_feed = no_feed_joined _ _ ready.no_feed free

  kept_still : (shelves packets rest : List ℕ) → still after shelves packets rest ≡ still course shelves packets (text ++ rest)
  unfolding still
  kept_still shelves packets rest =
      ap (λ (l : List ℕ). for_lines course.stage shelves packets (lines_of (l ++ rest))) kept.line_is
      ∙ kept_alike course.stage shelves packets (line_in course.line ++ text) rest line_no_feed
      ∙ ap (λ (l : List ℕ). for_lines course.stage shelves packets (lines_of l)) (append_assoc (line_in course.line) text rest)

  pub course_kept : CourseKept course text after
  course_kept =
      record {
        ready = record {
          bounded = ready.bounded;
          short = kept.short;
          long = kept.long;
          no_feed = subst NoFeed (sym kept.line_is) (no_feed_start _ line_most line_no_feed);
        };
        number_is = refl;
        still_is = kept_still;
      }

-- ---- a whole piece

-- so far: what is printed, and what is still to be printed, are what was to be printed
pub record Going (course : Course) (text shelves₀ packets₀ : List ℕ) (room : ℕ) (shelves packets out : List ℕ) (current : Course) (end : ℕ) (rest : List ℕ) : Type 0 where
  pub prints : (later : List ℕ) → take end out ++ still current shelves packets (rest ++ later) ≡ still course shelves₀ packets₀ (text ++ later)
  pub ready : Ready current
  pub high : end + answer_most * length rest ≤ answer_most * length text
  pub counts : number_in current + length rest ≤ number_in course + length text
  pub same_room : length out ≡ room

module _ (course : Course) (text shelves₀ packets₀ out₀ : List ℕ) where
  pub nothing_yet : Ready course → Going course text shelves₀ packets₀ (length out₀) shelves₀ packets₀ out₀ course 0 text
  nothing_yet ready = record { prints = λ later. refl; ready = ready; high = omega arith; counts = omega arith; same_room = refl }

  module _ (shelves packets out : List ℕ) (current mid : Course) (end place : ℕ) (rest : List ℕ) (answered : Answered) (shelves-left packets-left : List ℕ) (next : ℕ) (out-left : List ℕ)
      (so : Going course text shelves₀ packets₀ (length out₀) shelves packets out current end rest)
      (there : place < length rest) (at : FirstAt line_feed rest place) (kept : CourseKept current (take place rest) mid)
      (line : LineTaken (number_in mid) (λ lines. for_course mid shelves packets (line_in mid.line ∷ lines)) answered shelves-left packets-left)
      (wrote : Wrote out end (text_of answered.line) next out-left) (short : length (text_of answered.line) ≤ answer_most)
      (enough : answer_most * length text ≤ length out₀) where
    pub behind_shorter : length (behind rest place) + 1 ≤ length rest
    behind_shorter = omega (arith, ap length (behind_is rest place), length-drop (suc place) rest)

    none : line_in answered.course.line ≡ []
    none = λ p. take (line.fresh p) answered.course.line.bytes

    line_printed : (later : List ℕ) → take next out-left ++ still answered.course shelves-left packets-left (behind rest place ++ later)
        ≡ take end out ++ still current shelves packets (rest ++ later)
    unfolding still
    line_printed later =
        let others = behind rest place ++ later in
        (λ p. wrote_prints wrote (omega (arith, so.high, so.same_room, enough, there, short)) p ++ for_course answered.course shelves-left packets-left (lines_of (none p ++ others)))
        ∙ append_assoc (take end out) (text_of answered.line) (for_course answered.course shelves-left packets-left (lines_of others))
        ∙ ap (λ (l : List ℕ). take end out ++ l) (line.prints (lines_of others))
        ∙ ap (λ (l : List (List ℕ)). take end out ++ for_course mid shelves packets l) (sym (cut_feed (line_in mid.line) others kept.ready.no_feed))
        ∙ ap (λ (l : List ℕ). take end out ++ l) (kept.still_is shelves packets (line_feed ∷ others))
        ∙ ap (λ (l : List ℕ). take end out ++ still current shelves packets l)
        (sym (append_assoc (take place rest) (line_feed ∷ behind rest place) later) ∙ ap (λ (l : List ℕ). l ++ later) (sym (at_feed rest place at there)))

    pub goes_further : Going course text shelves₀ packets₀ (length out₀) shelves-left packets-left out-left answered.course next (behind rest place)
    goes_further =
        record {
          prints = λ later. line_printed later ∙ so.prints later;
          ready = record {
            bounded = line.bounded;
            short = omega (arith, line.fresh);
            long = line.line_long;
            no_feed = subst NoFeed (sym none) no_feed_none;
          };
          high = omega (arith, wrote.ends, short, so.high, behind_shorter);
          counts = omega (arith, line.counts, so.counts, kept.number_is, behind_shorter);
          same_room = wrote_long wrote ∙ so.same_room;
        }

  pub all_taken : (shelves packets out : List ℕ) (current last : Course) (end : ℕ) (rest : List ℕ)
      → Going course text shelves₀ packets₀ (length out₀) shelves packets out current end rest → CourseKept current rest last
      → PieceTaken course text shelves₀ packets₀ (record { course = last; end = end }) shelves packets out
  all_taken shelves packets out current last end rest so kept =
      record {
        prints = λ later. ap (λ (l : List ℕ). take end out ++ l) (kept.still_is shelves packets later) ∙ so.prints later;
        ready = kept.ready;
        high = omega (arith, so.high);
        counts = omega (arith, so.counts, kept.number_is);
      }

-- ---- the end of the input

never : {A : Type 0} → ◌≡◌ {A = Bool} false true → A
never so = absurd (let z : ◌≡◌ {A = ℕ} 0 1 = cc in omega arith)

module _ (shelves packets : List ℕ) (kept : ℕ) (bytes : List ℕ) where
  nothing_left : (stage : Stage) → done_at stage kept ≡ true → for_lines stage shelves packets (lines_of (take kept bytes ++ [])) ≡ []
  unfolding for_lines walked lines_of
  nothing_left First so = never so
  nothing_left (Walking number walk) so = λ p. walked number (session_in walk shelves packets) (lines_of (take (eqb-true kept 0 so p) bytes ++ []))
  nothing_left Ended so = refl

  module _ (no_feed : NoFeed (take kept bytes)) (short : kept ≤ length bytes) where
    some_left : 0 < length (take kept bytes) → (stage : Stage)
        → for_lines stage shelves packets (take kept bytes ∷ []) ≡ for_lines stage shelves packets (lines_of (take kept bytes ++ []))
    some_left some stage =
        ap (for_lines stage shelves packets) (sym (ap lines_of (append-nil (take kept bytes)) ∙ cut_last (take kept bytes) no_feed some))

    kept_some : eqb kept 0 ≡ false → 0 < length (take kept bytes)
    kept_some so = let other = eqb-false kept 0 so in omega (arith, length-take-le kept bytes short)

    last_line : (stage : Stage) → done_at stage kept ≡ false
        → for_lines stage shelves packets (take kept bytes ∷ []) ≡ for_lines stage shelves packets (lines_of (take kept bytes ++ []))
    unfolding for_lines printed_lines lines_of read_numbers words
    last_line (Walking number walk) so = some_left (kept_some so) (Walking number walk)
    last_line Ended so = some_left (kept_some so) Ended
    last_line First so =
        elim (dec_lt 0 (length (take kept bytes))) [
          | yes some ↦ some_left some First
          | no none ↦ let e : kept ≡ 0 = omega (arith, length-take-le kept bytes short) in
              (λ p. printed_lines (take (e p) bytes ∷ [])) ∙ sym (λ p. printed_lines (lines_of (take (e p) bytes ++ [])))
        ]

module _ (course : Course) (shelves packets : List ℕ) where
  pub done_finished : (out : List ℕ) → is_done course ≡ true → Finished course shelves packets 0 out
  unfolding still
  done_finished out so =
      record {
        prints = sym (nothing_left shelves packets course.line.length course.line.bytes course.stage so);
        high = omega arith;
      }

  pub line_finished : (out : List ℕ) (answered : Answered) (shelves-left packets-left : List ℕ) (end : ℕ) (out-left : List ℕ) → Ready course → is_done course ≡ false
      → LineTaken (number_in course) (λ lines. for_course course shelves packets (line_in course.line ∷ lines)) answered shelves-left packets-left
      → Wrote out 0 (text_of answered.line) end out-left → length (text_of answered.line) ≤ answer_most → answer_most ≤ length out
      → Finished course shelves packets end out-left
  unfolding still
  line_finished out answered shelves-left packets-left end out-left ready so line wrote short room =
      record {
        prints =
            wrote_prints wrote (omega arith)
            ∙ sym (append-nil (text_of answered.line))
            ∙ (λ p. text_of answered.line ++ sym line.no_more p)
            ∙ line.prints []
            ∙ last_line shelves packets course.line.length course.line.bytes ready.no_feed (omega (arith, ready.short, ready.long)) course.stage so;
        high = omega (arith, wrote.ends);
      }
