-- What the steps leave as it was, the numbers that they keep, and how a step's answer and next state stand in the image.
use Prim.Native.Nat.{ℕ, ◌≤◌, ◌<◌}
use mathlib.Core.Path.{◌≡◌, refl, sym, ◌∙◌}
use mathlib.Core.Bool.{true, false}
use mathlib.Core.List.{List}
use native.Mathlib.Omega.{arith}
use lib.ListN.{length}
use borrow.Author.Tests.{eq-eqb, ne_eqb}
use Rattle.answers.specs.Answers.{report}
use Rattle.answers.specs.declared.Report.{Report}
use Rattle.answers.specs.declared.Answer.{Answer}
use Rattle.answers.specs.declared.Answer.TheVariants.{Opened, Done, Shelved, NothingReady, Refused}
use Rattle.packet.specs.Writing.{output_after}
use Rattle.packet.specs.declared.Heading.{Heading}
use Rattle.packet.specs.declared.Kind.{Kind}
use Rattle.seat.specs.Opening.{opened_shelf}
use Rattle.seat.specs.Sending.{sent_seat, seat_after}
use Rattle.seat.specs.HandingOver.{hand_over}
use Rattle.seat.specs.Arriving.{shelf_after}
use Rattle.seat.specs.Releasing.{shelf_after_release}
use Rattle.tautrobin.specs.Image.{image_size, encoded, Recounted, Numbered}
use Rattle.tautrobin.specs.Calls.{packed, rewritten, wrong_length, Kept}
use Rattle.seat.specs.declared.Seat.{Seat}
use Rattle.seat.specs.declared.Stepped.{Stepped}
use Rattle.tautrobin.proofs.Reporting.{left_alone, goes_in}

-- ---- the image's length

module _ (image : List ℕ) where
  pub right_length : length image ≡ image_size → wrong_length image ≡ false
  right_length e = rw (eq-eqb (length image) image_size e)

  pub wrong_length_lem : (length image ≡ image_size → ⊥) → wrong_length image ≡ true
  wrong_length_lem e = rw (ne_eqb (length image) image_size e)

-- ---- what the steps leave as it was

pub output_left_alone : (answer : Answer) (packet out : List ℕ) → 1 < (report answer).answer → output_after answer packet out ≡ out
output_left_alone Opened packet out h = refl
output_left_alone (Done edit) packet out h = absurd (omega arith)
output_left_alone Shelved packet out h = refl
output_left_alone NothingReady packet out h = refl
output_left_alone (Refused refusal) packet out h = refl

pub shelf_left_alone : (answer : Answer) (packet shelf : List ℕ) → 1 < (report answer).answer → shelf_after answer packet shelf ≡ shelf
shelf_left_alone Opened packet shelf h = refl
shelf_left_alone (Done edit) packet shelf h = refl
shelf_left_alone Shelved packet shelf h = absurd (omega arith)
shelf_left_alone NothingReady packet shelf h = refl
shelf_left_alone (Refused refusal) packet shelf h = refl

pub released_shelf_left_alone : (answer : Answer) (seat : Seat) (shelf : List ℕ) → 1 < (report answer).answer → shelf_after_release answer seat shelf ≡ shelf
released_shelf_left_alone Opened seat shelf h = refl
released_shelf_left_alone (Done edit) seat shelf h = absurd (omega arith)
released_shelf_left_alone Shelved seat shelf h = refl
released_shelf_left_alone NothingReady seat shelf h = refl
released_shelf_left_alone (Refused refusal) seat shelf h = refl

pub opened_shelf_left_alone : (answer : Answer) (shelf : List ℕ) → 1 < (report answer).answer → opened_shelf answer shelf ≡ shelf
opened_shelf_left_alone Opened shelf h = absurd (omega arith)
opened_shelf_left_alone (Done edit) shelf h = refl
opened_shelf_left_alone Shelved shelf h = refl
opened_shelf_left_alone NothingReady shelf h = refl
opened_shelf_left_alone (Refused refusal) shelf h = refl

-- ---- the steps keep n and own number

pub seat_after_is_numbered : (answer : Answer) (next seat : Seat) → Numbered next → Numbered seat → Numbered (seat_after answer next seat)
seat_after_is_numbered Opened next seat a b = b
seat_after_is_numbered (Done edit) next seat a b = a
seat_after_is_numbered Shelved next seat a b = b
seat_after_is_numbered NothingReady next seat a b = b
seat_after_is_numbered (Refused refusal) next seat a b = b

pub handed_is_numbered : (seat : Seat) (heading : Heading) (past barrier : List ℕ) → Numbered seat → Numbered (hand_over seat heading past barrier)
unfolding hand_over
handed_is_numbered seat heading past barrier numbered =
    record { seats_low = numbered.seats_low; seats_high = numbered.seats_high; own_low = numbered.own_low; own_high = numbered.own_high }

-- ---- sending changes past and barrier alone

pub seat_after_recounts : (answer : Answer) (next seat : Seat) → Recounted next seat → Recounted (seat_after answer next seat) seat
seat_after_recounts Opened next seat a = record { same_seats = refl; same_own = refl; same_run = refl; same_ahead = refl }
seat_after_recounts (Done edit) next seat a = a
seat_after_recounts Shelved next seat a = record { same_seats = refl; same_own = refl; same_run = refl; same_ahead = refl }
seat_after_recounts NothingReady next seat a = record { same_seats = refl; same_own = refl; same_run = refl; same_ahead = refl }
seat_after_recounts (Refused refusal) next seat a = record { same_seats = refl; same_own = refl; same_run = refl; same_ahead = refl }

pub sent_recounts : (seat : Seat) (kind : Kind) → Recounted (sent_seat seat kind) seat
unfolding sent_seat
sent_recounts seat kind = record { same_seats = refl; same_own = refl; same_run = refl; same_ahead = refl }

-- ---- a step's answer, and its image

module _ (image : List ℕ) (stepped : Stepped) (answer : ℕ) (image-left : List ℕ) where
  pub kept_refused : 1 < (report stepped.answer).answer → answer ≡ packed (report stepped.answer) → image-left ≡ image → Kept stepped image answer image-left
  kept_refused refused told same = record { answered = told; image_after = same ∙ sym (left_alone (report stepped.answer) _ image refused) }

  pub kept_done : (report stepped.answer).answer ≤ 1 → answer ≡ packed (report stepped.answer) → image-left ≡ encoded stepped.seat → Kept stepped image answer image-left
  kept_done done told written = record { answered = told; image_after = written ∙ sym (goes_in (report stepped.answer) _ image done) }

  -- the answer and the next state of a step are the definition's
  pub kept_answer : (of : Answer) (told : Report) → stepped.answer ≡ of → told ≡ report of → Kept stepped image answer image-left → answer ≡ packed told
  kept_answer of told is reports kept = kept.answered ∙ rw (is, reports)

  pub kept_image : (of : Answer) (told : Report) (next : Seat) → stepped.answer ≡ of → told ≡ report of → stepped.seat ≡ next → Kept stepped image answer image-left
      → image-left ≡ rewritten told (encoded next) image
  kept_image of told next is reports is-next kept = kept.image_after ∙ rw (is, reports, is-next)
