-- The calls from C: the library's step between decoding and encoding the state, on numbers and bytes (document 01, "For
-- the package, which is written in C" and "Answer numbers").
use Rattle.std.specs.Prelude.{ℕ, ◌+◌, ◌*◌, ◌/◌, ◌%◌, ◌≡◌, Bool, true, false, cond, not, List, [], ◌∷◌, leb, ltb, eqb, length}
use Rattle.answers.specs.Answers.{seat_no, bare, report}
use Rattle.answers.specs.declared.Report.{Report}
use Rattle.packet.specs.Writing.{in_range, output_after}
use Rattle.packet.specs.Reading.{body_of}
use Rattle.packet.specs.Packet.{past_of, barrier_of}
use Rattle.seat.specs.State.{sound_state}
use Rattle.seat.specs.Opening.{open_answer, opened_seat, opened_shelf}
use Rattle.seat.specs.Sending.{kind_of, packet_sent, sent_seat, send_answer, seat_after}
use Rattle.seat.specs.HandingOver.{hand_over}
use Rattle.seat.specs.Arriving.{heading_of, arrive_answer, shelf_after}
use Rattle.seat.specs.Releasing.{chosen_packet, release_answer, shelf_after_release}
use Rattle.tautrobin.specs.Image.{image_size, decoded, encoded}
use Rattle.tautrobin.specs.declared.BadCall.{BadCall}
use Rattle.tautrobin.specs.declared.BadCall.TheVariants.{NotSound, NoSuchSeat, NoSuchKind}
use Rattle.seat.specs.declared.Seat.{Seat}
use Rattle.seat.specs.declared.Stepped.{Stepped}
use Rattle.seat.specs.declared.Wish.{Wish}
use Rattle.seat.specs.declared.Wish.TheVariants.{Ordinary, Causal, Usual}

-- ---- what the calls share

-- The answer as one number: bits 0 to 7 the answer number, 8 to 15 sender, 16 to 31 sequence number, 32 to 47 length.
unfoldable pub packed : Report → ℕ
packed told = told.answer + 256 * told.edit.sender.0 + 65536 * told.edit.number.0 + 4294967296 * told.edit.length

abbrev pub answer_number : ℕ → ℕ
answer_number answer = answer % 256

abbrev pub sender_number : ℕ → ℕ
sender_number answer = answer / 256 % 256

abbrev pub sequence_number : ℕ → ℕ
sequence_number answer = answer / 65536 % 65536

abbrev pub reported_length : ℕ → ℕ
reported_length answer = answer / 4294967296 % 65536

-- A call's refusals by number, in the order in which they are tested: the first that applies is reported, else the step.
unfoldable pub first_report : List (ℕ × Bool) → Report → Report
first_report [] step = step
first_report ((number, true) ∷ rest) step = bare number
first_report ((number, false) ∷ rest) step = first_report rest step

-- Image, shelf and output are rewritten only on 0 and 1.
unfoldable pub rewritten : Report → List ℕ → List ℕ → List ℕ
rewritten told next before = cond (leb told.answer 1) next before

-- The numbers of what the calls refuse before the library's step.
abbrev pub bad_call_number : BadCall → ℕ
bad_call_number NotSound = 10
bad_call_number NoSuchSeat = 20
bad_call_number NoSuchKind = 22

-- The image's length is wrong.
abbrev pub wrong_length : List ℕ → Bool
wrong_length image = not (eqb (length image) image_size)

-- What a step leaves: its answer, and the next state in the image.
pub record Kept (stepped : Stepped) (image : List ℕ) (answer : ℕ) (image-left : List ℕ) : Type 0 where
  pub answered : answer ≡ packed (report stepped.answer)
  pub image_after : image-left ≡ rewritten (report stepped.answer) (encoded stepped.seat) image

-- ---- open

unfoldable pub open_report : ℕ → ℕ → List ℕ → List ℕ → Report
open_report n own image shelf =
    first_report ((20, not (in_range (record { n = n; sender = seat_no own }))) ∷ (10, wrong_length image) ∷ [])
    (report (open_answer n (seat_no own) shelf))

pub record OpenCalled (n own : ℕ) (image shelf : List ℕ) (answer : ℕ) (image-left shelf-left : List ℕ) : Type 0 where
  pub answered : answer ≡ packed (open_report n own image shelf)
  pub image_after : image-left
      ≡ rewritten (open_report n own image shelf) (encoded (opened_seat (open_answer n (seat_no own) shelf) n (seat_no own))) image
  pub shelf_after_is : shelf-left ≡ rewritten (open_report n own image shelf) (opened_shelf (open_answer n (seat_no own) shelf) shelf) shelf

-- ---- send

-- The highest number of a kind: 0 is ordinary, 1 causal and 2 usual.
abbrev pub kind_most : ℕ
kind_most = 2

unfoldable pub wish_of : ℕ → Wish
wish_of kind = cond (eqb kind 0) Ordinary (cond (eqb kind 1) Causal Usual)

unfoldable pub send_report : List ℕ → ℕ → List ℕ → List ℕ → Report
send_report image kind body out =
    first_report ((10, wrong_length image) ∷ (10, not (sound_state (decoded image))) ∷ (22, ltb kind_most kind) ∷ [])
    (report (send_answer (decoded image) body out))

-- The state and the output after the library's step.
abbrev pub seat_sent : Seat → Wish → List ℕ → List ℕ → Seat
seat_sent seat wish body out = seat_after (send_answer seat body out) (sent_seat seat (kind_of wish)) seat

abbrev pub output_sent : Seat → Wish → List ℕ → List ℕ → List ℕ
output_sent seat wish body out = output_after (send_answer seat body out) (packet_sent seat (kind_of wish) body) out

pub record SendCalled (image : List ℕ) (kind : ℕ) (body out : List ℕ) (answer : ℕ) (image-left output-left : List ℕ) : Type 0 where
  pub answered : answer ≡ packed (send_report image kind body out)
  pub image_after : image-left ≡ rewritten (send_report image kind body out) (encoded (seat_sent (decoded image) (wish_of kind) body out)) image
  pub output : output-left ≡ rewritten (send_report image kind body out) (output_sent (decoded image) (wish_of kind) body out) out

-- ---- arrive

unfoldable pub arrive_report : List ℕ → List ℕ → List ℕ → Report
arrive_report image shelf packet =
    first_report ((10, wrong_length image) ∷ []) (report (arrive_answer (decoded image) shelf packet))

abbrev pub seat_arrived : Seat → List ℕ → List ℕ → Seat
seat_arrived seat shelf packet =
    seat_after (arrive_answer seat shelf packet) (hand_over seat (heading_of packet) (past_of packet) (barrier_of packet)) seat

abbrev pub shelf_arrived : Seat → List ℕ → List ℕ → List ℕ
shelf_arrived seat shelf packet = shelf_after (arrive_answer seat shelf packet) packet shelf

pub record ArriveCalled (image shelf packet : List ℕ) (answer : ℕ) (image-left shelf-left : List ℕ) : Type 0 where
  pub answered : answer ≡ packed (arrive_report image shelf packet)
  pub image_after : image-left ≡ rewritten (arrive_report image shelf packet) (encoded (seat_arrived (decoded image) shelf packet)) image
  pub shelf_after_is : shelf-left ≡ rewritten (arrive_report image shelf packet) (shelf_arrived (decoded image) shelf packet) shelf

-- ---- release

unfoldable pub release_report : List ℕ → List ℕ → List ℕ → Report
release_report image shelf out =
    first_report ((10, wrong_length image) ∷ []) (report (release_answer (decoded image) shelf out))

abbrev pub seat_released : Seat → List ℕ → List ℕ → Seat
seat_released seat shelf out =
    seat_after (release_answer seat shelf out)
    (hand_over seat (heading_of (chosen_packet seat shelf)) (past_of (chosen_packet seat shelf)) (barrier_of (chosen_packet seat shelf))) seat

abbrev pub shelf_released : Seat → List ℕ → List ℕ → List ℕ
shelf_released seat shelf out = shelf_after_release (release_answer seat shelf out) seat shelf

abbrev pub output_released : Seat → List ℕ → List ℕ → List ℕ
output_released seat shelf out = output_after (release_answer seat shelf out) (body_of (chosen_packet seat shelf)) out

pub record ReleaseCalled (image shelf out : List ℕ) (answer : ℕ) (image-left shelf-left output-left : List ℕ) : Type 0 where
  pub answered : answer ≡ packed (release_report image shelf out)
  pub image_after : image-left ≡ rewritten (release_report image shelf out) (encoded (seat_released (decoded image) shelf out)) image
  pub shelf_after_is : shelf-left ≡ rewritten (release_report image shelf out) (shelf_released (decoded image) shelf out) shelf
  pub output : output-left ≡ rewritten (release_report image shelf out) (output_released (decoded image) shelf out) out
