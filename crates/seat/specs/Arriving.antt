-- A packet arrives: it is handed over, put on the shelf, or refused (document 01, "The steps" and "Answer numbers").
use Rattle.std.specs.Prelude.{ℕ, ◌≡◌, Bool, cond, not, ◌&&◌, ◌||◌, List, [], ◌∷◌, eqb, length}
use Rattle.answers.specs.Answers.{edit_no, first_of}
use Rattle.answers.specs.declared.Edit.{Edit}
use Rattle.answers.specs.declared.Refusal.{Refusal}
use Rattle.answers.specs.declared.Refusal.TheVariants.{NotSound, NotWellFormed, OtherSession, AboveOwnCount, Repeated, TooFarAhead, ShelfFull, BarrierAbovePast}
use Rattle.answers.specs.declared.Answer.{Answer}
use Rattle.answers.specs.declared.Answer.TheVariants.{Opened, Done, Shelved, NothingReady, Refused}
use Rattle.vectors.specs.Vectors.{entry}
use Rattle.packet.specs.Packet.{sender_of, kind_of, past_of, barrier_of, well_formed}
use Rattle.packet.specs.Reading.{headed, header_of, body_of}
use Rattle.packet.specs.declared.Heading.{Heading}
use Rattle.shelf.specs.Shelf.{slots, slot_of, laid, lowest_free}
use Rattle.seat.specs.State.{sound_state}
use Rattle.seat.specs.Stock.{number_of, other_session, above_own_count, is_handed, too_far_ahead, on_shelf, sound_shelf}
use Rattle.seat.specs.HandingOver.{ready, hand_over, barrier_above_past}
use Rattle.seat.specs.Sending.{seat_after}
use Rattle.seat.specs.declared.Seat.{Seat}
use Rattle.seat.specs.declared.Stepped.{Stepped}

-- A packet's heading.
abbrev pub heading_of : List ℕ → Heading
heading_of packet = headed (kind_of packet) (header_of packet)

-- State and shelf are sound.
abbrev pub sound_both : Seat → List ℕ → Bool
sound_both seat shelf = sound_state seat && sound_shelf seat shelf

-- Refusals 15 to 18 of a packet that was read.
unfoldable pub admission_refusals : Seat → Heading → List ℕ → Bool → List (Refusal × Bool)
admission_refusals seat heading past repeated =
    (OtherSession, other_session seat heading)
    ∷ (AboveOwnCount, above_own_count seat past)
    ∷ (Repeated, repeated)
    ∷ (TooFarAhead, too_far_ahead seat heading.sender (entry past heading.sender))
    ∷ []

-- The number is already handed over, or on the shelf.
abbrev pub repeats : Seat → List ℕ → List ℕ → Bool
repeats seat shelf packet =
    is_handed seat (sender_of packet) (number_of packet) || on_shelf shelf (sender_of packet) (number_of packet)

-- An arrival refuses in this order, ready or not.
unfoldable pub arrive_refusals : Seat → List ℕ → List ℕ → List (Refusal × Bool)
arrive_refusals seat shelf packet =
    (NotSound, not (sound_both seat shelf))
    ∷ (NotWellFormed, not (well_formed packet))
    ∷ admission_refusals seat (heading_of packet) (past_of packet) (repeats seat shelf packet)

-- The edit that is handed over, with its body's length.
abbrev pub edit_handed : List ℕ → Edit
edit_handed packet = record { sender = sender_of packet; number = edit_no (number_of packet); length = length (body_of packet) }

-- A ready arrival is handed over, another is put on the shelf.
unfoldable pub ready_answer : Seat → Heading → List ℕ → List ℕ → Edit → Answer
ready_answer seat heading past barrier edit =
    first_of ((BarrierAbovePast, barrier_above_past seat heading past barrier) ∷ []) (Done edit)

unfoldable pub wait_answer : List ℕ → Answer
wait_answer shelf = first_of ((ShelfFull, eqb (lowest_free shelf) (slots shelf)) ∷ []) Shelved

unfoldable pub admitted_answer : Seat → List ℕ → Heading → List ℕ → List ℕ → Edit → Answer
admitted_answer seat shelf heading past barrier edit =
    cond (ready seat barrier) (ready_answer seat heading past barrier edit) (wait_answer shelf)

unfoldable pub arrive_answer : Seat → List ℕ → List ℕ → Answer
arrive_answer seat shelf packet =
    first_of (arrive_refusals seat shelf packet)
    (admitted_answer seat shelf (heading_of packet) (past_of packet) (barrier_of packet) (edit_handed packet))

-- The shelf after an answer: a packet that was shelved stands in the lowest free slot.
abbrev pub shelf_after : Answer → List ℕ → List ℕ → List ℕ
shelf_after Shelved packet shelf = laid shelf (lowest_free shelf) (slot_of packet)
shelf_after Opened packet shelf = shelf
shelf_after (Done edit) packet shelf = shelf
shelf_after NothingReady packet shelf = shelf
shelf_after (Refused refusal) packet shelf = shelf

-- The contract of an arrival: answer, next state, and every byte of the shelf after it.
pub record Arrived (seat : Seat) (packet shelf : List ℕ) (stepped : Stepped) (after : List ℕ) : Type 0 where
  pub answered : stepped.answer ≡ arrive_answer seat shelf packet
  pub next : stepped.seat ≡ seat_after (arrive_answer seat shelf packet) (hand_over seat (heading_of packet) (past_of packet) (barrier_of packet)) seat
  pub shelf_after_is : after ≡ shelf_after (arrive_answer seat shelf packet) packet shelf
