-- Releasing a packet from the shelf (document 01, "The steps" and "Answer numbers").
use Rattle.std.specs.Prelude.{ℕ, ◌≡◌, Bool, cond, not, ◌&&◌, ◌||◌, List, [], ◌∷◌, leb, ltb, eqb, length}
use Rattle.answers.specs.Answers.{first_of}
use Rattle.answers.specs.declared.Refusal.{Refusal}
use Rattle.answers.specs.declared.Refusal.TheVariants.{NotSound, OutputTooShort, BarrierAbovePast}
use Rattle.answers.specs.declared.Answer.{Answer}
use Rattle.answers.specs.declared.Answer.TheVariants.{Opened, Done, Shelved, NothingReady, Refused}
use Rattle.vectors.specs.Vectors.{all}
use Rattle.packet.specs.Packet.{sender_of, past_of, barrier_of}
use Rattle.packet.specs.Reading.{body_of}
use Rattle.packet.specs.Writing.{output_after}
use Rattle.shelf.specs.Shelf.{slots, is_free, lowest, laid, free_slot}
use Rattle.seat.specs.Stock.{number_of, packet_at}
use Rattle.seat.specs.HandingOver.{ready, hand_over, barrier_above_past}
use Rattle.seat.specs.Sending.{seat_after}
use Rattle.seat.specs.Arriving.{heading_of, sound_both, edit_handed}
use Rattle.seat.specs.declared.Seat.{Seat}
use Rattle.seat.specs.declared.Stepped.{Stepped}

-- A slot holds a packet that is ready.
unfoldable pub ready_at : Seat → List ℕ → ℕ → Bool
ready_at seat shelf i = not (is_free shelf i) && ready seat (barrier_of (packet_at shelf i))

-- One packet comes no later than another: by lowest sender, then lowest number.
unfoldable pub no_later : List ℕ → List ℕ → Bool
no_later one other =
    ltb (sender_of one).0 (sender_of other).0
    || (eqb (sender_of one).0 (sender_of other).0 && leb (number_of one) (number_of other))

-- Of the ready packets on the first n slots, this one comes first.
unfoldable pub comes_first : ℕ → Seat → List ℕ → ℕ → Bool
comes_first n seat shelf i =
    ready_at seat shelf i && all n (λ j. not (ready_at seat shelf j) || no_later (packet_at shelf i) (packet_at shelf j))

-- The slot that is released: the number of slots where none is ready.
unfoldable pub chosen : Seat → List ℕ → ℕ
chosen seat shelf = lowest (slots shelf) (comes_first (slots shelf) seat shelf)

abbrev pub chosen_packet : Seat → List ℕ → List ℕ
chosen_packet seat shelf = packet_at shelf (chosen seat shelf)

-- A release of a ready packet refuses in this order.
unfoldable pub take_refusals : Seat → List ℕ → List ℕ → List (Refusal × Bool)
take_refusals seat packet out =
    (OutputTooShort, ltb (length out) (length (body_of packet)))
    ∷ (BarrierAbovePast, barrier_above_past seat (heading_of packet) (past_of packet) (barrier_of packet))
    ∷ []

-- A release refuses 10, then answers 2 where nothing is ready, then refuses 13 and 23.
unfoldable pub release_answer : Seat → List ℕ → List ℕ → Answer
release_answer seat shelf out =
    first_of ((NotSound, not (sound_both seat shelf)) ∷ [])
    (cond (eqb (chosen seat shelf) (slots shelf)) NothingReady
    (first_of (take_refusals seat (chosen_packet seat shelf) out) (Done (edit_handed (chosen_packet seat shelf)))))

-- The shelf after an answer: the slot of a packet that was handed over is zeroed.
abbrev pub shelf_after_release : Answer → Seat → List ℕ → List ℕ
shelf_after_release (Done edit) seat shelf = laid shelf (chosen seat shelf) free_slot
shelf_after_release Opened seat shelf = shelf
shelf_after_release Shelved seat shelf = shelf
shelf_after_release NothingReady seat shelf = shelf
shelf_after_release (Refused refusal) seat shelf = shelf

-- The contract of a release: answer, next state, and every byte of shelf and output after it.
pub record Released (seat : Seat) (shelf out : List ℕ) (stepped : Stepped) (shelf-left output-left : List ℕ) : Type 0 where
  pub answered : stepped.answer ≡ release_answer seat shelf out
  pub next : stepped.seat
      ≡ seat_after (release_answer seat shelf out)
      (hand_over seat (heading_of (chosen_packet seat shelf)) (past_of (chosen_packet seat shelf)) (barrier_of (chosen_packet seat shelf))) seat
  pub shelf_after_is : shelf-left ≡ shelf_after_release (release_answer seat shelf out) seat shelf
  pub output : output-left ≡ output_after (release_answer seat shelf out) (body_of (chosen_packet seat shelf)) out
