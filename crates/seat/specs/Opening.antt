-- Opening a seat (document 01, "The steps").
use Rattle.std.specs.Prelude.{ℕ, ◌≡◌, Bool, not, List, [], ◌∷◌, length, replicate}
use Rattle.answers.specs.Answers.{first_of}
use Rattle.answers.specs.declared.SeatNo.{SeatNo}
use Rattle.answers.specs.declared.Refusal.{Refusal}
use Rattle.answers.specs.declared.Refusal.TheVariants.{NoSuchSeat, NotSound}
use Rattle.answers.specs.declared.Answer.{Answer}
use Rattle.answers.specs.declared.Answer.TheVariants.{Opened, Done, Shelved, NothingReady, Refused}
use Rattle.packet.specs.Writing.{in_range}
use Rattle.shelf.specs.Shelf.{whole_slots}
use Rattle.seat.specs.State.{counting, no_seat}
use Rattle.seat.specs.declared.Seat.{Seat}
use Rattle.seat.specs.declared.Stepped.{Stepped}

-- Opening refuses in this order.
unfoldable pub open_refusals : ℕ → SeatNo → List ℕ → List (Refusal × Bool)
open_refusals n own shelf =
    (NoSuchSeat, not (in_range (record { n = n; sender = own })))
    ∷ (NotSound, not (whole_slots shelf))
    ∷ []

unfoldable pub open_answer : ℕ → SeatNo → List ℕ → Answer
open_answer n own shelf = first_of (open_refusals n own shelf) Opened

-- All counts zero; a refused open hands back a state of zeros only.
abbrev pub opened_seat : Answer → ℕ → SeatNo → Seat
opened_seat Opened n own = counting n own
opened_seat (Done edit) n own = no_seat
opened_seat Shelved n own = no_seat
opened_seat NothingReady n own = no_seat
opened_seat (Refused refusal) n own = no_seat

-- The shelf is zeroed, or left.
abbrev pub opened_shelf : Answer → List ℕ → List ℕ
opened_shelf Opened shelf = replicate (length shelf) 0
opened_shelf (Done edit) shelf = shelf
opened_shelf Shelved shelf = shelf
opened_shelf NothingReady shelf = shelf
opened_shelf (Refused refusal) shelf = shelf

-- The contract of opening: answer, state, and every byte of the shelf after it.
pub record OpenedAs (n : ℕ) (own : SeatNo) (shelf : List ℕ) (stepped : Stepped) (after : List ℕ) : Type 0 where
  pub answered : stepped.answer ≡ open_answer n own shelf
  pub next : stepped.seat ≡ opened_seat (open_answer n own shelf) n own
  pub shelf_after_is : after ≡ opened_shelf (open_answer n own shelf) shelf
