-- Every answer number from 10 up leaves state, shelf and output unchanged; a refused open hands back no seat.
use Prim.Native.Nat.{ℕ, ◌≤◌}
use mathlib.Core.Path.{◌≡◌, sym, ◌∙◌}
use mathlib.Core.List.{List}
use Rattle.answers.specs.Answers.{report}
use Rattle.answers.specs.declared.SeatNo.{SeatNo}
use Rattle.answers.specs.declared.Answer.TheVariants.{Refused}
use Rattle.answers.proofs.InOrder.{from_10_is_refused}
use Rattle.seat.specs.State.{no_seat}
use Rattle.seat.specs.Opening.{open_answer, OpenedAs}
use Rattle.seat.specs.Sending.{send_answer, Sent}
use Rattle.seat.specs.Arriving.{arrive_answer, Arrived}
use Rattle.seat.specs.Releasing.{release_answer, Released}
use Rattle.seat.specs.declared.Seat.{Seat}
use Rattle.seat.specs.declared.Wish.{Wish}
use Rattle.seat.specs.declared.Stepped.{Stepped}

-- the number of a step's answer
abbrev number : Stepped → ℕ
number stepped = (report stepped.answer).answer

pub refused_open_leaves_the_shelf : (n : ℕ) (own : SeatNo) (shelf : List ℕ) (stepped : Stepped) (after : List ℕ) → OpenedAs n own shelf stepped after
    → 10 ≤ number stepped → (stepped.seat ≡ no_seat) × (after ≡ shelf)
refused_open_leaves_the_shelf n own shelf stepped after o h =
    let r = from_10_is_refused stepped.answer h in
    let is : open_answer n own shelf ≡ Refused r.0 = sym o.answered ∙ r.1 in
    (rw is at o.next, rw is at o.shelf_after_is)

pub refused_send_leaves_all : (seat : Seat) (wish : Wish) (body out : List ℕ) (stepped : Stepped) (after : List ℕ) → Sent seat wish body out stepped after
    → 10 ≤ number stepped → (stepped.seat ≡ seat) × (after ≡ out)
refused_send_leaves_all seat wish body out stepped after s h =
    let r = from_10_is_refused stepped.answer h in
    let is : send_answer seat body out ≡ Refused r.0 = sym s.answered ∙ r.1 in
    (rw is at s.next, rw is at s.output)

pub refused_arrival_leaves_all : (seat : Seat) (packet shelf : List ℕ) (stepped : Stepped) (after : List ℕ) → Arrived seat packet shelf stepped after
    → 10 ≤ number stepped → (stepped.seat ≡ seat) × (after ≡ shelf)
refused_arrival_leaves_all seat packet shelf stepped after a h =
    let r = from_10_is_refused stepped.answer h in
    let is : arrive_answer seat shelf packet ≡ Refused r.0 = sym a.answered ∙ r.1 in
    (rw is at a.next, rw is at a.shelf_after_is)

pub refused_release_leaves_all : (seat : Seat) (shelf out : List ℕ) (stepped : Stepped) (shelf-left out-left : List ℕ) → Released seat shelf out stepped shelf-left out-left
    → 10 ≤ number stepped → (stepped.seat ≡ seat) × (shelf-left ≡ shelf) × (out-left ≡ out)
refused_release_leaves_all seat shelf out stepped shelf-left out-left l h =
    let r = from_10_is_refused stepped.answer h in
    let is : release_answer seat shelf out ≡ Refused r.0 = sym l.answered ∙ r.1 in
    (rw is at l.next, rw is at l.shelf_after_is, rw is at l.output)
