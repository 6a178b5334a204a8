-- One arrival more: the session goes on as a run.
use Prim.Native.Nat.{ℕ}
use mathlib.Core.Path.{◌≡◌, refl, sym, ap, ◌∙◌}
use mathlib.Core.List.{List}
use Rattle.answers.specs.Answers.{refusal_number}
use Rattle.answers.specs.declared.Edit as answers
use Rattle.answers.proofs.InOrder.{refusals_between}
use Rattle.answers.specs.declared.Answer.{Answer}
use Rattle.answers.specs.declared.Answer.TheVariants.{Done, Refused}
use Rattle.packet.specs.Packet.{past_of, barrier_of}
use Rattle.shelf.specs.Shelf.{slot_of, laid, lowest_free}
use Rattle.seat.specs.HandingOver.{hand_over}
use Rattle.seat.specs.declared.Stepped.{Stepped}
use Rattle.seat.specs.Sending.{seat_after}
use Rattle.seat.specs.Arriving.{Arrived, heading_of, arrive_answer, shelf_after}
use Rattle.seat.specs.declared.Seat.{Seat}
use Rattle.seat.proofs.HandedOver.{handing_over_keeps_own}
use Rattle.seat.proofs.ArrivalTells as arrival
use Rattle.seat.proofs.SteppingSound.{SoundPlace, arriving_keeps_sound}
use Rattle.session.specs.Events.{Trace, ◌∈◌}
use Rattle.session.specs.Protocol.{Seated, edit, Takes, Shelves, takes, shelves}
use Rattle.promises.specs.Demand3.{Place, reported, Letter, trace_after_arrival}
use Rattle.promises.specs.Demand1.{answer_number}
use Rattle.promises.proofs.Model.{model, edit_is}
use Rattle.promises.proofs.Arriving.{arrival_takes, arrival_shelves}
use Rattle.promises.proofs.Moving.{turn_of, refused_arrival_tells_nothing}
use Rattle.promises.proofs.Goes.{WellSent, letter_in_lem, Goes, here, place_with, moves, stays}

module _ {n : ℕ} {places : ℕ → Place} {letters : List Letter} {trace : Trace} (so_far : Goes n places letters trace) (j : ℕ) (seated : Seated n j) where
  abbrev seat : Seat
  seat = (places j).seat

  abbrev shelf : List ℕ
  shelf = (places j).shelf

  module _ (letter : Letter) (mail : letter ∈ letters) where
    arrived_packet_lem : WellSent letter
    arrived_packet_lem = so_far.posted letter mail

    sound : SoundPlace seat shelf
    sound = (here so_far j seated).sound

    abbrev handed_seat : Seat
    handed_seat = hand_over seat (heading_of letter.bytes) (past_of letter.bytes) (barrier_of letter.bytes)

    arrival_step : {answer : Answer} → arrival.ArrivalTold seat shelf letter.bytes answer → SoundPlace (seat_after answer handed_seat seat) (shelf_after answer letter.bytes shelf)
        → Goes n (place_with so_far j seated (seat_after answer handed_seat seat) (shelf_after answer letter.bytes shelf)) letters
        (trace_after_arrival (answer_number answer) j (reported answer) letter.edit trace)
    arrival_step (arrival.done told so) stays_sound =
        let packet = letter.bytes in
        let edits : reported (Done told) ≡ edit model packet =
        ap (λ (x : answers.Edit). record { by = x.sender.0; number = x.number.0 }) (sym so.edit_is) ∙ sym (edit_is packet) in
        let step = arrival_takes seat shelf packet sound arrived_packet_lem.counts told so in
        rw edits
        (moves so_far j seated handed_seat shelf stays_sound (handing_over_keeps_own seat (heading_of packet) (past_of packet) (barrier_of packet))
        (takes j packet so_far.run seated (letter_in_lem mail) (turn_of j (record { seat = handed_seat; shelf = shelf }) places (Takes model packet) step)))
    arrival_step (arrival.shelved so) stays_sound =
        let packet = letter.bytes in
        let left = laid shelf (lowest_free shelf) (slot_of packet) in
        rw (← arrived_packet_lem.same)
        (moves so_far j seated seat left stays_sound refl
        (shelves j packet so_far.run seated (letter_in_lem mail)
        (turn_of j (record { seat = seat; shelf = left }) places (Shelves model packet) (arrival_shelves seat shelf packet so))))
    arrival_step (arrival.refused refusal) stays_sound =
        rw (refused_arrival_tells_nothing (refusal_number refusal) (refusals_between refusal).0 j (reported (Refused refusal)) letter.edit trace) (stays so_far j seated)

    -- One arrival more.
    pub after_an_arrival : (stepped : Stepped) (left : List ℕ) → Arrived seat letter.bytes shelf stepped left
        → Goes n (place_with so_far j seated stepped.seat left) letters
        (trace_after_arrival (answer_number stepped.answer) j (reported stepped.answer) letter.edit trace)
    after_an_arrival stepped left meets =
        rw (meets.next, meets.shelf_after_is, meets.answered)
        (arrival_step (arrival.arrival_tells seat shelf letter.bytes (arrive_answer seat shelf letter.bytes) refl)
        (rw (meets.next, meets.shelf_after_is) at (arriving_keeps_sound seat shelf sound letter.bytes arrived_packet_lem.counts stepped left meets)))
