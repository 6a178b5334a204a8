-- The ways out of the call of an arrival: a refusal that changes nothing, and the library's step.
use Prim.Native.Nat.{ℕ}
use mathlib.Core.Path.{◌≡◌, sym, ◌∙◌}
use mathlib.Core.List.{List}
use native.Mathlib.Omega.{arith}
use lib.ListN.{length}
use Rattle.answers.specs.Answers.{bare, report}
use Rattle.packet.specs.Packet.{past_of, barrier_of}
use Rattle.seat.specs.Arriving.{heading_of, arrive_answer, Arrived}
use Rattle.tautrobin.specs.Image.{image_size, decoded, Numbered}
use Rattle.tautrobin.specs.Calls.{Kept, arrive_report, ArriveCalled}
use Rattle.seat.specs.declared.Seat.{Seat}
use Rattle.seat.specs.declared.Stepped.{Stepped}
use Rattle.tautrobin.proofs.Reporting.{packed_bare, refuses, goes_on, none_left, left_alone, stands}
use Rattle.tautrobin.proofs.Keeping.{right_length, wrong_length_lem, shelf_left_alone, seat_after_is_numbered, handed_is_numbered, kept_answer, kept_image}

pub stepped_arrive_is_numbered : (shelf packet : List ℕ) (seat : Seat) (stepped : Stepped) (after : List ℕ) → Numbered seat → Arrived seat packet shelf stepped after → Numbered stepped.seat
stepped_arrive_is_numbered shelf packet seat stepped after numbered arrived =
    rw arrived.next
    (seat_after_is_numbered (arrive_answer seat shelf packet) _ seat (handed_is_numbered seat (heading_of packet) (past_of packet) (barrier_of packet) numbered) numbered)

module _ (image shelf packet : List ℕ) where
  pub arrive_wrong_length_is_10 : (length image ≡ image_size → ⊥) → ArriveCalled image shelf packet 10 image shelf
  unfolding arrive_report
  arrive_wrong_length_is_10 wrong =
      let told : arrive_report image shelf packet ≡ bare 10 = refuses 10 _ _ _ (wrong_length_lem image wrong) in
      record {
        answered = sym (packed_bare 10) ∙ rw told;
        image_after = rw told (sym (left_alone (bare 10) _ image (omega arith)));
        shelf_after_is = rw told (sym (left_alone (bare 10) _ shelf (omega arith)));
      }

  pub stepped_arrive_call : (seat : Seat) (stepped : Stepped) (answer : ℕ) (image-left shelf-left : List ℕ) → length image ≡ image_size
      → seat ≡ decoded image → Arrived seat packet shelf stepped shelf-left
      → Kept stepped image answer image-left → ArriveCalled image shelf packet answer image-left shelf-left
  unfolding arrive_report
  stepped_arrive_call seat stepped answer image-left shelf-left right is-seat arrived kept =
      let of = arrive_answer (decoded image) shelf packet in
      let told : arrive_report image shelf packet ≡ report of = goes_on 10 _ _ _ (right_length image right) ∙ none_left _ in
      let answered : stepped.answer ≡ of = arrived.answered ∙ rw is-seat in
      record {
        answered = kept_answer image stepped answer image-left of _ answered told kept;
        image_after = kept_image image stepped answer image-left of _ _ answered told (arrived.next ∙ rw is-seat) kept;
        shelf_after_is = arrived.shelf_after_is ∙ rw (is-seat, told) (stands of _ shelf (shelf_left_alone of packet shelf));
      }
