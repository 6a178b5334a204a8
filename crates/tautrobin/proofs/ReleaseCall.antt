-- The ways out of the call that releases: a refusal that changes nothing, and the library's step.
use Prim.Native.Nat.{ℕ}
use mathlib.Core.Path.{◌≡◌, sym, ◌∙◌}
use mathlib.Core.List.{List}
use native.Mathlib.Omega.{arith}
use lib.ListN.{length}
use Rattle.answers.specs.Answers.{bare, report}
use Rattle.packet.specs.Packet.{past_of, barrier_of}
use Rattle.seat.specs.Arriving.{heading_of}
use Rattle.seat.specs.Releasing.{chosen_packet, release_answer, Released}
use Rattle.tautrobin.specs.Image.{image_size, decoded, Numbered}
use Rattle.tautrobin.specs.Calls.{Kept, release_report, ReleaseCalled}
use Rattle.seat.specs.declared.Seat.{Seat}
use Rattle.seat.specs.declared.Stepped.{Stepped}
use Rattle.tautrobin.proofs.Reporting.{packed_bare, refuses, goes_on, none_left, left_alone, stands}
use Rattle.tautrobin.proofs.Keeping.{right_length, wrong_length_lem, output_left_alone, released_shelf_left_alone, seat_after_is_numbered, handed_is_numbered, kept_answer, kept_image}

pub stepped_release_is_numbered : (shelf out : List ℕ) (seat : Seat) (stepped : Stepped) (shelf-left output-left : List ℕ) → Numbered seat → Released seat shelf out stepped shelf-left output-left
    → Numbered stepped.seat
stepped_release_is_numbered shelf out seat stepped shelf-left output-left numbered released =
    let packet = chosen_packet seat shelf in
    rw released.next
    (seat_after_is_numbered (release_answer seat shelf out) _ seat (handed_is_numbered seat (heading_of packet) (past_of packet) (barrier_of packet) numbered) numbered)

module _ (image shelf out : List ℕ) where
  pub release_wrong_length_is_10 : (length image ≡ image_size → ⊥) → ReleaseCalled image shelf out 10 image shelf out
  unfolding release_report
  release_wrong_length_is_10 wrong =
      let told : release_report image shelf out ≡ bare 10 = refuses 10 _ _ _ (wrong_length_lem image wrong) in
      record {
        answered = sym (packed_bare 10) ∙ rw told;
        image_after = rw told (sym (left_alone (bare 10) _ image (omega arith)));
        shelf_after_is = rw told (sym (left_alone (bare 10) _ shelf (omega arith)));
        output = rw told (sym (left_alone (bare 10) _ out (omega arith)));
      }

  pub stepped_release_call : (seat : Seat) (stepped : Stepped) (answer : ℕ) (image-left shelf-left output-left : List ℕ) → length image ≡ image_size
      → seat ≡ decoded image → Released seat shelf out stepped shelf-left output-left
      → Kept stepped image answer image-left → ReleaseCalled image shelf out answer image-left shelf-left output-left
  unfolding release_report
  stepped_release_call seat stepped answer image-left shelf-left output-left right is-seat released kept =
      let of = release_answer (decoded image) shelf out in
      let told : release_report image shelf out ≡ report of = goes_on 10 _ _ _ (right_length image right) ∙ none_left _ in
      let answered : stepped.answer ≡ of = released.answered ∙ rw is-seat in
      record {
        answered = kept_answer image stepped answer image-left of _ answered told kept;
        image_after = kept_image image stepped answer image-left of _ _ answered told (released.next ∙ rw is-seat) kept;
        shelf_after_is = released.shelf_after_is ∙ rw (is-seat, told) (stands of _ shelf (released_shelf_left_alone of (decoded image) shelf));
        output = released.output ∙ rw (is-seat, told) (stands of _ out (output_left_alone of _ out));
      }
