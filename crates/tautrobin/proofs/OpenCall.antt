-- The ways out of the call that opens: a refusal that changes nothing, and the library's step.
use Prim.Native.Nat.{ℕ, ◌≤◌, ◌<◌}
use mathlib.Core.Path.{◌≡◌, refl, sym, ◌∙◌}
use mathlib.Core.Bool.{true, false}
use mathlib.Core.List.{List}
use native.Mathlib.Omega.{arith}
use lib.ListN.{length}
use Rattle.answers.specs.Answers.{seat_no, bare, report}
use Rattle.packet.specs.Writing.{in_range}
use Rattle.packet.proofs.Writable.{is_in_range}
use Rattle.shelf.specs.Shelf.{whole_slots}
use Rattle.seat.specs.Opening.{open_answer, OpenedAs}
use Rattle.tautrobin.specs.Image.{image_size, Numbered}
use Rattle.tautrobin.specs.Calls.{Kept, open_report, OpenCalled}
use Rattle.seat.specs.declared.Stepped.{Stepped}
use Rattle.seat.proofs.OpenAnswers.{broken_shelf_answers_10, opening_answers_0}
use Rattle.tautrobin.proofs.Reporting.{packed_bare, refuses, goes_on, none_left, left_alone, stands}
use Rattle.tautrobin.proofs.Keeping.{right_length, wrong_length_lem, opened_shelf_left_alone, kept_answer, kept_image}

-- the numbers are those of no seat
pub no_seat_above : (n own : ℕ) → (n ≤ 16 → own ≤ n → ⊥) → in_range (record { n = n; sender = seat_no own }) ≡ false
no_seat_above n own above =
    elim (in_range (record { n = n; sender = seat_no own })) as (λ b. in_range (record { n = n; sender = seat_no own }) ≡ b → in_range (record { n = n; sender = seat_no own }) ≡ false) [
      | true ↦ λ e. let r = is_in_range _ e in absurd (above r.seats_high r.sender_high)
      | false ↦ λ e. e
    ] refl

-- nor are numbers that a byte cannot hold
pub no_byte_of_seats : (n own : ℕ) → (n < 256 → ⊥) → in_range (record { n = n; sender = seat_no own }) ≡ false
no_byte_of_seats n own above = no_seat_above n own (λ low within. omega (arith, above))

pub no_byte_of_own : (n own : ℕ) → (own < 256 → ⊥) → in_range (record { n = n; sender = seat_no own }) ≡ false
no_byte_of_own n own above = no_seat_above n own (λ low within. omega (arith, above))

-- an opened seat is in range
pub stepped_open_is_numbered : (n own : ℕ) (shelf : List ℕ) (stepped : Stepped) (after : List ℕ) → in_range (record { n = n; sender = seat_no own }) ≡ true
    → OpenedAs n (seat_no own) shelf stepped after → (report stepped.answer).answer ≤ 1 → Numbered stepped.seat
stepped_open_is_numbered n own shelf stepped after range opened done =
    elim (whole_slots shelf) as (λ b. whole_slots shelf ≡ b → Numbered stepped.seat) [
      | true ↦ λ whole.
          let r = is_in_range _ range in
          rw (opened.next, opening_answers_0 n (seat_no own) shelf range whole)
          (record { seats_low = r.seats_low; seats_high = r.seats_high; own_low = r.sender_low; own_high = omega arith })
      | false ↦ λ broken.
          let none : 10 ≤ 1 = rw (opened.answered, broken_shelf_answers_10 n (seat_no own) shelf range broken) at done in absurd (omega arith)
    ] refl

module _ (n own : ℕ) (image shelf : List ℕ) where
  pub no_such_seat_is_20 : in_range (record { n = n; sender = seat_no own }) ≡ false → open_report n own image shelf ≡ bare 20
  unfolding open_report
  no_such_seat_is_20 out = refuses 20 _ _ _ (rw out)

  pub own_number_above_is_20 : 255 < own → open_report n own image shelf ≡ bare 20
  own_number_above_is_20 above = no_such_seat_is_20 (no_byte_of_own n own (λ byte. omega arith))

  module _ (range : in_range (record { n = n; sender = seat_no own }) ≡ true) where
    pub open_wrong_length_is_10 : (length image ≡ image_size → ⊥) → open_report n own image shelf ≡ bare 10
    unfolding open_report
    open_wrong_length_is_10 wrong = goes_on 20 _ _ _ (rw range) ∙ refuses 10 _ _ _ (wrong_length_lem image wrong)

    pub stepped_open_call : (stepped : Stepped) (answer : ℕ) (image-left shelf-left : List ℕ) → length image ≡ image_size
        → OpenedAs n (seat_no own) shelf stepped shelf-left → Kept stepped image answer image-left → OpenCalled n own image shelf answer image-left shelf-left
    unfolding open_report
    stepped_open_call stepped answer image-left shelf-left right opened kept =
        let of = open_answer n (seat_no own) shelf in
        let told : open_report n own image shelf ≡ report of = goes_on 20 _ _ _ (rw range) ∙ goes_on 10 _ _ _ (right_length image right) ∙ none_left _ in
        record {
          answered = kept_answer image stepped answer image-left of _ opened.answered told kept;
          image_after = kept_image image stepped answer image-left of _ _ opened.answered told opened.next kept;
          shelf_after_is = opened.shelf_after_is ∙ rw told (stands of _ shelf (opened_shelf_left_alone of shelf));
        }

  pub refused_open_call : (number : ℕ) → 1 < number → open_report n own image shelf ≡ bare number → OpenCalled n own image shelf number image shelf
  refused_open_call number large told =
      record {
        answered = sym (packed_bare number) ∙ rw told;
        image_after = rw told (sym (left_alone (bare number) _ image large));
        shelf_after_is = rw told (sym (left_alone (bare number) _ shelf large));
      }
