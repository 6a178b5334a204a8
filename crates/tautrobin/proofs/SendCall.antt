-- The ways out of the call that sends: a refusal that changes nothing, and the library's step.
use Prim.Native.Nat.{ℕ, ◌≤◌, ◌<◌}
use mathlib.Core.Path.{◌≡◌, refl, sym, ap, ◌∙◌}
use mathlib.Core.Bool.{true, false}
use mathlib.Core.List.{List}
use lib.ListN.{length}
use borrow.Author.Tests.{lt-ltb, le-ltb}
use Rattle.answers.specs.Answers.{bare, report}
use Rattle.seat.specs.State.{sound_state}
use Rattle.seat.specs.Sending.{kind_of, sent_seat, send_answer, Sent}
use Rattle.tautrobin.specs.Image.{image_size, decoded, Recounted}
use Rattle.tautrobin.specs.Calls.{Kept, kind_most, wish_of, send_report, SendCalled}
use Rattle.seat.specs.declared.Seat.{Seat}
use Rattle.seat.specs.declared.Stepped.{Stepped}
use Rattle.seat.specs.declared.Wish.{Wish}
use Rattle.seat.proofs.SendAnswers.{not_sound_answers_10}
use Rattle.tautrobin.proofs.Reporting.{packed_bare, refuses, goes_on, none_left, left_alone, stands}
use Rattle.tautrobin.proofs.Keeping.{right_length, wrong_length_lem, output_left_alone, seat_after_recounts, sent_recounts, kept_answer, kept_image}

pub stepped_send_recounts : (image body out : List ℕ) (seat : Seat) (wish : Wish) (stepped : Stepped) (after : List ℕ) → seat ≡ decoded image
    → Sent seat wish body out stepped after → Recounted stepped.seat (decoded image)
stepped_send_recounts image body out seat wish stepped after is-seat sent =
    rw (sent.next, ← is-seat) (seat_after_recounts (send_answer seat body out) (sent_seat seat (kind_of wish)) seat (sent_recounts seat (kind_of wish)))

module _ (image : List ℕ) (kind : ℕ) (body out : List ℕ) where
  pub send_wrong_length_is_10 : (length image ≡ image_size → ⊥) → send_report image kind body out ≡ bare 10
  unfolding send_report
  send_wrong_length_is_10 wrong = refuses 10 _ _ _ (wrong_length_lem image wrong)

  module _ (right : length image ≡ image_size) where
    pub unsound_send_is_10 : sound_state (decoded image) ≡ false → send_report image kind body out ≡ bare 10
    unfolding send_report
    unsound_send_is_10 unsound = goes_on 10 _ _ _ (right_length image right) ∙ refuses 10 _ _ _ (rw unsound)

    pub no_such_kind_is_22 : sound_state (decoded image) ≡ true → kind_most < kind → send_report image kind body out ≡ bare 22
    unfolding send_report
    no_such_kind_is_22 sound above =
        goes_on 10 _ _ _ (right_length image right) ∙ goes_on 10 _ _ _ (rw sound) ∙ refuses 22 _ _ _ (lt-ltb kind_most kind above)

    -- a kind that there is leaves the answer to the library
    pub send_steps : kind ≤ kind_most → send_report image kind body out ≡ report (send_answer (decoded image) body out)
    unfolding send_report
    send_steps known =
        elim (sound_state (decoded image)) as (λ b. sound_state (decoded image) ≡ b → send_report image kind body out ≡ report (send_answer (decoded image) body out)) [
          | true ↦ λ sound.
              goes_on 10 _ _ _ (right_length image right) ∙ goes_on 10 _ _ _ (rw sound) ∙ goes_on 22 _ _ _ (le-ltb kind_most kind known) ∙ none_left _
          | false ↦ λ unsound. unsound_send_is_10 unsound ∙ sym (ap report (not_sound_answers_10 (decoded image) body out unsound))
        ] refl

  pub refused_send_call : (number : ℕ) → 1 < number → send_report image kind body out ≡ bare number → SendCalled image kind body out number image out
  refused_send_call number large told =
      record {
        answered = sym (packed_bare number) ∙ rw told;
        image_after = rw told (sym (left_alone (bare number) _ image large));
        output = rw told (sym (left_alone (bare number) _ out large));
      }

  pub stepped_send_call : (seat : Seat) (wish : Wish) (stepped : Stepped) (answer : ℕ) (image-left output-left : List ℕ) → seat ≡ decoded image → wish ≡ wish_of kind
      → send_report image kind body out ≡ report (send_answer (decoded image) body out) → Sent seat wish body out stepped output-left
      → Kept stepped image answer image-left → SendCalled image kind body out answer image-left output-left
  stepped_send_call seat wish stepped answer image-left output-left is-seat is-wish told sent kept =
      let of = send_answer (decoded image) body out in
      let answered : stepped.answer ≡ of = sent.answered ∙ rw is-seat in
      record {
        answered = kept_answer image stepped answer image-left of _ answered told kept;
        image_after = kept_image image stepped answer image-left of _ _ answered told (sent.next ∙ rw (is-seat, is-wish)) kept;
        output = sent.output ∙ rw (is-seat, is-wish, told) (stands of _ out (output_left_alone of _ out));
      }
