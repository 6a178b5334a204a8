-- What each answer reports beside its number.
use Prim.Native.Nat.{ℕ}
use mathlib.Core.Path.{◌≡◌, refl, sym, ap, ◌∙◌}
use mathlib.Core.List.{List}
use native.Mathlib.Decide.{ℕ_discrete}
use Rattle.answers.specs.Answers.{bare, report}
use Rattle.answers.specs.declared.SeatNo.{SeatNo}
use Rattle.answers.specs.declared.Answer.{Answer}
use Rattle.answers.specs.declared.Answer.TheVariants.{Opened, Done, Shelved, NothingReady, Refused}
use Rattle.seat.specs.State.{own_count}
use Rattle.seat.specs.Stock.{packet_at}
use Rattle.seat.specs.Arriving.{edit_handed}
use Rattle.seat.specs.Opening.{open_answer}
use Rattle.seat.proofs.Sound.{sound_passes}
use Rattle.seat.proofs.SentPacket.{sent_edit_is}
use Rattle.promises.specs.Demand1.{answer_number, Reports}
use Rattle.promises.proofs.PacketOccasions.{good_message_is_done, write_occasions}
use Rattle.promises.proofs.OpenOccasions.{in_range_is_opened, open_occasions}
use Rattle.promises.proofs.SendOccasions.{sound_send_is_done, send_occasions}
use Rattle.promises.proofs.ArriveOccasions.{ready_arrival_is_done, arrive_occasions}
use Rattle.promises.proofs.ReleaseOccasions.{next_is_chosen, next_is_released, release_occasions}

zeros_unless_0 : (answer : Answer) → (answer_number answer ≡ 0 → ⊥) → report answer ≡ bare (answer_number answer)
zeros_unless_0 Opened never = refl
zeros_unless_0 (Done edit) never = absurd (never refl)
zeros_unless_0 Shelved never = refl
zeros_unless_0 NothingReady never = refl
zeros_unless_0 (Refused refusal) never = refl

opening_reports_zeros : (n : ℕ) (own : SeatNo) (shelf : List ℕ) → report (open_answer n own shelf) ≡ bare (answer_number (open_answer n own shelf))
opening_reports_zeros n own shelf =
    elim (ℕ_discrete (answer_number (open_answer n own shelf)) 0) [
      | yes zero ↦ let facts = (open_occasions n own shelf).is_0.0 zero in rw (in_range_is_opened n own shelf facts.0 facts.1)
      | no other ↦ zeros_unless_0 (open_answer n own shelf) other
    ]

pub reports : Reports
reports =
    record {
      other_than_0 = zeros_unless_0;
      opening = opening_reports_zeros;
      writing = λ kind header past barrier body out zero.
          let facts = (write_occasions kind header past barrier body out).is_0.0 zero in
          rw (good_message_is_done kind header past barrier body out facts.0 facts.1 facts.2);
      sending = λ seat body out held zero.
          let facts = (send_occasions seat body out).is_0.0 zero in
          rw (sound_send_is_done seat body out facts.0 facts.1 facts.2 facts.3) (sent_edit_is seat (sound_passes seat facts.0) held body (own_count seat) refl);
      arriving = λ seat shelf packet zero.
          let facts = (arrive_occasions seat shelf packet).is_0.0 zero in rw (ready_arrival_is_done seat shelf packet facts.0 facts.1 facts.2);
      releasing = λ seat shelf out zero i next.
          let facts = (release_occasions seat shelf out).is_0.0 zero in
          let j = facts.1.0 in
          let same : j ≡ i = next_is_chosen seat shelf out facts.0 j facts.1.1 ∙ sym (next_is_chosen seat shelf out facts.0 i next) in
          rw (next_is_released seat shelf out facts.0 j facts.1.1 facts.1.2 facts.1.3) (ap (λ (k : ℕ). edit_handed (packet_at shelf k)) same);
    }
