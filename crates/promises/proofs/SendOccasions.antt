-- The occasion of each answer of sending.
use Prim.Native.Nat.{ℕ, ◌≤◌, ◌<◌}
use mathlib.Core.Path.{◌≡◌, ap, subst}
use mathlib.Core.Logic.{inl, inr}
use mathlib.Core.List.{List, [], ◌∷◌}
use native.Mathlib.Decide.{dec_lt, ℕ_discrete}
use native.Mathlib.Omega.{arith}
use lib.ListN.{length}
use Rattle.answers.specs.declared.Refusal.TheVariants.{NotSound, BodyTooLong, CountFull, OutputTooShort}
use Rattle.answers.specs.declared.Answer.{Answer}
use Rattle.answers.specs.declared.Answer.TheVariants.{Done, Refused}
use Rattle.packet.specs.Packet.{packet_length}
use Rattle.packet.specs.Writing.{edit_of}
use Rattle.seat.specs.State.{header_of, own_count, SoundState}
use Rattle.seat.specs.Sending.{past_sent, send_answer}
use Rattle.seat.specs.declared.Seat.{Seat}
use Rattle.seat.proofs.Sound.{sound_passes}
use Rattle.seat.proofs.SendAnswers.{not_sound_answers_10, long_body_answers_11, full_count_answers_12, short_output_answers_13, sending_answers_0}
use Rattle.promises.specs.Demand1.{answer_number, SendAnswers}
use Rattle.promises.proofs.Occasions.{occasion_in, in_the_table}
use Rattle.promises.proofs.Plain.{decided, fails, state_agrees}

module _ (seat : Seat) (body out : List ℕ) where
  abbrev needed : ℕ
  needed = packet_length seat.n (length body)

  abbrev answer : Answer
  answer = send_answer seat body out

  -- each number and its occasion
  abbrev table : List (ℕ × Type 0)
  table =
      (10, (SoundState seat → ⊥))
      ∷ (11, (SoundState seat × (200 < length body)))
      ∷ (12, (SoundState seat × (length body ≤ 200) × (own_count seat ≡ 65535)))
      ∷ (13, (SoundState seat × (length body ≤ 200) × (own_count seat ≡ 65535 → ⊥) × (length out < needed)))
      ∷ (0, (SoundState seat × (length body ≤ 200) × (own_count seat ≡ 65535 → ⊥) × (needed ≤ length out)))
      ∷ []

  abbrev occasion : ℕ → Type 0
  occasion k = occasion_in table k

  gives_10 : (SoundState seat → ⊥) → answer ≡ Refused NotSound
  gives_10 bad = not_sound_answers_10 seat body out (fails _ (state_agrees seat) bad)

  gives_11 : SoundState seat → 200 < length body → answer ≡ Refused BodyTooLong
  gives_11 sound long = long_body_answers_11 seat body out (sound_passes seat sound) long

  gives_12 : SoundState seat → length body ≤ 200 → own_count seat ≡ 65535 → answer ≡ Refused CountFull
  gives_12 sound short full = full_count_answers_12 seat body out (sound_passes seat sound) short full

  gives_13 : SoundState seat → length body ≤ 200 → (own_count seat ≡ 65535 → ⊥) → length out < needed → answer ≡ Refused OutputTooShort
  gives_13 sound short more lack = short_output_answers_13 seat body out (sound_passes seat sound) short more lack

  pub sound_send_is_done : SoundState seat → length body ≤ 200 → (own_count seat ≡ 65535 → ⊥) → needed ≤ length out → answer ≡ Done (edit_of (header_of seat) (past_sent seat) body)
  sound_send_is_done sound short more room = sending_answers_0 seat body out (sound_passes seat sound) short more room

  by_room : SoundState seat → length body ≤ 200 → (own_count seat ≡ 65535 → ⊥) → occasion (answer_number answer)
  by_room sound short more =
      elim (dec_lt (length out) needed) [
        | yes lack ↦ rw (gives_13 sound short more lack) (sound, short, more, lack)
        | no enough ↦ let room : needed ≤ length out = omega arith in rw (sound_send_is_done sound short more room) (sound, short, more, room)
      ]

  by_count : SoundState seat → length body ≤ 200 → occasion (answer_number answer)
  by_count sound short =
      elim (ℕ_discrete (own_count seat) 65535) [
        | yes full ↦ rw (gives_12 sound short full) (sound, short, full)
        | no more ↦ by_room sound short more
      ]

  by_body : SoundState seat → occasion (answer_number answer)
  by_body sound =
      elim (dec_lt 200 (length body)) [
        | yes long ↦ rw (gives_11 sound long) (sound, long)
        | no enough ↦ by_count sound (omega arith)
      ]

  tells : occasion (answer_number answer)
  tells = elim (decided _ (state_agrees seat)) [ inl sound ↦ by_body sound | inr bad ↦ rw (gives_10 bad) bad ]

  pub send_occasions : SendAnswers seat body out
  send_occasions =
      record {
        is_10 = (λ e. subst occasion e tells, λ bad. ap answer_number (gives_10 bad));
        is_11 = (λ e. subst occasion e tells, λ f. ap answer_number (gives_11 f.0 f.1));
        is_12 = (λ e. subst occasion e tells, λ f. ap answer_number (gives_12 f.0 f.1 f.2));
        is_13 = (λ e. subst occasion e tells, λ f. ap answer_number (gives_13 f.0 f.1 f.2 f.3));
        is_0 = (λ e. subst occasion e tells, λ f. ap answer_number (sound_send_is_done f.0 f.1 f.2 f.3));
        no_other = in_the_table table (answer_number answer) tells;
      }
