-- The occasion of each answer of writing and of reading.
use Prim.Native.Nat.{ℕ, ◌≤◌, ◌<◌}
use mathlib.Core.Path.{◌≡◌, ap, subst}
use mathlib.Core.Logic.{inl, inr}
use mathlib.Core.List.{List, [], ◌∷◌}
use native.Mathlib.Decide.{dec_lt}
use native.Mathlib.Omega.{arith}
use lib.ListN.{length}
use Rattle.answers.specs.declared.Refusal.TheVariants.{NotWellFormed, OutputTooShort}
use Rattle.answers.specs.declared.Answer.{Answer}
use Rattle.answers.specs.declared.Answer.TheVariants.{Done, Refused}
use Rattle.packet.specs.Packet.{packet_length}
use Rattle.packet.specs.Reading.{read_of, read_number}
use Rattle.packet.specs.Writing.{edit_of, write_answer}
use Rattle.packet.specs.declared.Kind.{Kind}
use Rattle.packet.specs.declared.Header.{Header}
use Rattle.packet.proofs.Told.{read_formed, read_refused}
use Rattle.packet.proofs.Laid.{answer_11, answer_14, answer_13, answer_0}
use Rattle.promises.specs.Demand1.{answer_number, OneOf, CanBeWritten, WellFormed, WriteAnswers, ReadAnswers}
use Rattle.promises.proofs.Occasions.{occasion_in, in_the_table}
use Rattle.promises.proofs.Plain.{decided, fails, writable_agrees, formed_agrees, well_formed_agrees}

module _ (kind : Kind) (header : Header) (past barrier body out : List ℕ) where
  abbrev Good : Type 0
  Good = CanBeWritten kind header past barrier

  abbrev needed : ℕ
  needed = packet_length header.n (length body)

  abbrev answer : Answer
  answer = write_answer kind header past barrier body out

  -- each number and its occasion
  abbrev table : List (ℕ × Type 0)
  table =
      (11, (200 < length body))
      ∷ (14, ((length body ≤ 200) × (Good → ⊥)))
      ∷ (13, ((length body ≤ 200) × Good × (length out < needed)))
      ∷ (0, ((length body ≤ 200) × Good × (needed ≤ length out)))
      ∷ []

  abbrev occasion : ℕ → Type 0
  occasion k = occasion_in table k

  gives_14 : length body ≤ 200 → (Good → ⊥) → answer ≡ Refused NotWellFormed
  gives_14 short bad = answer_14 kind header past barrier body out short (fails _ (writable_agrees kind header past barrier) bad)

  gives_13 : length body ≤ 200 → Good → length out < needed → answer ≡ Refused OutputTooShort
  gives_13 short good lack = answer_13 kind header past barrier body out short ((writable_agrees kind header past barrier).0 good) lack

  pub good_message_is_done : length body ≤ 200 → Good → needed ≤ length out → answer ≡ Done (edit_of header past body)
  good_message_is_done short good room = answer_0 kind header past barrier body out short ((writable_agrees kind header past barrier).0 good) room

  by_room : length body ≤ 200 → Good → occasion (answer_number answer)
  by_room short good =
      elim (dec_lt (length out) needed) [
        | yes lack ↦ rw (gives_13 short good lack) (short, good, lack)
        | no more ↦ let room : needed ≤ length out = omega arith in rw (good_message_is_done short good room) (short, good, room)
      ]

  tells : occasion (answer_number answer)
  tells =
      elim (dec_lt 200 (length body)) [
        | yes long ↦ rw (answer_11 kind header past barrier body out long) long
        | no more ↦ let short : length body ≤ 200 = omega arith in
            elim (decided _ (writable_agrees kind header past barrier)) [
              | inl good ↦ by_room short good
              | inr bad ↦ rw (gives_14 short bad) (short, bad)
            ]
      ]

  pub write_occasions : WriteAnswers kind header past barrier body out
  write_occasions =
      record {
        is_11 = (λ e. subst occasion e tells, λ long. ap answer_number (answer_11 kind header past barrier body out long));
        is_14 = (λ e. subst occasion e tells, λ f. ap answer_number (gives_14 f.0 f.1));
        is_13 = (λ e. subst occasion e tells, λ f. ap answer_number (gives_13 f.0 f.1 f.2));
        is_0 = (λ e. subst occasion e tells, λ f. ap answer_number (good_message_is_done f.0 f.1 f.2));
        no_other = in_the_table table (answer_number answer) tells;
      }

pub read_occasions : (packet : List ℕ) → ReadAnswers packet
read_occasions packet = record { is_14 = (λ e well. absurd (omega (arith, e, good well)), bad); is_0 = (zero, good); no_other = either }
  where
    good : WellFormed packet → read_number (read_of packet).answer ≡ 0
    good well = rw (read_formed packet ((formed_agrees packet).0 well))

    bad : (WellFormed packet → ⊥) → read_number (read_of packet).answer ≡ 14
    bad none = rw (read_refused packet (λ z. none ((formed_agrees packet).1 z)))

    zero : read_number (read_of packet).answer ≡ 0 → WellFormed packet
    zero e = elim (decided _ (well_formed_agrees packet)) [ inl well ↦ well | inr none ↦ absurd (omega (arith, e, bad none)) ]

    either : OneOf (read_number (read_of packet).answer) (14 ∷ 0 ∷ [])
    either = elim (decided _ (well_formed_agrees packet)) [ inl well ↦ inr (inl (good well)) | inr none ↦ inl (bad none) ]
