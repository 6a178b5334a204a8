-- What sending answers: the exact occasion of each answer, and the contract at each way out.
use Prim.Native.Nat.{ℕ, ◌≤◌, ◌<◌}
use mathlib.Core.Path.{◌≡◌, refl, sym, subst}
use mathlib.Core.Bool.{Bool, true, false, not}
use mathlib.Core.List.{List, [], ◌∷◌}
use lib.Dec.{ltb, eqb}
use lib.ListN.{length}
use borrow.Author.Tests.{lt-ltb, le-ltb, eq-eqb, ne_eqb, ltb-true, ltb-false, eqb-true, eqb-false}
use Rattle.answers.specs.Answers.{first_of}
use Rattle.answers.specs.declared.Edit.{Edit}
use Rattle.answers.specs.declared.Refusal.{Refusal}
use Rattle.answers.specs.declared.Refusal.TheVariants.{NotSound, BodyTooLong, CountFull, OutputTooShort}
use Rattle.answers.specs.declared.Answer.{Answer}
use Rattle.answers.specs.declared.Answer.TheVariants.{Done, Refused}
use Rattle.packet.specs.Packet.{packet_length}
use Rattle.packet.specs.Writing.{edit_of, at_start}
use Rattle.seat.specs.State.{header_of, own_count, sound_state}
use Rattle.seat.specs.Sending.{kind_of, past_sent, packet_sent, sent_seat, send_refusals, send_answer, Sent}
use Rattle.seat.specs.declared.Seat.{Seat}
use Rattle.seat.specs.declared.Wish.{Wish}

-- A send that is done.
pub record SendDone (seat : Seat) (body out : List ℕ) (edit : Edit) : Type 0 where
  pub sound : sound_state seat ≡ true
  pub short : length body ≤ 200
  pub not_full : own_count seat ≡ 65535 → ⊥
  pub room : packet_length seat.n (length body) ≤ length out
  pub edit_is : edit ≡ edit_of (header_of seat) (past_sent seat) body

-- The occasion of each answer. Sending gives no others.
pub data SendOccasion (seat : Seat) (body out : List ℕ) : Answer → Type 0 where
  done : (edit : Edit) → SendDone seat body out edit → SendOccasion seat body out (Done edit)
  not_sound : sound_state seat ≡ false → SendOccasion seat body out (Refused NotSound)
  long_body : sound_state seat ≡ true → 200 < length body → SendOccasion seat body out (Refused BodyTooLong)
  full_count : sound_state seat ≡ true → length body ≤ 200 → own_count seat ≡ 65535 → SendOccasion seat body out (Refused CountFull)
  short_output : sound_state seat ≡ true → length body ≤ 200 → (own_count seat ≡ 65535 → ⊥) → length out < packet_length seat.n (length body)
      → SendOccasion seat body out (Refused OutputTooShort)

module _ (seat : Seat) (body out : List ℕ) where
  -- ---- from the occasion to the answer

  pub not_sound_answers_10 : sound_state seat ≡ false → send_answer seat body out ≡ Refused NotSound
  unfolding send_answer send_refusals first_of
  not_sound_answers_10 bad = simp bad

  pub long_body_answers_11 : sound_state seat ≡ true → 200 < length body → send_answer seat body out ≡ Refused BodyTooLong
  unfolding send_answer send_refusals first_of
  long_body_answers_11 sound long = simp (sound, lt-ltb _ _ long)

  pub full_count_answers_12 : sound_state seat ≡ true → length body ≤ 200 → own_count seat ≡ 65535 → send_answer seat body out ≡ Refused CountFull
  unfolding send_answer send_refusals first_of
  full_count_answers_12 sound short full = simp (sound, le-ltb _ _ short, eq-eqb _ _ full)

  pub short_output_answers_13 : sound_state seat ≡ true → length body ≤ 200 → (own_count seat ≡ 65535 → ⊥) → length out < packet_length seat.n (length body)
      → send_answer seat body out ≡ Refused OutputTooShort
  unfolding send_answer send_refusals first_of
  short_output_answers_13 sound short not_full no_room = simp (sound, le-ltb _ _ short, ne_eqb _ _ not_full, lt-ltb _ _ no_room)

  pub sending_answers_0 : sound_state seat ≡ true → length body ≤ 200 → (own_count seat ≡ 65535 → ⊥) → packet_length seat.n (length body) ≤ length out
      → send_answer seat body out ≡ Done (edit_of (header_of seat) (past_sent seat) body)
  unfolding send_answer send_refusals first_of
  sending_answers_0 sound short not_full room = simp (sound, le-ltb _ _ short, ne_eqb _ _ not_full, le-ltb _ _ room)

  -- ---- from the answer to the occasion

  tests_tell : (sound long full no_room : Bool) → sound_state seat ≡ sound → ltb 200 (length body) ≡ long → eqb (own_count seat) 65535 ≡ full
      → ltb (length out) (packet_length seat.n (length body)) ≡ no_room
      → SendOccasion seat body out
      (first_of ((NotSound, not sound) ∷ (BodyTooLong, long) ∷ (CountFull, full) ∷ (OutputTooShort, no_room) ∷ []) (Done (edit_of (header_of seat) (past_sent seat) body)))
  unfolding first_of
  tests_tell false long full no_room s l f o = not_sound s
  tests_tell true true full no_room s l f o = long_body s (ltb-true _ _ l)
  tests_tell true false true no_room s l f o = full_count s (ltb-false _ _ l) (eqb-true _ _ f)
  tests_tell true false false true s l f o = short_output s (ltb-false _ _ l) (eqb-false _ _ f) (ltb-true _ _ o)
  tests_tell true false false false s l f o =
      done _ (record { sound = s; short = ltb-false _ _ l; not_full = eqb-false _ _ f; room = ltb-false _ _ o; edit_is = refl })

  pub send_tells_its_occasion : (answer : Answer) → send_answer seat body out ≡ answer → SendOccasion seat body out answer
  unfolding send_answer send_refusals
  send_tells_its_occasion answer e = subst (SendOccasion seat body out) e (tests_tell _ _ _ _ refl refl refl refl)

  pub send_answers : (edit : Edit) → send_answer seat body out ≡ Done edit → SendDone seat body out edit
  send_answers edit e =
      elim (send_tells_its_occasion (Done edit) e) [
        | done told so ↦ so
      ]

  pub answer_10_is_not_sound : send_answer seat body out ≡ Refused NotSound → sound_state seat ≡ false
  answer_10_is_not_sound e =
      elim (send_tells_its_occasion (Refused NotSound) e) [
        | not_sound bad ↦ bad
      ]

  pub answer_11_is_long_body : send_answer seat body out ≡ Refused BodyTooLong → (sound_state seat ≡ true) × (200 < length body)
  answer_11_is_long_body e =
      elim (send_tells_its_occasion (Refused BodyTooLong) e) [
        | long_body sound long ↦ (sound, long)
      ]

  pub answer_12_is_full_count : send_answer seat body out ≡ Refused CountFull → (sound_state seat ≡ true) × (length body ≤ 200) × (own_count seat ≡ 65535)
  answer_12_is_full_count e =
      elim (send_tells_its_occasion (Refused CountFull) e) [
        | full_count sound short full ↦ (sound, short, full)
      ]

  pub answer_13_is_short_output : send_answer seat body out ≡ Refused OutputTooShort
      → (sound_state seat ≡ true) × (length body ≤ 200) × (own_count seat ≡ 65535 → ⊥) × (length out < packet_length seat.n (length body))
  answer_13_is_short_output e =
      elim (send_tells_its_occasion (Refused OutputTooShort) e) [
        | short_output sound short not_full no_room ↦ (sound, short, not_full, no_room)
      ]

  -- ---- the contract at each way out

  pub refused_send : (wish : Wish) (refusal : Refusal) → send_answer seat body out ≡ Refused refusal
      → Sent seat wish body out (record { seat = seat; answer = Refused refusal }) out
  refused_send wish refusal e = record { answered = sym e; next = rw e; output = rw e }

  pub done_send : (wish : Wish) (next : Seat) (edit : Edit) (after : List ℕ) → send_answer seat body out ≡ Done edit → next ≡ sent_seat seat (kind_of wish)
      → after ≡ at_start (packet_sent seat (kind_of wish) body) out → Sent seat wish body out (record { seat = next; answer = Done edit }) after
  done_send wish next edit after e is put = record { answered = sym e; next = rw e is; output = rw e put }
