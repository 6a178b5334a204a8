-- The occasion of each answer of a release.
use Prim.Native.Nat.{ℕ, ◌<◌}
use mathlib.Core.Path.{◌≡◌, sym, ap, subst, ◌∙◌}
use mathlib.Core.Logic.{inl, inr}
use mathlib.Core.Bool.{false, true≢false}
use mathlib.Core.List.{List, [], ◌∷◌}
use native.Mathlib.Decide.{dec_lt}
use native.Mathlib.Omega.{arith}
use lib.ListN.{length}
use Rattle.answers.specs.declared.Refusal.TheVariants.{NotSound, OutputTooShort, BarrierAbovePast}
use Rattle.answers.specs.declared.Answer.{Answer}
use Rattle.answers.specs.declared.Answer.TheVariants.{Done, NothingReady, Refused}
use Rattle.packet.specs.Packet.{sender_of}
use Rattle.packet.specs.Reading.{body_of}
use Rattle.shelf.specs.Shelf.{slots}
use Rattle.seat.specs.Stock.{packet_at, number_of}
use Rattle.seat.specs.Arriving.{edit_handed}
use Rattle.seat.specs.Releasing.{ready_at, chosen, release_answer}
use Rattle.seat.specs.Steps.{Chosen}
use Rattle.seat.specs.declared.Seat.{Seat}
use Rattle.seat.proofs.Chosen.{no_later_says, chosen_is_at_most_slots, chosen_is_ready, chosen_is_no_later, none_chosen_is_none_ready, none_ready_is_none_chosen}
use Rattle.seat.proofs.SoundShelf.{same_edit_same_slot}
use Rattle.seat.proofs.ReleaseAnswers.{not_sound_answers_10, none_ready_answers_2, no_room_answers_13, above_answers_23, releasing_answers_0}
use Rattle.promises.specs.Demand1.{answer_number, Sound, BarrierStays, NotAfter, ReadySlot, Next, RoomFor, ReleaseAnswers}
use Rattle.promises.proofs.Occasions.{occasion_in, in_the_table}
use Rattle.promises.proofs.Plain.{decided, fails, sound_agrees, stays_decided, stays_is_not_above, leaves_is_above, ready_slot_tests, tested_slot_is_ready}

-- two packets of which neither comes after the other are the same edit
neither_after : (one other : List ℕ) → NotAfter one other → NotAfter other one → ((sender_of one).0 ≡ (sender_of other).0) × (number_of one ≡ number_of other)
neither_after one other (inl less) (inl more) = absurd (omega arith)
neither_after one other (inl less) (inr same) = absurd (omega arith)
neither_after one other (inr same) (inl less) = absurd (omega arith)
neither_after one other (inr same) (inr also) = (same.0, omega arith)

module _ (seat : Seat) (shelf out : List ℕ) where
  abbrev answer : Answer
  answer = release_answer seat shelf out

  -- ---- the next packet is the chosen one

  chosen_is_next : chosen seat shelf < slots shelf → Next seat shelf (chosen seat shelf)
  chosen_is_next there =
      record {
        ready = tested_slot_is_ready seat shelf (chosen seat shelf) there (chosen_is_ready seat shelf there);
        first = λ j slot.
            no_later_says (packet_at shelf (chosen seat shelf)) (packet_at shelf j)
            (chosen_is_no_later seat shelf there j slot.0 (ready_slot_tests seat shelf j slot));
      }

  some_ready_is_chosen : (i : ℕ) → ReadySlot seat shelf i → chosen seat shelf < slots shelf
  some_ready_is_chosen i slot =
      elim (dec_lt (chosen seat shelf) (slots shelf)) [
        | yes there ↦ there
        | no more ↦ let none : chosen seat shelf ≡ slots shelf = omega (arith, chosen_is_at_most_slots seat shelf) in
            absurd (true≢false (sym (ready_slot_tests seat shelf i slot) ∙ none_chosen_is_none_ready seat shelf none i slot.0))
      ]

  pub next_is_chosen : Sound seat shelf → (i : ℕ) → Next seat shelf i → i ≡ chosen seat shelf
  next_is_chosen sound i next =
      let there = some_ready_is_chosen i next.ready in
      let other = chosen_is_next there in
      let same = neither_after (packet_at shelf i) (packet_at shelf (chosen seat shelf)) (next.first (chosen seat shelf) other.ready) (other.first i next.ready) in
      same_edit_same_slot seat shelf sound.1 i (chosen seat shelf) next.ready.0 there next.ready.1 other.ready.1 same.0 same.1

  -- ---- from the occasion to the answer

  gives_10 : (Sound seat shelf → ⊥) → answer ≡ Refused NotSound
  gives_10 bad = not_sound_answers_10 seat shelf out (fails _ (sound_agrees seat shelf) bad)

  unready : (j : ℕ) → (ReadySlot seat shelf j → ⊥) → j < slots shelf → ready_at seat shelf j ≡ false
  unready j never there = fails (ready_at seat shelf j) (ready_slot_tests seat shelf j, tested_slot_is_ready seat shelf j there) never

  pub none_ready_is_idle : Sound seat shelf → ((i : ℕ) → ReadySlot seat shelf i → ⊥) → answer ≡ NothingReady
  none_ready_is_idle sound none =
      none_ready_answers_2 seat shelf out ((sound_agrees seat shelf).0 sound) (none_ready_is_none_chosen seat shelf (λ j there. unready j (none j) there))

  module _ (sound : Sound seat shelf) (i : ℕ) (next : Next seat shelf i) where
    taken : Chosen seat shelf i
    taken = record { sound = (sound_agrees seat shelf).0 sound; there = next.ready.0; chosen_is = next_is_chosen sound i next }

    gives_13 : (RoomFor seat shelf out i → ⊥) → answer ≡ Refused OutputTooShort
    gives_13 lack =
        let short : length out < length (body_of (packet_at shelf i)) =
        elim (dec_lt (length out) (length (body_of (packet_at shelf i)))) [ yes is ↦ is | no enough ↦ absurd (lack (omega arith)) ] in
        no_room_answers_13 seat shelf out i taken short

    gives_23 : RoomFor seat shelf out i → (BarrierStays seat (packet_at shelf i) → ⊥) → answer ≡ Refused BarrierAbovePast
    gives_23 room leaves = above_answers_23 seat shelf out i taken room (leaves_is_above seat (packet_at shelf i) leaves)

    pub next_is_released : RoomFor seat shelf out i → BarrierStays seat (packet_at shelf i) → answer ≡ Done (edit_handed (packet_at shelf i))
    next_is_released room stays = releasing_answers_0 seat shelf out i taken room (stays_is_not_above seat (packet_at shelf i) stays)

  -- ---- from the answer to the occasion

  -- each number and its occasion
  abbrev table : List (ℕ × Type 0)
  table =
      (10, (Sound seat shelf → ⊥))
      ∷ (2, (Sound seat shelf × ((i : ℕ) → ReadySlot seat shelf i → ⊥)))
      ∷ (13, (Sound seat shelf × ((i : ℕ) × Next seat shelf i × (RoomFor seat shelf out i → ⊥))))
      ∷ (23, (Sound seat shelf × ((i : ℕ) × Next seat shelf i × RoomFor seat shelf out i × (BarrierStays seat (packet_at shelf i) → ⊥))))
      ∷ (0, (Sound seat shelf × ((i : ℕ) × Next seat shelf i × RoomFor seat shelf out i × BarrierStays seat (packet_at shelf i))))
      ∷ []

  abbrev occasion : ℕ → Type 0
  occasion k = occasion_in table k

  by_room : Sound seat shelf → (i : ℕ) → Next seat shelf i → occasion (answer_number answer)
  by_room sound i next =
      elim (dec_lt (length out) (length (body_of (packet_at shelf i)))) [
        | yes short ↦ let lack : RoomFor seat shelf out i → ⊥ = λ room. omega arith in
            rw (gives_13 sound i next lack) (sound, (i, next, lack))
        | no more ↦ let room : RoomFor seat shelf out i = omega arith in
            elim (stays_decided seat (packet_at shelf i)) [
              | inl stays ↦ rw (next_is_released sound i next room stays) (sound, (i, next, room, stays))
              | inr leaves ↦ rw (gives_23 sound i next room leaves) (sound, (i, next, room, leaves))
            ]
      ]

  by_ready : Sound seat shelf → occasion (answer_number answer)
  by_ready sound =
      elim (dec_lt (chosen seat shelf) (slots shelf)) [
        | yes there ↦ by_room sound (chosen seat shelf) (chosen_is_next there)
        | no more ↦ let none : (i : ℕ) → ReadySlot seat shelf i → ⊥ = λ i slot. more (some_ready_is_chosen i slot) in
            rw (none_ready_is_idle sound none) (sound, none)
      ]

  tells : occasion (answer_number answer)
  tells = elim (decided _ (sound_agrees seat shelf)) [ inl sound ↦ by_ready sound | inr bad ↦ rw (gives_10 bad) bad ]

  pub release_occasions : ReleaseAnswers seat shelf out
  release_occasions =
      record {
        is_10 = (λ e. subst occasion e tells, λ bad. ap answer_number (gives_10 bad));
        is_2 = (λ e. subst occasion e tells, λ f. ap answer_number (none_ready_is_idle f.0 f.1));
        is_13 = (λ e. subst occasion e tells, λ f. ap answer_number (gives_13 f.0 f.1.0 f.1.1 f.1.2));
        is_23 = (λ e. subst occasion e tells, λ f. ap answer_number (gives_23 f.0 f.1.0 f.1.1 f.1.2 f.1.3));
        is_0 = (λ e. subst occasion e tells, λ f. ap answer_number (next_is_released f.0 f.1.0 f.1.1 f.1.2 f.1.3));
        no_other = in_the_table table (answer_number answer) tells;
      }
