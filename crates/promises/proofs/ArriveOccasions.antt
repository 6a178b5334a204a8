-- The occasion of each answer of an arrival.
use Prim.Native.Nat.{ℕ, ◌+◌, ◌<◌}
use mathlib.Core.Path.{◌≡◌, sym, ap, subst, ◌∙◌}
use mathlib.Core.Logic.{inl, inr}
use mathlib.Core.List.{List, [], ◌∷◌}
use native.Mathlib.Decide.{dec_lt, ℕ_discrete}
use native.Mathlib.Omega.{arith}
use borrow.Author.Tests.{lt-ltb, le-ltb}
use Rattle.answers.specs.Answers.{first_of}
use Rattle.answers.specs.declared.Refusal.TheVariants.{NotSound, NotWellFormed, OtherSession, AboveOwnCount, Repeated, TooFarAhead, ShelfFull, BarrierAbovePast}
use Rattle.answers.specs.declared.Answer.{Answer}
use Rattle.answers.specs.declared.Answer.TheVariants.{Done, Shelved, Refused}
use Rattle.vectors.specs.Vectors.{entry}
use Rattle.packet.specs.Packet.{seats_of, sender_of, past_of, barrier_of}
use Rattle.seat.specs.State.{own_count}
use Rattle.seat.specs.Stock.{number_of}
use Rattle.seat.specs.Arriving.{heading_of, repeats, edit_handed, admission_refusals, admitted_answer, arrive_answer}
use Rattle.seat.specs.declared.Seat.{Seat}
use Rattle.seat.proofs.Hearing.{heard_goes_on, refused_10, refused_14}
use Rattle.seat.proofs.Admitting.{refused_15, refused_16, refused_17, refused_18, passes_all, ready_refused, ready_done, wait_refused, wait_shelved}
use Rattle.promises.specs.Demand1.{answer_number, WellFormed, Sound, SameSession, WithinOwnCount, Repeats, Near, Ready, BarrierStays, FreeSlot, Admitted, ArriveAnswers}
use Rattle.promises.proofs.Occasions.{occasion_in, in_the_table}
use Rattle.promises.proofs.Plain.{decided, fails, sound_agrees, formed_agrees, well_formed_agrees, repeats_agrees, ready_agrees, stays_decided, stays_is_not_above, leaves_is_above, free_or_full, full_has_no_free_slot, no_free_slot_is_full}

module _ (seat : Seat) (shelf packet : List ℕ) where
  abbrev answer : Answer
  answer = arrive_answer seat shelf packet

  -- ---- from the occasion to the answer

  gives_10 : (Sound seat shelf → ⊥) → answer ≡ Refused NotSound
  gives_10 bad = sym (refused_10 seat packet shelf (fails _ (sound_agrees seat shelf) bad)).answered

  gives_14 : Sound seat shelf → (WellFormed packet → ⊥) → answer ≡ Refused NotWellFormed
  gives_14 sound bad = sym (refused_14 seat packet shelf ((sound_agrees seat shelf).0 sound) (λ z. bad ((formed_agrees packet).1 z))).answered

  -- what an admitted arrival is answered
  abbrev settled : Answer
  settled = admitted_answer seat shelf (heading_of packet) (past_of packet) (barrier_of packet) (edit_handed packet)

  module _ (sound : Sound seat shelf) (well : WellFormed packet) where
    heard : answer ≡ first_of (admission_refusals seat (heading_of packet) (past_of packet) (repeats seat shelf packet)) settled
    heard = heard_goes_on seat shelf packet ((sound_agrees seat shelf).0 sound) ((formed_agrees packet).0 well)

    gives_15 : (SameSession seat packet → ⊥) → answer ≡ Refused OtherSession
    gives_15 other = heard ∙ refused_15 seat (heading_of packet) (past_of packet) (repeats seat shelf packet) settled other

    module _ (same : SameSession seat packet) where
      gives_16 : (WithinOwnCount seat packet → ⊥) → answer ≡ Refused AboveOwnCount
      gives_16 above =
          let more : own_count seat < entry (past_of packet) seat.own =
          elim (dec_lt (own_count seat) (entry (past_of packet) seat.own)) [ yes is ↦ is | no less ↦ absurd (above (omega arith)) ] in
          heard ∙ refused_16 seat (heading_of packet) (past_of packet) (repeats seat shelf packet) settled same (lt-ltb _ _ more)

      module _ (own : WithinOwnCount seat packet) where
        gives_17 : Repeats seat shelf packet → answer ≡ Refused Repeated
        gives_17 again = heard ∙ refused_17 seat (heading_of packet) (past_of packet) (repeats seat shelf packet) settled same (le-ltb _ _ own) ((repeats_agrees seat shelf packet).0 again)

        gives_18 : (Repeats seat shelf packet → ⊥) → (Near seat packet → ⊥) → answer ≡ Refused TooFarAhead
        gives_18 is_new far =
            let more : entry seat.run (sender_of packet) + 64 < number_of packet =
            elim (dec_lt (entry seat.run (sender_of packet) + 64) (number_of packet)) [ yes is ↦ is | no less ↦ absurd (far (omega arith)) ] in
            heard
            ∙ refused_18 seat (heading_of packet) (past_of packet) (repeats seat shelf packet) settled same (le-ltb _ _ own) (fails _ (repeats_agrees seat shelf packet) is_new)
            (lt-ltb _ _ more)

  module _ (a : Admitted seat shelf packet) where
    admitted : answer ≡ settled
    admitted =
        heard a.sound a.is_well_formed
        ∙ passes_all seat (heading_of packet) (past_of packet) (repeats seat shelf packet) settled a.same_session (le-ltb _ _ a.within_own_count)
        (fails _ (repeats_agrees seat shelf packet) a.is_new) (le-ltb _ _ a.near)

    gives_23 : Ready seat packet → (BarrierStays seat packet → ⊥) → answer ≡ Refused BarrierAbovePast
    gives_23 ready leaves =
        admitted
        ∙ ready_refused seat shelf (heading_of packet) (past_of packet) (barrier_of packet) (edit_handed packet) ((ready_agrees seat packet).0 ready) (leaves_is_above seat packet leaves)

    pub ready_arrival_is_done : Ready seat packet → BarrierStays seat packet → answer ≡ Done (edit_handed packet)
    ready_arrival_is_done ready stays =
        admitted
        ∙ ready_done seat shelf (heading_of packet) (past_of packet) (barrier_of packet) (edit_handed packet) ((ready_agrees seat packet).0 ready) (stays_is_not_above seat packet stays)

    gives_19 : (Ready seat packet → ⊥) → (FreeSlot shelf → ⊥) → answer ≡ Refused ShelfFull
    gives_19 waits none =
        admitted
        ∙ wait_refused seat shelf (heading_of packet) (past_of packet) (barrier_of packet) (edit_handed packet) (fails _ (ready_agrees seat packet) waits) (no_free_slot_is_full shelf none)

    pub waiting_arrival_is_shelved : (Ready seat packet → ⊥) → FreeSlot shelf → answer ≡ Shelved
    waiting_arrival_is_shelved waits free =
        admitted
        ∙ wait_shelved seat shelf (heading_of packet) (past_of packet) (barrier_of packet) (edit_handed packet) (fails _ (ready_agrees seat packet) waits)
        (λ full. full_has_no_free_slot shelf full free)

  -- ---- from the answer to the occasion

  -- each number and its occasion
  abbrev table : List (ℕ × Type 0)
  table =
      (10, (Sound seat shelf → ⊥))
      ∷ (14, (Sound seat shelf × (WellFormed packet → ⊥)))
      ∷ (15, (Sound seat shelf × WellFormed packet × (SameSession seat packet → ⊥)))
      ∷ (16, (Sound seat shelf × WellFormed packet × SameSession seat packet × (WithinOwnCount seat packet → ⊥)))
      ∷ (17, (Sound seat shelf × WellFormed packet × SameSession seat packet × WithinOwnCount seat packet × Repeats seat shelf packet))
      ∷ (18, (Sound seat shelf × WellFormed packet × SameSession seat packet × WithinOwnCount seat packet × (Repeats seat shelf packet → ⊥) × (Near seat packet → ⊥)))
      ∷ (23, (Admitted seat shelf packet × Ready seat packet × (BarrierStays seat packet → ⊥)))
      ∷ (19, (Admitted seat shelf packet × (Ready seat packet → ⊥) × (FreeSlot shelf → ⊥)))
      ∷ (0, (Admitted seat shelf packet × Ready seat packet × BarrierStays seat packet))
      ∷ (1, (Admitted seat shelf packet × (Ready seat packet → ⊥) × FreeSlot shelf))
      ∷ []

  abbrev occasion : ℕ → Type 0
  occasion k = occasion_in table k

  by_shelf : Admitted seat shelf packet → (Ready seat packet → ⊥) → occasion (answer_number answer)
  by_shelf a waits =
      elim (free_or_full shelf) [
        | inl free ↦ rw (waiting_arrival_is_shelved a waits free) (a, waits, free)
        | inr full ↦ let none = full_has_no_free_slot shelf full in rw (gives_19 a waits none) (a, waits, none)
      ]

  by_barrier : Admitted seat shelf packet → Ready seat packet → occasion (answer_number answer)
  by_barrier a ready =
      elim (stays_decided seat packet) [
        | inl stays ↦ rw (ready_arrival_is_done a ready stays) (a, ready, stays)
        | inr leaves ↦ rw (gives_23 a ready leaves) (a, ready, leaves)
      ]

  by_ready : Admitted seat shelf packet → occasion (answer_number answer)
  by_ready a = elim (decided _ (ready_agrees seat packet)) [ inl ready ↦ by_barrier a ready | inr waits ↦ by_shelf a waits ]

  module _ (sound : Sound seat shelf) (well : WellFormed packet) where
    by_number : SameSession seat packet → WithinOwnCount seat packet → occasion (answer_number answer)
    by_number same own =
        elim (decided _ (repeats_agrees seat shelf packet)) [
          | inl again ↦ rw (gives_17 sound well same own again) (sound, well, same, own, again)
          | inr is_new ↦ elim (dec_lt (entry seat.run (sender_of packet) + 64) (number_of packet)) [
            | yes far ↦ let never : Near seat packet → ⊥ = λ near. omega arith in
                rw (gives_18 sound well same own is_new never) (sound, well, same, own, is_new, never)
            | no less ↦ by_ready (record { sound = sound; is_well_formed = well; same_session = same; within_own_count = own; is_new = is_new; near = omega arith })
          ]
        ]

    by_count : SameSession seat packet → occasion (answer_number answer)
    by_count same =
        elim (dec_lt (own_count seat) (entry (past_of packet) seat.own)) [
          | yes more ↦ let above : WithinOwnCount seat packet → ⊥ = λ own. omega arith in
              rw (gives_16 sound well same above) (sound, well, same, above)
          | no less ↦ by_number same (omega arith)
        ]

    by_session : occasion (answer_number answer)
    by_session =
        elim (ℕ_discrete (seats_of packet) seat.n) [
          | yes same ↦ by_count same
          | no other ↦ rw (gives_15 sound well other) (sound, well, other)
        ]

  by_form : Sound seat shelf → occasion (answer_number answer)
  by_form sound =
      elim (decided _ (well_formed_agrees packet)) [ inl well ↦ by_session sound well | inr bad ↦ rw (gives_14 sound bad) (sound, bad) ]

  tells : occasion (answer_number answer)
  tells = elim (decided _ (sound_agrees seat shelf)) [ inl sound ↦ by_form sound | inr bad ↦ rw (gives_10 bad) bad ]

  pub arrive_occasions : ArriveAnswers seat shelf packet
  arrive_occasions =
      record {
        is_10 = (λ e. subst occasion e tells, λ bad. ap answer_number (gives_10 bad));
        is_14 = (λ e. subst occasion e tells, λ f. ap answer_number (gives_14 f.0 f.1));
        is_15 = (λ e. subst occasion e tells, λ f. ap answer_number (gives_15 f.0 f.1 f.2));
        is_16 = (λ e. subst occasion e tells, λ f. ap answer_number (gives_16 f.0 f.1 f.2 f.3));
        is_17 = (λ e. subst occasion e tells, λ f. ap answer_number (gives_17 f.0 f.1 f.2 f.3 f.4));
        is_18 = (λ e. subst occasion e tells, λ f. ap answer_number (gives_18 f.0 f.1 f.2 f.3 f.4 f.5));
        is_23 = (λ e. subst occasion e tells, λ f. ap answer_number (gives_23 f.0 f.1 f.2));
        is_19 = (λ e. subst occasion e tells, λ f. ap answer_number (gives_19 f.0 f.1 f.2));
        is_0 = (λ e. subst occasion e tells, λ f. ap answer_number (ready_arrival_is_done f.0 f.1 f.2));
        is_1 = (λ e. subst occasion e tells, λ f. ap answer_number (waiting_arrival_is_shelved f.0 f.1 f.2));
        no_other = in_the_table table (answer_number answer) tells;
      }
