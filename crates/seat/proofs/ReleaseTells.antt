-- What each answer to a release tells.
use Prim.Native.Nat.{ℕ, ◌<◌}
use mathlib.Core.Path.{◌≡◌, refl, subst}
use mathlib.Core.Bool.{Bool, true, false, cond, not}
use mathlib.Core.List.{List, [], ◌∷◌}
use lib.Arith.{lt_of_le-ne}
use lib.Dec.{eqb, ltb}
use lib.ListN.{length}
use Rattle.std.proofs.lemmas.Bool.{eqb-true, eqb-false, and_parts}
use Rattle.answers.specs.Answers.{first_of}
use Rattle.answers.specs.declared.Edit.{Edit}
use Rattle.answers.specs.declared.Refusal.{Refusal}
use Rattle.answers.specs.declared.Refusal.TheVariants.{NotSound, OutputTooShort, BarrierAbovePast}
use Rattle.answers.specs.declared.Answer.{Answer}
use Rattle.answers.specs.declared.Answer.TheVariants.{Done, NothingReady, Refused}
use Rattle.packet.specs.Packet.{past_of, barrier_of}
use Rattle.packet.specs.Reading.{body_of}
use Rattle.shelf.specs.Shelf.{slots}
use Rattle.seat.specs.State.{sound_state}
use Rattle.seat.specs.Stock.{sound_shelf}
use Rattle.seat.specs.HandingOver.{barrier_above_past}
use Rattle.seat.specs.Arriving.{heading_of, sound_both, edit_handed}
use Rattle.seat.specs.Releasing.{chosen, chosen_packet, take_refusals, release_answer}
use Rattle.seat.specs.declared.Seat.{Seat}
use Rattle.seat.proofs.Chosen.{chosen_is_at_most_slots}

-- The packet on the chosen slot is handed over.
pub record ReleaseDone (seat : Seat) (shelf out : List ℕ) (edit : Edit) : Type 0 where
  pub sound : sound_state seat ≡ true
  pub shelf_sound : sound_shelf seat shelf ≡ true
  pub there : chosen seat shelf < slots shelf
  pub room : ltb (length out) (length (body_of (chosen_packet seat shelf))) ≡ false
  pub barrier_stays : barrier_above_past seat (heading_of (chosen_packet seat shelf)) (past_of (chosen_packet seat shelf)) (barrier_of (chosen_packet seat shelf)) ≡ false
  pub edit_is : edit_handed (chosen_packet seat shelf) ≡ edit

-- Nothing on the shelf is ready.
pub record ReleaseIdle (seat : Seat) (shelf : List ℕ) : Type 0 where
  pub sound : sound_state seat ≡ true
  pub shelf_sound : sound_shelf seat shelf ≡ true
  pub none_chosen : chosen seat shelf ≡ slots shelf

-- What each answer tells. A release gives no others.
pub data ReleaseTold (seat : Seat) (shelf out : List ℕ) : Answer → Type 0 where
  done : (edit : Edit) → ReleaseDone seat shelf out edit → ReleaseTold seat shelf out (Done edit)
  idle : ReleaseIdle seat shelf → ReleaseTold seat shelf out NothingReady
  refused : (refusal : Refusal) → ReleaseTold seat shelf out (Refused refusal)

module _ (seat : Seat) (shelf out : List ℕ) where
  abbrev packet : List ℕ
  packet = chosen_packet seat shelf

  tests_tell : (sound none short above : Bool) → sound_both seat shelf ≡ sound → eqb (chosen seat shelf) (slots shelf) ≡ none
      → ltb (length out) (length (body_of packet)) ≡ short
      → barrier_above_past seat (heading_of packet) (past_of packet) (barrier_of packet) ≡ above
      → ReleaseTold seat shelf out
      (first_of ((NotSound, not sound) ∷ [])
      (cond none NothingReady (first_of ((OutputTooShort, short) ∷ (BarrierAbovePast, above) ∷ []) (Done (edit_handed packet)))))
  unfolding first_of
  tests_tell false none short above s n o a = refused NotSound
  tests_tell true true short above s n o a =
      let both = and_parts (sound_state seat) (sound_shelf seat shelf) s in
      idle (record { sound = both.0; shelf_sound = both.1; none_chosen = eqb-true _ _ n })
  tests_tell true false true above s n o a = refused OutputTooShort
  tests_tell true false false true s n o a = refused BarrierAbovePast
  tests_tell true false false false s n o a =
      let both = and_parts (sound_state seat) (sound_shelf seat shelf) s in
      done (edit_handed packet)
      (record {
        sound = both.0;
        shelf_sound = both.1;
        there = lt_of_le-ne (chosen_is_at_most_slots seat shelf) (eqb-false _ _ n);
        room = o;
        barrier_stays = a;
        edit_is = refl;
      })

  pub release_tells : (answer : Answer) → release_answer seat shelf out ≡ answer → ReleaseTold seat shelf out answer
  unfolding release_answer take_refusals
  release_tells answer e = subst (ReleaseTold seat shelf out) e (tests_tell _ _ _ _ refl refl refl refl)
