-- A release answered 0 hands over a packet of the shelf, and one answered 2 finds none ready, as the theory has it.
use Prim.Native.Nat.{ℕ}
use mathlib.Core.Path.{◌≡◌, sym, ap, ◌∙◌}
use mathlib.Core.Bool.{true, true≢false}
use mathlib.Core.List.{List}
use Rattle.answers.specs.declared.Edit as answers
use Rattle.packet.specs.Packet.{past_of, barrier_of}
use Rattle.shelf.specs.Shelf.{laid, free_slot}
use Rattle.seat.specs.Stock.{packet_at}
use Rattle.seat.specs.HandingOver.{ready, hand_over}
use Rattle.seat.specs.Arriving.{heading_of}
use Rattle.seat.specs.Releasing.{chosen, chosen_packet}
use Rattle.seat.specs.declared.Seat.{Seat}
use Rattle.seat.proofs.Chosen.{chosen_is_ready, none_chosen_is_none_ready}
use Rattle.seat.proofs.ReadySlot.{ready_slot_has_a_ready_packet, ready_packet_makes_a_ready_slot}
use Rattle.seat.proofs.ReleaseTells.{ReleaseDone, ReleaseIdle}
use Rattle.seat.proofs.LaidShelf.{clearing_keeps_the_others, clearing_takes_one}
use Rattle.seat.proofs.PassingStays.{passing_can_be_handed_over}
use Rattle.seat.proofs.ShelfStaysSound.{chosen_stands, what_stands_passes, one_slot_for_an_edit}
use Rattle.seat.proofs.SteppingSound.{SoundPlace}
use Rattle.session.specs.Protocol.{edit, Releases, Rests}
use Rattle.promises.specs.Demand3.{Place}
use Rattle.promises.proofs.Model.{model}
use Rattle.promises.proofs.Readiness.{test_says_ready, ready_passes_test}
use Rattle.promises.proofs.Learning.{handing_over_learns}
use Rattle.promises.proofs.Arriving.{one_edit_same_numbers}

module _ (seat : Seat) (shelf : List ℕ) (place : SoundPlace seat shelf) where
  abbrev before : Place
  before = record { seat = seat; shelf = shelf }

  abbrev packet : List ℕ
  packet = chosen_packet seat shelf

  pub release_releases : (out : List ℕ) (told : answers.Edit) → ReleaseDone seat shelf out told
      → Releases model packet before (record { seat = hand_over seat (heading_of packet) (past_of packet) (barrier_of packet); shelf = laid shelf (chosen seat shelf) free_slot })
  release_releases out told so =
      let slot = chosen seat shelf in
      let at = chosen_stands seat shelf so.there in
      let passing = what_stands_passes seat shelf place.shelf_sound packet slot at in
      record {
        is_on_shelf = (slot, at);
        ready = test_says_ready before packet (ready_slot_has_a_ready_packet seat shelf slot (chosen_is_ready seat shelf so.there));
        learns = handing_over_learns seat packet
            (passing_can_be_handed_over seat place.sound place.held packet passing (place.shelf_counts packet (slot, at)) so.barrier_stays)
            shelf (laid shelf slot free_slot);
        shelf_after_is = λ p. (
          λ (i, stands).
              let was = clearing_takes_one shelf slot so.there p i stands in (
                (i, was.1),
                λ same. was.0 (one_slot_for_an_edit seat shelf place.shelf_sound p packet i slot was.1 at (one_edit_same_numbers p packet same)),
              ),
          λ ((i, stands), other).
              (i, clearing_keeps_the_others shelf slot so.there p i (λ here. other (ap (edit model) (sym stands.is ∙ ap (packet_at shelf) here))) stands),
        );
      }

  pub idle_rests : ReleaseIdle seat shelf → Rests model before
  idle_rests so m (i, at) is =
      let here : ready seat (barrier_of (packet_at shelf i)) ≡ true = rw at.is (ready_passes_test before m place.sound is) in
      true≢false
      (sym (ready_packet_makes_a_ready_slot seat shelf i at.used here) ∙ none_chosen_is_none_ready seat shelf so.none_chosen i at.there)
