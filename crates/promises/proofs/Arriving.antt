-- An arrival answered 0 is handed over, and one answered 1 is put on the shelf, as the theory has it.
use Prim.Native.Nat.{ℕ}
use mathlib.Core.Path.{◌≡◌, refl, sym, ap, subst, ◌∙◌}
use mathlib.Core.Bool.{true≢false}
use mathlib.Core.List.{List}
use mathlib.Core.Logic.{inl, inr}
use Rattle.answers.specs.declared.Edit as answers
use Rattle.packet.specs.Packet.{sender_of, past_of, barrier_of}
use Rattle.shelf.specs.Shelf.{slot_of, laid, lowest_free}
use Rattle.seat.specs.Stock.{number_of, Passing}
use Rattle.seat.specs.HandingOver.{hand_over}
use Rattle.seat.specs.Arriving.{heading_of}
use Rattle.seat.specs.declared.Seat.{Seat}
use Rattle.seat.proofs.ArrivalTells.{ArrivalDone, ArrivalShelved}
use Rattle.seat.proofs.CarriedCounts.{CarriesCounts}
use Rattle.seat.proofs.LaidShelf.{laid_packet_stands, laying_keeps_what_stood, laying_adds_one}
use Rattle.seat.proofs.PassingStays.{passing_can_be_handed_over}
use Rattle.seat.proofs.ShelfStaysSound.{SameEdit, not_on_shelf}
use Rattle.seat.proofs.SteppingSound.{SoundPlace}
use Rattle.session.specs.Events.{Edit}
use Rattle.session.specs.Protocol.{edit, Takes, Shelves}
use Rattle.promises.specs.Demand3.{Place}
use Rattle.promises.proofs.Model.{model, MarkedAt, edit_is}
use Rattle.promises.proofs.Readiness.{test_says_ready}
use Rattle.promises.proofs.Learning.{handing_over_learns}

-- packets of one edit have the same sender and number
pub one_edit_same_numbers : (one other : List ℕ) → edit model one ≡ edit model other → SameEdit one other
one_edit_same_numbers one other same =
    let e : ◌≡◌ {A = Edit} (record { by = (sender_of one).0; number = number_of one }) (record { by = (sender_of other).0; number = number_of other }) =
    sym (edit_is one) ∙ same ∙ edit_is other in
    (ap (λ (x : Edit). x.by) e, ap (λ (x : Edit). x.number) e)

module _ (seat : Seat) (shelf packet : List ℕ) where
  abbrev before : Place
  before = record { seat = seat; shelf = shelf }

  passing_is_not_marked : Passing seat packet → ¬ MarkedAt before (edit model packet)
  passing_is_not_marked passing marked = true≢false (sym (subst (MarkedAt before) (edit_is packet) marked).is ∙ passing.not_handed)

  pub arrival_takes : SoundPlace seat shelf → CarriesCounts packet → (told : answers.Edit) → ArrivalDone seat shelf packet told
      → Takes model packet before (record { seat = hand_over seat (heading_of packet) (past_of packet) (barrier_of packet); shelf = shelf })
  arrival_takes place counts told so =
      let passing = so.admitted.passing in
      record {
        not_marked = passing_is_not_marked passing;
        not_shelved = λ p (i, at) same. not_on_shelf shelf packet so.admitted.not_on_shelf p i at (one_edit_same_numbers p packet same);
        ready = test_says_ready before packet so.is_ready;
        learns = handing_over_learns seat packet (passing_can_be_handed_over seat place.sound place.held packet passing counts so.barrier_stays) shelf shelf;
        shelf_after_is = λ p. (λ on. on, λ on. on);
      }

  pub arrival_shelves : ArrivalShelved seat shelf packet → Shelves model packet before (record { seat = seat; shelf = laid shelf (lowest_free shelf) (slot_of packet) })
  arrival_shelves so =
      let passing = so.admitted.passing in
      let free = lowest_free shelf in
      record {
        not_marked = passing_is_not_marked passing;
        past_after = λ i. refl;
        barrier_after_is = λ i. refl;
        marks_after = λ e. (
          λ marked. record { by_low = marked.by_low; number_low = marked.number_low; is = marked.is },
          λ marked. record { by_low = marked.by_low; number_low = marked.number_low; is = marked.is },
        );
        shelf_after_is = λ p. (
          λ (i, at).
              elim (laying_adds_one shelf free packet so.there so.free passing.is_well_formed p i at) [
                | inl was ↦ inl (i, was)
                | inr (here, is) ↦ inr is
              ],
          λ either.
              elim either [
                | inl (i, at) ↦ (i, laying_keeps_what_stood shelf free packet so.there so.free passing.is_well_formed p i at)
                | inr is ↦ (free, rw is (laid_packet_stands shelf free packet so.there so.free passing.is_well_formed))
              ],
        );
      }
