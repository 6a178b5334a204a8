-- Soundness is kept: after each step, whatever it was given and whatever it answered, the next state is sound and so is
-- the next shelf for it.
use Prim.Native.Nat.{ℕ, ◌-◌, ◌<◌}
use mathlib.Core.Path.{◌≡◌, refl, sym, ◌∙◌}
use mathlib.Core.Bool.{true}
use mathlib.Core.List.{List}
use mathlib.Core.Logic.{inl, inr}
use native.Mathlib.Omega.{arith}
use lib.Arith.{lt_of_le-ne}
use lib.ListN.{length, replicate, length-replicate}
use Rattle.answers.specs.declared.SeatNo.{SeatNo}
use Rattle.answers.specs.declared.Answer.{Answer}
use Rattle.answers.specs.declared.Answer.TheVariants.{Opened, Done, Shelved, NothingReady, Refused}
use Rattle.vectors.specs.Bytes.{Bytes}
use Rattle.packet.specs.Packet.{past_of, barrier_of}
use Rattle.shelf.specs.Shelf.{whole_slots, lowest_free}
use Rattle.seat.specs.State.{own_count, sound_state, Held, counting}
use Rattle.seat.specs.Stock.{packet_at, sound_shelf}
use Rattle.seat.specs.HandingOver.{hand_over}
use Rattle.seat.specs.Opening.{open_answer, OpenedAs}
use Rattle.seat.specs.Sending.{kind_of, sent_seat, seat_after, send_answer, Sent}
use Rattle.seat.specs.Arriving.{heading_of, arrive_answer, shelf_after, Arrived}
use Rattle.seat.specs.Releasing.{chosen, chosen_packet, release_answer, shelf_after_release, Released}
use Rattle.seat.specs.declared.Seat.{Seat}
use Rattle.seat.specs.declared.Wish.{Wish}
use Rattle.seat.specs.declared.Stepped.{Stepped}
use Rattle.seat.proofs.Opened.{counting_is_sound, counting_is_held}
use Rattle.seat.proofs.OpenAnswers.{opened, open_tells_its_occasion}
use Rattle.seat.proofs.SendAnswers.{send_answers}
use Rattle.seat.proofs.SendingSound.{sending_keeps_sound, sending_keeps_held}
use Rattle.seat.proofs.HandingOverSound.{handing_over_keeps_sound, handing_over_keeps_held}
use Rattle.seat.proofs.SoundShelf.{shelf_is_sound}
use Rattle.seat.proofs.ArrivalTells as arrival
use Rattle.seat.proofs.ReleaseTells as release
use Rattle.seat.proofs.CarriedCounts.{CarriesCounts, shelf_of_bytes_carries_counts}
use Rattle.seat.proofs.LaidShelf.{StandsOn, zeros_hold_nothing, laying_adds_one, clearing_takes_one}
use Rattle.seat.proofs.PassingStays.{passing_can_be_handed_over, passing_stays_after_sending, passing_stays_after_handing_over}
use Rattle.seat.proofs.ShelfStaysSound.{not_on_shelf, chosen_stands, what_stands_passes, one_slot_for_an_edit, stays_sound_where_all_pass, laying_keeps_sound, clearing_keeps_sound}

-- A state and a shelf that are sound and as programs hold them: arrays of 16 counts or words, also in the packets on the shelf.
pub record SoundPlace (seat : Seat) (shelf : List ℕ) : Type 0 where
  pub sound : sound_state seat ≡ true
  pub held : Held seat
  pub shelf_sound : sound_shelf seat shelf ≡ true
  pub shelf_counts : (packet : List ℕ) → StandsOn shelf packet → CarriesCounts packet

-- ---- opening

zeros_are_whole : (shelf : List ℕ) → whole_slots shelf ≡ true → whole_slots (replicate (length shelf) 0) ≡ true
unfolding whole_slots
zeros_are_whole shelf whole = rw (length-replicate {A = ℕ} (length shelf) 0) whole

zeros_are_sound : (seat : Seat) (shelf : List ℕ) → whole_slots shelf ≡ true → sound_shelf seat (replicate (length shelf) 0) ≡ true
zeros_are_sound seat shelf whole =
    let zeros : List ℕ = replicate (length shelf) 0 in
    shelf_is_sound seat zeros (zeros_are_whole shelf whole)
    (λ i h used. absurd (zeros_hold_nothing (length shelf) (packet_at zeros i) (i, record { there = h; used = used; is = refl })))
    (λ i j before h used also s m. zeros_hold_nothing (length shelf) (packet_at zeros j) (j, record { there = h; used = also; is = refl }))

-- An open that is done leaves both sound.
pub opening_makes_sound : (n : ℕ) (own : SeatNo) (shelf : List ℕ) (stepped : Stepped) (after : List ℕ) → OpenedAs n own shelf stepped after → stepped.answer ≡ Opened
    → SoundPlace stepped.seat after
opening_makes_sound n own shelf stepped after so is =
    let answer : open_answer n own shelf ≡ Opened = sym so.answered ∙ is in
    let zeros : List ℕ = replicate (length shelf) 0 in
    let state : stepped.seat ≡ counting n own = rw answer at so.next in
    let cleared : after ≡ zeros = rw answer at so.shelf_after_is in
    rw (state, cleared)
    (elim (open_tells_its_occasion n own shelf Opened answer) [
      | opened range whole ↦ record {
        sound = counting_is_sound n own range;
        held = counting_is_held n own;
        shelf_sound = zeros_are_sound (counting n own) shelf whole;
        shelf_counts = λ packet on. absurd (zeros_hold_nothing (length shelf) packet on);
      }
    ])

module _ (seat : Seat) (shelf : List ℕ) (place : SoundPlace seat shelf) where
  -- ---- sending

  after_send : (wish : Wish) (body out : List ℕ) (answer : Answer) → send_answer seat body out ≡ answer
      → SoundPlace (seat_after answer (sent_seat seat (kind_of wish)) seat) shelf
  after_send wish body out (Done edit) e =
      let so = send_answers seat body out edit e in
      let not_full : own_count seat < 65535 = lt_of_le-ne (omega (arith, place.held.past_fits (seat.own.0 - 1))) so.not_full in
      record {
        sound = sending_keeps_sound seat place.sound place.held (kind_of wish);
        held = sending_keeps_held seat place.sound place.held not_full (kind_of wish);
        shelf_sound = stays_sound_where_all_pass seat shelf place.shelf_sound (sent_seat seat (kind_of wish))
            (λ packet i at. passing_stays_after_sending seat place.sound place.held (kind_of wish) packet (what_stands_passes seat shelf place.shelf_sound packet i at));
        shelf_counts = place.shelf_counts;
      }
  after_send wish body out Opened e = place
  after_send wish body out Shelved e = place
  after_send wish body out NothingReady e = place
  after_send wish body out (Refused refusal) e = place

  -- Sending keeps both sound.
  pub sending_keeps_place_sound : (wish : Wish) (body out : List ℕ) (stepped : Stepped) (after : List ℕ) → Sent seat wish body out stepped after
      → SoundPlace stepped.seat shelf
  sending_keeps_place_sound wish body out stepped after sent = rw sent.next (after_send wish body out (send_answer seat body out) refl)

  -- ---- an arrival

  after_arrival_lem : (packet : List ℕ) → CarriesCounts packet → {answer : Answer} → arrival.ArrivalTold seat shelf packet answer
      → SoundPlace (seat_after answer (hand_over seat (heading_of packet) (past_of packet) (barrier_of packet)) seat) (shelf_after answer packet shelf)
  after_arrival_lem packet counts (arrival.done edit so) =
      let passing = so.admitted.passing in
      let can = passing_can_be_handed_over seat place.sound place.held packet passing counts so.barrier_stays in
      record {
        sound = handing_over_keeps_sound seat (heading_of packet) (past_of packet) (barrier_of packet) can;
        held = handing_over_keeps_held seat (heading_of packet) (past_of packet) (barrier_of packet) can;
        shelf_sound = stays_sound_where_all_pass seat shelf place.shelf_sound (hand_over seat (heading_of packet) (past_of packet) (barrier_of packet))
            (λ other i at.
            passing_stays_after_handing_over seat (heading_of packet) (past_of packet) (barrier_of packet) can other (what_stands_passes seat shelf place.shelf_sound other i at)
            (λ s m. not_on_shelf shelf packet so.admitted.not_on_shelf other i at (s, m)));
        shelf_counts = place.shelf_counts;
      }
  after_arrival_lem packet counts (arrival.shelved so) =
      let passing = so.admitted.passing in
      record {
        sound = place.sound;
        held = place.held;
        shelf_sound = laying_keeps_sound seat shelf place.shelf_sound (lowest_free shelf) packet so.there so.free passing so.admitted.not_on_shelf;
        shelf_counts = λ other (i, at).
            elim (laying_adds_one shelf (lowest_free shelf) packet so.there so.free passing.is_well_formed other i at) [
              | inl old ↦ place.shelf_counts other (i, old)
              | inr (here, is) ↦ rw is counts
            ];
      }
  after_arrival_lem packet counts (arrival.refused refusal) = place

  -- An arrival keeps both sound, whatever the packet: its vectors are counts, as those of all bytes are.
  pub arriving_keeps_sound : (packet : List ℕ) → CarriesCounts packet → (stepped : Stepped) (after : List ℕ) → Arrived seat packet shelf stepped after
      → SoundPlace stepped.seat after
  arriving_keeps_sound packet counts stepped after arrived =
      rw (arrived.next, arrived.shelf_after_is) (after_arrival_lem packet counts (arrival.arrival_tells seat shelf packet (arrive_answer seat shelf packet) refl))

  -- ---- a release

  after_release : (out : List ℕ) {answer : Answer} → release.ReleaseTold seat shelf out answer
      → SoundPlace
      (seat_after answer
      (hand_over seat (heading_of (chosen_packet seat shelf)) (past_of (chosen_packet seat shelf)) (barrier_of (chosen_packet seat shelf))) seat)
      (shelf_after_release answer seat shelf)
  after_release out (release.done edit so) =
      let packet = chosen_packet seat shelf in
      let at = chosen_stands seat shelf so.there in
      let can = passing_can_be_handed_over seat place.sound place.held packet (what_stands_passes seat shelf place.shelf_sound packet (chosen seat shelf) at)
      (place.shelf_counts packet (chosen seat shelf, at)) so.barrier_stays in
      record {
        sound = handing_over_keeps_sound seat (heading_of packet) (past_of packet) (barrier_of packet) can;
        held = handing_over_keeps_held seat (heading_of packet) (past_of packet) (barrier_of packet) can;
        shelf_sound = clearing_keeps_sound seat shelf place.shelf_sound (chosen seat shelf) (hand_over seat (heading_of packet) (past_of packet) (barrier_of packet)) so.there
            (λ other i away stood.
            passing_stays_after_handing_over seat (heading_of packet) (past_of packet) (barrier_of packet) can other (what_stands_passes seat shelf place.shelf_sound other i stood)
            (λ s m. away (one_slot_for_an_edit seat shelf place.shelf_sound other packet i (chosen seat shelf) stood at (s, m))));
        shelf_counts = λ other (i, stood). place.shelf_counts other (i, (clearing_takes_one shelf (chosen seat shelf) so.there other i stood).1);
      }
  after_release out (release.idle so) = place
  after_release out (release.refused refusal) = place

  -- A release keeps both sound.
  pub releasing_keeps_sound : (out : List ℕ) (stepped : Stepped) (shelf-left output-left : List ℕ) → Released seat shelf out stepped shelf-left output-left
      → SoundPlace stepped.seat shelf-left
  releasing_keeps_sound out stepped shelf-left output-left released =
      rw (released.next, released.shelf_after_is) (after_release out (release.release_tells seat shelf out (release_answer seat shelf out) refl))

-- A sound state, and a shelf of bytes that is sound for it, are such a place.
pub bytes_make_a_place : (seat : Seat) (shelf : List ℕ) → sound_state seat ≡ true → Held seat → sound_shelf seat shelf ≡ true → Bytes shelf → SoundPlace seat shelf
bytes_make_a_place seat shelf sound held shelf_sound bytes =
    record {
      sound = sound;
      held = held;
      shelf_sound = shelf_sound;
      shelf_counts = λ packet (i, at). rw at.is at (shelf_of_bytes_carries_counts shelf bytes i);
    }
