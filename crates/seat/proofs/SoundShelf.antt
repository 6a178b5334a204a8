-- A sound shelf: the test says the plain facts, and the other way round.
use Prim.Native.Nat.{ℕ, ◌+◌, ◌<◌}
use mathlib.Core.Path.{◌≡◌, refl, sym, ap, ◌∙◌}
use mathlib.Core.Bool.{Bool, true, false, not, ◌&&◌, ◌||◌, true≢false, not-not}
use mathlib.Core.List.{List}
use native.Mathlib.Decide.{ℕ_discrete, dec_lt}
use native.Mathlib.Omega.{arith}
use lib.Dec.{eqb}
use Rattle.std.proofs.lemmas.Bool.{eq-eqb, eqb-true, le-ltb, ltb-false, not-true, and_parts}
use Rattle.vectors.specs.Vectors.{all, entry}
use Rattle.vectors.proofs.Every.{all_at, all_of}
use Rattle.packet.specs.Packet.{seats_of, sender_of, kind_of, past_of, first_bad_point}
use Rattle.packet.specs.Reading.{headed, header_of, read_of}
use Rattle.packet.specs.declared.Heading.{Heading}
use Rattle.std.specs.Prelude.{Ok}
use Rattle.packet.proofs.Told.{read_formed, read_refused}
use Rattle.shelf.specs.Shelf.{slots, whole_slots, slot_at, is_free}
use Rattle.shelf.proofs.Slots.{length_slot_at}
use Rattle.seat.specs.State.{own_count}
use Rattle.seat.specs.Stock.{packet_at, number_of, other_session, above_own_count, is_handed, too_far_ahead, passes_as, passes, sound_slot, on_slots, distinct, sound_slots, sound_shelf, Passing, SoundShelf}
use Rattle.seat.specs.declared.Seat.{Seat}
use Rattle.seat.proofs.InSlot.{well_formed_fits, found_packet_stands}
use Rattle.seat.proofs.SlotBySlot.{false_unless, is_new}
use Rattle.seat.proofs.OnSlots.{edit_is_its_numbers, its_numbers_are_the_edit, on_slots_is_on_one, on_none_is_not_on_slots}

-- ---- one packet

module _ (seat : Seat) (packet : List ℕ) where
  abbrev heading : Heading
  heading = headed (kind_of packet) (header_of packet)

  read_passes : first_bad_point packet ≡ 0 → passes seat (read_of packet) ≡ passes_as seat (past_of packet) (Ok heading)
  unfolding passes
  read_passes is_well_formed = rw (read_formed packet is_well_formed)

  passing_facts : first_bad_point packet ≡ 0 → passes_as seat (past_of packet) (Ok heading) ≡ true → Passing seat packet
  passing_facts is_well_formed passed =
      let session = other_session seat heading in
      let above = above_own_count seat (past_of packet) in
      let repeated = is_handed seat (sender_of packet) (number_of packet) in
      let far = too_far_ahead seat (sender_of packet) (number_of packet) in
      let to-far = and_parts (not session && not above && not repeated) (not far) passed in
      let to-repeated = and_parts (not session && not above) (not repeated) to-far.0 in
      let to-above = and_parts (not session) (not above) to-repeated.0 in
      record {
        is_well_formed = is_well_formed;
        same_session = eqb-true (seats_of packet) seat.n (sym (not-not (eqb (seats_of packet) seat.n)) ∙ to-above.0);
        within_own_count = ltb-false (own_count seat) (entry (past_of packet) seat.own) (not-true above to-above.1);
        not_handed = not-true repeated to-repeated.1;
        near = ltb-false (entry seat.run (sender_of packet) + 64) (number_of packet) (not-true far to-far.1);
      }

  pub passes_says : passes seat (read_of packet) ≡ true → Passing seat packet
  unfolding passes
  passes_says passed =
      elim (ℕ_discrete (first_bad_point packet) 0) [
        | yes is_well_formed ↦ passing_facts is_well_formed (sym (read_passes is_well_formed) ∙ passed)
        | no bad ↦ absurd (true≢false (sym passed ∙ rw (read_refused packet bad)))
      ]

  pub passing_passes : Passing seat packet → passes seat (read_of packet) ≡ true
  passing_passes facts =
      let session = eq-eqb (seats_of packet) seat.n facts.same_session in
      let above = le-ltb (own_count seat) (entry (past_of packet) seat.own) facts.within_own_count in
      let far = le-ltb (entry seat.run (sender_of packet) + 64) (number_of packet) facts.near in
      read_passes facts.is_well_formed ∙ simp (session, above, facts.not_handed, far)

-- ---- the shelf

module _ (seat : Seat) (shelf : List ℕ) where
  pub sound_shelf_says : sound_shelf seat shelf ≡ true → SoundShelf seat shelf
  unfolding sound_shelf sound_slots distinct
  sound_shelf_says sound =
      record {
        whole = both.0;
        passing = passing;
        stands = λ i h used. found_packet_stands (slot_at shelf i) (passing i h used).is_well_formed (length_slot_at shelf i h);
        short = λ i h used. well_formed_fits (packet_at shelf i) (passing i h used).is_well_formed;
        apart = apart;
      }
    where
      both : (whole_slots shelf ≡ true) × (sound_slots (slots shelf) seat shelf ≡ true)
      both = and_parts (whole_slots shelf) (sound_slots (slots shelf) seat shelf) sound

      slot_tests : (all (slots shelf) (sound_slot seat shelf) ≡ true) × (all (slots shelf) (is_new shelf) ≡ true)
      slot_tests = and_parts (all (slots shelf) (sound_slot seat shelf)) (all (slots shelf) (is_new shelf)) both.1

      passing : (i : ℕ) → i < slots shelf → is_free shelf i ≡ false → Passing seat (packet_at shelf i)
      passing i h used = passes_says seat (packet_at shelf i) (rw used at (all_at (sound_slot seat shelf) (slots shelf) i slot_tests.0 h))

      apart : (i j : ℕ) → i < j → j < slots shelf → is_free shelf i ≡ false → is_free shelf j ≡ false
          → (sender_of (packet_at shelf i)).0 ≡ (sender_of (packet_at shelf j)).0 → number_of (packet_at shelf i) ≡ number_of (packet_at shelf j) → ⊥
      apart i j before h used also s m =
          let new : not (on_slots j shelf (sender_of (packet_at shelf j)) (number_of (packet_at shelf j))) ≡ true = rw also at (all_at (is_new shelf) (slots shelf) j slot_tests.1 h) in
          on_none_is_not_on_slots j shelf (sender_of (packet_at shelf j)) (number_of (packet_at shelf j)) (not-true _ new) i before used
          (its_numbers_are_the_edit (packet_at shelf i) (sender_of (packet_at shelf j)) (number_of (packet_at shelf j)) s m)

  -- whole slots, passing packets and no two the same are enough
  module _ (whole : whole_slots shelf ≡ true) (passing : (i : ℕ) → i < slots shelf → is_free shelf i ≡ false → Passing seat (packet_at shelf i))
      (apart : (i j : ℕ) → i < j → j < slots shelf → is_free shelf i ≡ false → is_free shelf j ≡ false
      → (sender_of (packet_at shelf i)).0 ≡ (sender_of (packet_at shelf j)).0 → number_of (packet_at shelf i) ≡ number_of (packet_at shelf j) → ⊥) where
    slot_passes : (i : ℕ) → i < slots shelf → (free : Bool) → is_free shelf i ≡ free → (free || passes seat (read_of (packet_at shelf i))) ≡ true
    slot_passes i h true is = refl
    slot_passes i h false is = passing_passes seat (packet_at shelf i) (passing i h is)

    slot_is_new : (j : ℕ) → j < slots shelf → (free : Bool) → is_free shelf j ≡ free
        → (free || not (on_slots j shelf (sender_of (packet_at shelf j)) (number_of (packet_at shelf j)))) ≡ true
    slot_is_new j h true is = refl
    slot_is_new j h false is =
        ap not
        (false_unless (on_slots j shelf (sender_of (packet_at shelf j)) (number_of (packet_at shelf j)))
        (λ on.
        let one = on_slots_is_on_one j shelf (sender_of (packet_at shelf j)) (number_of (packet_at shelf j)) on in
        let same = edit_is_its_numbers (packet_at shelf one.0) (sender_of (packet_at shelf j)) (number_of (packet_at shelf j)) one.3 in
        apart one.0 j one.1 h one.2 is same.0 same.1))

    pub shelf_is_sound : sound_shelf seat shelf ≡ true
    unfolding sound_shelf sound_slots distinct
    shelf_is_sound =
        rw (whole, all_of (sound_slot seat shelf) (slots shelf) (λ i h. slot_passes i h (is_free shelf i) refl))
        (all_of (is_new shelf) (slots shelf) (λ j h. slot_is_new j h (is_free shelf j) refl))

  pub sound_shelf_passes : SoundShelf seat shelf → sound_shelf seat shelf ≡ true
  sound_shelf_passes facts = shelf_is_sound facts.whole facts.passing facts.apart

  -- slots in use with the same edit are the same slot
  pub same_edit_same_slot : SoundShelf seat shelf → (i j : ℕ) → i < slots shelf → j < slots shelf → is_free shelf i ≡ false → is_free shelf j ≡ false
      → (sender_of (packet_at shelf i)).0 ≡ (sender_of (packet_at shelf j)).0 → number_of (packet_at shelf i) ≡ number_of (packet_at shelf j) → i ≡ j
  same_edit_same_slot facts i j h l used also s m =
      elim (dec_lt i j) [
        | yes before ↦ absurd (facts.apart i j before l used also s m)
        | no not-before ↦ elim (dec_lt j i) [
          | yes after ↦ absurd (facts.apart j i after h also used (sym s) (sym m))
          | no not_after ↦ omega arith
        ]
      ]
