-- A sound shelf stays sound where its packets still pass, where a packet that passes is laid on a free slot, and where
-- a slot is cleared.
use Prim.Native.Nat.{ℕ, ◌<◌}
use mathlib.Core.Path.{◌≡◌, refl, sym, ◌∙◌}
use mathlib.Core.Bool.{true, false}
use mathlib.Core.List.{List}
use mathlib.Core.Logic.{◌⊎◌, inl, inr}
use native.Mathlib.Omega.{arith}
use Rattle.packet.specs.Packet.{sender_of}
use Rattle.shelf.specs.Shelf.{slots, whole_slots, is_free, slot_of, laid, free_slot}
use Rattle.shelf.proofs.Slots.{laying_keeps_whole}
use Rattle.shelf.proofs.Holding.{length_slot_of, length_free_slot}
use Rattle.seat.specs.Stock.{packet_at, number_of, on_shelf, sound_shelf, Passing, SoundShelf}
use Rattle.seat.specs.Releasing.{chosen, chosen_packet}
use Rattle.seat.specs.declared.Seat.{Seat}
use Rattle.seat.proofs.InSlot.{well_formed_fits}
use Rattle.seat.proofs.OnSlots.{its_numbers_are_the_edit, on_none_is_not_on_slots}
use Rattle.seat.proofs.SoundShelf.{sound_shelf_says, shelf_is_sound, same_edit_same_slot}
use Rattle.seat.proofs.Chosen.{chosen_is_ready, ready_slot_is_used}
use Rattle.seat.proofs.LaidShelf.{StandsAt, laying_adds_one, clearing_takes_one}

-- Two packets carry the same edit.
abbrev pub SameEdit : List ℕ → List ℕ → Type 0
SameEdit one other = ((sender_of one).0 ≡ (sender_of other).0) × (number_of one ≡ number_of other)

-- a shelf of whole slots is sound where what stands on it passes, and no edit stands on it twice
sound_by_what_stands : (seat : Seat) (shelf : List ℕ) → whole_slots shelf ≡ true → ((packet : List ℕ) (i : ℕ) → StandsAt shelf packet i → Passing seat packet)
    → ((one other : List ℕ) (i j : ℕ) → i < j → StandsAt shelf one i → StandsAt shelf other j → SameEdit one other → ⊥) → sound_shelf seat shelf ≡ true
sound_by_what_stands seat shelf whole passing apart =
    shelf_is_sound seat shelf whole (λ i h used. passing (packet_at shelf i) i (record { there = h; used = used; is = refl }))
    (λ i j before h used also s m.
    apart (packet_at shelf i) (packet_at shelf j) i j before (record { there = omega arith; used = used; is = refl }) (record { there = h; used = also; is = refl }) (s, m))

-- where an edit is not on the shelf, it stands on no slot
pub not_on_shelf : (shelf packet : List ℕ) → on_shelf shelf (sender_of packet) (number_of packet) ≡ false
    → (other : List ℕ) (j : ℕ) → StandsAt shelf other j → SameEdit other packet → ⊥
not_on_shelf shelf packet new other j at (s, m) =
    on_none_is_not_on_slots (slots shelf) shelf (sender_of packet) (number_of packet) new j at.there at.used
    (rw at.is (its_numbers_are_the_edit other (sender_of packet) (number_of packet) s m))

-- the packet that is released stands on its slot
pub chosen_stands : (seat : Seat) (shelf : List ℕ) → chosen seat shelf < slots shelf → StandsAt shelf (chosen_packet seat shelf) (chosen seat shelf)
chosen_stands seat shelf there =
    record { there = there; used = ready_slot_is_used seat shelf (chosen seat shelf) (chosen_is_ready seat shelf there); is = refl }

module _ (seat : Seat) (shelf : List ℕ) (sound : sound_shelf seat shelf ≡ true) where
  was : SoundShelf seat shelf
  was = sound_shelf_says seat shelf sound

  -- what stands on a sound shelf passes
  pub what_stands_passes : (packet : List ℕ) (i : ℕ) → StandsAt shelf packet i → Passing seat packet
  what_stands_passes packet i at = rw at.is at (was.passing i at.there at.used)

  -- an edit stands on one slot
  pub one_slot_for_an_edit : (one other : List ℕ) (i j : ℕ) → StandsAt shelf one i → StandsAt shelf other j → SameEdit one other → i ≡ j
  one_slot_for_an_edit one other i j at also (s, m) =
      same_edit_same_slot seat shelf was i j at.there also.there at.used also.used
      (rw (at.is, also.is) s) (rw (at.is, also.is) m)

  -- the seat went on, and what stands still passes
  pub stays_sound_where_all_pass : (next : Seat) → ((packet : List ℕ) (i : ℕ) → StandsAt shelf packet i → Passing next packet) → sound_shelf next shelf ≡ true
  stays_sound_where_all_pass next passing =
      sound_by_what_stands next shelf was.whole passing (λ one other i j before at also same. omega (arith, one_slot_for_an_edit one other i j at also same))

  -- a packet that passes, and whose edit is not on the shelf, is laid on a free slot
  pub laying_keeps_sound : (i : ℕ) (packet : List ℕ) → i < slots shelf → is_free shelf i ≡ true → Passing seat packet
      → on_shelf shelf (sender_of packet) (number_of packet) ≡ false → sound_shelf seat (laid shelf i (slot_of packet)) ≡ true
  laying_keeps_sound i packet there free passing new =
      sound_by_what_stands seat (laid shelf i (slot_of packet))
      (laying_keeps_whole shelf i (slot_of packet) there (length_slot_of packet (well_formed_fits packet passing.is_well_formed)) ∙ was.whole) each apart
    where
      origin : (other : List ℕ) (j : ℕ) → StandsAt (laid shelf i (slot_of packet)) other j → StandsAt shelf other j ⊎ ((j ≡ i) × (other ≡ packet))
      origin = laying_adds_one shelf i packet there free passing.is_well_formed

      each : (other : List ℕ) (j : ℕ) → StandsAt (laid shelf i (slot_of packet)) other j → Passing seat other
      each other j at =
          elim (origin other j at) [
            | inl old ↦ what_stands_passes other j old
            | inr (here, is) ↦ rw is passing
          ]

      not_there : (other : List ℕ) (j : ℕ) → StandsAt shelf other j → SameEdit other packet → ⊥
      not_there = not_on_shelf shelf packet new

      apart : (one other : List ℕ) (j k : ℕ) → j < k → StandsAt (laid shelf i (slot_of packet)) one j → StandsAt (laid shelf i (slot_of packet)) other k → SameEdit one other → ⊥
      apart one other j k before at also same =
          elim (origin one j at) [
            | inl old ↦ elim (origin other k also) [
              | inl older ↦ omega (arith, one_slot_for_an_edit one other j k old older same)
              | inr (here, is) ↦ not_there one j old (rw is at same)
            ]
            | inr (here, is) ↦ elim (origin other k also) [
              | inl old ↦ let turned : SameEdit other one = (sym same.0, sym same.1) in not_there other k old (rw is at turned)
              | inr (also-here, also-is) ↦ omega arith
            ]
          ]

  -- the seat went on, what stands on the other slots still passes, and a slot is cleared
  pub clearing_keeps_sound : (i : ℕ) (next : Seat) → i < slots shelf → ((packet : List ℕ) (j : ℕ) → (j ≡ i → ⊥) → StandsAt shelf packet j → Passing next packet)
      → sound_shelf next (laid shelf i free_slot) ≡ true
  clearing_keeps_sound i next there passing =
      sound_by_what_stands next (laid shelf i free_slot) (laying_keeps_whole shelf i free_slot there length_free_slot ∙ was.whole)
      (λ packet j at. let old = clearing_takes_one shelf i there packet j at in passing packet j old.0 old.1)
      (λ one other j k before at also same.
      omega (arith, one_slot_for_an_edit one other j k (clearing_takes_one shelf i there one j at).1 (clearing_takes_one shelf i there other k also).1 same))
