-- A shelf after a packet was laid on a free slot, and after a slot was cleared: the packets that stand on it.
use Prim.Native.Nat.{ℕ, ◌<◌}
use mathlib.Core.Path.{◌≡◌, sym, ap, ◌∙◌}
use mathlib.Core.Bool.{true, false, true≢false}
use mathlib.Core.List.{List}
use mathlib.Core.Logic.{◌⊎◌, inl, inr}
use native.Mathlib.Decide.{ℕ_discrete}
use lib.ListN.{length, replicate}
use Rattle.packet.specs.Packet.{first_bad_point}
use Rattle.shelf.specs.Shelf.{slot_size, slots, all_zero, is_free, slot_of, laid, free_slot}
use Rattle.shelf.proofs.Slots.{laying_keeps_slots, laid_reads_back, laying_keeps_others}
use Rattle.shelf.proofs.Holding.{length_free_slot, cleared_is_free, zeroed_shelf_is_free, length_slot_of, laid_is_not_free}
use Rattle.seat.specs.Stock.{packet_in, packet_at}
use Rattle.seat.proofs.InSlot.{well_formed_fits, laid_packet_is_found}

-- The packet stands on slot i.
pub record StandsAt (shelf packet : List ℕ) (i : ℕ) : Type 0 where
  pub there : i < slots shelf
  pub used : is_free shelf i ≡ false
  pub is : packet_at shelf i ≡ packet

-- The packet stands on a slot.
abbrev pub StandsOn : List ℕ → List ℕ → Type 0
StandsOn shelf packet = (i : ℕ) × StandsAt shelf packet i

-- Nothing stands on a shelf of zeros.
pub zeros_hold_nothing : (n : ℕ) (packet : List ℕ) → StandsOn (replicate n 0) packet → ⊥
zeros_hold_nothing n packet (i, at) = true≢false (sym (zeroed_shelf_is_free n i) ∙ at.used)

module _ (shelf : List ℕ) (i : ℕ) (slot : List ℕ) (there : i < slots shelf) (long : length slot ≡ slot_size) where
  stays : (packet : List ℕ) (j : ℕ) → (j ≡ i → ⊥) → StandsAt shelf packet j → StandsAt (laid shelf i slot) packet j
  stays packet j other at =
      let same = laying_keeps_others shelf i slot there long j other at.there in
      record { there = rw (laying_keeps_slots shelf i slot there long) at.there; used = ap all_zero same ∙ at.used; is = ap packet_in same ∙ at.is }

  stood : (packet : List ℕ) (j : ℕ) → (j ≡ i → ⊥) → StandsAt (laid shelf i slot) packet j → StandsAt shelf packet j
  stood packet j other at =
      let inside : j < slots shelf = rw (laying_keeps_slots shelf i slot there long) at at.there in
      let same = laying_keeps_others shelf i slot there long j other inside in
      record { there = inside; used = sym (ap all_zero same) ∙ at.used; is = sym (ap packet_in same) ∙ at.is }

-- A packet is laid on slot i, which was free.
module _ (shelf : List ℕ) (i : ℕ) (packet : List ℕ) (there : i < slots shelf) (free : is_free shelf i ≡ true) (is_well_formed : first_bad_point packet ≡ 0) where
  long : length (slot_of packet) ≡ slot_size
  long = length_slot_of packet (well_formed_fits packet is_well_formed)

  pub laid_packet_stands : StandsAt (laid shelf i (slot_of packet)) packet i
  laid_packet_stands =
      record {
        there = rw (laying_keeps_slots shelf i (slot_of packet) there long) there;
        used = laid_is_not_free packet (well_formed_fits packet is_well_formed) shelf i there;
        is = ap packet_in (laid_reads_back shelf i (slot_of packet) there long) ∙ laid_packet_is_found packet is_well_formed;
      }

  -- what stood stays where it was
  pub laying_keeps_what_stood : (other : List ℕ) (j : ℕ) → StandsAt shelf other j → StandsAt (laid shelf i (slot_of packet)) other j
  laying_keeps_what_stood other j at =
      stays shelf i (slot_of packet) there long other j (λ same. true≢false (sym free ∙ rw same at at.used)) at

  -- what stands now stood, or was laid
  pub laying_adds_one : (other : List ℕ) (j : ℕ) → StandsAt (laid shelf i (slot_of packet)) other j → StandsAt shelf other j ⊎ ((j ≡ i) × (other ≡ packet))
  laying_adds_one other j at =
      elim (ℕ_discrete j i) [
        | yes here ↦ inr (here, sym at.is ∙ rw here laid_packet_stands.is)
        | no away ↦ inl (stood shelf i (slot_of packet) there long other j away at)
      ]

-- Slot i is cleared.
module _ (shelf : List ℕ) (i : ℕ) (there : i < slots shelf) where
  pub clearing_keeps_the_others : (other : List ℕ) (j : ℕ) → (j ≡ i → ⊥) → StandsAt shelf other j → StandsAt (laid shelf i free_slot) other j
  clearing_keeps_the_others = stays shelf i free_slot there length_free_slot

  pub clearing_takes_one : (other : List ℕ) (j : ℕ) → StandsAt (laid shelf i free_slot) other j → (j ≡ i → ⊥) × StandsAt shelf other j
  clearing_takes_one other j at =
      let away : j ≡ i → ⊥ = λ here. true≢false (sym (cleared_is_free shelf i there) ∙ rw here at at.used) in
      (away, stood shelf i free_slot there length_free_slot other j away at)
