-- Laws of the packet in a slot: when there is none, and what it is.
use Prim.Native.Nat.{ℕ, ◌+◌, ◌-◌, ◌≤◌, ◌<◌}
use mathlib.Core.Path.{◌≡◌, refl, sym, ap, ◌∙◌}
use mathlib.Core.Bool.{Bool, true, false, cond, ◌&&◌, and-false}
use mathlib.Core.List.{List, []}
use native.Mathlib.Omega.{arith}
use lib.Dec.{leb, eqb}
use lib.ListN.{length, get_or, take, drop, replicate, get_or-append}
use Rattle.std.proofs.lemmas.Bool.{eq-eqb, ne_eqb, le-leb, lt-leb, leb-true, eqb-true, and_parts}
use Rattle.packet.specs.Packet.{first_bad_point}
use Rattle.packet.proofs.Formed.{formed}
use Rattle.shelf.specs.Shelf.{slot_size, slot_of, rest_zero}
use Rattle.shelf.proofs.Holding.{slot_of_starts_with_one, slot_of_reads_back, slot_of_rest_is_zero, slot_holds}
use Rattle.seat.specs.Stock.{named_length, holds_packet, packet_in}

module _ (slot : List ℕ) where
  module _ (end : ℕ) (is-end : end ≡ 1 + named_length (drop 1 slot)) where
    pub first_byte_not_one : (get_or slot 0 0 ≡ 1 → ⊥) → packet_in slot ≡ []
    unfolding packet_in holds_packet
    first_byte_not_one other = rw (ne_eqb (get_or slot 0 0) 1 other)

    pub named_too_long : slot_size < end → packet_in slot ≡ []
    unfolding packet_in holds_packet
    named_too_long long = rw (lt-leb (named_length (drop 1 slot)) (slot_size - 1) (omega arith), and-false)

    pub rest_not_zero : rest_zero slot end ≡ false → packet_in slot ≡ []
    unfolding packet_in holds_packet
    rest_not_zero rest = rw (← is-end, rest, and-false)

    pub packet_stands : get_or slot 0 0 ≡ 1 → end ≤ slot_size → rest_zero slot end ≡ true → packet_in slot ≡ take (end - 1) (drop 1 slot)
    unfolding packet_in holds_packet
    packet_stands one short rest =
        let named : named_length (drop 1 slot) ≡ end - 1 = omega arith in
        rw (eq-eqb (get_or slot 0 0) 1 one, le-leb (named_length (drop 1 slot)) (slot_size - 1) (omega arith), ← is-end, rest, named)

-- a slot whose packet is well formed holds it
module _ (slot : List ℕ) (is_well_formed : first_bad_point (packet_in slot) ≡ 0) where
  is_held : holds_packet slot ≡ true
  unfolding packet_in
  is_held =
      elim (holds_packet slot) as (λ held. first_bad_point (cond held (take (named_length (drop 1 slot)) (drop 1 slot)) []) ≡ 0 → held ≡ true) [
        | true ↦ λ e. refl
        | false ↦ λ e. let head = (formed [] e).head in absurd (omega arith)
      ] is_well_formed

  module _ (end : ℕ) (is-end : end ≡ 1 + named_length (drop 1 slot)) where
    pub held_is_short : end ≤ slot_size
    unfolding holds_packet
    held_is_short =
        let ab = and_parts (eqb (get_or slot 0 0) 1 && leb (named_length (drop 1 slot)) (slot_size - 1)) (rest_zero slot (1 + named_length (drop 1 slot))) is_held in
        let short : named_length (drop 1 slot) ≤ slot_size - 1 = leb-true _ _ (and_parts (eqb (get_or slot 0 0) 1) (leb (named_length (drop 1 slot)) (slot_size - 1)) ab.0).1 in
        omega arith

    pub held_stands : packet_in slot ≡ take (end - 1) (drop 1 slot)
    unfolding packet_in
    held_stands =
        let named : named_length (drop 1 slot) ≡ end - 1 = omega arith in
        rw (is_held, named)

-- ---- well formed packets

module _ (packet : List ℕ) (is_well_formed : first_bad_point packet ≡ 0) where
  pub well_formed_is_named : named_length packet ≡ length packet
  well_formed_is_named = sym (formed packet is_well_formed).head.exact

  pub well_formed_fits : length packet ≤ slot_size - 1
  well_formed_fits = let head = (formed packet is_well_formed).head in omega arith

  -- its slot names its length
  named_in_slot : named_length (drop 1 (slot_of packet)) ≡ length packet
  unfolding slot_of
  named_in_slot =
      let head = (formed packet is_well_formed).head in
      let zeros : List ℕ = replicate (slot_size - 1 - length packet) 0 in
      rw (get_or-append packet zeros 0 0 (omega arith), get_or-append packet zeros 0 2 (omega arith)) well_formed_is_named

  -- a packet that is laid is found again
  pub laid_packet_is_found : packet_in (slot_of packet) ≡ packet
  laid_packet_is_found =
      let long : 1 + length packet - 1 ≡ length packet = omega arith in
      packet_stands (slot_of packet) (1 + length packet) (ap (λ (n : ℕ). 1 + n) (sym named_in_slot)) (slot_of_starts_with_one packet)
      (omega (arith, well_formed_fits)) (slot_of_rest_is_zero packet)
      ∙ ap (λ (n : ℕ). take n (drop 1 (slot_of packet))) long ∙ slot_of_reads_back packet

-- a slot with a well formed packet is that packet's slot
module _ (slot : List ℕ) (is_well_formed : first_bad_point (packet_in slot) ≡ 0) where
  in_use : (holds : Bool) → holds_packet slot ≡ holds → holds_packet slot ≡ true
  unfolding packet_in
  in_use true e = e
  in_use false e =
      let empty : packet_in slot ≡ [] = rw e in
      absurd (omega (arith, (formed (packet_in slot) is_well_formed).head.long, ap length empty))

  pub found_packet_stands : length slot ≡ slot_size → slot ≡ slot_of (packet_in slot)
  unfolding packet_in holds_packet
  found_packet_stands long =
      let holds = in_use (holds_packet slot) refl in
      let rest = and_parts (eqb (get_or slot 0 0) 1 && leb (named_length (drop 1 slot)) (slot_size - 1)) (rest_zero slot (1 + named_length (drop 1 slot))) holds in
      let first = and_parts (eqb (get_or slot 0 0) 1) (leb (named_length (drop 1 slot)) (slot_size - 1)) rest.0 in
      slot_holds slot (named_length (drop 1 slot)) (eqb-true (get_or slot 0 0) 1 first.0) long rest.1 ∙ ap slot_of (sym (rw holds))
