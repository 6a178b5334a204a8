-- Laws of what a slot holds: nothing, or a packet.
use Prim.Native.Nat.{ℕ, suc, ◌+◌, ◌*◌, ◌-◌, ◌≤◌, ◌<◌}
use mathlib.Core.Path.{◌≡◌, refl, sym, ap, ap₂, ◌∙◌}
use mathlib.Core.Bool.{true, false}
use mathlib.Core.List.{List, [], ◌∷◌, ◌++◌, append-nil}
use native.Mathlib.Numerals.{one-add}
use native.Mathlib.Omega.{arith}
use lib.ListN.{length, get_or, set, take, drop, replicate, length-append, length-replicate, length-set, length-drop, drop_of_length-le}
use lib.Seq.{sets, length-sets, length-take-le, take_at, drop_at}
use borrow.Rule.Slice.PartMut.{put_mid, same_len_mid, Post-is}
use Rattle.std.proofs.lemmas.Slice.{take-put_mid}
use Rattle.vectors.proofs.Numbers.{stands_back}
use Rattle.shelf.specs.Shelf.{slot_size, slots, slot_at, all_zero, is_free, slot_of, laid, free_slot, rest_zero}
use Rattle.shelf.proofs.Zeros.{one_byte_not_zero, zeros_are_all_zero, part_is_all_zero, zeros_to_the_end}
use Rattle.shelf.proofs.Slots.{laid_reads_back}

-- ---- a free slot

pub length_free_slot : length free_slot ≡ slot_size
unfolding free_slot
length_free_slot = length-replicate {A = ℕ} slot_size 0

pub free_slot_is_zero : all_zero free_slot ≡ true
unfolding free_slot
free_slot_is_zero = zeros_are_all_zero slot_size

pub cleared_is_free : (shelf : List ℕ) (i : ℕ) → i < slots shelf → is_free (laid shelf i free_slot) i ≡ true
cleared_is_free shelf i there = ap all_zero (laid_reads_back shelf i free_slot there length_free_slot) ∙ free_slot_is_zero

pub zeroed_shelf_is_free : (n i : ℕ) → is_free (replicate n 0) i ≡ true
unfolding slot_at
zeroed_shelf_is_free n i = part_is_all_zero (replicate n 0) slot_size (slot_size * i) (zeros_are_all_zero n)

-- ---- a slot with a packet

pub slot_of_starts_with_one : (packet : List ℕ) → get_or (slot_of packet) 0 0 ≡ 1
unfolding slot_of
slot_of_starts_with_one packet = refl

-- the packet is read back, and zeros follow it
pub slot_of_reads_back : (packet : List ℕ) → take (length packet) (drop 1 (slot_of packet)) ≡ packet
unfolding slot_of
slot_of_reads_back packet = take_at packet (replicate (slot_size - 1 - length packet) 0) (length packet) refl

pub slot_of_rest_is_zero : (packet : List ℕ) → rest_zero (slot_of packet) (1 + length packet) ≡ true
unfolding slot_of
slot_of_rest_is_zero packet =
    rw (one-add, drop_at packet (replicate (slot_size - 1 - length packet) 0) (length packet) refl) (zeros_are_all_zero (slot_size - 1 - length packet))

module _ (packet : List ℕ) (short : length packet ≤ slot_size - 1) where
  pub length_slot_of : length (slot_of packet) ≡ slot_size
  unfolding slot_of
  length_slot_of = ap suc (length-append packet (replicate (slot_size - 1 - length packet) 0)) ∙ rw length-replicate (omega arith)

  pub slot_of_is_not_zero : all_zero (slot_of packet) ≡ false
  slot_of_is_not_zero =
      one_byte_not_zero (slot_of packet) 0 (rw length_slot_of (omega arith)) (λ zero. omega (arith, slot_of_starts_with_one packet))

  module _ (shelf : List ℕ) (i : ℕ) (there : i < slots shelf) where
    pub laid_is_not_free : is_free (laid shelf i (slot_of packet)) i ≡ false
    laid_is_not_free = ap all_zero (laid_reads_back shelf i (slot_of packet) there length_slot_of) ∙ slot_of_is_not_zero

-- a byte 1, the packet and zeros, each written in its part of a slot, are the slot with the packet
first_byte_set : (slot : List ℕ) → 0 < length slot → take 1 (set slot 0 1) ≡ 1 ∷ []
first_byte_set [] h = absurd (omega arith)
first_byte_set (x ∷ t) h = refl

module _ (packet slot copied zeros : List ℕ) (short : length packet ≤ slot_size - 1) (long : length slot ≡ slot_size) (copy : copied ≡ packet) where
  with_packet : List ℕ
  with_packet = put_mid 1 (1 + length packet - 1) (set slot 0 1) copied

  as_many : length (set slot 0 1) ≡ slot_size
  as_many = length-set slot 0 1 ∙ long

  as_long : length with_packet ≡ slot_size
  unfolding with_packet
  as_long =
      same_len_mid 1 (1 + length packet - 1) (set slot 0 1) copied
      (ap length copy ∙ sym (length-take-le (1 + length packet - 1) (drop 1 (set slot 0 1)) (rw (length-drop, as_many) (omega arith)) ∙ omega arith))
      ∙ as_many

  pub written_in_turn : zeros ≡ replicate (length (take (length (put_mid 1 (1 + length packet - 1) (set slot 0 1) copied) - (1 + length packet)) (drop (1 + length packet) (put_mid 1 (1 + length packet - 1) (set slot 0 1) copied)))) 0
      → put_mid (1 + length packet) (length (put_mid 1 (1 + length packet - 1) (set slot 0 1) copied) - (1 + length packet)) (put_mid 1 (1 + length packet - 1) (set slot 0 1) copied) zeros ≡ slot_of packet
  unfolding with_packet slot_of
  written_in_turn fill =
      let place = 1 + length packet in
      let front : take place with_packet ≡ 1 ∷ packet =
      take-put_mid 1 (place - 1) (set slot 0 1) copied place (ap (λ (l : List ℕ). 1 + length l) (sym copy)) (omega (arith, as_many))
      ∙ ap₂ (λ (a b : List ℕ). a ++ b) (first_byte_set slot (omega (arith, long))) copy in
      let back : drop (length with_packet - place) (drop place with_packet) ≡ [] =
      Post-is place (length with_packet) with_packet (omega (arith, as_long)) ∙ drop_of_length-le with_packet (omega arith) in
      let many : length (take (length with_packet - place) (drop place with_packet)) ≡ slot_size - 1 - length packet =
      length-take-le (length with_packet - place) (drop place with_packet) (omega (arith, length-drop place with_packet)) ∙ omega (arith, as_long) in
      ap₂ (λ (a b : List ℕ). a ++ (zeros ++ b)) front back ∙ ap (λ (l : List ℕ). 1 ∷ (packet ++ l)) (append-nil zeros ∙ fill ∙ ap (λ (n : ℕ). replicate n 0) many)

-- the same where the packet was put down byte by byte, which keeps the length, however the first byte and the ends of the
-- zeros are told
pub length_put_in : (packet slot filled : List ℕ) (first : ℕ) → length slot ≡ slot_size → filled ≡ sets (set slot 0 first) 1 packet → length filled ≡ slot_size
length_put_in packet slot filled first long put = ap length put ∙ length-sets (set slot 0 first) 1 packet ∙ length-set slot 0 first ∙ long

pub put_in_turn : (packet slot filled zeros : List ℕ) (first place end : ℕ) → length packet ≤ slot_size - 1 → length slot ≡ slot_size
    → filled ≡ sets (set slot 0 first) 1 packet → first ≡ 1 → place ≡ 1 + length packet → end ≡ slot_size
    → zeros ≡ replicate (length (take (end - place) (drop place filled))) 0 → put_mid place (end - place) filled zeros ≡ slot_of packet
put_in_turn packet slot filled zeros first place end short long put first_is place_is end_is =
    let room : 1 + length packet ≤ length (set slot 0 1) = omega (arith, length-set slot 0 1 ∙ long) in
    let same : put_mid 1 (1 + length packet - 1) (set slot 0 1) packet ≡ filled
    = stands_back (set slot 0 1) 1 (length packet) packet packet refl refl room ∙ sym (rw first_is at put) in
    let whole : length (put_mid 1 (1 + length packet - 1) (set slot 0 1) packet) ≡ end
    = ap length same ∙ length_put_in packet slot filled first long put ∙ sym end_is in
    rw (place_is, ← same, ← whole) (written_in_turn packet slot packet zeros short long refl)

-- a slot with a byte 1, m bytes, and zeros holds these m bytes
pub slot_holds : (slot : List ℕ) (m : ℕ) → get_or slot 0 0 ≡ 1 → length slot ≡ slot_size → rest_zero slot (1 + m) ≡ true → slot ≡ slot_of (take m (drop 1 slot))
unfolding slot_of
slot_holds [] m first long rest = absurd (omega arith)
slot_holds (x ∷ t) m first long rest =
    let tail : length t ≡ slot_size - 1 = omega arith in
    ap₂ (λ (a : ℕ) (l : List ℕ). a ∷ l) first
    (zeros_to_the_end t m (rw one-add at rest) ∙ ap (λ (n : ℕ). take m t ++ replicate (n - length (take m t)) 0) tail)
