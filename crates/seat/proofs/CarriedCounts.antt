-- The vectors that a packet of bytes carries are counts, also where it stands on a shelf of bytes.
use Prim.Native.Nat.{ℕ, ◌+◌, ◌*◌, ◌<◌}
use mathlib.Core.Bool.{Bool, true, false, cond}
use mathlib.Core.List.{List, []}
use native.Mathlib.Decide.{dec_lt}
use native.Mathlib.Omega.{arith}
use lib.ListN.{get_or, take, drop, length-take, get_or-eq_default}
use lib.Seq.{get_or-take, get_or-drop}
use Rattle.vectors.specs.Vectors.{vector, Counts}
use Rattle.vectors.specs.Bytes.{number_at, Bytes}
use Rattle.vectors.proofs.Numbers.{two_bytes}
use Rattle.vectors.proofs.Vector.{length_vector, vector_below, vector_above}
use Rattle.packet.specs.Packet.{seats_of, past_of, barrier_of}
use Rattle.shelf.specs.Shelf.{slot_size, slot_at}
use Rattle.seat.specs.Stock.{named_length, holds_packet, packet_in, packet_at}

-- Both vectors of the packet are counts.
pub record CarriesCounts (packet : List ℕ) : Type 0 where
  pub past : Counts (past_of packet)
  pub barrier : Counts (barrier_of packet)

vector_is_counts : (n : ℕ) (f : ℕ → ℕ) → ((k : ℕ) → f k < 65536) → Counts (vector n f)
vector_is_counts n f fits = record { long = length_vector n f; fits = each }
  where
    each : (k : ℕ) → get_or (vector n f) k 0 < 65536
    each k =
        elim (dec_lt k 16) [
          | yes inside ↦ elim (dec_lt k n) [
            | yes below ↦ omega (arith, vector_below n f k below inside, fits k)
            | no above ↦ omega (arith, vector_above n f k (omega arith) inside)
          ]
          | no outside ↦ omega (arith, get_or-eq_default (vector n f) 0 {n = k} (omega (arith, length_vector n f)))
        ]

number_fits : (s : List ℕ) → Bytes s → (i : ℕ) → number_at 2 s i < 65536
unfolding Bytes
number_fits s bytes i = omega (arith, two_bytes s i, bytes i, bytes (i + 1))

pub bytes_carry_counts : (packet : List ℕ) → Bytes packet → CarriesCounts packet
bytes_carry_counts packet bytes =
    record {
      past = vector_is_counts (seats_of packet) _ (λ k. number_fits packet bytes _);
      barrier = vector_is_counts (seats_of packet) _ (λ k. number_fits packet bytes _);
    }

-- ---- on a shelf

part_is_bytes : (s : List ℕ) → Bytes s → (n from : ℕ) → Bytes (take n (drop from s))
unfolding Bytes
part_is_bytes s bytes n from k =
    elim (dec_lt k n) [
      | yes inside ↦ omega (arith, get_or-take n (drop from s) k 0 inside, get_or-drop from s k 0, bytes (from + k))
      | no outside ↦ omega (arith, get_or-eq_default (take n (drop from s)) 0 {n = k} (omega (arith, length-take n (drop from s))))
    ]

either_is_bytes : (one other : List ℕ) (test : Bool) → Bytes one → Bytes other → Bytes (cond test one other)
either_is_bytes one other true a b = a
either_is_bytes one other false a b = b

nothing_is_bytes : Bytes []
unfolding Bytes
nothing_is_bytes k = omega (arith, get_or-eq_default {A = ℕ} [] 0 {n = k} (omega arith))

packet_is_bytes : (slot : List ℕ) → Bytes slot → Bytes (packet_in slot)
unfolding packet_in
packet_is_bytes slot bytes =
    either_is_bytes (take (named_length (drop 1 slot)) (drop 1 slot)) [] (holds_packet slot) (part_is_bytes slot bytes (named_length (drop 1 slot)) 1) nothing_is_bytes

slot_is_bytes : (shelf : List ℕ) → Bytes shelf → (i : ℕ) → Bytes (slot_at shelf i)
unfolding slot_at
slot_is_bytes shelf bytes i = part_is_bytes shelf bytes slot_size (slot_size * i)

pub shelf_of_bytes_carries_counts : (shelf : List ℕ) → Bytes shelf → (i : ℕ) → CarriesCounts (packet_at shelf i)
shelf_of_bytes_carries_counts shelf bytes i = bytes_carry_counts (packet_at shelf i) (packet_is_bytes (slot_at shelf i) (slot_is_bytes shelf bytes i))
