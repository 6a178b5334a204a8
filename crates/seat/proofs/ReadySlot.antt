-- A slot is ready exactly where it is in use and its packet is ready.
use Prim.Native.Nat.{ℕ}
use mathlib.Core.Path.{◌≡◌}
use mathlib.Core.Bool.{true, false, not}
use mathlib.Core.List.{List}
use Rattle.std.proofs.lemmas.Bool.{and_parts}
use Rattle.packet.specs.Packet.{barrier_of}
use Rattle.shelf.specs.Shelf.{is_free}
use Rattle.seat.specs.Stock.{packet_at}
use Rattle.seat.specs.HandingOver.{ready}
use Rattle.seat.specs.Releasing.{ready_at}
use Rattle.seat.specs.declared.Seat.{Seat}

module _ (seat : Seat) (shelf : List ℕ) (i : ℕ) where
  pub ready_slot_has_a_ready_packet : ready_at seat shelf i ≡ true → ready seat (barrier_of (packet_at shelf i)) ≡ true
  unfolding ready_at
  ready_slot_has_a_ready_packet is = (and_parts (not (is_free shelf i)) (ready seat (barrier_of (packet_at shelf i))) is).1

  pub ready_packet_makes_a_ready_slot : is_free shelf i ≡ false → ready seat (barrier_of (packet_at shelf i)) ≡ true → ready_at seat shelf i ≡ true
  unfolding ready_at
  ready_packet_makes_a_ready_slot used is = rw (used, is)
