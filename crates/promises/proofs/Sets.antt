-- Line 5 on the sets of edits handed over is the test against run.
use Prim.Native.Nat.{ℕ, ◌+◌, ◌-◌, ◌≤◌, ◌<◌}
use mathlib.Core.Path.{◌≡◌}
use mathlib.Core.List.{List}
use native.Mathlib.Decide.{dec_lt}
use native.Mathlib.Omega.{arith}
use lib.ListN.{get_or}
use borrow.Author.Tests.{leb-true}
use Rattle.vectors.proofs.Vector.{vector_above}
use Rattle.window.proofs.Handed.{up_to_run_is_handed, run_test_is_set_test}
use Rattle.packet.specs.Packet.{seats_of, barrier_of}
use Rattle.seat.specs.State.{window_at, SoundState}
use Rattle.seat.specs.declared.Seat.{Seat}
use Rattle.promises.specs.Demand1.{SameSession, Ready}
use Rattle.promises.specs.Demand2.{Line5, controller_of, vector_of}

-- no packet waits for a seat above its n
zero_above_seats : (packet : List ℕ) (i : ℕ) → seats_of packet ≤ i → i < 16 → get_or (barrier_of packet) i 0 ≡ 0
zero_above_seats packet i above inside = vector_above (seats_of packet) _ i above inside

module _ (seat : Seat) (packet : List ℕ) (sound : SoundState seat) where
  pub ready_is_line_5 : Ready seat packet → Line5 seat.n (controller_of seat) (vector_of (barrier_of packet))
  ready_is_line_5 is_ready k low high t from to =
      let inside : k - 1 < 16 = omega (arith, sound.seats_high) in
      up_to_run_is_handed (window_at seat (k - 1)) t (omega (arith, is_ready (k - 1) inside))

  at_index : SameSession seat packet → Line5 seat.n (controller_of seat) (vector_of (barrier_of packet)) → (i : ℕ) → i < 16
      → (k : ℕ) → k ≡ i + 1 → i ≡ k - 1 → get_or (barrier_of packet) (k - 1) 0 ≤ get_or seat.run (k - 1) 0
  at_index same five i inside k is back =
      elim (dec_lt i seat.n) [
        | yes below ↦ leb-true _ _
            ((run_test_is_set_test (window_at seat (k - 1)) (get_or (barrier_of packet) (k - 1) 0) (sound.windows (k - 1) (omega arith)).next_clear).1
            (five k (omega arith) (omega arith)))
        | no above ↦ omega (arith, zero_above_seats packet (k - 1) (omega arith) (omega arith))
      ]

  pub line_5_is_ready : SameSession seat packet → Line5 seat.n (controller_of seat) (vector_of (barrier_of packet)) → Ready seat packet
  line_5_is_ready same five i inside =
      let back : i + 1 - 1 ≡ i = omega arith in
      rw back at (at_index same five i inside (i + 1) (omega arith) (omega arith))
