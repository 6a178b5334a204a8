-- Line 5's test on run is the theory's readiness: every edit that the packet's barrier covers is handed over here.
use Prim.Native.Nat.{ℕ, zero, suc, ◌-◌, ◌≤◌, ◌<◌}
use mathlib.Core.Path.{◌≡◌}
use mathlib.Core.Bool.{true}
use mathlib.Core.List.{List}
use native.Mathlib.Decide.{dec_lt}
use native.Mathlib.Omega.{arith}
use lib.ListN.{get_or}
use borrow.Author.Tests.{leb-true}
use Rattle.vectors.proofs.Tests.{within_at, within_of}
use Rattle.vectors.proofs.Vector.{length_vector}
use Rattle.window.specs.Window.{handed}
use Rattle.window.proofs.Handed.{up_to_run_is_handed, run_test_is_set_test}
use Rattle.packet.specs.Packet.{barrier_of}
use Rattle.seat.specs.State.{window_at, sound_state}
use Rattle.seat.specs.HandingOver.{ready}
use Rattle.seat.proofs.Sound.{sound_says}
use Rattle.session.specs.Protocol.{Ready}
use Rattle.promises.specs.Demand3.{Place}
use Rattle.promises.proofs.Model.{model, count_of, MarkedAt, no_count_beyond}

module _ (place : Place) (packet : List ℕ) where
  covered_is_marked : ready place.seat (barrier_of packet) ≡ true → (by number : ℕ) → 1 ≤ number → number ≤ count_of (barrier_of packet) by
      → MarkedAt place (record { by = by; number = number })
  covered_is_marked is zero number low high = absurd (omega arith)
  covered_is_marked is (suc k) number low high =
      let same : suc k - 1 ≡ k = omega arith in
      elim (dec_lt k 16) [
        | yes inside ↦ record {
          by_low = omega arith;
          number_low = low;
          is = rw same
              (up_to_run_is_handed (window_at place.seat k) number (omega (arith, within_at (barrier_of packet) place.seat.run is k inside)));
        }
        | no beyond ↦ absurd (omega (arith, no_count_beyond (barrier_of packet) (length_vector _ _) k beyond))
      ]

  pub test_says_ready : ready place.seat (barrier_of packet) ≡ true → Ready model place packet
  test_says_ready is e (low, high) = covered_is_marked is e.by e.number low high

  pub ready_passes_test : sound_state place.seat ≡ true → Ready model place packet → ready place.seat (barrier_of packet) ≡ true
  ready_passes_test sound is = within_of (barrier_of packet) place.seat.run each
    where
      handed_here : (k number : ℕ) → 1 ≤ number → number ≤ get_or (barrier_of packet) k 0 → handed (window_at place.seat k) number ≡ true
      handed_here k number low high =
          let same : suc k - 1 ≡ k = omega arith in
          rw same at (is (record { by = suc k; number = number }) (low, high)).is

      each : (k : ℕ) → k < 16 → get_or (barrier_of packet) k 0 ≤ get_or place.seat.run k 0
      each k inside =
          let window = window_at place.seat k in
          let barrier = get_or (barrier_of packet) k 0 in
          leb-true barrier window.run
          ((run_test_is_set_test window barrier ((sound_says place.seat sound).windows k inside).next_clear).1 (handed_here k))
