-- Sending keeps a state sound, and its arrays 16 counts or words each.
use Prim.Native.Nat.{ℕ, ◌≤◌, ◌<◌}
use mathlib.Core.Path.{◌≡◌}
use mathlib.Core.Bool.{true}
use native.Mathlib.Omega.{arith}
use lib.ListN.{get_or}
use Rattle.vectors.specs.Vectors.{Counts}
use Rattle.window.specs.Window.{SoundWindow}
use Rattle.window.proofs.Sound as window
use Rattle.packet.specs.declared.Kind.{Kind}
use Rattle.packet.specs.declared.Kind.TheVariants.{Ordinary, Causal}
use Rattle.seat.specs.State.{own_count, window_at, sound_state, SoundState, Held}
use Rattle.seat.specs.Sending.{past_sent, barrier_after, sent_seat}
use Rattle.seat.specs.declared.Seat.{Seat}
use Rattle.seat.proofs.Sound.{sound_says, sound_passes}
use Rattle.seat.proofs.Sent.{no_count_falls, past_sent_is_zero_above, past_sent_is_counts}

module _ (seat : Seat) (sound : sound_state seat ≡ true) (held : Held seat) where
  was : SoundState seat
  was = sound_says seat sound

  barrier_above : (kind : Kind) (k : ℕ) → seat.n ≤ k → k < 16 → get_or (barrier_after seat kind) k 0 ≡ 0
  barrier_above Ordinary = was.barrier_above
  barrier_above Causal = past_sent_is_zero_above seat sound held

  barrier_within : (kind : Kind) (k : ℕ) → k < 16 → get_or (barrier_after seat kind) k 0 ≤ get_or (past_sent seat) k 0
  barrier_within Ordinary k b = omega (arith, was.barrier_within k b, no_count_falls seat sound held k)
  barrier_within Causal k b = omega arith

  windows : (k : ℕ) → k < 16 → SoundWindow (get_or (past_sent seat) k 0) (window_at seat k)
  windows k b =
      window.sound_says (get_or (past_sent seat) k 0) (window_at seat k)
      (window.sound_grows (get_or seat.past k 0) (get_or (past_sent seat) k 0) (window_at seat k)
      (window.sound_passes (get_or seat.past k 0) (window_at seat k) (was.windows k b)) (no_count_falls seat sound held k))

  pub sending_keeps_sound : (kind : Kind) → sound_state (sent_seat seat kind) ≡ true
  unfolding sent_seat
  sending_keeps_sound kind =
      let s = was in
      sound_passes (sent_seat seat kind)
      (record {
        seats_low = s.seats_low;
        seats_high = s.seats_high;
        own_low = s.own_low;
        own_high = s.own_high;
        past_above = past_sent_is_zero_above seat sound held;
        barrier_above = barrier_above kind;
        run_above = s.run_above;
        ahead_above = s.ahead_above;
        barrier_within = barrier_within kind;
        windows = windows;
      })

  module _ (not_full : own_count seat < 65535) where
    barrier_counts : (kind : Kind) → Counts (barrier_after seat kind)
    barrier_counts Ordinary = record { long = held.barrier_long; fits = held.barrier_fits }
    barrier_counts Causal = past_sent_is_counts seat sound held not_full

    pub sending_keeps_held : (kind : Kind) → Held (sent_seat seat kind)
    unfolding sent_seat
    sending_keeps_held kind =
        let past = past_sent_is_counts seat sound held not_full in
        let barrier = barrier_counts kind in
        record {
          past_long = past.long;
          barrier_long = barrier.long;
          run_long = held.run_long;
          ahead_long = held.ahead_long;
          past_fits = past.fits;
          barrier_fits = barrier.fits;
          run_fits = held.run_fits;
          ahead_fits = held.ahead_fits;
        }
