-- A state with all counts zero is sound where n and own number are in range, and no seat is not.
use Prim.Native.Nat.{ℕ}
use mathlib.Core.Path.{◌≡◌, refl}
use mathlib.Core.Bool.{true, false}
use native.Mathlib.Decide.{dec_lt}
use native.Mathlib.Omega.{arith}
use lib.ListN.{get_or, get_or-replicate, get_or-eq_default}
use Rattle.answers.specs.declared.SeatNo.{SeatNo}
use Rattle.vectors.specs.Vectors.{zeros}
use Rattle.window.proofs.Sound as window
use Rattle.packet.specs.Writing.{in_range}
use Rattle.packet.proofs.Writable.{is_in_range}
use Rattle.seat.specs.State.{window_at, counting, no_seat, sound_state, Held}
use Rattle.seat.proofs.Sound.{sound_passes, out_of_range_is_not_sound}

pub zeros_at : (k : ℕ) → get_or zeros k 0 ≡ 0
zeros_at k =
    elim (dec_lt k 16) [
      | yes inside ↦ get_or-replicate 16 k 0 0 inside
      | no above ↦ get_or-eq_default zeros 0 {n = k} (omega arith)
    ]

pub counting_is_sound : (n : ℕ) (own : SeatNo) → in_range (record { n = n; sender = own }) ≡ true → sound_state (counting n own) ≡ true
counting_is_sound n own e =
    let range = is_in_range (record { n = n; sender = own }) e in
    sound_passes (counting n own)
    (record {
      seats_low = range.seats_low;
      seats_high = range.seats_high;
      own_low = range.sender_low;
      own_high = range.sender_high;
      past_above = λ k h b. zeros_at k;
      barrier_above = λ k h b. zeros_at k;
      run_above = λ k h b. zeros_at k;
      ahead_above = λ k h b. zeros_at k;
      barrier_within = λ k b. omega arith;
      windows = λ k b. window.sound_says (get_or zeros k 0) (window_at (counting n own) k) (rw (zeros_at k) (window.fresh_is_sound 0));
    })

pub counting_is_held : (n : ℕ) (own : SeatNo) → Held (counting n own)
counting_is_held n own =
    record {
      past_long = refl;
      barrier_long = refl;
      run_long = refl;
      ahead_long = refl;
      past_fits = λ k. omega (arith, zeros_at k);
      barrier_fits = λ k. omega (arith, zeros_at k);
      run_fits = λ k. omega (arith, zeros_at k);
      ahead_fits = λ k. omega (arith, zeros_at k);
    }

pub no_seat_is_not_sound : sound_state no_seat ≡ false
unfolding in_range
no_seat_is_not_sound = out_of_range_is_not_sound no_seat refl
