-- Soundness of a state: the test says the plain facts, and the other way round. Past alone need be tested for zeros
-- above n.
use Prim.Native.Nat.{ℕ, zero, suc, ◌^◌, ◌≤◌, ◌<◌}
use mathlib.Core.Path.{◌≡◌, refl, sym, ◌∙◌}
use mathlib.Core.Bool.{Bool, true, false, ◌&&◌, true≢false}
use mathlib.Core.Logic.{⊎_elim}
use native.Mathlib.Decide.{dec_lt}
use native.Mathlib.Omega.{arith}
use lib.ListN.{get_or}
use Rattle.std.proofs.lemmas.Bool.{and_parts, cases_Bool}
use Rattle.vectors.specs.Vectors.{zero_above, within}
use Rattle.vectors.proofs.Every.{all_at, all_of}
use Rattle.vectors.proofs.Tests.{within_at, within_of, zero_above_at, zero_above_of}
use Rattle.window.specs.Window.{bit, none_above, SoundWindow}
use Rattle.window.specs.declared.Window.{Window}
use Rattle.window.proofs.Bits.{bit_none, highest_is_set}
use Rattle.window.proofs.Sound as window
use Rattle.packet.specs.Writing.{in_range}
use Rattle.packet.proofs.Writable.{is_in_range, range_holds}
use Rattle.seat.specs.State.{header_of, window_at, clear_above, sound_windows, sound_state, SoundState, Held}
use Rattle.seat.specs.declared.Seat.{Seat}

module _ (seat : Seat) where
  -- ---- the windows

  windows_say : sound_windows seat ≡ true → (k : ℕ) → k < 16 → SoundWindow (get_or seat.past k 0) (window_at seat k)
  unfolding sound_windows
  windows_say e k h = window.sound_says (get_or seat.past k 0) (window_at seat k) (all_at _ 16 k e h)

  windows_pass : ((k : ℕ) → k < 16 → SoundWindow (get_or seat.past k 0) (window_at seat k)) → sound_windows seat ≡ true
  unfolding sound_windows
  windows_pass each = all_of _ 16 (λ k h. window.sound_passes (get_or seat.past k 0) (window_at seat k) (each k h))

  -- ---- the test and the facts

  pub sound_says : sound_state seat ≡ true → SoundState seat
  unfolding sound_state clear_above
  sound_says e =
      let abc = and_parts (in_range (header_of seat) && clear_above seat && within seat.barrier seat.past) (sound_windows seat) e in
      let ab = and_parts (in_range (header_of seat) && clear_above seat) (within seat.barrier seat.past) abc.0 in
      let a = and_parts (in_range (header_of seat)) (clear_above seat) ab.0 in
      let n = seat.n in
      let pbr = and_parts (zero_above n seat.past && zero_above n seat.barrier && zero_above n seat.run) (zero_above n seat.ahead) a.1 in
      let pb = and_parts (zero_above n seat.past && zero_above n seat.barrier) (zero_above n seat.run) pbr.0 in
      let p = and_parts (zero_above n seat.past) (zero_above n seat.barrier) pb.0 in
      let range = is_in_range (header_of seat) a.0 in
      record {
        seats_low = range.seats_low;
        seats_high = range.seats_high;
        own_low = range.sender_low;
        own_high = range.sender_high;
        past_above = zero_above_at n seat.past p.0;
        barrier_above = zero_above_at n seat.barrier p.1;
        run_above = zero_above_at n seat.run pb.1;
        ahead_above = zero_above_at n seat.ahead pbr.1;
        barrier_within = within_at seat.barrier seat.past ab.1;
        windows = windows_say abc.1;
      }

  range_of : SoundState seat → in_range (header_of seat) ≡ true
  range_of sound =
      range_holds (header_of seat) (record { seats_low = sound.seats_low; seats_high = sound.seats_high; sender_low = sound.own_low; sender_high = sound.own_high })

  pub sound_passes : SoundState seat → sound_state seat ≡ true
  unfolding sound_state clear_above
  sound_passes sound =
      let n = seat.n in
      rw (
        range_of sound,
        zero_above_of n seat.past sound.past_above,
        zero_above_of n seat.barrier sound.barrier_above,
        zero_above_of n seat.run sound.run_above,
        zero_above_of n seat.ahead sound.ahead_above,
        within_of seat.barrier seat.past sound.barrier_within,
        windows_pass sound.windows,
      )

  -- ---- n and own number

  pub sound_is_in_range : sound_state seat ≡ true → in_range (header_of seat) ≡ true
  sound_is_in_range e = range_of (sound_says e)

  pub out_of_range_is_not_sound : in_range (header_of seat) ≡ false → sound_state seat ≡ false
  unfolding sound_state
  out_of_range_is_not_sound e = rw e

-- ---- no number above 65,535 is marked

pub sound_marks_no_higher : (seat : Seat) → sound_state seat ≡ true → Held seat → (k : ℕ) → k < 16 → none_above 65535 (window_at seat k) ≡ true
sound_marks_no_higher seat sound held k inside =
    window.sound_has_none_above (get_or seat.past k 0) 65535 (window_at seat k)
    (window.sound_passes (get_or seat.past k 0) (window_at seat k) ((sound_says seat sound).windows k inside)) (omega (arith, held.past_fits k))

-- ---- past alone is tested for zeros above n

word_of_clear_bits : (k word : ℕ) → word < 2 ^ k → ((b : ℕ) → b < k → bit word b ≡ false) → word ≡ 0
word_of_clear_bits zero word fits clear = omega arith
word_of_clear_bits (suc k) word fits clear =
    elim (dec_lt word (2 ^ k)) [
      | yes less ↦ word_of_clear_bits k word less (λ b h. clear b (omega arith))
      | no more ↦ absurd (true≢false (sym (highest_is_set word k (omega arith) fits) ∙ clear k (omega arith)))
    ]

-- beside a past of 0 a window is empty
window_beside_no_past : (past : ℕ) (w : Window) → past ≡ 0 → SoundWindow past w → w.ahead < 2 ^ 64 → (w.run ≡ 0) × (w.ahead ≡ 0)
window_beside_no_past past w none sound fits = (
  omega (arith, sound.run_within),
  word_of_clear_bits 64 w.ahead fits
      (λ b h.
      ⊎_elim (λ (set : bit w.ahead b ≡ true). absurd (omega (arith, sound.marks_within b h set))) (λ (clear : bit w.ahead b ≡ false). clear)
      (cases_Bool (bit w.ahead b))),
)

same_test : (a b : Bool) → (a ≡ true → b ≡ true) → (b ≡ true → a ≡ true) → a ≡ b
same_test true b there back = sym (there refl)
same_test false true there back = back refl
same_test false false there back = refl

-- where no number is marked, the windows are sound when run is within past
pub sound_without_marks : (seat : Seat) → zero_above 0 seat.ahead ≡ true → within seat.run seat.past ≡ sound_windows seat
sound_without_marks seat none = same_test (within seat.run seat.past) (sound_windows seat) there back
  where
    clear : (k : ℕ) → k < 16 → (b : ℕ) → bit (get_or seat.ahead k 0) b ≡ false
    clear k h b = rw (zero_above_at 0 seat.ahead none k (omega arith) h) (bit_none b)

    there : within seat.run seat.past ≡ true → sound_windows seat ≡ true
    there e =
        windows_pass seat
        (λ k h.
        record {
          next_clear = clear k h 0;
          run_within = within_at seat.run seat.past e k h;
          marks_within = λ b i set. absurd (true≢false (sym set ∙ clear k h b));
        })

    back : sound_windows seat ≡ true → within seat.run seat.past ≡ true
    back e = within_of seat.run seat.past (λ k h. (windows_say seat e k h).run_within)

module _ (seat : Seat) (words : (k : ℕ) → get_or seat.ahead k 0 < 18446744073709551616) (range : in_range (header_of seat) ≡ true) where
  past_alone_says : (zero_above seat.n seat.past && within seat.barrier seat.past && sound_windows seat) ≡ true → sound_state seat ≡ true
  past_alone_says e =
      let ab = and_parts (zero_above seat.n seat.past && within seat.barrier seat.past) (sound_windows seat) e in
      let a = and_parts (zero_above seat.n seat.past) (within seat.barrier seat.past) ab.0 in
      let in-it = is_in_range (header_of seat) range in
      let past_zero = zero_above_at seat.n seat.past a.0 in
      let ordered = within_at seat.barrier seat.past a.1 in
      let windows = windows_say seat ab.1 in
      let empty : (k : ℕ) → seat.n ≤ k → k < 16 → (get_or seat.run k 0 ≡ 0) × (get_or seat.ahead k 0 ≡ 0) =
      λ k h b. window_beside_no_past (get_or seat.past k 0) (window_at seat k) (past_zero k h b) (windows k b) (words k) in
      sound_passes seat
      (record {
        seats_low = in-it.seats_low;
        seats_high = in-it.seats_high;
        own_low = in-it.sender_low;
        own_high = in-it.sender_high;
        past_above = past_zero;
        barrier_above = λ k h b. omega (arith, ordered k b, past_zero k h b);
        run_above = λ k h b. (empty k h b).0;
        ahead_above = λ k h b. (empty k h b).1;
        barrier_within = ordered;
        windows = windows;
      })

  past_alone_passes : sound_state seat ≡ true → (zero_above seat.n seat.past && within seat.barrier seat.past && sound_windows seat) ≡ true
  past_alone_passes e =
      let sound = sound_says seat e in
      rw (
        zero_above_of seat.n seat.past sound.past_above,
        within_of seat.barrier seat.past sound.barrier_within,
        windows_pass seat sound.windows,
      )

  pub past_alone_is_tested : (zero_above seat.n seat.past && within seat.barrier seat.past && sound_windows seat) ≡ sound_state seat
  past_alone_is_tested = same_test _ (sound_state seat) past_alone_says past_alone_passes
