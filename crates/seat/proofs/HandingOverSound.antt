-- Handing over keeps a state sound, and its arrays 16 counts or words each.
use Prim.Native.Nat.{ℕ, ◌+◌, ◌-◌, ◌≤◌, ◌<◌}
use mathlib.Core.Path.{◌≡◌, ap, ◌∙◌}
use mathlib.Core.Bool.{true, false}
use mathlib.Core.List.{List}
use native.Mathlib.Decide.{ℕ_discrete, dec_lt}
use native.Mathlib.Omega.{arith}
use borrow.Author.Tests.{not-false}
use lib.ListN.{get_or, length-set, get_or-eq_default}
use Rattle.vectors.specs.Vectors.{entry, zero_above, maxes, Counts}
use Rattle.vectors.proofs.Tests.{within_at, zero_above_at, length_maxes, maxes_at}
use Rattle.window.specs.Window.{handed_over, sound_window, SoundWindow}
use Rattle.window.specs.declared.Window.{Window}
use Rattle.window.proofs.Handed as handed
use Rattle.window.proofs.Sound as window
use Rattle.packet.specs.declared.Kind.{Kind}
use Rattle.packet.specs.declared.Kind.TheVariants.{Ordinary, Causal}
use Rattle.packet.specs.declared.Heading.{Heading}
use Rattle.seat.specs.State.{window_at, sound_state, SoundState, Held}
use Rattle.seat.specs.HandingOver.{raised_by, hand_over, barrier_above_past, Due}
use Rattle.seat.specs.declared.Seat.{Seat}
use Rattle.seat.proofs.Sound.{sound_says, sound_passes, sound_marks_no_higher}
use Rattle.seat.proofs.HandedOver.{senders_window_takes_the_number, other_windows_stay}

-- An edit that a sound state can hand over: from one of its seats, new and within the sender's window, and barrier
-- stays within past.
pub record CanHandOver (seat : Seat) (heading : Heading) (past barrier : List ℕ) : Type 0 where
  pub sound : sound_state seat ≡ true
  pub held : Held seat
  pub sender_low : 1 ≤ heading.sender.0
  pub sender_high : heading.sender.0 ≤ seat.n
  pub past_counts : Counts past
  pub barrier_counts : Counts barrier
  pub past_zero : zero_above seat.n past ≡ true
  pub barrier_zero : zero_above seat.n barrier ≡ true
  pub new : entry seat.run heading.sender < entry past heading.sender
  pub near : entry past heading.sender ≤ entry seat.run heading.sender + 64
  pub barrier_stays : barrier_above_past seat heading past barrier ≡ false

-- what raises barrier is one of the packet's two vectors
raised_is_one : (P : List ℕ → Type 0) (kind : Kind) (past barrier : List ℕ) → P past → P barrier → P (raised_by kind past barrier)
raised_is_one P Ordinary past barrier p b = b
raised_is_one P Causal past barrier p b = p

maxes_fit : (v w : List ℕ) → ((k : ℕ) → get_or v k 0 < 65536) → ((k : ℕ) → get_or w k 0 < 65536) → (k : ℕ) → get_or (maxes v w) k 0 < 65536
maxes_fit v w v-fits w_Fits k =
    elim (dec_lt k 16) [
      | yes inside ↦ omega (arith, maxes_at v w k inside, v-fits k, w_Fits k)
      | no above ↦ omega (arith, get_or-eq_default (maxes v w) 0 {n = k} (omega (arith, length_maxes v w)))
    ]

maxes_zero : (v w : List ℕ) (k : ℕ) → k < 16 → get_or v k 0 ≡ 0 → get_or w k 0 ≡ 0 → get_or (maxes v w) k 0 ≡ 0
maxes_zero v w k inside v-zero w-zero = omega (arith, maxes_at v w k inside)

module _ (seat : Seat) (heading : Heading) (past barrier : List ℕ) (can : CanHandOver seat heading past barrier) where
  abbrev at : ℕ
  at = heading.sender.0 - 1

  abbrev next : Seat
  next = hand_over seat heading past barrier

  abbrev raised : List ℕ
  raised = raised_by heading.kind past barrier

  was : SoundState seat
  was = sound_says seat can.sound

  sender_in_array : heading.sender.0 ≤ 16
  sender_in_array = let s = was in omega (arith, can.sender_high)

  -- what handing over takes for granted
  pub can_hand_over_is_due : Due seat heading past
  can_hand_over_is_due =
      let low = can.sender_low in
      let high = sender_in_array in
      record {
        sender_low = low;
        sender_high = high;
        new = can.new;
        near = can.near;
        marks_low = sound_marks_no_higher seat can.sound can.held at (omega arith);
      }

  at_sender : window_at next at ≡ handed_over (window_at seat at) (entry past heading.sender)
  at_sender = senders_window_takes_the_number seat heading past barrier can.held can.sender_low sender_in_array

  elsewhere : (k : ℕ) → (k ≡ at → ⊥) → window_at next k ≡ window_at seat k
  elsewhere = other_windows_stay seat heading past barrier

  was_sound_at : (k : ℕ) → k < 16 → sound_window (get_or seat.past k 0) (window_at seat k) ≡ true
  was_sound_at k h = window.sound_passes (get_or seat.past k 0) (window_at seat k) (was.windows k h)

  -- the raised past, at an index
  top : (k : ℕ) → k < 16 → (get_or seat.past k 0 ≤ get_or (maxes seat.past past) k 0) × (get_or past k 0 ≤ get_or (maxes seat.past past) k 0)
  top k h = (omega (arith, maxes_at seat.past past k h), omega (arith, maxes_at seat.past past k h))

  sound_at_sender : sound_window (get_or (maxes seat.past past) at 0) (handed_over (window_at seat at) (entry past heading.sender)) ≡ true
  sound_at_sender =
      let s = was in
      let in_array = sender_in_array in
      let low = can.sender_low in
      let inside : at < 16 = omega arith in
      window.handing_over_keeps_sound (get_or seat.past at 0) (get_or (maxes seat.past past) at 0) (window_at seat at) (entry past heading.sender)
      (was_sound_at at inside) can.new can.near (can.held.ahead_fits at) (top at inside).0 (top at inside).1

  windows_after : (k : ℕ) → k < 16 → SoundWindow (get_or (maxes seat.past past) k 0) (window_at next k)
  windows_after k h =
      elim (ℕ_discrete k at) [
        | yes here ↦ rw (here, at_sender) (window.sound_says _ _ sound_at_sender)
        | no other ↦ rw (elsewhere k other)
            (window.sound_says _ _ (window.sound_grows (get_or seat.past k 0) (get_or (maxes seat.past past) k 0) (window_at seat k) (was_sound_at k h) (top k h).0))
      ]

  -- above n nothing is handed over
  above_is_not_sender : (k : ℕ) → seat.n ≤ k → k ≡ at → ⊥
  above_is_not_sender k h e = omega (arith, can.sender_low, can.sender_high)

  past_zero_at : (k : ℕ) → seat.n ≤ k → k < 16 → get_or past k 0 ≡ 0
  past_zero_at = zero_above_at seat.n past can.past_zero

  raised_zero : zero_above seat.n raised ≡ true
  raised_zero = raised_is_one (λ (v : List ℕ). zero_above seat.n v ≡ true) heading.kind past barrier can.past_zero can.barrier_zero

  pub handing_over_keeps_sound : sound_state (hand_over seat heading past barrier) ≡ true
  unfolding hand_over
  handing_over_keeps_sound =
      let s = was in
      sound_passes next
      (record {
        seats_low = s.seats_low;
        seats_high = s.seats_high;
        own_low = s.own_low;
        own_high = s.own_high;
        past_above = λ k h b. maxes_zero seat.past past k b (s.past_above k h b) (past_zero_at k h b);
        barrier_above = λ k h b. maxes_zero seat.barrier raised k b (s.barrier_above k h b) (zero_above_at seat.n raised raised_zero k h b);
        run_above = λ k h b. ap (λ (w : Window). w.run) (elsewhere k (above_is_not_sender k h)) ∙ s.run_above k h b;
        ahead_above = λ k h b. ap (λ (w : Window). w.ahead) (elsewhere k (above_is_not_sender k h)) ∙ s.ahead_above k h b;
        barrier_within = within_at (maxes seat.barrier raised) (maxes seat.past past) (not-false _ can.barrier_stays);
        windows = windows_after;
      })

  run_fits_after : (k : ℕ) → get_or next.run k 0 < 65536
  run_fits_after k =
      elim (ℕ_discrete k at) [
        | yes here ↦ let sound = window.sound_says _ _ sound_at_sender in
            rw here
            (omega
            (arith, ap (λ (w : Window). w.run) at_sender, sound.run_within, maxes_fit seat.past past can.held.past_fits can.past_counts.fits at))
        | no other ↦ omega (arith, ap (λ (w : Window). w.run) (elsewhere k other), can.held.run_fits k)
      ]

  ahead_fits_after : (k : ℕ) → get_or next.ahead k 0 < 18446744073709551616
  ahead_fits_after k =
      elim (ℕ_discrete k at) [
        | yes here ↦ rw (here, ap (λ (w : Window). w.ahead) at_sender)
            (handed.handed_over_fits (window_at seat at) (entry past heading.sender) can.near (can.held.ahead_fits at))
        | no other ↦ rw (ap (λ (w : Window). w.ahead) (elsewhere k other)) (can.held.ahead_fits k)
      ]

  pub handing_over_keeps_held : Held (hand_over seat heading past barrier)
  unfolding hand_over
  handing_over_keeps_held =
      let held = can.held in
      record {
        past_long = length_maxes seat.past past;
        barrier_long = length_maxes seat.barrier raised;
        run_long = length-set seat.run at _ ∙ held.run_long;
        ahead_long = length-set seat.ahead at _ ∙ held.ahead_long;
        past_fits = maxes_fit seat.past past held.past_fits can.past_counts.fits;
        barrier_fits = maxes_fit seat.barrier raised held.barrier_fits
            (raised_is_one (λ (v : List ℕ). (k : ℕ) → get_or v k 0 < 65536) heading.kind past barrier can.past_counts.fits can.barrier_counts.fits);
        run_fits = run_fits_after;
        ahead_fits = ahead_fits_after;
      }
