-- A packet that would pass refusals 14 to 18 can be handed over where barrier stays within past, and would still pass
-- after a send, and after another edit was handed over.
use Prim.Native.Nat.{ℕ, ◌-◌, ◌≤◌}
use mathlib.Core.Path.{◌≡◌, sym, subst, ◌∙◌}
use mathlib.Core.Bool.{true, false}
use mathlib.Core.List.{List}
use native.Mathlib.Decide.{ℕ_discrete}
use native.Mathlib.Omega.{arith}
use borrow.Author.Tests.{ne_eqb}
use Rattle.vectors.specs.Vectors.{entry, zero_above}
use Rattle.window.specs.Window.{handed}
use Rattle.window.proofs.Handed.{not_handed_is_above_run, handing_over_adds_one}
use Rattle.packet.specs.Packet.{sender_of, past_of, barrier_of}
use Rattle.packet.specs.declared.Kind.{Kind}
use Rattle.packet.specs.declared.Heading.{Heading}
use Rattle.packet.proofs.Told.{told_of}
use Rattle.seat.specs.State.{window_at, window_of, sound_state, Held}
use Rattle.seat.specs.Stock.{number_of, Passing}
use Rattle.seat.specs.HandingOver.{hand_over, barrier_above_past}
use Rattle.seat.specs.Sending.{sent_seat}
use Rattle.seat.specs.Arriving.{heading_of}
use Rattle.seat.specs.declared.Seat.{Seat}
use Rattle.seat.proofs.Sound.{sound_says}
use Rattle.seat.proofs.Sent.{no_count_falls}
use Rattle.seat.proofs.HandedOver.{handing_over_keeps_seats, handing_over_keeps_own, past_does_not_fall, run_does_not_fall, other_windows_stay, senders_window_takes_the_number}
use Rattle.seat.proofs.HandingOverSound.{CanHandOver}
use Rattle.seat.proofs.CarriedCounts.{CarriesCounts}

module _ (seat : Seat) (sound : sound_state seat ≡ true) (held : Held seat) where
  pub passing_can_be_handed_over : (packet : List ℕ) → Passing seat packet → CarriesCounts packet
      → barrier_above_past seat (heading_of packet) (past_of packet) (barrier_of packet) ≡ false
      → CanHandOver seat (heading_of packet) (past_of packet) (barrier_of packet)
  passing_can_be_handed_over packet passing counts stays =
      let told = told_of packet passing.is_well_formed in
      record {
        sound = sound;
        held = held;
        sender_low = told.sender_low;
        sender_high = rw passing.same_session at told.sender_high;
        past_counts = counts.past;
        barrier_counts = counts.barrier;
        past_zero = subst (λ (n : ℕ). zero_above n (past_of packet) ≡ true) passing.same_session told.past_zero;
        barrier_zero = subst (λ (n : ℕ). zero_above n (barrier_of packet) ≡ true) passing.same_session told.barrier_zero;
        new = not_handed_is_above_run (window_of seat (sender_of packet)) (number_of packet) passing.not_handed;
        near = passing.near;
        barrier_stays = stays;
      }

  pub passing_stays_after_sending : (kind : Kind) (packet : List ℕ) → Passing seat packet → Passing (sent_seat seat kind) packet
  unfolding sent_seat
  passing_stays_after_sending kind packet passing =
      record {
        is_well_formed = passing.is_well_formed;
        same_session = passing.same_session;
        within_own_count = omega (arith, passing.within_own_count, no_count_falls seat sound held (seat.own.0 - 1));
        not_handed = passing.not_handed;
        near = passing.near;
      }

module _ (seat : Seat) (heading : Heading) (past barrier : List ℕ) (can : CanHandOver seat heading past barrier) where
  abbrev next : Seat
  next = hand_over seat heading past barrier

  sender_in_array : heading.sender.0 ≤ 16
  sender_in_array = let s = sound_says seat can.sound in omega (arith, can.sender_high)

  pub another_edit_is_not_handed : (sender number : ℕ) → 1 ≤ sender → handed (window_at seat (sender - 1)) number ≡ false
      → (sender ≡ heading.sender.0 → number ≡ entry past heading.sender → ⊥) → handed (window_at next (sender - 1)) number ≡ false
  another_edit_is_not_handed sender number low not_handed other =
      elim (ℕ_discrete sender heading.sender.0) [
        | yes here ↦
            let at = heading.sender.0 - 1 in
            let was : handed (window_at seat at) number ≡ false = rw here at not_handed in
            rw (here, senders_window_takes_the_number seat heading past barrier can.held can.sender_low sender_in_array)
            (handing_over_adds_one (window_at seat at) (entry past heading.sender) number can.new ∙ rw (was, ne_eqb number (entry past heading.sender) (other here)))
        | no away ↦ rw (other_windows_stay seat heading past barrier (sender - 1) (λ e. away (omega (arith, can.sender_low)))) not_handed
      ]

  pub passing_stays_after_handing_over : (packet : List ℕ) → Passing seat packet
      → ((sender_of packet).0 ≡ heading.sender.0 → number_of packet ≡ entry past heading.sender → ⊥) → Passing next packet
  passing_stays_after_handing_over packet passing other =
      record {
        is_well_formed = passing.is_well_formed;
        same_session = passing.same_session ∙ sym (handing_over_keeps_seats seat heading past barrier);
        within_own_count = rw (handing_over_keeps_own seat heading past barrier)
            (omega (arith, passing.within_own_count, past_does_not_fall seat heading past barrier can.held (seat.own.0 - 1)));
        not_handed = another_edit_is_not_handed (sender_of packet).0 (number_of packet) (omega arith) passing.not_handed other;
        near = omega (arith, passing.near, run_does_not_fall seat heading past barrier can.held can.sender_low sender_in_array ((sender_of packet).0 - 1));
      }
