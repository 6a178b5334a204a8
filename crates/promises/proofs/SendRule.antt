-- A send of a sound seat is the paper's sending rule.
use Prim.Native.Nat.{ℕ, ◌-◌, ◌≤◌, ◌<◌}
use mathlib.Core.Path.{◌≡◌, refl, sym, ap, ◌∙◌}
use mathlib.Core.Bool.{true}
use mathlib.Core.List.{List}
use native.Mathlib.Omega.{arith}
use lib.ListN.{length}
use Rattle.window.specs.Window.{handed}
use Rattle.window.specs.declared.Window.{Window}
use Rattle.packet.specs.Reading.{read_of, message}
use Rattle.packet.specs.Writing.{at_start}
use Rattle.packet.specs.declared.Kind.{Kind}
use Rattle.packet.specs.declared.Kind.TheVariants.{Ordinary, Causal}
use Rattle.packet.specs.declared.Reading.{Reading}
use Rattle.seat.specs.State.{header_of, own_count, sound_state, SoundState, Held}
use Rattle.seat.specs.Sending.{barrier_sent, past_sent, packet_sent, barrier_after, sent_seat}
use Rattle.seat.specs.declared.Seat.{Seat}
use Rattle.seat.proofs.Sound.{sound_passes}
use Rattle.seat.proofs.Sent.{sending_sets_past, sending_sets_barrier, sending_keeps_windows, other_counts_stay, own_count_rises}
use Rattle.seat.proofs.SentPacket.{sent_packet_reads_back, sent_packet_body_back}
use Rattle.promises.specs.Demand2.{controller_of, vector_of, SendingRule, SendDone}

module _ (seat : Seat) (facts : SoundState seat) (held : Held seat) (not_full : own_count seat ≡ 65535 → ⊥) (kind : Kind) (body : List ℕ)
    (short : length body ≤ 200) where
  abbrev packet : List ℕ
  packet = packet_sent seat kind body

  abbrev next : Seat
  next = sent_seat seat kind

  sound : sound_state seat ≡ true
  sound = sound_passes seat facts

  below : own_count seat < 65535
  below = omega (arith, held.past_fits (seat.own.0 - 1), not_full)

  reads : read_of packet ≡ message kind (header_of seat) (past_sent seat) (barrier_sent seat kind)
  reads = sent_packet_reads_back seat sound held below kind body short

  past_is : (k : ℕ) → vector_of next.past k ≡ vector_of (past_sent seat) k
  past_is k = ap (λ (v : List ℕ). vector_of v k) (sending_sets_past seat kind)

  -- what the packet's barrier and the next barrier are, by the kind
  carried : (x : Kind) → kind ≡ x → (k : ℕ) → vector_of (read_of packet).barrier k ≡ vector_of (barrier_sent seat x) k
  carried x is k = ap (λ (r : Reading). vector_of r.barrier k) reads ∙ ap (λ (y : Kind). vector_of (barrier_sent seat y) k) is

  raised : (x : Kind) → kind ≡ x → (k : ℕ) → vector_of next.barrier k ≡ vector_of (barrier_after seat x) k
  raised x is k = ap (λ (v : List ℕ). vector_of v k) (sending_sets_barrier seat kind) ∙ ap (λ (y : Kind). vector_of (barrier_after seat y) k) is

  rule : SendingRule seat.n seat.own.0 kind (controller_of seat) (vector_of (read_of packet).past) (vector_of (read_of packet).barrier) (controller_of next)
  rule =
      record {
        line_1_causal = λ is k low high. carried Causal is k;
        line_1_ordinary = λ is k low high. carried Ordinary is k;
        line_2_own = past_is seat.own.0 ∙ own_count_rises seat sound held;
        line_2_others = λ k low high other. past_is k ∙ other_counts_stay seat (k - 1) (λ same. other (omega (arith, facts.own_low)));
        line_3 = λ k low high. ap (λ (r : Reading). vector_of r.past k) reads ∙ sym (past_is k);
        line_4_causal = λ is k low high. raised Causal is k ∙ sym (past_is k);
        line_4_ordinary = λ is k low high. raised Ordinary is k ∙ sym (carried Ordinary is k);
        sets_stay = λ k low high t.
            let same = ap (λ (w : Window). handed w t) (sending_keeps_windows seat kind (k - 1)) in (λ after. sym same ∙ after, λ before. same ∙ before);
      }

  pub sending_is_the_rule : (out : List ℕ) → SendDone seat kind body out next (at_start packet out)
  sending_is_the_rule out =
      record {
        packet = packet;
        laid = refl;
        says = ap (λ (r : Reading). r.answer) reads;
        carries = sent_packet_body_back seat sound held below kind body short;
        rule = rule;
      }
