-- A send that is done does lines 1 to 4.
use Prim.Native.Nat.{ℕ, zero, suc, ◌-◌, ◌≤◌, ◌<◌}
use mathlib.Core.Path.{◌≡◌, refl, sym, ap, ◌∙◌}
use mathlib.Core.Bool.{true}
use mathlib.Core.List.{List}
use mathlib.Core.Logic.{◌≢◌}
use native.Mathlib.Omega.{arith}
use lib.ListN.{length}
use Rattle.answers.specs.declared.SeatNo.{SeatNo}
use Rattle.vectors.specs.Vectors.{entry}
use Rattle.packet.specs.Packet.{sender_of, kind_of, past_of, barrier_of}
use Rattle.packet.specs.Reading.{headed, message}
use Rattle.packet.specs.declared.Kind.{Kind}
use Rattle.packet.specs.declared.Kind.TheVariants.{Ordinary, Causal}
use Rattle.packet.proofs.Told.{Told, told}
use Rattle.seat.specs.State.{header_of, own_count, window_at, sound_state, Held}
use Rattle.seat.specs.Sending.{barrier_sent, past_sent, packet_sent, barrier_after, sent_seat}
use Rattle.seat.specs.declared.Seat.{Seat}
use Rattle.seat.proofs.Sound.{sound_says}
use Rattle.seat.proofs.Sent.{sending_sets_past, sending_sets_barrier, sending_keeps_windows, other_counts_stay, own_count_rises, past_sent_is_counts}
use Rattle.seat.proofs.SentPacket.{barrier_sent_is_counts, sent_packet_reads_back}
use Rattle.seat.proofs.CarriedCounts.{CarriesCounts}
use Rattle.session.specs.Events.{Edit}
use Rattle.session.specs.Protocol.{by_kind, edit, Sends}
use Rattle.promises.specs.Demand3.{kind_as}
use Rattle.promises.proofs.Model.{model, count_of, MarkedAt, count_is_entry, edit_is}

module _ (seat : Seat) (sound : sound_state seat ≡ true) (held : Held seat) (not_full : own_count seat < 65535) (kind : Kind) (body : List ℕ) (short : length body ≤ 200) where
  abbrev packet : List ℕ
  packet = packet_sent seat kind body

  -- what is read back
  reading : Told packet (message kind (header_of seat) (past_sent seat) (barrier_sent seat kind)) (headed kind (header_of seat))
  reading = told packet _ (sym (sent_packet_reads_back seat sound held not_full kind body short)) _ refl

  pub sent_by_own : sender_of packet ≡ seat.own
  sent_by_own = sym reading.sender

  pub sent_by_number : (sender_of packet).0 ≡ seat.own.0
  sent_by_number = ap (λ (s : SeatNo). s.0) sent_by_own

  pub sent_kind : kind_of packet ≡ kind
  sent_kind = sym reading.kind

  pub sent_past : past_of packet ≡ past_sent seat
  sent_past = sym reading.past

  sent_barrier : barrier_of packet ≡ barrier_sent seat kind
  sent_barrier = sym reading.barrier

  pub sent_packet_carries_counts : CarriesCounts packet
  sent_packet_carries_counts = record { past = rw sent_past (past_sent_is_counts seat sound held not_full); barrier = rw sent_barrier (barrier_sent_is_counts seat sound held kind) }

  pub own_low : 1 ≤ seat.own.0
  own_low = (sound_says seat sound).own_low

  own_count_sent : count_of (past_sent seat) seat.own.0 ≡ suc (count_of seat.past seat.own.0)
  own_count_sent =
      count_is_entry (past_sent seat) seat.own.0 own_low
      ∙ omega (arith, own_count_rises seat sound held, count_is_entry seat.past seat.own.0 own_low)

  other_counts_sent : (i : ℕ) → i ≢ seat.own.0 → count_of (past_sent seat) i ≡ count_of seat.past i
  other_counts_sent zero other = refl
  other_counts_sent (suc k) other = other_counts_stay seat k (λ same. other (omega (arith, own_low)))

  barrier_count : (a : Kind) (i : ℕ) → count_of (barrier_sent seat a) i ≡ by_kind (kind_as a) (count_of seat.barrier i) (count_of seat.past i)
  barrier_count Ordinary i = refl
  barrier_count Causal i = refl

  barrier_count_after : (a : Kind) (i : ℕ) → count_of (barrier_after seat a) i ≡ by_kind (kind_as a) (count_of seat.barrier i) (count_of (past_sent seat) i)
  barrier_count_after Ordinary i = refl
  barrier_count_after Causal i = refl

  marks_stay : (shelf : List ℕ) (e : Edit) → (a b : Seat) → ((k : ℕ) → window_at b k ≡ window_at a k)
      → MarkedAt (record { seat = a; shelf = shelf }) e → MarkedAt (record { seat = b; shelf = shelf }) e
  marks_stay shelf e a b same marked =
      record { by_low = marked.by_low; number_low = marked.number_low; is = rw (same (e.by - 1)) marked.is }

  pub send_is_lines_1_to_4 : (shelf : List ℕ) → Sends model packet (record { seat = seat; shelf = shelf }) (record { seat = sent_seat seat kind; shelf = shelf })
  send_is_lines_1_to_4 shelf =
      record {
        barrier_sent_is = λ i. rw (sent_barrier, sent_kind) (barrier_count kind i);
        own_past_sent = rw (sent_past, sent_by_number) own_count_sent;
        past_sent_is = λ i other. rw sent_past (other_counts_sent i (λ same. other (same ∙ sym sent_by_number)));
        past_after = λ i. rw (sending_sets_past seat kind, sent_past);
        barrier_after_is = λ i. rw (sending_sets_barrier seat kind, sent_kind, sent_past) (barrier_count_after kind i);
        marks_after = λ e. (
          marks_stay shelf e (sent_seat seat kind) seat (λ k. sym (sending_keeps_windows seat kind k)),
          marks_stay shelf e seat (sent_seat seat kind) (sending_keeps_windows seat kind),
        );
        shelf_after_is = λ p. (λ on. on, λ on. on);
      }

  -- the edit that it carries is the one that the seat's own count comes to
  pub sent_edit : edit model packet ≡ record { by = seat.own.0; number = entry (past_sent seat) seat.own }
  sent_edit =
      edit_is packet
      ∙ (λ i. record { by = (sent_by_own i).0; number = entry (sent_past i) (sent_by_own i) })
