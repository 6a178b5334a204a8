-- The packet that a sound state sends: it can be written, it stands at the output's start, and it reads back.
use Prim.Native.Nat.{ℕ, ◌+◌, ◌-◌, ◌≤◌, ◌<◌}
use mathlib.Core.Path.{◌≡◌, sym, ap, ◌∙◌}
use mathlib.Core.Bool.{true}
use mathlib.Core.List.{List}
use native.Mathlib.Omega.{arith}
use lib.ListN.{length, get_or}
use lib.Seq.{sets, set-set, set-get_or}
use Rattle.answers.specs.Answers.{edit_no}
use Rattle.vectors.specs.Vectors.{entry, Counts}
use Rattle.vectors.proofs.Tests.{zero_above_of}
use Rattle.packet.specs.Packet.{packet_length, less_one}
use Rattle.packet.specs.Reading.{headed, header_in, message, read_of, body_of}
use Rattle.packet.specs.Writing.{packet_of, writable, edit_of, at_start}
use Rattle.packet.specs.declared.Kind.{Kind}
use Rattle.packet.specs.declared.Kind.TheVariants.{Ordinary, Causal}
use Rattle.packet.specs.declared.Heading.{Heading}
use Rattle.packet.proofs.Formed.{Ordered, vectors_pass}
use Rattle.packet.proofs.Laid.{at_start_lem}
use Rattle.packet.proofs.RoundTrip.{packet_reads_back, packet_body_back}
use Rattle.packet.proofs.Writable.{Writable, writable_holds}
use Rattle.seat.specs.State.{header_of, own_count, sound_state, SoundState, Held}
use Rattle.seat.specs.Sending.{barrier_sent, past_sent, packet_sent}
use Rattle.seat.specs.declared.Seat.{Seat}
use Rattle.seat.proofs.Sound.{sound_says, sound_is_in_range}
use Rattle.seat.proofs.Sent.{own_count_rises, no_count_falls, past_sent_is_zero_above, past_sent_is_counts}

module _ (seat : Seat) (sound : sound_state seat ≡ true) (held : Held seat) where
  was : SoundState seat
  was = sound_says seat sound

  -- ---- the barrier that the packet carries

  pub barrier_sent_is_counts : (kind : Kind) → Counts (barrier_sent seat kind)
  barrier_sent_is_counts Ordinary = record { long = held.barrier_long; fits = held.barrier_fits }
  barrier_sent_is_counts Causal = record { long = held.past_long; fits = held.past_fits }

  barrier_sent_above : (kind : Kind) (k : ℕ) → seat.n ≤ k → k < 16 → get_or (barrier_sent seat kind) k 0 ≡ 0
  barrier_sent_above Ordinary = was.barrier_above
  barrier_sent_above Causal = was.past_above

  pub barrier_sent_within_past : (kind : Kind) (k : ℕ) → k < 16 → get_or (barrier_sent seat kind) k 0 ≤ get_or seat.past k 0
  barrier_sent_within_past Ordinary = was.barrier_within
  barrier_sent_within_past Causal = λ k b. omega arith

  -- a causal packet's barrier is its past less 1 at the sender
  past_less_one : seat.past ≡ less_one (past_sent seat) seat.own
  past_less_one =
      let at = seat.own.0 - 1 in
      let one_less : entry (past_sent seat) seat.own - 1 ≡ own_count seat = omega (arith, own_count_rises seat sound held) in
      sym (rw one_less (set-set seat.past at (own_count seat + 1) (own_count seat) ∙ set-get_or seat.past at 0))

  causal_barrier : (kind : Kind) → kind ≡ Causal → barrier_sent seat kind ≡ less_one (past_sent seat) seat.own
  causal_barrier Causal e = past_less_one
  causal_barrier Ordinary e = let z : ◌≡◌ {A = ℕ} 0 1 = cc in absurd (omega arith)

  sent_is_ordered : (kind : Kind) → Ordered kind seat.own (past_sent seat) (barrier_sent seat kind)
  sent_is_ordered kind =
      let s = was in
      let within = barrier_sent_within_past kind (seat.own.0 - 1) (omega arith) in
      record {
        within_past = λ k b. omega (arith, barrier_sent_within_past kind k b, no_count_falls seat sound held k);
        smaller = omega (arith, own_count_rises seat sound held);
        causal = causal_barrier kind;
      }

  -- ---- what is sent can be written

  sent_is_writable : (kind : Kind) → Writable kind (header_of seat) (past_sent seat) (barrier_sent seat kind)
  sent_is_writable kind =
      record {
        range = sound_is_in_range seat sound;
        points = vectors_pass seat.own (past_sent seat) (barrier_sent seat kind) kind (sent_is_ordered kind);
        past_zero = zero_above_of seat.n (past_sent seat) (past_sent_is_zero_above seat sound held);
        barrier_zero = zero_above_of seat.n (barrier_sent seat kind) (barrier_sent_above kind);
      }

  pub sent_packet_can_be_written : (kind : Kind) → writable kind (header_of seat) (past_sent seat) (barrier_sent seat kind) ≡ true
  sent_packet_can_be_written kind = writable_holds kind (header_of seat) (past_sent seat) (barrier_sent seat kind) (sent_is_writable kind)

  -- ---- the edit that is answered

  pub sent_edit_is : (body : List ℕ) (count : ℕ) → count ≡ own_count seat
      → edit_of (header_of seat) (past_sent seat) body ≡ record { sender = seat.own; number = edit_no (count + 1); length = packet_length seat.n (length body) }
  sent_edit_is body count is =
      let number : entry (past_sent seat) seat.own ≡ count + 1 = own_count_rises seat sound held ∙ ap (λ (k : ℕ). k + 1) (sym is) in
      (λ i. record { sender = seat.own; number = edit_no (number i); length = packet_length seat.n (length body) })

  module _ (not_full : own_count seat < 65535) where
    -- ---- it stands at the output's start

    pub sent_packet_is_put : (kind : Kind) (heading : Heading) (past barrier body out after : List ℕ) → heading ≡ headed kind (header_of seat) → past ≡ past_sent seat
        → barrier ≡ barrier_sent seat kind → after ≡ sets out 0 (packet_of heading.kind (header_in heading) past barrier body) → packet_length seat.n (length body) ≤ length out
        → after ≡ at_start (packet_sent seat kind body) out
    sent_packet_is_put kind heading past barrier body out after is_heading is_past is_barrier is_after room =
        let s = was in
        let past_long = (past_sent_is_counts seat sound held not_full).long in
        let barrier_long = (barrier_sent_is_counts kind).long in
        is_after
        ∙ (λ i. sets out 0 (packet_of (is_heading i).kind (header_in (is_heading i)) (is_past i) (is_barrier i) body))
        ∙ at_start_lem kind (header_of seat) (past_sent seat) (barrier_sent seat kind) body (omega arith) (omega arith) out room

    -- ---- it reads back

    pub sent_packet_reads_back : (kind : Kind) (body : List ℕ) → length body ≤ 200
        → read_of (packet_sent seat kind body) ≡ message kind (header_of seat) (past_sent seat) (barrier_sent seat kind)
    sent_packet_reads_back kind body short =
        packet_reads_back kind (header_of seat) (past_sent seat) (barrier_sent seat kind) body (past_sent_is_counts seat sound held not_full) (barrier_sent_is_counts kind)
        (sent_is_writable kind) short

    pub sent_packet_body_back : (kind : Kind) (body : List ℕ) → length body ≤ 200 → body_of (packet_sent seat kind body) ≡ body
    sent_packet_body_back kind body short =
        packet_body_back kind (header_of seat) (past_sent seat) (barrier_sent seat kind) body (past_sent_is_counts seat sound held not_full) (barrier_sent_is_counts kind)
        (sent_is_writable kind) short
