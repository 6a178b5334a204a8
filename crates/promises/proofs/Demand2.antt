-- Demand 2 is kept: the steps are the paper's two rules, and a packet survives both round trips.
use Prim.Native.Nat.{ℕ}
use mathlib.Core.Path.{◌≡◌, sym, ap, ◌∙◌}
use mathlib.Core.Logic.{inl}
use mathlib.Core.Bool.{true≢false}
use mathlib.Core.List.{List}
use native.Mathlib.Omega.{arith}
use Rattle.packet.specs.Packet.{past_of, barrier_of}
use Rattle.packet.specs.Reading.{body_of}
use Rattle.packet.specs.Writing.{at_start}
use Rattle.packet.proofs.RoundTrip.{written_reads_back, read_writes_again}
use Rattle.seat.specs.State.{Held}
use Rattle.shelf.specs.Shelf.{slot_of, laid, free_slot, lowest_free}
use Rattle.seat.specs.Stock.{packet_at}
use Rattle.seat.specs.Sending.{kind_of, packet_sent, sent_seat, Sent}
use Rattle.seat.specs.HandingOver.{hand_over}
use Rattle.seat.specs.Arriving.{heading_of, Arrived}
use Rattle.seat.specs.Releasing.{Released}
use Rattle.seat.specs.declared.Seat.{Seat}
use Rattle.seat.specs.declared.Wish.{Wish}
use Rattle.seat.specs.declared.Stepped.{Stepped}
use Rattle.promises.specs.Demand1.{answer_number, Next}
use Rattle.promises.specs.Demand2.{Line5, controller_of, vector_of, SendDone, HandOverDone, Demand2}
use Rattle.promises.proofs.Plain.{formed_agrees}
use Rattle.promises.proofs.SendOccasions.{sound_send_is_done, send_occasions}
use Rattle.promises.proofs.ArriveOccasions.{ready_arrival_is_done, waiting_arrival_is_shelved, arrive_occasions}
use Rattle.promises.proofs.ReleaseOccasions.{next_is_chosen, none_ready_is_idle, next_is_released, release_occasions}
use Rattle.promises.proofs.Demand1.{refusals_change_nothing}
use Rattle.promises.proofs.Sets.{ready_is_line_5, line_5_is_ready}
use Rattle.promises.proofs.HandOverRule.{handing_over_is_the_rule}
use Rattle.promises.proofs.SendRule.{sending_is_the_rule}

send_rule : (seat : Seat) (wish : Wish) (body out : List ℕ) (stepped : Stepped) (after : List ℕ) → Held seat → Sent seat wish body out stepped after
    → answer_number stepped.answer ≡ 0 → SendDone seat (kind_of wish) body out stepped.seat after
send_rule seat wish body out stepped after held s zero =
    let facts = (send_occasions seat body out).is_0.0 (sym (ap answer_number s.answered) ∙ zero) in
    let is = sound_send_is_done seat body out facts.0 facts.1 facts.2 facts.3 in
    let next : stepped.seat ≡ sent_seat seat (kind_of wish) = rw is at s.next in
    let output : after ≡ at_start (packet_sent seat (kind_of wish) body) out = rw is at s.output in
    rw (next, output) (sending_is_the_rule seat facts.0 held facts.2 (kind_of wish) body facts.1 out)

arrival_rule : (seat : Seat) (packet shelf : List ℕ) (stepped : Stepped) (after : List ℕ) → Held seat → Arrived seat packet shelf stepped after
    → answer_number stepped.answer ≡ 0 → HandOverDone seat packet stepped.seat × (after ≡ shelf)
arrival_rule seat packet shelf stepped after held a zero =
    let facts = (arrive_occasions seat shelf packet).is_0.0 (sym (ap answer_number a.answered) ∙ zero) in
    let admitted = facts.0 in
    let is = ready_arrival_is_done seat shelf packet admitted facts.1 facts.2 in
    let next : stepped.seat ≡ hand_over seat (heading_of packet) (past_of packet) (barrier_of packet) = rw is at a.next in (
      rw next
          (handing_over_is_the_rule seat packet admitted.sound.0 held (omega arith) (omega (arith, admitted.is_well_formed.point_4, admitted.same_session))
          (λ over. admitted.is_new (inl over)) facts.1),
      rw is at a.shelf_after_is,
    )

shelving : (seat : Seat) (packet shelf : List ℕ) (stepped : Stepped) (after : List ℕ) → Arrived seat packet shelf stepped after
    → answer_number stepped.answer ≡ 1
    → (stepped.seat ≡ seat)
    × (Line5 seat.n (controller_of seat) (vector_of (barrier_of packet)) → ⊥)
    × (after ≡ laid shelf (lowest_free shelf) (slot_of packet))
shelving seat packet shelf stepped after a one =
    let facts = (arrive_occasions seat shelf packet).is_1.0 (sym (ap answer_number a.answered) ∙ one) in
    let is = waiting_arrival_is_shelved seat shelf packet facts.0 facts.1 facts.2 in
    (rw is at a.next, λ five. facts.1 (line_5_is_ready seat packet facts.0.sound.0 facts.0.same_session five), rw is at a.shelf_after_is)

release_rule : (seat : Seat) (shelf out : List ℕ) (stepped : Stepped) (shelf_left out_left : List ℕ) → Held seat
    → Released seat shelf out stepped shelf_left out_left → answer_number stepped.answer ≡ 0
    → (i : ℕ) × Next seat shelf i × HandOverDone seat (packet_at shelf i) stepped.seat × (out_left ≡ at_start (body_of (packet_at shelf i)) out)
    × (shelf_left ≡ laid shelf i free_slot)
release_rule seat shelf out stepped shelf_left out_left held r zero =
    let facts = (release_occasions seat shelf out).is_0.0 (sym (ap answer_number r.answered) ∙ zero) in
    let i = facts.1.0 in
    let first = facts.1.1 in
    let is = next_is_released seat shelf out facts.0 i first facts.1.2 facts.1.3 in
    let here = next_is_chosen seat shelf out facts.0 i first in
    let packet = packet_at shelf i in
    let passing = facts.0.1.passing i first.ready.0 first.ready.1 in
    let well = (formed_agrees packet).1 passing.is_well_formed in
    let next : stepped.seat ≡ hand_over seat (heading_of packet) (past_of packet) (barrier_of packet) = rw (is, ← here) at r.next in
    let cleared : shelf_left ≡ laid shelf i free_slot = rw (is, ← here) at r.shelf_after_is in
    let output : out_left ≡ at_start (body_of packet) out = rw (is, ← here) at r.output in (
      i,
      first,
      rw next
          (handing_over_is_the_rule seat packet facts.0.0 held (omega arith) (omega (arith, well.point_4, passing.same_session))
          (λ over. true≢false (sym over ∙ passing.not_handed)) first.ready.2),
      output,
      cleared,
    )

idle : (seat : Seat) (shelf out : List ℕ) (stepped : Stepped) (shelf_left out_left : List ℕ) → Released seat shelf out stepped shelf_left out_left
    → answer_number stepped.answer ≡ 2 → (stepped.seat ≡ seat) × (shelf_left ≡ shelf) × (out_left ≡ out)
idle seat shelf out stepped shelf_left out_left r two =
    let facts = (release_occasions seat shelf out).is_2.0 (sym (ap answer_number r.answered) ∙ two) in
    let is = none_ready_is_idle seat shelf out facts.0 facts.1 in
    (rw is at r.next, rw is at r.shelf_after_is, rw is at r.output)

pub demand_2 : Demand2
demand_2 =
    record {
      ready_is_line_5 = λ seat packet sound same. (ready_is_line_5 seat packet sound, line_5_is_ready seat packet sound same);
      send_is_the_rule = send_rule;
      arrival_is_the_rule = arrival_rule;
      shelving_hands_nothing_over = shelving;
      release_is_the_rule = release_rule;
      idle_release_does_nothing = idle;
      refusals_do_nothing = refusals_change_nothing;
      written_reads_back = λ kind header past barrier body out edit p b e.
          let back = written_reads_back kind header past barrier body out edit p b e in (back.reading, back.body_same);
      read_writes_again = λ packet out heading bytes room e.
          let again = read_writes_again packet out heading bytes room e in (again.answered, again.output);
    }
