-- `hand_out` meets its contract: each way out is a law of a release's answers.
use Rattle.std.proofs.Common.{ℕ, ◌≡◌, ◌-◌, ◌≤◌, List, get_or, take, drop, length, sym, ap, ◌∙◌, Fits, w16, rules, arith}
use native.Mathlib.Nat.{le_of_eq}
use lib.ListN.{length-drop}
use lib.Seq.{take_all, sets}
use Rattle.packet.specs.Packet.{body_at}
use Rattle.packet.specs.Reading.{body_of}
use Rattle.seat.specs.HandingOver.{hand_over, barrier_above_past}
use Rattle.seat.specs.Stock.{packet_in, packet_at}
use Rattle.seat.proofs.WellRead.{carried}
use Rattle.seat.proofs.ChosenPacket.{chosen_sizes, chosen_is_due, chosen_edit, chosen_body}
use Rattle.seat.proofs.ReleaseAnswers.{no_room_answers_13, above_answers_23, releasing_answers_0, refused_release, done_release, body_at_start}
use Rattle.seat.proofs.taking.hand_out.Goals as goal

pub edit_in-edit-requires-clause-body : goal.edit_in-edit-requires-clause-body
edit_in-edit-requires-clause-body c =
    let z = chosen_sizes _ _ _ _ _ _ c.requires in
    let l = ap length (c.held_in-packet.ensures ∙ ap packet_in c.slot.ensures) in
    omega (arith, z)

pub edit_in-edit-requires-clause-short : goal.edit_in-edit-requires-clause-short
edit_in-edit-requires-clause-short c =
    let z = chosen_sizes _ _ _ _ _ _ c.requires in
    let l = ap length (c.held_in-packet.ensures ∙ ap packet_in c.slot.ensures) in
    omega (arith, z)

pub slice_bounds-body-count : goal.slice_bounds-body-count
slice_bounds-body-count c =
    let z = chosen_sizes _ _ _ _ _ _ c.requires in
    omega (arith, ap length (c.held_in-packet.ensures ∙ ap packet_in c.slot.ensures), z)

pub slice_bounds-body-start : goal.slice_bounds-body-start
slice_bounds-body-start c =
    let z = chosen_sizes _ _ _ _ _ _ c.requires in
    omega (arith, ap length (c.held_in-packet.ensures ∙ ap packet_in c.slot.ensures), z)

-- what the part lends is the packet's body
lent : (heading : ℕ) (packet other : List ℕ) → packet ≡ other → take (length packet - body_at heading) (drop (body_at heading) packet) ≡ drop (body_at heading) other
lent heading packet other e = take_all _ _ (le_of_eq (length-drop _ packet)) ∙ ap (drop (body_at heading)) e

pub returns-then-out-body : goal.returns-then-out-body
returns-then-out-body c =
    let is = lent c.args.message.heading.n _ _ (c.held_in-packet.ensures ∙ ap packet_in c.slot.ensures) ∙ sym (chosen_body _ _ _ _ _ _ c.requires) in
    rw c.refuse.ensures
    (refused_release _ _ _ _ (no_room_answers_13 _ _ _ _ c.requires.chosen (omega (arith, ap length is, c.if-out-body.true))))

pub returns-then-is_barrier_above_past : goal.returns-then-is_barrier_above_past
returns-then-is_barrier_above_past c =
    let is = lent c.args.message.heading.n _ _ (c.held_in-packet.ensures ∙ ap packet_in c.slot.ensures) ∙ sym (chosen_body _ _ _ _ _ _ c.requires) in
    let r = c.requires in
    let above = c.is_barrier_above_past.ensures ∙ (λ k. barrier_above_past c.args.seat (r.heading_is k) (r.past_is k) (r.barrier_is k)) in
    rw c.refuse-then-is_barrier_above_past.ensures
    (refused_release _ _ _ _
    (above_answers_23 _ _ _ _ r.chosen (omega (arith, ap length is, c.if-out-body.false)) (sym above ∙ c.if-is_barrier_above_past.true)))

pub hand_over-requires : goal.hand_over-requires
hand_over-requires c =
    let fits : Fits w16 (get_or c.args.seat.past (c.args.message.heading.sender.0 - 1) 0) = search rules in
    let most : get_or c.args.seat.past (c.args.message.heading.sender.0 - 1) 0 ≤ 65535 = omega (arith, fits) in
    chosen_is_due _ _ _ _ _ _ c.requires most

pub returns : goal.returns
returns c =
    let a = c.args in
    let r = c.requires in
    let packet_is = c.held_in-packet.ensures ∙ ap packet_in c.slot.ensures in
    let is = lent a.message.heading.n _ _ packet_is ∙ sym (chosen_body _ _ _ _ _ _ r) in
    let above = c.is_barrier_above_past.ensures ∙ (λ k. barrier_above_past a.seat (r.heading_is k) (r.past_is k) (r.barrier_is k)) in
    let enough : length (body_of (packet_at a.shelf.now a.i)) ≤ length a.out.now = omega (arith, ap length is, c.if-out-body.false) in
    done_release _ _ _ _ r.chosen _ _ _ _ (releasing_answers_0 _ _ _ _ r.chosen enough (sym above ∙ c.if-is_barrier_above_past.false))
    (c.edit_in-edit.ensures ∙ ap (λ (p : List ℕ). carried a.message.heading a.message.past (length p)) packet_is ∙ chosen_edit _ _ _ _ _ _ r)
    (c.hand_over.ensures ∙ (λ k. hand_over a.seat (r.heading_is k) (r.past_is k) (r.barrier_is k)))
    c.clear.ensures
    (body_at_start (body_of (packet_at a.shelf.now a.i)) a.out.now _ enough (c.put_bytes.ensures ∙ ap (sets a.out.now 0) is))
