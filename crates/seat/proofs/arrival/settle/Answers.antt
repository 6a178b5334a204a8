-- `settle` meets its contract: the answer is that of the definition, and each place leaves what it should.
use Rattle.std.proofs.Common.{ℕ, ◌≡◌, ◌-◌, ◌≤◌, ◌<◌, get_or, length, refl, sym, ap, ◌∙◌, Fits, w16, rules, arith}
use Rattle.std.specs.Prelude.{Ok}
use Rattle.std.proofs.lemmas.Result.{IfOk-at_ok}
use Rattle.answers.specs.declared.Answer.TheVariants.{Done, Shelved}
use Rattle.answers.proofs.InOrder.{done_is_no_refusal}
use Rattle.shelf.specs.Shelf.{slots, slot_of, laid, lowest_free}
use Rattle.seat.specs.HandingOver.{hand_over}
use Rattle.seat.specs.Arriving.{arrive_answer}
use Rattle.seat.specs.Steps.{answer_of, GoesToLowest}
use Rattle.seat.specs.declared.arrival.Place.{Place}
use Rattle.seat.proofs.WellRead.{carried}
use Rattle.seat.proofs.Hearing.{heard_sizes, heard_answer, heard_none_above, heard_in_window, arrived_done, arrived_shelved, arrived_refused}
use Rattle.seat.proofs.arrival.settle.Goals.{After-judge, In-Ok-Seat, In-Ok-Slot}
use Rattle.seat.proofs.arrival.settle.Goals as goal

-- what is judged is the definition's answer, here and in each arm
judged : (c : After-judge)
    → answer_of (carried c.args.message.heading c.args.message.past (length c.args.packet.now)) c.judge.result
    ≡ arrive_answer c.args.seat c.args.shelf.now c.args.packet.now
judged c = heard_answer _ _ _ _ _ _ _ c.requires _ (c.judge.ensures.answer _)

handed : (c : In-Ok-Seat)
    → Done (carried c.args.message.heading c.args.message.past (length c.args.packet.now)) ≡ arrive_answer c.args.seat c.args.shelf.now c.args.packet.now
handed c = sym (ap (answer_of _) (c.in-Ok-Seat.is ∙ ap (λ (p : Place). Ok p) c.in-Ok-Seat.field-0-is)) ∙ judged (goal.at.hand_over-requires c).After-judge

pub returns-in-Err : goal.returns-in-Err
returns-in-Err c =
    rw c.refuse.ensures (arrived_refused _ _ _ _ (sym (ap (answer_of _) c.in-Err.is) ∙ judged (goal.at.returns-in-Err c).After-judge) _ refl)

pub hand_over-requires : goal.hand_over-requires
hand_over-requires c =
    let a = c.args in
    let z = heard_sizes _ _ _ _ _ _ _ c.requires in
    let fits : Fits w16 (get_or a.seat.past (a.message.heading.sender.0 - 1) 0) = search rules in
    let most : get_or a.seat.past (a.message.heading.sender.0 - 1) 0 ≤ 65535 = omega (arith, fits) in
    let w = heard_in_window _ _ _ _ _ _ _ c.requires _ (handed c) (done_is_no_refusal _) in
    record {
      sender_low = z.sender_low;
      sender_high = z.sender_high;
      new = w.above_run;
      near = w.in_reach;
      marks_low = heard_none_above _ _ _ _ _ _ _ c.requires most;
    }

pub edit_in-requires-clause-body : goal.edit_in-requires-clause-body
edit_in-requires-clause-body c = (heard_sizes _ _ _ _ _ _ _ c.requires).body_inside

pub edit_in-requires-clause-short : goal.edit_in-requires-clause-short
edit_in-requires-clause-short c = (heard_sizes _ _ _ _ _ _ _ c.requires).short

pub returns-in-Ok-Seat : goal.returns-in-Ok-Seat
returns-in-Ok-Seat c =
    let a = c.args in
    let h = c.requires in
    arrived_done _ _ _ _ (ap Done c.edit_in.ensures ∙ handed (goal.at.returns-in-Ok-Seat c).In-Ok-Seat) _ _ refl
    (c.hand_over.ensures ∙ (λ i. hand_over a.seat (h.heading_is i) (h.past_is i) (h.barrier_is i)))

-- the slot is the lowest free one
lowest : (c : In-Ok-Slot) → (c.in-Ok-Slot.free < slots c.args.shelf.now) × (c.in-Ok-Slot.free ≡ lowest_free c.args.shelf.now)
lowest c = IfOk-at_ok (GoesToLowest c.args.shelf.now) (c.in-Ok-Slot.is ∙ ap (λ (p : Place). Ok p) c.in-Ok-Slot.field-0-is) c.judge.ensures.slot

pub lay-requires-clause-short : goal.lay-requires-clause-short
lay-requires-clause-short c = (heard_sizes _ _ _ _ _ _ _ c.requires).short

pub returns-in-Ok-Slot : goal.returns-in-Ok-Slot
returns-in-Ok-Slot c =
    let a = c.args in
    let at = goal.at.returns-in-Ok-Slot c in
    let is : Shelved ≡ arrive_answer a.seat a.shelf.now a.packet.now =
    sym (ap (answer_of _) (c.in-Ok-Slot.is ∙ ap (λ (p : Place). Ok p) c.in-Ok-Slot.field-0-is)) ∙ judged at.After-judge in
    arrived_shelved _ _ _ _ is _ refl (c.lay.ensures ∙ ap (λ (i : ℕ). laid a.shelf.now i (slot_of a.packet.now)) (lowest at.In-Ok-Slot).1)
