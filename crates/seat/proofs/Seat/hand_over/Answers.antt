-- `hand_over` meets its contract: the state is built of its parts.
use Rattle.std.proofs.Common.{◌∙◌, get_or}
use Rattle.window.specs.Window.{handed_over}
use Rattle.seat.proofs.HandedOver.{handed_over_is}
use Rattle.seat.proofs.Seat.hand_over.Goals as goal

pub returns : goal.returns
returns c =
    let a = c.args in
    let moved = c.hand_over-moved.ensures
    ∙ (λ i. handed_over (record { run = get_or a.self.run (c.index-at.ensures i) 0; ahead = get_or a.self.ahead (c.index-at.ensures i) 0 }) (c.number.ensures i).0) in
    rw c.index-at.ensures
    (handed_over_is a.self a.message.heading a.message.past a.message.barrier _ _ _ _ c.raised_by-raised.ensures moved c.max_of-next.ensures c.max_of-next-2.ensures)
