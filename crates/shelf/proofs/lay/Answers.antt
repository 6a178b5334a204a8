-- `lay` meets its contract.
use Rattle.std.proofs.Common.{length, ap, ◌∙◌, arith}
use Rattle.shelf.specs.Shelf.{laid}
use Rattle.shelf.proofs.Slots.{slot_lent, slot_back, length_slot_at}
use Rattle.shelf.proofs.Holding.{put_in_turn, length_put_in}
use Rattle.shelf.proofs.lay.Goals as goal

pub returns : goal.returns
returns c =
    let shelf = c.args.shelf.now in
    let long = ap length (slot_lent shelf c.args.i) ∙ length_slot_at _ _ c.requires.there in
    let still_long = length_put_in c.args.packet.now _ _ _ long c.put_bytes.ensures in
    slot_back shelf c.args.i _
    ∙ ap (laid shelf c.args.i)
    (put_in_turn _ _ _ _ _ _ _ c.requires.short long c.put_bytes.ensures (omega arith) (omega arith) (omega (arith, still_long)) (c.fill.ensures.after (λ y e. e)))
