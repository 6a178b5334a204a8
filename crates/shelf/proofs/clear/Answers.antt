-- `clear` meets its contract.
use Rattle.std.proofs.Common.{ℕ, length, replicate, ap, ◌∙◌}
use Rattle.shelf.specs.Shelf.{laid, free_slot}
use Rattle.shelf.proofs.Slots.{slot_lent, slot_back, length_slot_at}
use Rattle.shelf.proofs.clear.Goals as goal

pub returns : goal.returns
unfolding free_slot
returns c =
    let shelf = c.args.shelf.now in
    let long = ap length (slot_lent shelf c.args.i) ∙ length_slot_at _ _ c.requires in
    slot_back shelf c.args.i _ ∙ ap (laid shelf c.args.i) (c.fill.ensures.after (λ y e. e) ∙ ap (λ (n : ℕ). replicate n 0) long)
