-- `take` meets its contract: the chosen packet is well formed.
use Rattle.std.proofs.Common.{◌≡◌, ap, ◌∙◌}
use borrow.Author.Tests.{eq-eqb}
use Rattle.packet.specs.Packet.{first_bad_point}
use Rattle.packet.proofs.PointNumbers.{passes_where_ok}
use Rattle.seat.specs.Stock.{packet_in, packet_at}
use Rattle.seat.proofs.ChosenPacket.{chosen_passes}
use Rattle.seat.proofs.taking.take.Goals.{After-read_message}
use Rattle.seat.proofs.taking.take.Goals as goal

pub held_in-requires : goal.held_in-requires
held_in-requires c = rw c.slot.ensures (chosen_passes _ _ _ c.requires).is_well_formed

-- the packet that was read is the one on slot i
on_slot : (c : After-read_message) → c.held_in.result.now ≡ packet_at c.args.shelf.now c.args.i
on_slot c = c.held_in.ensures ∙ ap packet_in c.slot.ensures

pub unwrap-message-requires : goal.unwrap-message-requires
unwrap-message-requires c =
    passes_where_ok _ ∙ eq-eqb _ _ (c.read_message.ensures.point ∙ ap first_bad_point (on_slot (goal.at.unwrap-message-requires c).After-read_message) ∙ (chosen_passes _ _ _ c.requires).is_well_formed)
