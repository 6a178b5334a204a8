-- `is_ordered` meets its contract.
use Rattle.packet.specs.Packet.{point_seven}
use Rattle.packet.proofs.message.Message.is_ordered.Goals as goal

pub returns : goal.returns
unfolding point_seven
returns c = rw (c.is_within.ensures, c.index-at.ensures)
