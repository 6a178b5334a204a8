-- `after_sending` meets its contract: the state is built of its parts.
use Rattle.seat.proofs.Sent.{sent_seat_is}
use Rattle.seat.proofs.Seat.after_sending.Goals as goal

pub returns : goal.returns
returns c = sent_seat_is c.args.self c.args.kind _ _ c.requires c.barrier_after-barrier.ensures
