-- `send_empty` meets its contract.
use Rattle.std.proofs.Common.{◌≡◌, length, rules}
use Rattle.steps.proofs.AtSeat.{empty_packet_long}
use Rattle.steps.proofs.walk.send_empty.Goals as goal

pub returns : goal.returns
returns c =
    let seat = c.args.seat in
    let past_long : length seat.past ≡ 16 = search rules in
    let barrier_long : length seat.barrier ≡ 16 = search rules in
    record { sent = c.send.ensures; packet_long = empty_packet_long seat past_long barrier_long c.args.wish }
