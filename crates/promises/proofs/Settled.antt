-- Every public call's contract settles its result.
use Rattle.packet.proofs.Settled.{read_settled, body_settled, write_settled}
use Rattle.seat.proofs.Settled.{open_settled, send_settled, arrive_settled, release_settled}
use Rattle.promises.specs.Settled.{Settled}

pub settled : Settled
settled =
    record {
      reading = read_settled;
      lending_body = body_settled;
      writing = write_settled;
      opening = open_settled;
      sending = send_settled;
      arriving = arrive_settled;
      releasing = release_settled;
    }
