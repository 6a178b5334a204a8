-- How firm the contracts are: of every public call of the packet and of the seat, two results that meet its contract are
-- equal: answer, next state, and every byte of shelf and output. Of the lent part that holds a body, its bytes are meant.
use Rattle.std.specs.Prelude.{ℕ, ◌≡◌, List}
use Rattle.answers.specs.declared.SeatNo.{SeatNo}
use Rattle.answers.specs.declared.Answer.{Answer}
use Rattle.packet.specs.Reading.{read_of, body_of}
use Rattle.packet.specs.Writing.{Written}
use Rattle.packet.specs.declared.Kind.{Kind}
use Rattle.packet.specs.declared.Header.{Header}
use Rattle.packet.specs.declared.Reading.{Reading}
use Rattle.seat.specs.Opening.{OpenedAs}
use Rattle.seat.specs.Sending.{Sent}
use Rattle.seat.specs.Arriving.{Arrived}
use Rattle.seat.specs.Releasing.{Released}
use Rattle.seat.specs.declared.Seat.{Seat}
use Rattle.seat.specs.declared.Wish.{Wish}
use Rattle.seat.specs.declared.Stepped.{Stepped}

-- Two results of one call on the same input.
pub record Settled : Type 0 where
  pub reading : (packet : List ℕ) (one other : Reading) → one ≡ read_of packet → other ≡ read_of packet → one ≡ other
  pub lending_body : (packet one other : List ℕ) → one ≡ body_of packet → other ≡ body_of packet → one ≡ other
  pub writing : (kind : Kind) (header : Header) (past barrier body out : List ℕ) (one other : Answer) (after after_other : List ℕ)
      → Written kind header past barrier body out one after → Written kind header past barrier body out other after_other → (one ≡ other) × (after ≡ after_other)
  pub opening : (n : ℕ) (own : SeatNo) (shelf : List ℕ) (one other : Stepped) (after after_other : List ℕ)
      → OpenedAs n own shelf one after → OpenedAs n own shelf other after_other → (one ≡ other) × (after ≡ after_other)
  pub sending : (seat : Seat) (wish : Wish) (body out : List ℕ) (one other : Stepped) (after after_other : List ℕ)
      → Sent seat wish body out one after → Sent seat wish body out other after_other → (one ≡ other) × (after ≡ after_other)
  pub arriving : (seat : Seat) (packet shelf : List ℕ) (one other : Stepped) (after after_other : List ℕ)
      → Arrived seat packet shelf one after → Arrived seat packet shelf other after_other → (one ≡ other) × (after ≡ after_other)
  pub releasing : (seat : Seat) (shelf out : List ℕ) (one other : Stepped) (shelf_one out_one shelf_other out_other : List ℕ)
      → Released seat shelf out one shelf_one out_one → Released seat shelf out other shelf_other out_other
      → (one ≡ other) × (shelf_one ≡ shelf_other) × (out_one ≡ out_other)
