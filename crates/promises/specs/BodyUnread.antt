-- The library never reads an edit's body: of bodies of one length, and of packets and shelves alike but for bodies, every
-- call gives the same answer and the same next state, and changes the same slots. Only the bodies' own bytes differ in
-- what is written.
use Rattle.std.specs.Prelude.{ℕ, ◌<◌, ◌≡◌, ◌⊎◌, false, List, ◌++◌, length, get_or}
use Rattle.answers.specs.declared.Answer.{Answer}
use Rattle.packet.specs.Packet.{seats_of, body_at}
use Rattle.packet.specs.Reading.{read_of, body_of}
use Rattle.packet.specs.Writing.{Written}
use Rattle.packet.specs.declared.Kind.{Kind}
use Rattle.packet.specs.declared.Header.{Header}
use Rattle.shelf.specs.Shelf.{slots, is_free, slot_of, laid, free_slot}
use Rattle.seat.specs.Stock.{packet_at}
use Rattle.seat.specs.Sending.{Sent}
use Rattle.seat.specs.Arriving.{Arrived}
use Rattle.seat.specs.Releasing.{Released}
use Rattle.seat.specs.declared.Seat.{Seat}
use Rattle.seat.specs.declared.Wish.{Wish}
use Rattle.seat.specs.declared.Stepped.{Stepped}

-- Two packets are alike but for their bodies: as long, and the same bytes up to where the body starts.
pub record Alike (one other : List ℕ) : Type 0 where
  pub same_length : length one ≡ length other
  pub same_front : (k : ℕ) → k < body_at (seats_of one) → get_or one k 0 ≡ get_or other k 0

-- Two shelves are alike but for bodies: as long, the same slots free, and on the others packets that are alike.
pub record AlikeShelves (one other : List ℕ) : Type 0 where
  pub same_length : length one ≡ length other
  pub same_free : (i : ℕ) → i < slots one → is_free one i ≡ is_free other i
  pub same_packets : (i : ℕ) → i < slots one → is_free one i ≡ false → Alike (packet_at one i) (packet_at other i)

-- Two outputs are the same, or the same but for a body that stands in each at the same place.
abbrev pub SameButFor : List ℕ → List ℕ → List ℕ → List ℕ → Type 0
SameButFor body other_body out other_out =
    (out ≡ other_out) ⊎ ((front : List ℕ) × (rest : List ℕ) × (out ≡ front ++ (body ++ rest)) × (other_out ≡ front ++ (other_body ++ rest)))

-- Two shelves stay, or both change at slot i and nowhere else: one slot's bytes are laid there, and the other's.
abbrev pub SameSlotChanges : List ℕ → List ℕ → List ℕ → List ℕ → ℕ → List ℕ → List ℕ → Type 0
SameSlotChanges shelf other after other_after i slot other_slot =
    ((after ≡ shelf) × (other_after ≡ other)) ⊎ ((after ≡ laid shelf i slot) × (other_after ≡ laid other i other_slot))

-- The same call on both is answered the same.
pub record BodyUnread : Type 0 where
  pub writing : (kind : Kind) (header : Header) (past barrier body other out : List ℕ) (answer answer_other : Answer) (after after_other : List ℕ)
      → length body ≡ length other → Written kind header past barrier body out answer after → Written kind header past barrier other out answer_other after_other
      → (answer ≡ answer_other) × SameButFor body other after after_other
  pub reading : (packet other : List ℕ) → Alike packet other → (read_of packet ≡ read_of other) × (length (body_of packet) ≡ length (body_of other))
  pub sending : (seat : Seat) (wish : Wish) (body other out : List ℕ) (stepped stepped_other : Stepped) (after after_other : List ℕ)
      → length body ≡ length other → Sent seat wish body out stepped after → Sent seat wish other out stepped_other after_other
      → (stepped ≡ stepped_other) × SameButFor body other after after_other
  pub arriving : (seat : Seat) (packet other shelf shelf_other : List ℕ) (stepped stepped_other : Stepped) (after after_other : List ℕ)
      → Alike packet other → AlikeShelves shelf shelf_other → Arrived seat packet shelf stepped after → Arrived seat other shelf_other stepped_other after_other
      → (stepped ≡ stepped_other) × ((i : ℕ) × SameSlotChanges shelf shelf_other after after_other i (slot_of packet) (slot_of other))
  pub releasing : (seat : Seat) (shelf shelf_other out : List ℕ) (stepped stepped_other : Stepped) (left left_other out_left out_other : List ℕ)
      → AlikeShelves shelf shelf_other → Released seat shelf out stepped left out_left → Released seat shelf_other out stepped_other left_other out_other
      → (stepped ≡ stepped_other)
      × ((i : ℕ) × SameSlotChanges shelf shelf_other left left_other i free_slot free_slot
      × SameButFor (body_of (packet_at shelf i)) (body_of (packet_at shelf_other i)) out_left out_other)
