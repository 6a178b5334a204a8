-- What the steps' private functions know when they are called.
use Rattle.std.specs.Prelude.{ℕ, ◌<◌, ◌≡◌, Bool, true, false, List, Option, Some, None, Result, Ok, Err, ⊤}
use Rattle.answers.specs.declared.Edit.{Edit}
use Rattle.answers.specs.declared.Refusal.{Refusal}
use Rattle.answers.specs.declared.Answer.{Answer}
use Rattle.answers.specs.declared.Answer.TheVariants.{Done, Shelved, Refused}
use Rattle.packet.specs.Packet.{past_of, barrier_of, first_bad_point}
use Rattle.packet.specs.declared.Heading.{Heading}
use Rattle.shelf.specs.Shelf.{slots, lowest_free}
use Rattle.seat.specs.Stock.{packet_at}
use Rattle.seat.specs.Arriving.{heading_of, sound_both}
use Rattle.seat.specs.Releasing.{chosen}
use Rattle.seat.specs.Survey.{Surveyed}
use Rattle.seat.specs.declared.Seat.{Seat}
use Rattle.seat.specs.declared.arrival.Place.{Place}
use Rattle.seat.specs.declared.arrival.Place.TheVariants.{Seat as ToSeat, Slot}
use Rattle.seat.specs.declared.stock.Stock.{Stock}

-- A look over state and shelf: none where one of them is not sound, and else what the shelf holds.
abbrev pub LookedOver : Bool → Seat → List ℕ → Option Stock → Type 0
LookedOver choosing seat shelf None = sound_both seat shelf ≡ false
LookedOver choosing seat shelf (Some stock) = (sound_both seat shelf ≡ true) × Surveyed choosing seat shelf stock

-- State and shelf are sound, the shelf was surveyed, and the packet was read as well formed.
pub record Heard (seat : Seat) (shelf : List ℕ) (stock : Stock) (packet : List ℕ) (heading : Heading) (past barrier : List ℕ) : Type 0 where
  pub sound : sound_both seat shelf ≡ true
  pub surveyed : Surveyed false seat shelf stock
  pub is_well_formed : first_bad_point packet ≡ 0
  pub heading_is : heading ≡ heading_of packet
  pub past_is : past ≡ past_of packet
  pub barrier_is : barrier ≡ barrier_of packet

-- State and shelf are sound, and slot i is the one to release.
pub record Chosen (seat : Seat) (shelf : List ℕ) (i : ℕ) : Type 0 where
  pub sound : sound_both seat shelf ≡ true
  pub there : i < slots shelf
  pub chosen_is : i ≡ chosen seat shelf

-- The same, and the packet on that slot was read as well formed.
pub record ChosenRead (seat : Seat) (shelf : List ℕ) (i : ℕ) (heading : Heading) (past barrier : List ℕ) : Type 0 where
  pub chosen : Chosen seat shelf i
  pub is_well_formed : first_bad_point (packet_at shelf i) ≡ 0
  pub heading_is : heading ≡ heading_of (packet_at shelf i)
  pub past_is : past ≡ past_of (packet_at shelf i)
  pub barrier_is : barrier ≡ barrier_of (packet_at shelf i)

-- What an arrival is answered whose packet goes to this place, or is refused.
abbrev pub answer_of : Edit → Result Place Refusal → Answer
answer_of edit (Ok ToSeat) = Done edit
answer_of edit (Ok (Slot i)) = Shelved
answer_of edit (Err refusal) = Refused refusal

-- A packet that is shelved goes to the lowest free slot.
abbrev pub GoesToLowest : List ℕ → Place → Type 0
GoesToLowest shelf ToSeat = ⊤
GoesToLowest shelf (Slot i) = (i < slots shelf) × (i ≡ lowest_free shelf)

-- What a call is answered that is done unless this refuses it.
abbrev pub unless : {A : Type 0} → Result A Refusal → Answer → Answer
unless (Ok passed) done = done
unless (Err refusal) done = Refused refusal
