-- The four steps on a sound state and a sound shelf of bytes, whatever they are given: both are sound afterwards.
use Prim.Native.Nat.{ℕ}
use mathlib.Core.Path.{◌≡◌}
use mathlib.Core.Bool.{true}
use mathlib.Core.List.{List}
use Rattle.std.proofs.lemmas.Bool.{and_parts}
use Rattle.answers.specs.declared.SeatNo.{SeatNo}
use Rattle.answers.specs.declared.Answer.TheVariants.{Opened}
use Rattle.vectors.specs.Bytes.{Bytes}
use Rattle.seat.specs.State.{sound_state, Held}
use Rattle.seat.specs.Stock.{sound_shelf}
use Rattle.seat.specs.Opening.{OpenedAs}
use Rattle.seat.specs.Sending.{Sent}
use Rattle.seat.specs.Arriving.{sound_both, Arrived}
use Rattle.seat.specs.Releasing.{Released}
use Rattle.seat.specs.declared.Seat.{Seat}
use Rattle.seat.specs.declared.Wish.{Wish}
use Rattle.seat.specs.declared.Stepped.{Stepped}
use Rattle.seat.proofs.CarriedCounts.{bytes_carry_counts}
use Rattle.seat.proofs.SteppingSound.{SoundPlace, bytes_make_a_place, opening_makes_sound, sending_keeps_place_sound, arriving_keeps_sound, releasing_keeps_sound}

place_is_sound : (seat : Seat) (shelf : List ℕ) → SoundPlace seat shelf → sound_both seat shelf ≡ true
place_is_sound seat shelf place = rw place.sound place.shelf_sound

pub open_leaves_both_sound : (n : ℕ) (own : SeatNo) (shelf : List ℕ) (stepped : Stepped) (after : List ℕ) → OpenedAs n own shelf stepped after → stepped.answer ≡ Opened
    → sound_both stepped.seat after ≡ true
open_leaves_both_sound n own shelf stepped after meets is = place_is_sound stepped.seat after (opening_makes_sound n own shelf stepped after meets is)

module _ (seat : Seat) (shelf : List ℕ) (sound : sound_both seat shelf ≡ true) (held : Held seat) (bytes : Bytes shelf) where
  place : SoundPlace seat shelf
  place =
      let both = and_parts (sound_state seat) (sound_shelf seat shelf) sound in
      bytes_make_a_place seat shelf both.0 held both.1 bytes

  pub send_leaves_both_sound : (wish : Wish) (body out : List ℕ) (stepped : Stepped) (after : List ℕ) → Sent seat wish body out stepped after
      → sound_both stepped.seat shelf ≡ true
  send_leaves_both_sound wish body out stepped after meets =
      place_is_sound stepped.seat shelf (sending_keeps_place_sound seat shelf place wish body out stepped after meets)

  pub arrival_leaves_both_sound : (packet : List ℕ) → Bytes packet → (stepped : Stepped) (after : List ℕ) → Arrived seat packet shelf stepped after
      → sound_both stepped.seat after ≡ true
  arrival_leaves_both_sound packet is stepped after meets =
      place_is_sound stepped.seat after (arriving_keeps_sound seat shelf place packet (bytes_carry_counts packet is) stepped after meets)

  pub release_leaves_both_sound : (out : List ℕ) (stepped : Stepped) (shelf-left output-left : List ℕ) → Released seat shelf out stepped shelf-left output-left
      → sound_both stepped.seat shelf-left ≡ true
  release_leaves_both_sound out stepped shelf-left output-left meets =
      place_is_sound stepped.seat shelf-left (releasing_keeps_sound seat shelf place out stepped shelf-left output-left meets)
