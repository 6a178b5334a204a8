-- One look over state and shelf: each way out.
use mathlib.Core.Path.{◌≡◌, refl}
use mathlib.Core.Bool.{Bool, true, false}
use mathlib.Core.List.{List}
use Prim.Native.Nat.{ℕ}
use Rattle.std.specs.Prelude.{Option, Some, None, MatchOption}
use Rattle.shelf.specs.Shelf.{slots, whole_slots}
use Rattle.seat.specs.State.{sound_state}
use Rattle.seat.specs.Stock.{sound_slots, sound_shelf}
use Rattle.seat.specs.Survey.{Surveyed}
use Rattle.seat.specs.Arriving.{sound_both}
use Rattle.seat.specs.Steps.{LookedOver}
use Rattle.seat.specs.declared.Seat.{Seat}
use Rattle.seat.specs.declared.stock.Stock.{Stock}

module _ (choosing : Bool) (seat : Seat) (shelf : List ℕ) where
  pub broken_slots : sound_state seat ≡ true → whole_slots shelf ≡ false → LookedOver choosing seat shelf None
  unfolding sound_shelf
  broken_slots good broken = rw (good, broken)

  pub surveyed_shelf : sound_state seat ≡ true → whole_slots shelf ≡ true → (found : Option Stock)
      → MatchOption found (sound_slots (slots shelf) seat shelf ≡ false) (λ stock. Surveyed choosing seat shelf stock) → LookedOver choosing seat shelf found
  unfolding sound_shelf
  surveyed_shelf good whole None bad = rw (good, whole, bad)
  surveyed_shelf good whole (Some stock) so = (rw (good, whole, so.sound), so)

  -- what no stock tells
  pub none_found : (found : Option Stock) → LookedOver choosing seat shelf found → ((stock : Stock) → found ≡ Some stock → ⊥) → sound_both seat shelf ≡ false
  none_found None bad none = bad
  none_found (Some stock) so none = absurd (none stock refl)
