-- What a session leaves, carried from step to step: a run of the protocol of source document 000, sound places, and
-- packets that are what their sends reported.
use Prim.Native.Nat.{ℕ}
use mathlib.Core.Path.{◌≡◌, refl, sym, ap, subst, ◌∙◌}
use mathlib.Core.List.Memᴰ
use mathlib.Core.List.{List, [], ◌∷◌}
use Rattle.answers.specs.declared.SeatNo.{SeatNo}
use Rattle.seat.specs.declared.Seat.{Seat}
use Rattle.seat.proofs.CarriedCounts.{CarriesCounts}
use Rattle.seat.proofs.SteppingSound.{SoundPlace}
use Rattle.session.specs.Events.{Trace, ◌∈◌}
use Rattle.session.specs.Protocol.{Seated, edit, Run}
use Rattle.session.proofs.Invariant.{each_seat}
use Rattle.promises.specs.Demand3.{Place, moved_to, Letter}
use Rattle.promises.proofs.Model.{model}
use Rattle.promises.proofs.Moving.{moved_here, turn_of, nothing_moved}

-- The packets of the letters.
abbrev pub packets_of : List Letter → List (List ℕ)
packets_of [] = []
packets_of (letter ∷ letters) = letter.bytes ∷ packets_of letters

-- a letter that was sent is a packet that was sent
pub letter_in_lem : {letter : Letter} {letters : List Letter} → letter ∈ letters → letter.bytes ∈ packets_of letters
letter_in_lem (Memᴰ.head same) = Memᴰ.head (ap (λ (l : Letter). l.bytes) same)
letter_in_lem (Memᴰ.tail rest) = Memᴰ.tail (letter_in_lem rest)

-- A letter's packet carries counts, and the edit that its send reported.
pub record WellSent (letter : Letter) : Type 0 where
  pub counts : CarriesCounts letter.bytes
  pub same : edit model letter.bytes ≡ letter.edit

-- A seat's place is sound, and the seat has its number.
pub record WellPlaced (j : ℕ) (place : Place) : Type 0 where
  pub sound : SoundPlace place.seat place.shelf
  pub numbered : place.seat.own.0 ≡ j

-- What a session leaves: a run, sound places, and packets that are what their sends reported.
pub record Goes (n : ℕ) (places : ℕ → Place) (letters : List Letter) (trace : Trace) : Type 0 where
  pub run : Run model n places (packets_of letters) trace
  pub placed : (j : ℕ) → Seated n j → WellPlaced j (places j)
  pub posted : (letter : Letter) → letter ∈ letters → WellSent letter

-- one letter more
pub posted_after : (latest : Letter) (letters : List Letter) → WellSent latest → ((letter : Letter) → letter ∈ letters → WellSent letter)
    → (letter : Letter) → letter ∈ (latest ∷ letters) → WellSent letter
posted_after latest letters well rest letter (Memᴰ.head same) = subst WellSent (sym same) well
posted_after latest letters well rest letter (Memᴰ.tail was) = rest letter was

module _ {n : ℕ} {places : ℕ → Place} {letters : List Letter} {trace : Trace} (so_far : Goes n places letters trace) (j : ℕ) (seated : Seated n j) where
  pub here : WellPlaced j (places j)
  here = so_far.placed j seated

  -- the places that one step leaves
  abbrev pub place_with : Seat → List ℕ → ℕ → Place
  place_with next left = moved_to j (record { seat = next; shelf = left }) places

  -- the seat that went on keeps its number, and the others stay
  pub placed_after : (next : Seat) (left : List ℕ) → SoundPlace next left → next.own ≡ (places j).seat.own → (i : ℕ) → Seated n i → WellPlaced i (place_with next left i)
  placed_after next left sound same =
      let place : Place = record { seat = next; shelf = left } in
      let well : WellPlaced j place = record { sound = sound; numbered = ap (λ (s : SeatNo). s.0) same ∙ here.numbered } in
      each_seat model (λ i a. Seated n i → WellPlaced i a) (turn_of j place places (λ before after. Unit {0}) tt)
      (λ _. subst (WellPlaced j) (sym (moved_here j place places)) well) (λ i away s. so_far.placed i s)

  -- a step that goes on to another place, and sends nothing
  pub moves : {after : Trace} (next : Seat) (left : List ℕ) → SoundPlace next left → next.own ≡ (places j).seat.own → Run model n (place_with next left) (packets_of letters) after
      → Goes n (place_with next left) letters after
  moves next left sound same run = record { run = run; placed = placed_after next left sound same; posted = so_far.posted }

  -- a step that changes nothing and tells nothing
  pub stays : Goes n (place_with (places j).seat (places j).shelf) letters trace
  stays = rw (nothing_moved j (places j) places refl) so_far
