-- One look over a shelf's slots: what it finds, slot by slot and in all.
use Rattle.std.specs.Prelude.{ℕ, ◌-◌, ◌≤◌, ◌<◌, ◌≡◌, Bool, true, false, cond, not, ◌&&◌, ◌||◌, List, Option, Some, None, ltb, eqb, length, set}
use Rattle.answers.specs.Answers.{edit_no}
use Rattle.answers.specs.declared.SeatNo.{SeatNo}
use Rattle.vectors.specs.Vectors.{entry}
use Rattle.window.specs.Window.{handed, marked}
use Rattle.window.specs.declared.Window.{Window}
use Rattle.packet.specs.Packet.{sender_of}
use Rattle.packet.specs.declared.Heading.{Heading}
use Rattle.shelf.specs.Shelf.{slots, is_free, slot_or_none}
use Rattle.seat.specs.Stock.{packet_at, number_of, other_session, above_own_count, is_handed, too_far_ahead, on_slots, on_shelf, sound_slots}
use Rattle.seat.specs.HandingOver.{ready}
use Rattle.seat.specs.Releasing.{ready_at, no_later, chosen}
use Rattle.seat.specs.declared.Seat.{Seat}
use Rattle.seat.specs.declared.stock.Stock.{Stock}
use Rattle.seat.specs.declared.stock.Ready.{Ready}

-- A sender's window: its entry of run, and its word.
abbrev pub window_with : List ℕ → List ℕ → SeatNo → Window
window_with run words sender = record { run = entry run sender; ahead = entry words sender }

-- The words with a number of a sender marked.
abbrev pub marked_with : List ℕ → List ℕ → SeatNo → ℕ → List ℕ
marked_with run words sender number = set words (sender.0 - 1) (marked (window_with run words sender) number).ahead

-- A packet that was read would pass refusals 15 to 18, where the words say which numbers are repeated.
unfoldable pub passes_beside : Seat → List ℕ → Heading → List ℕ → Bool
passes_beside seat words heading past =
    not (other_session seat heading)
    && not (above_own_count seat past)
    && not (handed (window_with seat.run words heading.sender) (entry past heading.sender))
    && not (too_far_ahead seat heading.sender (entry past heading.sender))

-- One ready packet is released sooner than another: by sender, then by number.
abbrev pub is_sooner : Ready → Ready → Bool
is_sooner one other =
    ltb one.sender.0 other.sender.0 || (eqb one.sender.0 other.sender.0 && ltb one.number.0 other.number.0)

-- The first so far with one packet more, which is the first where it is ready and sooner.
abbrev pub first_with : Bool → Option Ready → Ready → Option Ready
first_with is_ready None next = cond is_ready (Some next) None
first_with is_ready (Some first) next = cond (is_ready && is_sooner next first) (Some next) (Some first)

-- A packet on slot i is counted in. Only where a packet is to be chosen does it say which is the first so far.
pub record Counted (choosing : Bool) (seat : Seat) (stock : Stock) (i : ℕ) (sender : SeatNo) (past barrier : List ℕ) (next : Stock) : Type 0 where
  pub marks_are : next.marks ≡ marked_with seat.run stock.marks sender (entry past sender)
  pub first_is : choosing ≡ true
      → next.first ≡ first_with (ready seat barrier) stock.first (record { slot = i; sender = sender; number = edit_no (entry past sender) })

-- Of the ready packets on the first n slots this one comes first, and no slot before it has a packet that comes as soon.
pub record ComesFirst (n : ℕ) (seat : Seat) (shelf : List ℕ) (first : Ready) : Type 0 where
  pub there : first.slot < n
  pub is_ready : ready_at seat shelf first.slot ≡ true
  pub sender_is : first.sender.0 ≡ (sender_of (packet_at shelf first.slot)).0
  pub number_is : first.number.0 ≡ number_of (packet_at shelf first.slot)
  pub least : (k : ℕ) → k < n → ready_at seat shelf k ≡ true → no_later (packet_at shelf first.slot) (packet_at shelf k) ≡ true
  pub lowest : (k : ℕ) → k < first.slot → ready_at seat shelf k ≡ true → no_later (packet_at shelf k) (packet_at shelf first.slot) ≡ false

-- The ready packet that comes first on the first n slots, or none where none of them is ready.
abbrev pub FirstReady : ℕ → Seat → List ℕ → Option Ready → Type 0
FirstReady n seat shelf None = (k : ℕ) → k < n → ready_at seat shelf k ≡ false
FirstReady n seat shelf (Some first) = ComesFirst n seat shelf first

-- What is found on the first n slots, which are sound: the numbers handed over or on them, and, where a packet is to be
-- chosen, the ready one that comes first.
pub record Looked (choosing : Bool) (n : ℕ) (seat : Seat) (shelf : List ℕ) (stock : Stock) : Type 0 where
  pub sound : sound_slots n seat shelf ≡ true
  pub marks_are : (sender : SeatNo) (number : ℕ) → 1 ≤ sender.0 → sender.0 ≤ 16
      → handed (window_with seat.run stock.marks sender) number ≡ (is_handed seat sender number || on_slots n shelf sender number)
  pub first_is : choosing ≡ true → FirstReady n seat shelf stock.first

-- What is known before slot i is looked at: it is there and in use, and those before it are sound.
pub record Looking (choosing : Bool) (i : ℕ) (seat : Seat) (shelf : List ℕ) (stock : Stock) : Type 0 where
  pub there : i < slots shelf
  pub used : is_free shelf i ≡ false
  pub long : length stock.marks ≡ 16
  pub looked : Looked choosing i seat shelf stock

-- The slot of the ready packet that comes first.
abbrev pub first_slot : Option Ready → Option ℕ
first_slot None = None
first_slot (Some first) = Some first.slot

-- What a sound shelf holds: the numbers handed over or on it, and, where a packet is to be chosen, the one to release.
pub record Surveyed (choosing : Bool) (seat : Seat) (shelf : List ℕ) (stock : Stock) : Type 0 where
  pub sound : sound_slots (slots shelf) seat shelf ≡ true
  pub marks_are : (sender : SeatNo) (number : ℕ) → 1 ≤ sender.0 → sender.0 ≤ 16
      → handed (window_with seat.run stock.marks sender) number ≡ (is_handed seat sender number || on_shelf shelf sender number)
  pub first_is : choosing ≡ true → first_slot stock.first ≡ slot_or_none (slots shelf) (chosen seat shelf)
