-- The packets on a shelf, and when a shelf is sound for a seat (document 01, "Numbers of a seat").
use Rattle.std.specs.Prelude.{ℕ, ◌+◌, ◌-◌, ◌≤◌, ◌<◌, ◌≡◌, Bool, true, false, cond, not, ◌&&◌, ◌||◌, List, [], Result, Ok, Err, leb, ltb, eqb, length, get_or, take, drop}
use Rattle.answers.specs.declared.SeatNo.{SeatNo}
use Rattle.answers.specs.declared.Refusal.{Refusal}
use Rattle.vectors.specs.Vectors.{all, entry}
use Rattle.window.specs.Window.{handed}
use Rattle.packet.specs.Packet.{seats_of, sender_of, body_length_of, past_of, packet_length, first_bad_point}
use Rattle.packet.specs.Reading.{read_of}
use Rattle.packet.specs.declared.Heading.{Heading}
use Rattle.packet.specs.declared.Reading.{Reading}
use Rattle.shelf.specs.Shelf.{slot_size, slots, whole_slots, slot_at, is_free, slot_of, rest_zero}
use Rattle.seat.specs.State.{own_count, window_of}
use Rattle.seat.specs.declared.Seat.{Seat}

-- The length of the packet that bytes start with, as its own fields say.
abbrev pub named_length : List ℕ → ℕ
named_length bytes = packet_length (seats_of bytes) (body_length_of bytes)

-- A slot in use: a byte 1, a packet as long as its own fields say, and zeros to the slot's end.
unfoldable pub holds_packet : List ℕ → Bool
holds_packet slot =
    eqb (get_or slot 0 0) 1
    && leb (named_length (drop 1 slot)) (slot_size - 1)
    && rest_zero slot (1 + named_length (drop 1 slot))

-- The packet in a slot; empty where the slot holds none.
unfoldable pub packet_in : List ℕ → List ℕ
packet_in slot = cond (holds_packet slot) (take (named_length (drop 1 slot)) (drop 1 slot)) []

abbrev pub packet_at : List ℕ → ℕ → List ℕ
packet_at shelf i = packet_in (slot_at shelf i)

-- A packet's sequence number.
abbrev pub number_of : List ℕ → ℕ
number_of packet = entry (past_of packet) (sender_of packet)

-- The occasions of refusals 15, 16, 18, and of 17 but for the shelf.
abbrev pub other_session : Seat → Heading → Bool
other_session seat heading = not (eqb heading.n seat.n)

abbrev pub above_own_count : Seat → List ℕ → Bool
above_own_count seat past = ltb (own_count seat) (entry past seat.own)

abbrev pub is_handed : Seat → SeatNo → ℕ → Bool
is_handed seat sender number = handed (window_of seat sender) number

abbrev pub too_far_ahead : Seat → SeatNo → ℕ → Bool
too_far_ahead seat sender number = ltb (entry seat.run sender + 64) number

-- A packet that was read would pass refusals 14 to 18, the shelf not counted.
abbrev pub passes_as : Seat → List ℕ → Result Heading Refusal → Bool
passes_as seat past (Err refusal) = false
passes_as seat past (Ok heading) =
    not (other_session seat heading)
    && not (above_own_count seat past)
    && not (is_handed seat heading.sender (entry past heading.sender))
    && not (too_far_ahead seat heading.sender (entry past heading.sender))

unfoldable pub passes : Seat → Reading → Bool
passes seat reading = passes_as seat reading.past reading.answer

-- A slot is free, or the packet on it would pass.
abbrev pub sound_slot : Seat → List ℕ → ℕ → Bool
sound_slot seat shelf i = is_free shelf i || passes seat (read_of (packet_at shelf i))

-- A packet carries the edit of this sender and number.
unfoldable pub is_edit : List ℕ → SeatNo → ℕ → Bool
is_edit packet sender number = eqb (sender_of packet).0 sender.0 && eqb (number_of packet) number

-- The edit of this sender and number stands on one of the first n slots.
unfoldable pub on_slots : ℕ → List ℕ → SeatNo → ℕ → Bool
on_slots n shelf sender number = not (all n (λ i. is_free shelf i || not (is_edit (packet_at shelf i) sender number)))

abbrev pub on_shelf : List ℕ → SeatNo → ℕ → Bool
on_shelf shelf sender number = on_slots (slots shelf) shelf sender number

-- No two of the first n slots have packets with the same sender and number.
unfoldable pub distinct : ℕ → List ℕ → Bool
distinct n shelf =
    all n (λ j. is_free shelf j || not (on_slots j shelf (sender_of (packet_at shelf j)) (number_of (packet_at shelf j))))

-- The first n slots are sound.
unfoldable pub sound_slots : ℕ → Seat → List ℕ → Bool
sound_slots n seat shelf = all n (sound_slot seat shelf) && distinct n shelf

-- The shelf is sound: whole slots, each packet on it would pass, and no two are the same edit.
unfoldable pub sound_shelf : Seat → List ℕ → Bool
sound_shelf seat shelf = whole_slots shelf && sound_slots (slots shelf) seat shelf

-- A packet would pass refusals 14 to 18, the shelf not counted, in plain facts.
pub record Passing (seat : Seat) (packet : List ℕ) : Type 0 where
  pub is_well_formed : first_bad_point packet ≡ 0
  pub same_session : seats_of packet ≡ seat.n
  pub within_own_count : entry (past_of packet) seat.own ≤ own_count seat
  pub not_handed : is_handed seat (sender_of packet) (number_of packet) ≡ false
  pub near : number_of packet ≤ entry seat.run (sender_of packet) + 64

-- The shelf is sound, in plain facts.
pub record SoundShelf (seat : Seat) (shelf : List ℕ) : Type 0 where
  pub whole : whole_slots shelf ≡ true
  pub passing : (i : ℕ) → i < slots shelf → is_free shelf i ≡ false → Passing seat (packet_at shelf i)
  pub stands : (i : ℕ) → i < slots shelf → is_free shelf i ≡ false → slot_at shelf i ≡ slot_of (packet_at shelf i)
  pub short : (i : ℕ) → i < slots shelf → is_free shelf i ≡ false → length (packet_at shelf i) ≤ slot_size - 1
  pub apart : (i j : ℕ) → i < j → j < slots shelf → is_free shelf i ≡ false → is_free shelf j ≡ false
      → (sender_of (packet_at shelf i)).0 ≡ (sender_of (packet_at shelf j)).0 → number_of (packet_at shelf i) ≡ number_of (packet_at shelf j) → ⊥
