-- Demand 1: the exact occasion of every answer number, call by call, in document 01's words, and that from 10 up nothing
-- changes. An occasion is a product of plain facts; no input is assumed to be good.
use Rattle.std.specs.Prelude.{ℕ, ◌+◌, ◌%◌, ◌≤◌, ◌<◌, max, ◌≡◌, ◌↔◌, ◌⊎◌, true, false, List, [], ◌∷◌, length, get_or}
use Rattle.answers.specs.Answers.{edit_no, bare, report}
use Rattle.answers.specs.declared.SeatNo.{SeatNo}
use Rattle.answers.specs.declared.Answer.{Answer}
use Rattle.vectors.specs.Vectors.{entry}
use Rattle.packet.specs.Packet.{version_of, seats_of, sender_of, kind_of, zero_bits_of, body_length_of, past_of, barrier_of, packet_length, less_one}
use Rattle.packet.specs.Reading.{read_of, body_of, read_number}
use Rattle.packet.specs.Writing.{write_answer, Written}
use Rattle.packet.specs.declared.Kind.{Kind}
use Rattle.packet.specs.declared.Kind.TheVariants.{Causal}
use Rattle.packet.specs.declared.Header.{Header}
use Rattle.shelf.specs.Shelf.{slot_size, slots, is_free}
use Rattle.seat.specs.State.{own_count, SoundState, Held, no_seat}
use Rattle.seat.specs.Stock.{packet_at, number_of, is_handed, SoundShelf}
use Rattle.seat.specs.Opening.{open_answer, OpenedAs}
use Rattle.seat.specs.Sending.{send_answer, Sent}
use Rattle.seat.specs.HandingOver.{raised_by}
use Rattle.seat.specs.Arriving.{arrive_answer, Arrived}
use Rattle.seat.specs.Releasing.{release_answer, Released}
use Rattle.seat.specs.declared.Seat.{Seat}
use Rattle.seat.specs.declared.Wish.{Wish}
use Rattle.seat.specs.declared.Stepped.{Stepped}

-- The number of an answer.
abbrev pub answer_number : Answer → ℕ
answer_number answer = (report answer).answer

-- The number is one of these.
abbrev pub OneOf : ℕ → List ℕ → Type 0
OneOf k [] = ⊥
OneOf k (number ∷ rest) = (k ≡ number) ⊎ OneOf k rest

-- ---- packets

-- n is 1 to 16, and the seat is 1 to n.
abbrev pub SeatOf : SeatNo → ℕ → Type 0
SeatOf seat n = (1 ≤ n) × (n ≤ 16) × (1 ≤ seat.0) × (seat.0 ≤ n)

-- Points 7 and 8.
pub record InOrder (kind : Kind) (sender : SeatNo) (past barrier : List ℕ) : Type 0 where
  pub within_past : (k : ℕ) → k < 16 → get_or barrier k 0 ≤ get_or past k 0
  pub smaller : entry barrier sender < entry past sender
  pub causal : kind ≡ Causal → (k : ℕ) → k < 16 → get_or barrier k 0 ≡ get_or (less_one past sender) k 0

-- The packet is well formed.
pub record WellFormed (packet : List ℕ) : Type 0 where
  pub point_1 : 3 ≤ length packet
  pub point_2 : version_of packet ≡ 1
  pub point_3 : zero_bits_of packet ≡ 0
  pub point_4 : (sender_of packet).0 ≤ seats_of packet
  pub point_5 : body_length_of packet ≤ 200
  pub point_6 : length packet ≡ packet_length (seats_of packet) (body_length_of packet)
  pub points_7_8 : InOrder (kind_of packet) (sender_of packet) (past_of packet) (barrier_of packet)

-- The message can be written: n and sender in range, points 7 and 8, and every entry above n 0.
pub record CanBeWritten (kind : Kind) (header : Header) (past barrier : List ℕ) : Type 0 where
  pub is_in_range : SeatOf header.sender header.n
  pub in_order : InOrder kind header.sender past barrier
  pub past_above : (k : ℕ) → header.n ≤ k → k < 16 → get_or past k 0 ≡ 0
  pub barrier_above : (k : ℕ) → header.n ≤ k → k < 16 → get_or barrier k 0 ≡ 0

-- Write: 11, 14, 13.
module _ (kind : Kind) (header : Header) (past barrier body out : List ℕ) where
  -- What a write is answered.
  abbrev pub written : ℕ
  written = answer_number (write_answer kind header past barrier body out)

  pub record WriteAnswers : Type 0 where
    pub is_11 : written ≡ 11 ↔ 200 < length body
    pub is_14 : written ≡ 14 ↔ (length body ≤ 200) × (CanBeWritten kind header past barrier → ⊥)
    pub is_13 : written ≡ 13 ↔ (length body ≤ 200) × CanBeWritten kind header past barrier × (length out < packet_length header.n (length body))
    pub is_0 : written ≡ 0 ↔ (length body ≤ 200) × CanBeWritten kind header past barrier × (packet_length header.n (length body) ≤ length out)
    pub no_other : OneOf written (11 ∷ 14 ∷ 13 ∷ 0 ∷ [])

-- Read: 14.
pub record ReadAnswers (packet : List ℕ) : Type 0 where
  pub is_14 : read_number (read_of packet).answer ≡ 14 ↔ (WellFormed packet → ⊥)
  pub is_0 : read_number (read_of packet).answer ≡ 0 ↔ WellFormed packet
  pub no_other : OneOf (read_number (read_of packet).answer) (14 ∷ 0 ∷ [])

-- ---- opening and sending

-- The shelf is whole slots of 268 bytes, 0 to 32 of them.
abbrev pub WholeSlots : List ℕ → Type 0
WholeSlots shelf = (length shelf % slot_size ≡ 0) × (slots shelf ≤ 32)

-- Open: 20, 10.
pub record OpenAnswers (n : ℕ) (own : SeatNo) (shelf : List ℕ) : Type 0 where
  pub is_20 : answer_number (open_answer n own shelf) ≡ 20 ↔ (SeatOf own n → ⊥)
  pub is_10 : answer_number (open_answer n own shelf) ≡ 10 ↔ SeatOf own n × (WholeSlots shelf → ⊥)
  pub is_0 : answer_number (open_answer n own shelf) ≡ 0 ↔ SeatOf own n × WholeSlots shelf
  pub no_other : OneOf (answer_number (open_answer n own shelf)) (20 ∷ 10 ∷ 0 ∷ [])

-- Send: 10, 11, 12, 13.
module _ (seat : Seat) (body out : List ℕ) where
  -- What a send is answered.
  abbrev pub sent : ℕ
  sent = answer_number (send_answer seat body out)

  pub record SendAnswers : Type 0 where
    pub is_10 : sent ≡ 10 ↔ (SoundState seat → ⊥)
    pub is_11 : sent ≡ 11 ↔ SoundState seat × (200 < length body)
    pub is_12 : sent ≡ 12 ↔ SoundState seat × (length body ≤ 200) × (own_count seat ≡ 65535)
    pub is_13 : sent ≡ 13
        ↔ SoundState seat × (length body ≤ 200) × (own_count seat ≡ 65535 → ⊥) × (length out < packet_length seat.n (length body))
    pub is_0 : sent ≡ 0
        ↔ SoundState seat × (length body ≤ 200) × (own_count seat ≡ 65535 → ⊥) × (packet_length seat.n (length body) ≤ length out)
    pub no_other : OneOf sent (10 ∷ 11 ∷ 12 ∷ 13 ∷ 0 ∷ [])

-- ---- arrivals

-- State and shelf are sound.
abbrev pub Sound : Seat → List ℕ → Type 0
Sound seat shelf = SoundState seat × SoundShelf seat shelf

-- The packet's n is this session's.
abbrev pub SameSession : Seat → List ℕ → Type 0
SameSession seat packet = seats_of packet ≡ seat.n

-- past_m[self] is at most own past[self].
abbrev pub WithinOwnCount : Seat → List ℕ → Type 0
WithinOwnCount seat packet = entry (past_of packet) seat.own ≤ own_count seat

-- A slot in use holds the edit of this packet.
abbrev pub OnShelf : List ℕ → List ℕ → Type 0
OnShelf shelf packet =
    (i : ℕ) × (i < slots shelf) × (is_free shelf i ≡ false) × ((sender_of (packet_at shelf i)).0 ≡ (sender_of packet).0)
    × (number_of (packet_at shelf i) ≡ number_of packet)

-- The number is already handed over, or on the shelf.
abbrev pub Repeats : Seat → List ℕ → List ℕ → Type 0
Repeats seat shelf packet = (is_handed seat (sender_of packet) (number_of packet) ≡ true) ⊎ OnShelf shelf packet

-- The number is at most run[sender] + 64.
abbrev pub Near : Seat → List ℕ → Type 0
Near seat packet = number_of packet ≤ entry seat.run (sender_of packet) + 64

-- Ready: barrier_m[k] ≤ run[k] for every k.
abbrev pub Ready : Seat → List ℕ → Type 0
Ready seat packet = (k : ℕ) → k < 16 → get_or (barrier_of packet) k 0 ≤ get_or seat.run k 0

-- Barrier stays within past after handing over.
abbrev pub BarrierStays : Seat → List ℕ → Type 0
BarrierStays seat packet =
    (k : ℕ) → k < 16
    → max (get_or seat.barrier k 0) (get_or (raised_by (kind_of packet) (past_of packet) (barrier_of packet)) k 0)
    ≤ max (get_or seat.past k 0) (get_or (past_of packet) k 0)

-- A slot is free.
abbrev pub FreeSlot : List ℕ → Type 0
FreeSlot shelf = (i : ℕ) × (i < slots shelf) × (is_free shelf i ≡ true)

-- The arrival passes refusals 10 to 18.
pub record Admitted (seat : Seat) (shelf packet : List ℕ) : Type 0 where
  pub sound : Sound seat shelf
  pub is_well_formed : WellFormed packet
  pub same_session : SameSession seat packet
  pub within_own_count : WithinOwnCount seat packet
  pub is_new : Repeats seat shelf packet → ⊥
  pub near : Near seat packet

-- Arrival: 10, 14, 15, 16, 17, 18; then if ready 23, else 19.
module _ (seat : Seat) (shelf packet : List ℕ) where
  -- What an arrival is answered.
  abbrev pub arrived : ℕ
  arrived = answer_number (arrive_answer seat shelf packet)

  pub record ArriveAnswers : Type 0 where
    pub is_10 : arrived ≡ 10 ↔ (Sound seat shelf → ⊥)
    pub is_14 : arrived ≡ 14 ↔ Sound seat shelf × (WellFormed packet → ⊥)
    pub is_15 : arrived ≡ 15 ↔ Sound seat shelf × WellFormed packet × (SameSession seat packet → ⊥)
    pub is_16 : arrived ≡ 16 ↔ Sound seat shelf × WellFormed packet × SameSession seat packet × (WithinOwnCount seat packet → ⊥)
    pub is_17 : arrived ≡ 17
        ↔ Sound seat shelf × WellFormed packet × SameSession seat packet × WithinOwnCount seat packet × Repeats seat shelf packet
    pub is_18 : arrived ≡ 18
        ↔ Sound seat shelf × WellFormed packet × SameSession seat packet × WithinOwnCount seat packet × (Repeats seat shelf packet → ⊥) × (Near seat packet → ⊥)
    pub is_23 : arrived ≡ 23 ↔ Admitted seat shelf packet × Ready seat packet × (BarrierStays seat packet → ⊥)
    pub is_19 : arrived ≡ 19 ↔ Admitted seat shelf packet × (Ready seat packet → ⊥) × (FreeSlot shelf → ⊥)
    pub is_0 : arrived ≡ 0 ↔ Admitted seat shelf packet × Ready seat packet × BarrierStays seat packet
    pub is_1 : arrived ≡ 1 ↔ Admitted seat shelf packet × (Ready seat packet → ⊥) × FreeSlot shelf
    pub no_other : OneOf arrived (10 ∷ 14 ∷ 15 ∷ 16 ∷ 17 ∷ 18 ∷ 23 ∷ 19 ∷ 0 ∷ 1 ∷ [])

-- ---- releases

-- One packet comes no later than another: a lower sender, or the same and no higher number.
abbrev pub NotAfter : List ℕ → List ℕ → Type 0
NotAfter one other = ((sender_of one).0 < (sender_of other).0) ⊎ (((sender_of one).0 ≡ (sender_of other).0) × (number_of one ≤ number_of other))

-- A slot holds a ready packet.
abbrev pub ReadySlot : Seat → List ℕ → ℕ → Type 0
ReadySlot seat shelf i = (i < slots shelf) × (is_free shelf i ≡ false) × Ready seat (packet_at shelf i)

-- Of the ready packets on the shelf, the one on slot i has the lowest sender, then lowest number.
pub record Next (seat : Seat) (shelf : List ℕ) (i : ℕ) : Type 0 where
  pub ready : ReadySlot seat shelf i
  pub first : (j : ℕ) → ReadySlot seat shelf j → NotAfter (packet_at shelf i) (packet_at shelf j)

-- Release: 10, 2, 13, 23.
module _ (seat : Seat) (shelf out : List ℕ) where
  -- What a release is answered.
  abbrev pub released : ℕ
  released = answer_number (release_answer seat shelf out)

  -- The output has room for the body of the packet on slot i.
  abbrev pub RoomFor : ℕ → Type 0
  RoomFor i = length (body_of (packet_at shelf i)) ≤ length out

  pub record ReleaseAnswers : Type 0 where
    pub is_10 : released ≡ 10 ↔ (Sound seat shelf → ⊥)
    pub is_2 : released ≡ 2 ↔ Sound seat shelf × ((i : ℕ) → ReadySlot seat shelf i → ⊥)
    pub is_13 : released ≡ 13 ↔ Sound seat shelf × ((i : ℕ) × Next seat shelf i × (RoomFor i → ⊥))
    pub is_23 : released ≡ 23 ↔ Sound seat shelf × ((i : ℕ) × Next seat shelf i × RoomFor i × (BarrierStays seat (packet_at shelf i) → ⊥))
    pub is_0 : released ≡ 0 ↔ Sound seat shelf × ((i : ℕ) × Next seat shelf i × RoomFor i × BarrierStays seat (packet_at shelf i))
    pub no_other : OneOf released (10 ∷ 2 ∷ 13 ∷ 23 ∷ 0 ∷ [])

-- ---- reports

-- On 0 sender, number and length of the edit, with the packet's length where it is written and the body's where it is
-- handed over; opening and every other answer report three zeros.
pub record Reports : Type 0 where
  pub other_than_0 : (answer : Answer) → (answer_number answer ≡ 0 → ⊥) → report answer ≡ bare (answer_number answer)
  pub opening : (n : ℕ) (own : SeatNo) (shelf : List ℕ) → report (open_answer n own shelf) ≡ bare (answer_number (open_answer n own shelf))
  pub writing : (kind : Kind) (header : Header) (past barrier body out : List ℕ) → written kind header past barrier body out ≡ 0
      → (report (write_answer kind header past barrier body out)).edit
      ≡ record { sender = header.sender; number = edit_no (entry past header.sender); length = packet_length header.n (length body) }
  pub sending : (seat : Seat) (body out : List ℕ) → Held seat → sent seat body out ≡ 0
      → (report (send_answer seat body out)).edit ≡ record { sender = seat.own; number = edit_no (own_count seat + 1); length = packet_length seat.n (length body) }
  pub arriving : (seat : Seat) (shelf packet : List ℕ) → arrived seat shelf packet ≡ 0
      → (report (arrive_answer seat shelf packet)).edit ≡ record { sender = sender_of packet; number = edit_no (number_of packet); length = length (body_of packet) }
  pub releasing : (seat : Seat) (shelf out : List ℕ) → released seat shelf out ≡ 0 → (i : ℕ) → Next seat shelf i
      → (report (release_answer seat shelf out)).edit
      ≡ record { sender = sender_of (packet_at shelf i); number = edit_no (number_of (packet_at shelf i)); length = length (body_of (packet_at shelf i)) }

-- ---- refusals

-- Every number from 10 up leaves state, shelf and output unchanged; a refused open hands back zeros.
pub record RefusalsChangeNothing : Type 0 where
  pub writing : (kind : Kind) (header : Header) (past barrier body out : List ℕ) (answer : Answer) (after : List ℕ)
      → Written kind header past barrier body out answer after → 10 ≤ answer_number answer → after ≡ out
  pub opening : (n : ℕ) (own : SeatNo) (shelf : List ℕ) (stepped : Stepped) (after : List ℕ) → OpenedAs n own shelf stepped after
      → 10 ≤ answer_number stepped.answer → (stepped.seat ≡ no_seat) × (after ≡ shelf)
  pub sending : (seat : Seat) (wish : Wish) (body out : List ℕ) (stepped : Stepped) (after : List ℕ) → Sent seat wish body out stepped after
      → 10 ≤ answer_number stepped.answer → (stepped.seat ≡ seat) × (after ≡ out)
  pub arriving : (seat : Seat) (packet shelf : List ℕ) (stepped : Stepped) (after : List ℕ) → Arrived seat packet shelf stepped after
      → 10 ≤ answer_number stepped.answer → (stepped.seat ≡ seat) × (after ≡ shelf)
  pub releasing : (seat : Seat) (shelf out : List ℕ) (stepped : Stepped) (shelf_left out_left : List ℕ) → Released seat shelf out stepped shelf_left out_left
      → 10 ≤ answer_number stepped.answer → (stepped.seat ≡ seat) × (shelf_left ≡ shelf) × (out_left ≡ out)

-- Demand 1, call by call.
pub record Demand1 : Type 0 where
  pub writing : (kind : Kind) (header : Header) (past barrier body out : List ℕ) → WriteAnswers kind header past barrier body out
  pub reading : (packet : List ℕ) → ReadAnswers packet
  pub opening : (n : ℕ) (own : SeatNo) (shelf : List ℕ) → OpenAnswers n own shelf
  pub sending : (seat : Seat) (body out : List ℕ) → SendAnswers seat body out
  pub arriving : (seat : Seat) (shelf packet : List ℕ) → ArriveAnswers seat shelf packet
  pub releasing : (seat : Seat) (shelf out : List ℕ) → ReleaseAnswers seat shelf out
  pub reports : Reports
  pub unchanged : RefusalsChangeNothing
