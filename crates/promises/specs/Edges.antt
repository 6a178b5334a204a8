-- Document 01's P1 to P12, either side of each edge, as one table over the definitions that the contracts cite. A seat
-- is fresh where it was just opened; where a shelf is not named, it has no slots; where a body is not named, it is empty.
use Rattle.std.specs.Prelude.{ℕ, ◌+◌, ◌≤◌, ◌≡◌, true, List, [], ◌∷◌, ◌++◌, length, replicate}
use Rattle.answers.specs.Answers.{seat_no}
use Rattle.vectors.specs.Vectors.{entry, zeros, table}
use Rattle.packet.specs.Packet.{body_length_of, past_of, barrier_of}
use Rattle.packet.specs.Reading.{read_of, read_number}
use Rattle.packet.specs.Writing.{packet_of}
use Rattle.packet.specs.declared.Kind.{Kind}
use Rattle.packet.specs.declared.Kind.TheVariants.{Ordinary, Causal}
use Rattle.shelf.specs.Shelf.{whole_slots, slot_of}
use Rattle.seat.specs.State.{counting}
use Rattle.seat.specs.Opening.{open_answer}
use Rattle.seat.specs.Sending.{send_answer, packet_sent, sent_seat, seat_after}
use Rattle.seat.specs.HandingOver.{hand_over}
use Rattle.seat.specs.Arriving.{heading_of, arrive_answer}
use Rattle.seat.specs.Releasing.{release_answer}
use Rattle.seat.specs.declared.Seat.{Seat}
use Rattle.promises.specs.Demand1.{answer_number}

-- A fresh seat, by its own number and n.
abbrev pub fresh_seat : ℕ → ℕ → Seat
fresh_seat own n = counting n (seat_no own)

-- The one seat of a session, with a count of edits sent.
abbrev pub seat_that_sent : ℕ → Seat
seat_that_sent count = record { n = 1; own = seat_no 1; past = count ∷ replicate 15 0; barrier = zeros; run = zeros; ahead = zeros }

-- What the packet that a seat sends next says at the seat itself: past and barrier.
pub record Says (seat : Seat) (kind : Kind) (past barrier : ℕ) : Type 0 where
  pub past_is : entry (read_of (packet_sent seat kind [])).past seat.own ≡ past
  pub barrier_is : entry (read_of (packet_sent seat kind [])).barrier seat.own ≡ barrier

-- An ordinary packet from seat 1 of 2, with this number, barrier 0, and past of seat 2 as given.
abbrev pub from_one : ℕ → ℕ → List ℕ → List ℕ
from_one number other body = packet_of Ordinary (record { n = 2; sender = seat_no 1 }) (number ∷ other ∷ replicate 14 0) zeros body

-- The first packet that seat 1 of 2 sends, and the second.
abbrev pub first_sent : Kind → List ℕ
first_sent kind = packet_sent (fresh_seat 1 2) kind []

abbrev pub second_sent : Kind → Kind → List ℕ
second_sent first second = packet_sent (sent_seat (fresh_seat 1 2) first) second []

-- What an arrival on a shelf of no slots is answered, and the state after it.
abbrev pub arrival_number : Seat → List ℕ → ℕ
arrival_number seat packet = answer_number (arrive_answer seat [] packet)

abbrev pub after_arrival : Seat → List ℕ → Seat
after_arrival seat packet = seat_after (arrive_answer seat [] packet) (hand_over seat (heading_of packet) (past_of packet) (barrier_of packet)) seat

-- The same of packets that arrive one after another.
unfoldable pub arrival_numbers : Seat → List (List ℕ) → List ℕ
arrival_numbers seat [] = []
arrival_numbers seat (packet ∷ packets) = arrival_number seat packet ∷ arrival_numbers (after_arrival seat packet) packets

unfoldable pub after_arrivals : Seat → List (List ℕ) → Seat
after_arrivals seat [] = seat
after_arrivals seat (packet ∷ packets) = after_arrivals (after_arrival seat packet) packets

-- Ordinary packets from seat 1 of 2, by their numbers.
unfoldable pub packets_numbered : List ℕ → List (List ℕ)
packets_numbered [] = []
packets_numbered (number ∷ numbers) = from_one number 0 [] ∷ packets_numbered numbers

-- 64, then 2 to 63, then 1.
unfoldable pub one_last : List ℕ
one_last = 64 ∷ table 62 (λ k. k + 2) ++ (1 ∷ [])

-- P1 to P12.
pub record Edges : Type 0 where
  -- open 0 of 0, 1 of 17 and 3 of 2 seats is 20; open 16 of 16 is 0
  pub p1 : (shelf : List ℕ)
      → (answer_number (open_answer 0 (seat_no 0) shelf) ≡ 20)
      × (answer_number (open_answer 17 (seat_no 1) shelf) ≡ 20)
      × (answer_number (open_answer 2 (seat_no 3) shelf) ≡ 20)
      × (whole_slots shelf ≡ true → answer_number (open_answer 16 (seat_no 16) shelf) ≡ 0)
  -- one seat, first ordinary: past 1, barrier 0
  pub p2 : Says (fresh_seat 1 1) Ordinary 1 0
  -- one seat, first causal: past 1, barrier 0; an ordinary after it: past 2, barrier 1
  pub p3 : Says (fresh_seat 1 1) Causal 1 0 × Says (sent_seat (fresh_seat 1 1) Causal) Ordinary 2 1
  -- of three seats, seat 1 sends an ordinary and then a causal edit: the second packet is, in hex,
  -- 12 08 00 00 02 00 00 00 00 00 01 00 00 00 00
  pub p4 : packet_sent (sent_seat (fresh_seat 1 3) Ordinary) Causal [] ≡ 18 ∷ 8 ∷ 0 ∷ 0 ∷ 2 ∷ 0 ∷ 0 ∷ 0 ∷ 0 ∷ 0 ∷ 1 ∷ 0 ∷ 0 ∷ 0 ∷ 0 ∷ []
  -- at fresh seat 2 of 2, ordinary from seat 1 with barrier 0: number 64 is handed over, 65 is 18
  pub p5 : (arrival_number (fresh_seat 2 2) (from_one 64 0 []) ≡ 0) × (arrival_number (fresh_seat 2 2) (from_one 65 0 []) ≡ 18)
  -- number 64, then 2 to 63, then 1, each handed over: run is 64, ahead is 0
  pub p6 : (arrival_numbers (fresh_seat 2 2) (packets_numbered one_last) ≡ replicate 64 0)
      × (entry (after_arrivals (fresh_seat 2 2) (packets_numbered one_last)).run (seat_no 1) ≡ 64)
      × (entry (after_arrivals (fresh_seat 2 2) (packets_numbered one_last)).ahead (seat_no 1) ≡ 0)
  -- own count 65,534 sends; 65,535 is 12
  pub p7 : (out : List ℕ)
      → (7 ≤ length out → answer_number (send_answer (seat_that_sent 65534) [] out) ≡ 0)
      × (answer_number (send_answer (seat_that_sent 65535) [] out) ≡ 12)
  -- no slots: causal number 2 before number 1 is 19; number 1 is 0
  pub p8 : (first : Kind)
      → (arrival_number (fresh_seat 2 2) (second_sent first Causal) ≡ 19)
      × (arrival_number (fresh_seat 2 2) (first_sent first) ≡ 0)
  -- a body of 200 is sent, of 201 is 11; a packet that names 201 is 14, and so is an empty packet
  pub p9 : (body out : List ℕ)
      → (length body ≡ 200 → 207 ≤ length out → answer_number (send_answer (fresh_seat 1 1) body out) ≡ 0)
      × (length body ≡ 201 → answer_number (send_answer (fresh_seat 1 1) body out) ≡ 11)
      × ((packet : List ℕ) → body_length_of packet ≡ 201 → (read_number (read_of packet).answer ≡ 14) × (arrival_number (fresh_seat 1 1) packet ≡ 14))
      × (read_number (read_of []).answer ≡ 14)
      × (arrival_number (fresh_seat 1 1) [] ≡ 14)
  -- two ordinary from one seat, second first: both are handed over at once
  pub p10 : (arrival_number (fresh_seat 2 2) (second_sent Ordinary Ordinary) ≡ 0)
      × (arrival_number (after_arrival (fresh_seat 2 2) (second_sent Ordinary Ordinary)) (first_sent Ordinary) ≡ 0)
  -- at fresh seat 2, a packet of sender 1 whose past at seat 2 is 1: 16
  pub p11 : arrival_number (fresh_seat 2 2) (from_one 1 1 []) ≡ 16
  -- release of a body of 0 bytes into no output is 0, of 1 byte is 13
  pub p12 : (answer_number (release_answer (fresh_seat 2 2) (slot_of (from_one 1 0 [])) []) ≡ 0)
      × ((byte : ℕ) → answer_number (release_answer (fresh_seat 2 2) (slot_of (from_one 1 0 (byte ∷ []))) []) ≡ 13)
