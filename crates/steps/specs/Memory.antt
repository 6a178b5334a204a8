-- How a session is held: the states in an array, the shelves and the packets each in one buffer, in pieces of one size.
use Rattle.std.specs.Prelude.{ℕ, suc, ◌+◌, ◌*◌, ◌-◌, ◌≤◌, ◌<◌, ◌≡◌, Bool, cond, ◌&&◌, List, [], ◌++◌, leb, length, get_or, set, take, drop, replicate, Option, Some, None}
use Rattle.answers.specs.Answers.{seat_no, edit_no, report}
use Rattle.answers.specs.declared.Edit.{Edit}
use Rattle.answers.specs.declared.Answer.{Answer}
use Rattle.answers.specs.declared.Answer.TheVariants.{Opened, Done, Shelved, NothingReady, Refused}
use Rattle.packet.specs.Packet.{packet_length}
use Rattle.shelf.specs.Shelf.{slot_size}
use Rattle.seat.specs.State.{counting}
use Rattle.seat.specs.Sending.{kind_of, packet_sent, Sent}
use Rattle.seat.specs.declared.Seat.{Seat}
use Rattle.seat.specs.declared.Stepped.{Stepped}
use Rattle.seat.specs.declared.Wish.{Wish}
use Rattle.steps.specs.Session.{Place, Letter, Session, Told, nobody, sends_most, packet_most, list_of}
use Rattle.steps.specs.declared.walk.Walk.{Walk}
use Rattle.steps.specs.declared.walk.Walked.{Walked}

-- The piece at i, and a buffer with other bytes in its place.
abbrev pub piece : ℕ → List ℕ → ℕ → List ℕ
piece size buffer i = take size (drop (size * i) buffer)

abbrev pub with_piece : ℕ → List ℕ → ℕ → List ℕ → List ℕ
with_piece size buffer i bytes = take (size * i) buffer ++ (bytes ++ drop (size * i + size) buffer)

-- The bytes of a shelf.
abbrev pub shelf_size : Walk → ℕ
shelf_size walk = walk.slots * slot_size

abbrev pub seat_in : Walk → ℕ → Seat
seat_in walk i = get_or walk.seats i nobody

abbrev pub shelf_in : Walk → List ℕ → ℕ → List ℕ
shelf_in walk shelves i = piece (shelf_size walk) shelves i

abbrev pub place_in : Walk → List ℕ → ℕ → Place
place_in walk shelves i = record { seat = seat_in walk i; shelf = shelf_in walk shelves i }

abbrev pub packet_in : Walk → List ℕ → ℕ → List ℕ
packet_in walk packets i = take (packet_length walk.n 0) (piece packet_most packets i)

-- What an index past the last edit gives.
abbrev pub no_edit : Edit
no_edit = record { sender = seat_no 0; number = edit_no 0; length = 0 }

abbrev pub edit_in : Walk → ℕ → Edit
edit_in walk i = get_or walk.edits i no_edit

abbrev pub letter_in : Walk → List ℕ → ℕ → Letter
letter_in walk packets i =
    record { sender = (edit_in walk i).sender.0; number = (edit_in walk i).number.0; bytes = packet_in walk packets i }

-- The session that is held.
unfoldable pub session_in : Walk → List ℕ → List ℕ → Session
session_in walk shelves packets =
    record {
      n = walk.n;
      sends = walk.sends;
      places = list_of walk.n (place_in walk shelves);
      letters = list_of walk.letters (letter_in walk packets);
    }

-- The most slots that a step list gives a shelf.
abbrev pub slots_most : ℕ
slots_most = 8

-- The bytes of the buffers, which have room for every session.
abbrev pub shelves_size : ℕ
shelves_size = 16 * (slots_most * slot_size)

abbrev pub packets_size : ℕ
packets_size = packet_most * sends_most

-- A walk's numbers are in their bounds, and its arrays have their lengths.
pub record Bounded (walk : Walk) : Type 0 where
  pub seats_within_most : walk.n ≤ 16
  pub slots_within_most : walk.slots ≤ slots_most
  pub letters_most : walk.letters ≤ walk.sends
  pub sends_within_most : walk.sends ≤ sends_most
  pub same_session : (i : ℕ) → i < walk.n → (seat_in walk i).n ≡ walk.n
  pub seats_long : length walk.seats ≡ 16
  pub edits_long : length walk.edits ≡ sends_most

-- The walk has gone on as the session is told to.
pub record Walks (told : Told) (walked : Walked) (shelves packets : List ℕ) : Type 0 where
  pub report_is : walked.report ≡ told.report
  pub session_is : session_in walked.walk shelves packets ≡ told.session
  pub bounded : Bounded walked.walk

-- ---- what the private functions say

abbrev pub is_seated : Walk → ℕ → Bool
is_seated walk k = leb 1 k && leb k walk.n

abbrev pub index_in : Walk → ℕ → Option ℕ
index_in walk k = cond (is_seated walk k) (Some (k - 1)) None

-- The walk with one send line more.
abbrev pub with_send : Walk → Walk
with_send walk =
    record {
      n = walk.n;
      slots = walk.slots;
      sends = walk.sends + 1;
      letters = walk.letters;
      seats = walk.seats;
      edits = walk.edits;
    }

-- The walk with another state for the seat at i.
abbrev pub with_seat : Walk → ℕ → Seat → Walk
with_seat walk i seat =
    record {
      n = walk.n;
      slots = walk.slots;
      sends = walk.sends;
      letters = walk.letters;
      seats = set walk.seats i seat;
      edits = walk.edits;
    }

-- The walk after a send that was answered so: done, its edit is noted.
abbrev pub with_edit : Walk → Answer → Walk
with_edit walk (Done edit) =
    record {
      n = walk.n;
      slots = walk.slots;
      sends = walk.sends;
      letters = walk.letters + 1;
      seats = walk.seats;
      edits = set walk.edits walk.letters edit;
    }
with_edit walk Opened = walk
with_edit walk Shelved = walk
with_edit walk NothingReady = walk
with_edit walk (Refused refusal) = walk

-- The answer of a step at the seat at i, and its next state.
abbrev pub walked_to : Walk → ℕ → Seat → Answer → Walked
walked_to walk i seat answer = record { walk = with_seat walk i seat; report = report answer }

-- An edit with no body was sent, and its packet is as long as n says.
pub record SentEmpty (seat : Seat) (wish : Wish) (out : List ℕ) (stepped : Stepped) (after : List ℕ) : Type 0 where
  pub sent : Sent seat wish [] out stepped after
  pub packet_long : seat.n ≤ 16 → length (packet_sent seat (kind_of wish) []) ≡ packet_length seat.n 0

-- The seat at i was opened.
pub record OpenedIn (n slots i : ℕ) (shelves : List ℕ) (seat : Seat) (shelves-left : List ℕ) : Type 0 where
  pub seat_is : seat ≡ counting n (seat_no (suc i))
  pub shelves_are : shelves-left ≡ with_piece (slots * slot_size) shelves i (replicate (slots * slot_size) 0)

-- The first k seats of n were opened.
pub record AllOpened (k n slots : ℕ) (seats : List Seat) (shelves : List ℕ) : Type 0 where
  pub long : length seats ≡ 16
  pub seat_is : (i : ℕ) → i < k → get_or seats i nobody ≡ counting n (seat_no (suc i))
  pub shelf_is : (i : ℕ) → i < k → piece (slots * slot_size) shelves i ≡ replicate (slots * slot_size) 0
