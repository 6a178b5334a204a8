-- A session as a step list walks it (document 01, "The step-list program"): seats that were opened together, the packets
-- sent so far, and what each step is answered. Every answer, state and shelf is what the call's own definition says.
use Rattle.std.specs.Prelude.{ℕ, zero, suc, ◌+◌, ◌*◌, ◌-◌, Bool, cond, ◌&&◌, List, [], ◌∷◌, ◌++◌, leb, ltb, eqb, length, get_or, set, replicate, Option, Some, None}
use Rattle.answers.specs.Answers.{seat_no, bare, report}
use Rattle.answers.specs.declared.Report.{Report}
use Rattle.answers.specs.declared.Answer.{Answer}
use Rattle.answers.specs.declared.Answer.TheVariants.{Opened, Done, Shelved, NothingReady, Refused}
use Rattle.packet.specs.Packet.{packet_length, past_of, barrier_of}
use Rattle.shelf.specs.Shelf.{slot_size, lowest}
use Rattle.seat.specs.Opening.{open_answer, opened_seat, opened_shelf}
use Rattle.seat.specs.Sending.{kind_of, packet_sent, sent_seat, send_answer, seat_after}
use Rattle.seat.specs.HandingOver.{hand_over}
use Rattle.seat.specs.Arriving.{heading_of, arrive_answer, shelf_after}
use Rattle.seat.specs.Releasing.{chosen_packet, release_answer, shelf_after_release}
use Rattle.seat.specs.declared.Seat.{Seat}
use Rattle.seat.specs.declared.Wish.{Wish}
use Rattle.seat.specs.declared.Wish.TheVariants.{Ordinary as PlainOrdinary, Causal as PlainCausal, Usual}
use Rattle.lines.specs.declared.Letter as lines
use Rattle.lines.specs.declared.Letter.TheVariants.{Ordinary, Causal}
use Rattle.lines.specs.declared.Step.{Step}
use Rattle.lines.specs.declared.Step.TheVariants.{Send, Arrive, Release}

-- A seat's latest state and shelf.
pub record Place : Type 0 where
  pub seat : Seat
  pub shelf : List ℕ

-- A packet that was sent: its edit's sender and number, and its bytes.
pub record Letter : Type 0 where
  pub sender : ℕ
  pub number : ℕ
  pub bytes : List ℕ

-- n seats, seat k's place at index k - 1; the packets sent, oldest first; and how many send lines there were.
pub record Session : Type 0 where
  pub n : ℕ
  pub sends : ℕ
  pub places : List Place
  pub letters : List Letter

-- What a step is answered, and the session after it.
pub record Told : Type 0 where
  pub report : Report
  pub session : Session

-- 21, and nothing changes.
abbrev pub unknown : Session → Told
unknown session = record { report = bare 21; session = session }

abbrev pub seated : Session → ℕ → Bool
seated session k = leb 1 k && leb k session.n

-- What an index past the last place gives.
abbrev pub nobody : Seat
nobody = record { n = 0; own = seat_no 0; past = []; barrier = []; run = []; ahead = [] }

abbrev pub no_place : Place
no_place = record { seat = nobody; shelf = [] }

abbrev pub place_of : Session → ℕ → Place
place_of session k = get_or session.places (k - 1) no_place

-- Seat k goes on to a new place.
abbrev pub with_place : Session → ℕ → Place → Session
with_place session k place =
    record { n = session.n; sends = session.sends; places = set session.places (k - 1) place; letters = session.letters }

-- ---- a send

-- At most so many send lines are taken.
abbrev pub sends_most : ℕ
sends_most = 256

-- The longest packet: 16 seats and no body.
abbrev pub packet_most : ℕ
packet_most = packet_length 16 0

abbrev pub room : List ℕ
room = replicate packet_most 0

abbrev pub counted : Session → Session
counted session =
    record { n = session.n; sends = session.sends + 1; places = session.places; letters = session.letters }

-- The packets sent, after a send that was answered so.
abbrev pub letters_after : Answer → List ℕ → List Letter → List Letter
letters_after (Done edit) packet letters =
    letters ++ (record { sender = edit.sender.0; number = edit.number.0; bytes = packet } ∷ [])
letters_after Opened packet letters = letters
letters_after Shelved packet letters = letters
letters_after NothingReady packet letters = letters
letters_after (Refused refusal) packet letters = letters

unfoldable pub sent : Session → ℕ → Wish → Place → Answer → Told
sent session k wish place answer =
    record {
      report = report answer;
      session = record {
        n = session.n;
        sends = session.sends;
        places = set session.places (k - 1)
            (record { seat = seat_after answer (sent_seat place.seat (kind_of wish)) place.seat; shelf = place.shelf });
        letters = letters_after answer (packet_sent place.seat (kind_of wish) []) session.letters;
      };
    }

-- `s SEAT`: the seat sends an edit with no body.
unfoldable pub send_told : Session → ℕ → Wish → Told
send_told session k wish =
    cond (leb sends_most session.sends) (unknown session)
    (cond (seated session k)
    (sent (counted session) k wish (place_of session k) (send_answer (place_of session k).seat [] room))
    (unknown (counted session)))

-- ---- an arrival

-- The state after an answer to a packet: on 0 the packet is handed over.
abbrev pub handed_to : Answer → Seat → List ℕ → Seat
handed_to answer seat packet =
    seat_after answer (hand_over seat (heading_of packet) (past_of packet) (barrier_of packet)) seat

-- A step at seat k was answered so, and left this state and this shelf.
abbrev pub answered : Session → ℕ → Answer → Seat → List ℕ → Told
answered session k answer seat shelf =
    record { report = report answer; session = with_place session k (record { seat = seat; shelf = shelf }) }

abbrev pub no_letter : Letter
no_letter = record { sender = 0; number = 0; bytes = [] }

abbrev pub letter_at : Session → ℕ → Letter
letter_at session i = get_or session.letters i no_letter

-- The packet that carries this edit: its place among the packets sent, or their number where there is none.
unfoldable pub found : Session → ℕ → ℕ → ℕ
found session sender number =
    lowest (length session.letters) (λ i. eqb (letter_at session i).sender sender && eqb (letter_at session i).number number)

unfoldable pub arrived : Session → ℕ → Place → List ℕ → Answer → Told
arrived session k place packet answer =
    answered session k answer (handed_to answer place.seat packet) (shelf_after answer packet place.shelf)

abbrev pub arrived_packet : Session → ℕ → List ℕ → Told
arrived_packet session k packet =
    arrived session k (place_of session k) packet (arrive_answer (place_of session k).seat (place_of session k).shelf packet)

-- `a SEAT SENDER NUMBER`: that packet arrives at the seat.
unfoldable pub arrive_told : Session → ℕ → ℕ → ℕ → Told
arrive_told session k sender number =
    cond (seated session k && ltb (found session sender number) (length session.letters))
    (arrived_packet session k (letter_at session (found session sender number)).bytes)
    (unknown session)

-- ---- a release

unfoldable pub released : Session → ℕ → Place → List ℕ → Answer → Told
released session k place packet answer =
    answered session k answer (handed_to answer place.seat packet) (shelf_after_release answer place.seat place.shelf)

-- `r SEAT`: bodies are empty, and so is the output.
unfoldable pub release_told : Session → ℕ → Told
release_told session k =
    cond (seated session k)
    (released session k (place_of session k) (chosen_packet (place_of session k).seat (place_of session k).shelf)
    (release_answer (place_of session k).seat (place_of session k).shelf []))
    (unknown session)

-- ---- a line

-- A missing letter means usual.
abbrev pub wish_of : Option lines.Letter → Wish
wish_of (Some Ordinary) = PlainOrdinary
wish_of (Some Causal) = PlainCausal
wish_of None = Usual

-- What a line after the first is answered: 21 where it is unreadable.
unfoldable pub step_told : Session → Option Step → Told
step_told session (Some (Send k letter)) = send_told session k (wish_of letter)
step_told session (Some (Arrive k sender number)) = arrive_told session k sender number
step_told session (Some (Release k)) = release_told session k
step_told session None = unknown session

-- ---- opening

-- The list f 0, f 1, up to f (n - 1).
unfoldable pub list_of : {A : Type 0} → ℕ → (ℕ → A) → List A
list_of zero f = []
list_of (suc n) f = list_of n f ++ (f n ∷ [])

-- Seat k of n, opened with a shelf of so many slots.
abbrev pub opened_as : ℕ → ℕ → List ℕ → Answer → Place
opened_as n k lent answer = record { seat = opened_seat answer n (seat_no k); shelf = opened_shelf answer lent }

abbrev pub opened_place : ℕ → ℕ → ℕ → Place
opened_place n slots k =
    opened_as n k (replicate (slots * slot_size) 0) (open_answer n (seat_no k) (replicate (slots * slot_size) 0))

-- Freshly opened seats, numbered 1 to n once each.
unfoldable pub opened : ℕ → ℕ → Session
opened n slots = record { n = n; sends = 0; places = list_of n (λ i. opened_place n slots (suc i)); letters = [] }
