-- A session, as demand 3 takes it: seats that the library opened, and steps that are calls of the library, in bytes.
-- Each call's result is what that call's contract says. `Needs`, `Handed` and `Accepted` are judged from the events alone:
-- `Kept` of crate session says so in full.
use Rattle.std.specs.Prelude.{ℕ, zero, suc, ◌≡◌, cond, List, [], ◌∷◌, eqb, take}
use Rattle.answers.specs.Answers.{seat_no, report}
use Rattle.answers.specs.declared.Answer.{Answer}
use Rattle.packet.specs.declared.Kind as packet
use Rattle.packet.specs.declared.Kind.TheVariants.{Ordinary, Causal}
use Rattle.seat.specs.Opening.{OpenedAs}
use Rattle.seat.specs.Sending.{kind_of, Sent}
use Rattle.seat.specs.Arriving.{Arrived}
use Rattle.seat.specs.Releasing.{Released}
use Rattle.seat.specs.declared.Seat.{Seat}
use Rattle.seat.specs.declared.Stepped.{Stepped}
use Rattle.seat.specs.declared.Wish.{Wish}
use Rattle.session.specs.Events.{Kind, ordinary, causal, arrival, release, Edit, sent, handed, shelved, idle, Trace, ◌∈◌, Kept}
use Rattle.session.specs.Protocol.{Seated}
use Rattle.promises.specs.Demand1.{answer_number}

-- A seat's latest state and shelf.
pub record Place : Type 0 where
  pub seat : Seat
  pub shelf : List ℕ

-- The edit that an answer reports: its sender and sequence number.
abbrev pub reported : Answer → Edit
reported answer = record { by = (report answer).edit.sender.0; number = (report answer).edit.number.0 }

-- A freshly opened seat: `open`, for number j of n and some shelf, answered 0 and left this state and this shelf.
pub record FreshlyOpened (n j : ℕ) (place : Place) : Type 0 where
  pub lent : List ℕ
  pub stepped : Stepped
  pub contract : OpenedAs n (seat_no j) lent stepped place.shelf
  pub answered_0 : answer_number stepped.answer ≡ 0
  pub state : place.seat ≡ stepped.seat

-- The places, once seat j has gone on to a new one. The others stay.
abbrev pub moved_to : ℕ → Place → (ℕ → Place) → ℕ → Place
moved_to j place places i = cond (eqb i j) place (places i)

-- The kind that is sent for a wish: usual is ordinary.
abbrev pub kind_as : packet.Kind → Kind
kind_as Ordinary = ordinary
kind_as Causal = causal

abbrev pub kind_sent : Wish → Kind
kind_sent wish = kind_as (kind_of wish)

-- A packet that was sent: the edit that its send reported, and the packet's bytes.
pub record Letter : Type 0 where
  pub edit : Edit
  pub bytes : List ℕ

-- The packet stands at the start of the output, as long as the answer reports.
abbrev pub letter_in : Answer → List ℕ → Letter
letter_in answer output = record { edit = reported answer; bytes = take (report answer).edit.length output }

-- The packets sent, after a send answered by this number: 0, one more.
abbrev pub letters_after_send : ℕ → Letter → List Letter → List Letter
letters_after_send zero letter letters = letter ∷ letters
letters_after_send (suc _) letter letters = letters

-- The events, after a send answered by this number: 0, the edit was sent. Any other leaves none.
abbrev pub trace_after_send : ℕ → Edit → Kind → Trace → Trace
trace_after_send zero edit kind trace = sent edit kind ∷ trace
trace_after_send (suc _) edit kind trace = trace

-- After an arrival: 0, the edit that the answer reports was handed over; 1, the edit that arrived was shelved.
abbrev pub trace_after_arrival : ℕ → ℕ → Edit → Edit → Trace → Trace
trace_after_arrival zero j edit arrived trace = handed arrival j edit ∷ trace
trace_after_arrival (suc zero) j edit arrived trace = shelved j arrived ∷ trace
trace_after_arrival (suc (suc _)) j edit arrived trace = trace

-- After a release: 0, the edit that the answer reports was handed over; 2, nothing on the shelf is ready.
abbrev pub trace_after_release : ℕ → ℕ → Edit → Trace → Trace
trace_after_release zero j edit trace = handed release j edit ∷ trace
trace_after_release (suc zero) j edit trace = trace
trace_after_release (suc (suc zero)) j edit trace = idle j ∷ trace
trace_after_release (suc (suc (suc _))) j edit trace = trace

-- A session of freshly opened seats, numbered 1 to n once each: their latest states and shelves, the packets sent so
-- far, and the events so far. Each step sends, takes an arrival or releases, with its seat's latest state and shelf.
-- Only packets already sent arrive, unaltered, in any order, lost or repeated.
pub data Session (n : ℕ) : (ℕ → Place) → List Letter → Trace → Type 0 where
  opening : {places : ℕ → Place} → ((j : ℕ) → Seated n j → FreshlyOpened n j (places j)) → Session n places [] []
  sending : {places : ℕ → Place} {letters : List Letter} {trace : Trace} (j : ℕ) (wish : Wish) (body out output : List ℕ) (stepped : Stepped)
      → Session n places letters trace → Seated n j
      → Sent (places j).seat wish body out stepped output
      → Session n (moved_to j (record { seat = stepped.seat; shelf = (places j).shelf }) places)
      (letters_after_send (answer_number stepped.answer) (letter_in stepped.answer output) letters)
      (trace_after_send (answer_number stepped.answer) (reported stepped.answer) (kind_sent wish) trace)
  arriving : {places : ℕ → Place} {letters : List Letter} {trace : Trace} (j : ℕ) (letter : Letter) (shelf : List ℕ) (stepped : Stepped)
      → Session n places letters trace → Seated n j → letter ∈ letters
      → Arrived (places j).seat letter.bytes (places j).shelf stepped shelf
      → Session n (moved_to j (record { seat = stepped.seat; shelf = shelf }) places) letters
      (trace_after_arrival (answer_number stepped.answer) j (reported stepped.answer) letter.edit trace)
  releasing : {places : ℕ → Place} {letters : List Letter} {trace : Trace} (j : ℕ) (out shelf output : List ℕ) (stepped : Stepped)
      → Session n places letters trace → Seated n j
      → Released (places j).seat (places j).shelf out stepped shelf output
      → Session n (moved_to j (record { seat = stepped.seat; shelf = shelf }) places) letters
      (trace_after_release (answer_number stepped.answer) j (reported stepped.answer) trace)

-- Demand 3: in every session a seat hands over each edit at most once, after all it needs; and whenever it is told that
-- nothing on its shelf is ready, it has handed over exactly the accepted edits whose every needed edit it has accepted.
abbrev pub Demand3 : Type 0
Demand3 = (n : ℕ) (places : ℕ → Place) (letters : List Letter) (trace : Trace) → Session n places letters trace → Kept trace
