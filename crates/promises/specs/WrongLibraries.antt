-- How firm the contracts are: libraries that a contract rules out (document 01, "How firm the contracts are"). A library
-- is given by what its calls hand back; each wrong kind is wrong in one call at least, and breaks that call's contract.
use Rattle.std.specs.Prelude.{ℕ, ◌≤◌, ◌≡◌, List, []}
use Rattle.answers.specs.declared.SeatNo.{SeatNo}
use Rattle.answers.specs.declared.Answer.{Answer}
use Rattle.packet.specs.Reading.{read_of, read_number}
use Rattle.packet.specs.Writing.{Written}
use Rattle.packet.specs.declared.Kind.{Kind}
use Rattle.packet.specs.declared.Kind.TheVariants.{Ordinary}
use Rattle.packet.specs.declared.Header.{Header}
use Rattle.packet.specs.declared.Reading.{Reading}
use Rattle.seat.specs.Opening.{OpenedAs}
use Rattle.seat.specs.Sending.{Sent}
use Rattle.seat.specs.Arriving.{Arrived}
use Rattle.seat.specs.Releasing.{Released}
use Rattle.seat.specs.declared.Seat.{Seat}
use Rattle.seat.specs.declared.Wish.{Wish}
use Rattle.seat.specs.declared.Stepped.{Stepped}
use Rattle.promises.specs.Demand1.{answer_number}
use Rattle.promises.specs.Edges.{fresh_seat, first_sent}

-- What each call hands back, with the shelf and the output that it leaves.
pub record Library : Type 0 where
  pub reads : List ℕ → Reading
  pub writes : Kind → Header → List ℕ → List ℕ → List ℕ → List ℕ → Answer × List ℕ
  pub opens : ℕ → SeatNo → List ℕ → Stepped × List ℕ
  pub sends : Seat → Wish → List ℕ → List ℕ → Stepped × List ℕ
  pub arrives : Seat → List ℕ → List ℕ → Stepped × List ℕ
  pub releases : Seat → List ℕ → List ℕ → Stepped × List ℕ × List ℕ

module _ (library : Library) where
  -- Every call meets its contract.
  pub record Meets : Type 0 where
    pub reading : (packet : List ℕ) → library.reads packet ≡ read_of packet
    pub writing : (kind : Kind) (header : Header) (past barrier body out : List ℕ)
        → Written kind header past barrier body out (library.writes kind header past barrier body out).0 (library.writes kind header past barrier body out).1
    pub opening : (n : ℕ) (own : SeatNo) (shelf : List ℕ) → OpenedAs n own shelf (library.opens n own shelf).0 (library.opens n own shelf).1
    pub sending : (seat : Seat) (wish : Wish) (body out : List ℕ)
        → Sent seat wish body out (library.sends seat wish body out).0 (library.sends seat wish body out).1
    pub arriving : (seat : Seat) (packet shelf : List ℕ)
        → Arrived seat packet shelf (library.arrives seat packet shelf).0 (library.arrives seat packet shelf).1
    pub releasing : (seat : Seat) (shelf out : List ℕ)
        → Released seat shelf out (library.releases seat shelf out).0 (library.releases seat shelf out).1 (library.releases seat shelf out).2

  -- The number that each call answers.
  abbrev pub read_as : List ℕ → ℕ
  read_as packet = read_number (library.reads packet).answer

  abbrev pub written_as : Kind → Header → List ℕ → List ℕ → List ℕ → List ℕ → ℕ
  written_as kind header past barrier body out = answer_number (library.writes kind header past barrier body out).0

  abbrev pub opened_as : ℕ → SeatNo → List ℕ → ℕ
  opened_as n own shelf = answer_number (library.opens n own shelf).0.answer

  abbrev pub sent_as : Seat → Wish → List ℕ → List ℕ → ℕ
  sent_as seat wish body out = answer_number (library.sends seat wish body out).0.answer

  abbrev pub arrived_as : Seat → List ℕ → List ℕ → ℕ
  arrived_as seat packet shelf = answer_number (library.arrives seat packet shelf).0.answer

  abbrev pub released_as : Seat → List ℕ → List ℕ → ℕ
  released_as seat shelf out = answer_number (library.releases seat shelf out).0.answer

  -- One of its calls refuses everything.
  pub data RefusesEverything : Type 0 where
    every_reading : ((packet : List ℕ) → 10 ≤ read_as packet) → RefusesEverything
    every_writing : ((kind : Kind) (header : Header) (past barrier body out : List ℕ) → 10 ≤ written_as kind header past barrier body out) → RefusesEverything
    every_opening : ((n : ℕ) (own : SeatNo) (shelf : List ℕ) → 10 ≤ opened_as n own shelf) → RefusesEverything
    every_sending : ((seat : Seat) (wish : Wish) (body out : List ℕ) → 10 ≤ sent_as seat wish body out) → RefusesEverything
    every_arrival : ((seat : Seat) (packet shelf : List ℕ) → 10 ≤ arrived_as seat packet shelf) → RefusesEverything
    every_release : ((seat : Seat) (shelf out : List ℕ) → 10 ≤ released_as seat shelf out) → RefusesEverything

  -- One of its calls answers one fixed thing.
  pub data AnswersOneThing : Type 0 where
    one_reading : (k : ℕ) → ((packet : List ℕ) → read_as packet ≡ k) → AnswersOneThing
    one_writing : (k : ℕ) → ((kind : Kind) (header : Header) (past barrier body out : List ℕ) → written_as kind header past barrier body out ≡ k) → AnswersOneThing
    one_opening : (k : ℕ) → ((n : ℕ) (own : SeatNo) (shelf : List ℕ) → opened_as n own shelf ≡ k) → AnswersOneThing
    one_sending : (k : ℕ) → ((seat : Seat) (wish : Wish) (body out : List ℕ) → sent_as seat wish body out ≡ k) → AnswersOneThing
    one_arrival : (k : ℕ) → ((seat : Seat) (packet shelf : List ℕ) → arrived_as seat packet shelf ≡ k) → AnswersOneThing
    one_release : (k : ℕ) → ((seat : Seat) (shelf out : List ℕ) → released_as seat shelf out ≡ k) → AnswersOneThing

  -- It shelves or refuses what arrives, and hands nothing over.
  abbrev pub OnlyShelves : Type 0
  OnlyShelves = (seat : Seat) (packet shelf : List ℕ) → arrived_as seat packet shelf ≡ 0 → ⊥

  -- It changes nothing: the state of a send, the state of an arrival, or the shelf of an arrival.
  pub data ChangesNothing : Type 0 where
    no_state_sent : ((seat : Seat) (wish : Wish) (body out : List ℕ) → (library.sends seat wish body out).0.seat ≡ seat) → ChangesNothing
    no_state_arrived : ((seat : Seat) (packet shelf : List ℕ) → (library.arrives seat packet shelf).0.seat ≡ seat) → ChangesNothing
    no_shelf : ((seat : Seat) (packet shelf : List ℕ) → (library.arrives seat packet shelf).1 ≡ shelf) → ChangesNothing

  -- What fresh seat 2 of 2 becomes by its first packet.
  abbrev pub after_first : List ℕ → Seat
  after_first packet = (library.arrives (fresh_seat 2 2) packet []).0.seat

  -- It treats its first packet as the contract says, and afterwards only says 0 or 1.
  pub record RightOnce : Type 0 where
    pub first_right : (packet : List ℕ)
        → Arrived (fresh_seat 2 2) packet [] (library.arrives (fresh_seat 2 2) packet []).0 (library.arrives (fresh_seat 2 2) packet []).1
    pub then_0_or_1 : (first packet shelf : List ℕ) → arrived_as (after_first first) packet shelf ≤ 1

-- None of them meets the contracts, though there are libraries that do.
pub record WrongLibraries : Type 0 where
  pub some_library_meets : (library : Library) × Meets library
  pub refuses_everything : (library : Library) → RefusesEverything library → Meets library → ⊥
  pub answers_one_thing : (library : Library) → AnswersOneThing library → Meets library → ⊥
  pub only_shelves : (library : Library) → OnlyShelves library → Meets library → ⊥
  pub changes_nothing : (library : Library) → ChangesNothing library → Meets library → ⊥
  -- at its second step: the first packet again
  pub right_once : (library : Library) → RightOnce library
      → Arrived (after_first library (first_sent Ordinary)) (first_sent Ordinary) [] (library.arrives (after_first library (first_sent Ordinary)) (first_sent Ordinary) []).0
      (library.arrives (after_first library (first_sent Ordinary)) (first_sent Ordinary) []).1
      → ⊥
