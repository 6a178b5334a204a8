-- What a library's calls have to do for its sessions to keep demand 3: a law for each call and answer, each of one
-- seat and one step. And the sessions of such a library, as demand 3 takes them.
use Rattle.std.specs.Prelude.{◌≡◌, List, [], ◌∷◌, ◌≢◌, ℕ, zero, suc, ◌≤◌}
use Rattle.session.specs.Events.{Way, Edit, sent, handed, shelved, idle, Trace, ◌∈◌}
use Rattle.session.specs.Protocol.{Model, Seated, edit, Fresh, Sends, Takes, Shelves, Releases, Rests, Turn}

-- What a call answers: its number, the edit that it reports, and the seat's next state and shelf.
pub record Reply (Seat : Type 0) : Type 0 where
  pub answer : ℕ
  pub edit : Edit
  pub next : Seat

module _ (D : Model) where
  open D use {Packet, sender, kind, Seat}

  -- The calls of a library, and the law of each call and answer.
  pub record Library : Type 1 where
    -- The seat's own number.
    pub own : Seat → ℕ
    -- What a send is given (kind, body, output), and what a release is given (output).
    pub Request : Type 0
    pub Room : Type 0
    pub send : Request → Seat → Reply Seat
    -- The packet that a send leaves in the output.
    pub written : Request → Seat → Packet
    pub arrive : Packet → Seat → Reply Seat
    pub release : Room → Seat → Reply Seat
    -- A send answered 0 is lines 1 to 4 for the seat's own number, and reports the edit. Any other changes nothing.
    pub send_0 : (request : Request) (seat : Seat) → (send request seat).answer ≡ 0
        → Sends D (written request seat) seat (send request seat).next
        × (sender (written request seat) ≡ own seat)
        × ((send request seat).edit ≡ edit D (written request seat))
    pub send_other : (request : Request) (seat : Seat) → (send request seat).answer ≢ 0 → (send request seat).next ≡ seat
    -- An arrival answered 0 is handed over and reported, one answered 1 is shelved. Any other changes nothing.
    pub arrive_0 : (m : Packet) (seat : Seat) → (arrive m seat).answer ≡ 0
        → Takes D m seat (arrive m seat).next × ((arrive m seat).edit ≡ edit D m)
    pub arrive_1 : (m : Packet) (seat : Seat) → (arrive m seat).answer ≡ 1 → Shelves D m seat (arrive m seat).next
    pub arrive_other : (m : Packet) (seat : Seat) → 2 ≤ (arrive m seat).answer → (arrive m seat).next ≡ seat
    -- A release answered 0 hands over a packet of the shelf and reports it, one answered 2 finds none ready. Any other
    -- than 0 changes nothing.
    pub release_0 : (room : Room) (seat : Seat) → (release room seat).answer ≡ 0
        → (m : Packet) × Releases D m seat (release room seat).next × ((release room seat).edit ≡ edit D m)
    pub release_2 : (room : Room) (seat : Seat) → (release room seat).answer ≡ 2 → Rests D seat
    pub release_other : (room : Room) (seat : Seat) → (release room seat).answer ≢ 0 → (release room seat).next ≡ seat
    -- No call changes the seat's own number.
    pub own_send : (request : Request) (seat : Seat) → own (send request seat).next ≡ own seat
    pub own_arrive : (m : Packet) (seat : Seat) → own (arrive m seat).next ≡ own seat
    pub own_release : (room : Room) (seat : Seat) → own (release room seat).next ≡ own seat

  module _ (library : Library) where
    open library use {own, Request, Room, send, written, arrive, release}

    -- The packets sent, once this send at this seat was answered by this number.
    abbrev pub packets_after_send : Request → Seat → ℕ → List Packet → List Packet
    packets_after_send request seat zero packets = written request seat ∷ packets
    packets_after_send request seat (suc _) packets = packets

    -- The events, once this call at this seat (number `j`) was answered by this number.
    abbrev pub trace_after_send : Request → Seat → ℕ → Trace → Trace
    trace_after_send request seat zero trace = sent (send request seat).edit (kind (written request seat)) ∷ trace
    trace_after_send request seat (suc _) trace = trace

    abbrev pub trace_after_arrival : ℕ → Packet → Seat → ℕ → Trace → Trace
    trace_after_arrival j m seat zero trace = handed Way.arrival j (arrive m seat).edit ∷ trace
    trace_after_arrival j m seat (suc zero) trace = shelved j (edit D m) ∷ trace
    trace_after_arrival j m seat (suc (suc _)) trace = trace

    abbrev pub trace_after_release : ℕ → Room → Seat → ℕ → Trace → Trace
    trace_after_release j room seat zero trace = handed Way.release j (release room seat).edit ∷ trace
    trace_after_release j room seat (suc zero) trace = trace
    trace_after_release j room seat (suc (suc zero)) trace = idle j ∷ trace
    trace_after_release j room seat (suc (suc (suc _))) trace = trace

    -- A freshly opened seat that has this number.
    pub record Opened (j : ℕ) (seat : Seat) : Type 0 where
      pub fresh : Fresh D seat
      pub numbered : own seat ≡ j

    -- A session of freshly opened seats, numbered 1 to n once each. Each step is one call, with its seat's latest state
    -- and shelf. Only packets already sent arrive, unaltered, in any order, lost or repeated.
    pub data Session (n : ℕ) : (ℕ → Seat) → List Packet → Trace → Type 0 where
      start : {seats : ℕ → Seat} → ((j : ℕ) → Seated n j → Opened j (seats j)) → Session n seats [] []
      sending : {seats seats' : ℕ → Seat} {packets : List Packet} {trace : Trace} (j : ℕ) (request : Request)
          → Session n seats packets trace → Seated n j → Turn D j (λ before after. after ≡ (send request before).next) seats seats'
          → Session n seats' (packets_after_send request (seats j) (send request (seats j)).answer packets)
          (trace_after_send request (seats j) (send request (seats j)).answer trace)
      arriving : {seats seats' : ℕ → Seat} {packets : List Packet} {trace : Trace} (j : ℕ) (m : Packet)
          → Session n seats packets trace → Seated n j → m ∈ packets → Turn D j (λ before after. after ≡ (arrive m before).next) seats seats'
          → Session n seats' packets (trace_after_arrival j m (seats j) (arrive m (seats j)).answer trace)
      releasing : {seats seats' : ℕ → Seat} {packets : List Packet} {trace : Trace} (j : ℕ) (room : Room)
          → Session n seats packets trace → Seated n j → Turn D j (λ before after. after ≡ (release room before).next) seats seats'
          → Session n seats' packets (trace_after_release j room (seats j) (release room (seats j)).answer trace)
