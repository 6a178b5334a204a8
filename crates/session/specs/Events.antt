-- What demand 3 says of a session, judged from its events alone: no vectors and no bytes.
-- A trace lists what the session's steps were answered, newest first. A refused step leaves no event.
use Rattle.std.specs.Prelude.{◌≡◌, ◌⊎◌, ◌↔◌, ℕ}
use mathlib.Core.List.{List, [], ◌∷◌, Memᴰ}

-- The two kinds of edit.
pub data Kind : Type 0 where
  ordinary causal : Kind

-- The two occasions on which a seat hands an edit over.
pub data Way : Type 0 where
  arrival release : Way

-- An edit: the seat that sent it, and its number among that seat's edits.
pub record Edit : Type 0 where
  pub by : ℕ
  pub number : ℕ

-- What a step's answer says to whoever watches.
pub data Event : Type 0 where
  -- Its seat sent this edit.
  sent : Edit → Kind → Event
  -- The seat handed this edit over, on its arrival or on a release.
  handed : Way → ℕ → Edit → Event
  -- The seat put this edit on its shelf, on its arrival.
  shelved : ℕ → Edit → Event
  -- The seat was told that nothing on its shelf is ready.
  idle : ℕ → Event

-- The events so far, newest first.
abbrev pub Trace : Type 0
Trace = List Event

infix 4 ◌∈◌
-- Stands in the list.
abbrev pub ◌∈◌ : {A : Type 0} → A → List A → Type 0
a ∈ list = Memᴰ a list

-- `a` stands earlier than `b` in the trace.
pub data Earlier (a b : Event) : Trace → Type 0 where
  last : {x : Event} {trace : Trace} → b ≡ x → a ∈ trace → Earlier a b (x ∷ trace)
  before : {x : Event} {trace : Trace} → Earlier a b trace → Earlier a b (x ∷ trace)

-- The event is a send or a hand-over of this seat. Arrivals do not count.
abbrev pub At : ℕ → Event → Type 0
At j (sent e k) = j ≡ e.by
At j (handed way i e) = j ≡ i
At j (shelved i e) = ⊥
At j (idle i) = ⊥

-- The order at each seat, and each send before its hand-overs.
pub data Link (trace : Trace) (a b : Event) : Type 0 where
  seat : (j : ℕ) → Earlier a b trace → At j a → At j b → Link trace a b
  message : (e : Edit) (k : Kind) (way : Way) (j : ℕ) → Earlier a b trace → a ≡ sent e k → b ≡ handed way j e → Link trace a b

-- Causally before: these, and chains of these.
pub data Before (trace : Trace) (a : Event) : Event → Type 0 where
  link : {b : Event} → Link trace a b → Before trace a b
  chain : {b c : Event} → Before trace a b → Link trace b c → Before trace a c

-- The edit was sent.
abbrev pub Sent : Trace → Edit → Type 0
Sent trace e = (k : Kind) × (sent e k ∈ trace)

-- `f` was sent causally before `e`.
abbrev pub Prior : Trace → Edit → Edit → Type 0
Prior trace f e = (k : Kind) × (l : Kind) × Before trace (sent f k) (sent e l)

-- `f` was sent causally before `e`, and either is causal.
pub data Pair (trace : Trace) (e f : Edit) : Type 0 where
  pair : (k l : Kind) → Before trace (sent f k) (sent e l) → (k ≡ causal) ⊎ (l ≡ causal) → Pair trace e f

-- `e` needs `f`: such a pair, or a chain of such pairs.
pub data Needs (trace : Trace) : Edit → Edit → Type 0 where
  direct : {e f : Edit} → Pair trace e f → Needs trace e f
  through : {e g f : Edit} → Pair trace e g → Needs trace g f → Needs trace e f

-- The seat has handed the edit over.
abbrev pub Handed : Trace → ℕ → Edit → Type 0
Handed trace j e = (way : Way) × (handed way j e ∈ trace)

-- Accepted at the seat: its arrival there was answered by handing it over or shelving it.
abbrev pub Accepted : Trace → ℕ → Edit → Type 0
Accepted trace j e = (handed arrival j e ∈ trace) ⊎ (shelved j e ∈ trace)

-- The seat has handed over exactly the accepted edits whose every needed edit it has accepted.
abbrev pub Exact : Trace → ℕ → Type 0
Exact trace j = (e : Edit) → Handed trace j e ↔ (Accepted trace j e × ((f : Edit) → Needs trace e f → Accepted trace j f))

-- What is promised of an event that comes after the events `trace`: an edit is handed over at most once, after all it
-- needs; a seat that is told that nothing on its shelf is ready is exact.
abbrev pub Promised : Event → Trace → Type 0
Promised (sent e k) trace = Unit {0}
Promised (handed way j e) trace = (¬ Handed trace j e) × ((f : Edit) → Needs trace e f → Handed trace j f)
Promised (shelved j e) trace = Unit {0}
Promised (idle j) trace = Exact trace j

-- Holds of each event of the trace, with the events before it.
abbrev pub Throughout : (Event → Trace → Type 0) → Trace → Type 0
Throughout P [] = Unit {0}
Throughout P (x ∷ trace) = P x trace × Throughout P trace

-- Demand 3.
abbrev pub Kept : Trace → Type 0
Kept trace = Throughout Promised trace
