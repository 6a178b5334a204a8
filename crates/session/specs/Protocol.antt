-- The protocol of source document 000, section 3.2, without bytes and limits: what a step does to its seat, line by
-- line, and the runs of a session. A model says how packets and seats are looked at; the steps speak of nothing else.
use Rattle.std.specs.Prelude.{◌≡◌, List, [], ◌∷◌, ◌⊎◌, ◌↔◌, ◌≢◌, ℕ, suc, ◌≤◌, ◌<◌, max}
use Rattle.session.specs.Events.{Kind, ordinary, causal, arrival, release, Edit, sent, handed, shelved, idle, Trace, ◌∈◌, Prior, Handed}

-- How packets and seats are looked at. A vector is a count for each seat's number.
pub record Model : Type 1 where
  -- Of a packet: who sent it, its edit's kind, and the vectors past and barrier that it carries.
  pub Packet : Type 0
  pub sender : Packet → ℕ
  pub kind : Packet → Kind
  pub pastₘ : Packet → ℕ → ℕ
  pub barrierₘ : Packet → ℕ → ℕ
  -- Of a seat's state and shelf: its vectors past and barrier.
  pub Seat : Type 0
  pub past : Seat → ℕ → ℕ
  pub barrier : Seat → ℕ → ℕ
  -- The seat's state marks this edit as handed over.
  pub Marked : Seat → Edit → Type 0
  -- The packet is on the seat's shelf.
  pub OnShelf : Seat → Packet → Type 0

-- The edit is one of those that a vector of counts covers.
abbrev pub Covered : Edit → (ℕ → ℕ) → Type 0
Covered e counts = (1 ≤ e.number) × (e.number ≤ counts e.by)

-- The orders of vectors: a ≤ b, and a < b.
abbrev pub Within : (ℕ → ℕ) → (ℕ → ℕ) → Type 0
Within one other = (i : ℕ) → one i ≤ other i

abbrev pub Below : (ℕ → ℕ) → (ℕ → ℕ) → Type 0
Below one other = Within one other × ((i : ℕ) × (one i < other i))

-- The first count for an ordinary edit, the second for a causal one.
abbrev pub by_kind : Kind → ℕ → ℕ → ℕ
by_kind ordinary first second = first
by_kind causal first second = second

-- Seats are numbered 1 to n.
abbrev pub Seated : ℕ → ℕ → Type 0
Seated n j = (1 ≤ j) × (j ≤ n)

module _ (D : Model) where
  open D use {Packet, sender, kind, pastₘ, barrierₘ, Seat, past, barrier, Marked, OnShelf}

  -- The edit that a packet carries: its sequence number is past[sender].
  abbrev pub edit : Packet → Edit
  edit m = record { by = sender m; number = pastₘ m (sender m) }

  -- A freshly opened seat: all counts zero, shelf empty.
  pub record Fresh (seat : Seat) : Type 0 where
    pub no_past : (i : ℕ) → past seat i ≡ 0
    pub no_barrier : (i : ℕ) → barrier seat i ≡ 0
    pub none_marked : (e : Edit) → ¬ Marked seat e
    pub none_shelved : (m : Packet) → ¬ OnShelf seat m

  -- Lines 1 to 4: the sender of `m` sends it, and goes from the state `before` to the state `after`.
  pub record Sends (m : Packet) (before after : Seat) : Type 0 where
    -- Lines 1 and 3: the packet's barrier is the seat's, or its past if the edit is causal.
    pub barrier_sent_is : (i : ℕ) → barrierₘ m i ≡ by_kind (kind m) (barrier before i) (past before i)
    -- Lines 2 and 3: the packet's past is the seat's, with one more at the sender.
    pub own_past_sent : pastₘ m (sender m) ≡ suc (past before (sender m))
    pub past_sent_is : (i : ℕ) → i ≢ sender m → pastₘ m i ≡ past before i
    pub past_after : (i : ℕ) → past after i ≡ pastₘ m i
    -- Line 4: if the edit is causal, the barrier becomes the new past.
    pub barrier_after_is : (i : ℕ) → barrier after i ≡ by_kind (kind m) (barrier before i) (pastₘ m i)
    pub marks_after : (e : Edit) → Marked after e ↔ Marked before e
    pub shelf_after_is : (p : Packet) → OnShelf after p ↔ OnShelf before p

  -- Line 5: every edit that the packet's barrier covers is handed over here.
  abbrev pub Ready : Seat → Packet → Type 0
  Ready seat m = (e : Edit) → Covered e (barrierₘ m) → Marked seat e

  -- Lines 7 to 10: what handing over `m` (line 6) does to the counts and marks.
  pub record Learns (m : Packet) (before after : Seat) : Type 0 where
    -- Line 7.
    pub marks_after : (e : Edit) → Marked after e ↔ (Marked before e ⊎ (e ≡ edit m))
    -- Line 8.
    pub past_after : (i : ℕ) → past after i ≡ max (past before i) (pastₘ m i)
    -- Lines 9 and 10.
    pub barrier_after_is : (i : ℕ) → barrier after i ≡ max (barrier before i) (by_kind (kind m) (barrierₘ m i) (pastₘ m i))

  -- An arrival that is handed over: new here, and ready.
  pub record Takes (m : Packet) (before after : Seat) : Type 0 where
    pub not_marked : ¬ Marked before (edit m)
    pub not_shelved : (p : Packet) → OnShelf before p → edit p ≢ edit m
    pub ready : Ready before m
    pub learns : Learns m before after
    pub shelf_after_is : (p : Packet) → OnShelf after p ↔ OnShelf before p

  -- An arrival that is put on the shelf.
  pub record Shelves (m : Packet) (before after : Seat) : Type 0 where
    pub not_marked : ¬ Marked before (edit m)
    pub past_after : (i : ℕ) → past after i ≡ past before i
    pub barrier_after_is : (i : ℕ) → barrier after i ≡ barrier before i
    pub marks_after : (e : Edit) → Marked after e ↔ Marked before e
    pub shelf_after_is : (p : Packet) → OnShelf after p ↔ (OnShelf before p ⊎ (p ≡ m))

  -- A release: a ready packet of the shelf is handed over and leaves it.
  pub record Releases (m : Packet) (before after : Seat) : Type 0 where
    pub is_on_shelf : OnShelf before m
    pub ready : Ready before m
    pub learns : Learns m before after
    pub shelf_after_is : (p : Packet) → OnShelf after p ↔ (OnShelf before p × (edit p ≢ edit m))

  -- Nothing on the shelf is ready.
  abbrev pub Rests : Seat → Type 0
  Rests seat = (m : Packet) → OnShelf seat m → ¬ Ready seat m

  -- Seat `j` makes this step, and the other seats stay as they are.
  pub record Turn (j : ℕ) (Step : Seat → Seat → Type 0) (seats seats' : ℕ → Seat) : Type 0 where
    pub step : Step (seats j) (seats' j)
    pub others : (i : ℕ) → i ≢ j → seats' i ≡ seats i

  -- A run of n seats: their latest states, the packets sent so far, and the events so far.
  pub data Run (n : ℕ) : (ℕ → Seat) → List Packet → Trace → Type 0 where
    opened : {seats : ℕ → Seat} → ((j : ℕ) → Seated n j → Fresh (seats j)) → Run n seats [] []
    sends : {seats seats' : ℕ → Seat} {packets : List Packet} {trace : Trace} (m : Packet)
        → Run n seats packets trace → Seated n (sender m) → Turn (sender m) (Sends m) seats seats'
        → Run n seats' (m ∷ packets) (sent (edit m) (kind m) ∷ trace)
    takes : {seats seats' : ℕ → Seat} {packets : List Packet} {trace : Trace} (j : ℕ) (m : Packet)
        → Run n seats packets trace → Seated n j → m ∈ packets → Turn j (Takes m) seats seats'
        → Run n seats' packets (handed arrival j (edit m) ∷ trace)
    shelves : {seats seats' : ℕ → Seat} {packets : List Packet} {trace : Trace} (j : ℕ) (m : Packet)
        → Run n seats packets trace → Seated n j → m ∈ packets → Turn j (Shelves m) seats seats'
        → Run n seats' packets (shelved j (edit m) ∷ trace)
    releases : {seats seats' : ℕ → Seat} {packets : List Packet} {trace : Trace} (j : ℕ) (m : Packet)
        → Run n seats packets trace → Seated n j → Turn j (Releases m) seats seats'
        → Run n seats' packets (handed release j (edit m) ∷ trace)
    rests : {seats : ℕ → Seat} {packets : List Packet} {trace : Trace} (j : ℕ)
        → Run n seats packets trace → Seated n j → Rests (seats j)
        → Run n seats packets (idle j ∷ trace)

  -- The packet can be handed over next at the seat: sent, missing there and ready, with all sent before it handed over,
  -- its sender's earlier edits among them.
  pub record Next (packets : List Packet) (trace : Trace) (j : ℕ) (seat : Seat) (m : Packet) : Type 0 where
    pub posted : m ∈ packets
    pub missing : ¬ Handed trace j (edit m)
    pub ready : Ready seat m
    pub after_all_before : (e : Edit) → Prior trace e (edit m) → Handed trace j e
    pub in_turn : (k : ℕ) → 1 ≤ k → k < (edit m).number → Handed trace j (record { by = sender m; number = k })
