-- What holds throughout a run, and how one event more leaves it at the packets and seats that it does not touch.
use mathlib.Core.Path.{◌≡◌, refl, sym, subst}
use mathlib.Core.List.Memᴰ
use mathlib.Core.List.{List, ◌∷◌}
use mathlib.Core.Logic.{◌⊎◌, ◌↔◌, ◌≢◌, by_cases}
use Prim.Native.Nat.{ℕ}
use native.Mathlib.Decide.{ℕ_discrete}
use Rattle.session.specs.Events.{Edit, Event, sent, Trace, ◌∈◌, At, Needs, Handed, Accepted, Promised, Throughout, Kept}
use Rattle.session.specs.Protocol.{Model, Covered, Seated, edit, Turn}
use Rattle.session.proofs.Either.{◌⨾◌, same, back, either, regroup, or_never, never_or}
use Rattle.session.proofs.Order.{New, prior_is_settled, needs_settled_by_one}
use Rattle.session.proofs.Knowledge.{Knows, Owes, PriorOrSame, knows_elsewhere, owes_elsewhere}
use Rattle.session.proofs.Covering.{covered_same}
use Rattle.session.proofs.Answered.{seat_of, Hands, Accepts, Quiet, quiet_elsewhere, handed_with, accepted_with}

module _ (D : Model) where
  open D use {Packet, kind, pastₘ, barrierₘ, Seat, past, barrier, Marked, OnShelf}

  -- Of a packet sent: its past covers its edit and those sent causally before it, its barrier those that it needs.
  pub record Posted (t : Trace) (m : Packet) : Type 0 where
    pub out : sent (edit D m) (kind m) ∈ t
    pub covers : (e : Edit) → Covered e (pastₘ m) ↔ PriorOrSame t e (edit D m)
    pub waits : (e : Edit) → Covered e (barrierₘ m) ↔ Needs t (edit D m) e

  -- Of a seat's counts: its past covers the edits that it knows, its barrier those that its next edit will need.
  pub record Counts (t : Trace) (j : ℕ) (a : Seat) : Type 0 where
    pub knows : (e : Edit) → Covered e (past a) ↔ Knows t j e
    pub owes : (e : Edit) → Covered e (barrier a) ↔ Owes t j e

  -- A packet with this edit is on the seat's shelf.
  abbrev pub Waits : Seat → Edit → Type 0
  Waits a e = (m : Packet) × OnShelf a m × (edit D m ≡ e)

  -- What is on the seat's shelf was sent and is not marked.
  abbrev pub ShelfFits : Trace → Seat → Type 0
  ShelfFits t a = (m : Packet) → OnShelf a m → Posted t m × (¬ Marked a (edit D m))

  -- What waited or is accepted by the event is handed over by it or waits.
  abbrev pub Moves : Event → ℕ → Seat → Seat → Type 0
  Moves x j a b = (e : Edit) → (Waits a e ⊎ Accepts x j e) ↔ (Hands x j e ⊎ Waits b e)

  -- Of a seat's marks and shelf: what it handed over is marked, what is on the shelf was sent and is not marked, and
  -- what it accepted is handed over or on the shelf.
  pub record Holds (t : Trace) (j : ℕ) (a : Seat) : Type 0 where
    pub marks : (e : Edit) → Marked a e ↔ Handed t j e
    pub shelf : ShelfFits t a
    pub accepts : (e : Edit) → Accepted t j e ↔ (Handed t j e ⊎ Waits a e)

  -- Throughout a run of n seats: every event came new and kept demand 3, and so of each packet sent and each seat.
  pub record Invariant (n : ℕ) (seats : ℕ → Seat) (packets : List Packet) (t : Trace) : Type 0 where
    pub all_new : Throughout New t
    pub kept : Kept t
    pub posted : (m : Packet) → m ∈ packets → Posted t m
    pub counts : (j : ℕ) → Seated n j → Counts t j (seats j)
    pub holds : (j : ℕ) → Seated n j → Holds t j (seats j)

  -- One event more, at a seat that goes from `a` to `b`.
  module _ (x : Event) {t : Trace} (is_new : New x t) where
    pub posted_later : {m : Packet} → Posted t m → Posted (x ∷ t) m
    posted_later {m} p = record {
      out = Memᴰ.tail p.out;
      covers = λ e. p.covers e ⨾ either same (back (prior_is_settled is_new (kind m, p.out)));
      waits = λ e. p.waits e ⨾ back (needs_settled_by_one is_new (kind m, p.out));
    }

    pub counts_still : {j : ℕ} (a b : Seat) → ¬ At j x → ((i : ℕ) → past b i ≡ past a i) → ((i : ℕ) → barrier b i ≡ barrier a i)
        → Counts t j a → Counts (x ∷ t) j b
    counts_still {j} a b away p q c = record {
      knows = λ e. covered_same e p ⨾ c.knows e ⨾ knows_elsewhere j is_new away;
      owes = λ e. covered_same e q ⨾ c.owes e ⨾ owes_elsewhere j is_new away;
    }

    pub holds_after : {j : ℕ} (a b : Seat) → ((e : Edit) → Marked b e ↔ (Marked a e ⊎ Hands x j e)) → ShelfFits t b → Moves x j a b
        → Holds t j a → Holds (x ∷ t) j b
    holds_after a b marks shelf moves h = record {
      marks = λ e. marks e ⨾ either (h.marks e) same ⨾ back (handed_with x);
      shelf = λ m y. (posted_later (shelf m y).0, (shelf m y).1);
      accepts = λ e. accepted_with x ⨾ either (h.accepts e) same ⨾ regroup ⨾ either same (moves e) ⨾ back regroup
          ⨾ either (back (handed_with x)) same;
    }

    pub holds_still : {j : ℕ} (a b : Seat) → Quiet j x → ((e : Edit) → Marked b e ↔ Marked a e) → ((m : Packet) → OnShelf b m ↔ OnShelf a m)
        → Holds t j a → Holds (x ∷ t) j b
    holds_still {j} a b quiet marks shelf h =
        holds_after a b
        (λ e. marks e ⨾ back (or_never (quiet.hands_none e)))
        (λ m y. let (p, fresh) = h.shelf m ((shelf m).0 y) in (p, λ z. fresh ((marks (edit D m)).0 z)))
        (λ e. or_never (quiet.accepts_none e) ⨾ waits e ⨾ back (never_or (quiet.hands_none e)))
        h
      where
        waits : (e : Edit) → Waits a e ↔ Waits b e
        waits e = (λ (m, y, q). (m, (shelf m).1 y, q), λ (m, y, q). (m, (shelf m).0 y, q))

  -- what holds of the seat whose turn it was, and of the others as they were, holds of each
  pub each_seat : (P : ℕ → Seat → Type 0) {j : ℕ} {Step : Seat → Seat → Type 0} {seats seats' : ℕ → Seat}
      → Turn D j Step seats seats' → P j (seats' j) → ((i : ℕ) → i ≢ j → P i (seats i)) → (i : ℕ) → P i (seats' i)
  each_seat P {j} {seats' = seats'} turn here away i =
      by_cases (ℕ_discrete i j)
      (λ q. subst (λ (l : ℕ). P l (seats' l)) (sym q) here)
      (λ d. subst (λ (a : Seat). P i a) (sym (turn.others i d)) (away i d))

  -- an event leaves the invariant where it is new and kept, and leaves it at the packets and at its own seat
  pub invariant_after : {n : ℕ} {Step : Seat → Seat → Type 0} {seats seats' : ℕ → Seat} {packets packets' : List Packet} {t : Trace} (x : Event)
      → Invariant n seats packets t → Turn D (seat_of x) Step seats seats' → New x t → Promised x t
      → ((m : Packet) → m ∈ packets' → Posted (x ∷ t) m)
      → Counts (x ∷ t) (seat_of x) (seats' (seat_of x)) → Holds (x ∷ t) (seat_of x) (seats' (seat_of x))
      → Invariant n seats' packets' (x ∷ t)
  invariant_after {n} {seats = seats} {t = t} x I turn is_new promised posted counts holds = record {
    all_new = (is_new, I.all_new);
    kept = (promised, I.kept);
    posted = posted;
    counts = each_seat (λ i a. Seated n i → Counts (x ∷ t) i a) turn (λ _. counts)
        (λ i d s. counts_still x is_new (seats i) (seats i) (quiet_elsewhere i x d).1 (λ _. refl) (λ _. refl) (I.counts i s));
    holds = each_seat (λ i a. Seated n i → Holds (x ∷ t) i a) turn (λ _. holds)
        (λ i d s. holds_still x is_new (seats i) (seats i) (quiet_elsewhere i x d).0 (λ _. same) (λ _. same) (I.holds i s));
  }
