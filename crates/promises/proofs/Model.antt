-- How the theory of crate session looks at packets of bytes, and at a seat's state and shelf.
use Prim.Native.Nat.{ℕ, zero, suc, ◌-◌, ◌≤◌, ◌<◌, max}
use mathlib.Core.Path.{◌≡◌, refl}
use mathlib.Core.Bool.{true}
use mathlib.Core.List.{List}
use native.Mathlib.Decide.{dec_lt}
use native.Mathlib.Omega.{arith}
use lib.ListN.{length, get_or, get_or-eq_default}
use Rattle.vectors.specs.Vectors.{maxes}
use Rattle.vectors.proofs.Tests.{length_maxes, maxes_at}
use Rattle.window.specs.Window.{handed}
use Rattle.packet.specs.Packet.{sender_of, kind_of, past_of, barrier_of}
use Rattle.seat.specs.State.{window_at}
use Rattle.seat.specs.Stock.{number_of}
use Rattle.seat.proofs.LaidShelf.{StandsOn}
use Rattle.session.specs.Events.{Edit}
use Rattle.session.specs.Protocol.{Model, edit}
use Rattle.promises.specs.Demand3.{Place, kind_as}

-- A vector's count for a seat's number. There is no seat 0.
abbrev pub count_of : List ℕ → ℕ → ℕ
count_of v zero = 0
count_of v (suc k) = get_or v k 0

-- The state marks the edit as handed over.
pub record MarkedAt (place : Place) (e : Edit) : Type 0 where
  pub by_low : 1 ≤ e.by
  pub number_low : 1 ≤ e.number
  pub is : handed (window_at place.seat (e.by - 1)) e.number ≡ true

abbrev pub model : Model
model = record {
  Packet = List ℕ;
  sender = λ packet. (sender_of packet).0;
  kind = λ packet. kind_as (kind_of packet);
  pastₘ = λ packet. count_of (past_of packet);
  barrierₘ = λ packet. count_of (barrier_of packet);
  Seat = Place;
  past = λ place. count_of place.seat.past;
  barrier = λ place. count_of place.seat.barrier;
  Marked = MarkedAt;
  OnShelf = λ place packet. StandsOn place.shelf packet;
}

-- the count of a seat's number is the entry at one less
pub count_is_entry : (v : List ℕ) (j : ℕ) → 1 ≤ j → count_of v j ≡ get_or v (j - 1) 0
count_is_entry v zero low = absurd (omega arith)
count_is_entry v (suc k) low = let same : suc k - 1 ≡ k = omega arith in rw same

-- the edit that a packet carries, by its sequence number
pub edit_is : (packet : List ℕ) → edit model packet ≡ record { by = (sender_of packet).0; number = number_of packet }
edit_is packet =
    let number : count_of (past_of packet) (sender_of packet).0 ≡ number_of packet = count_is_entry (past_of packet) (sender_of packet).0 (omega arith) in
    (λ i. record { by = (sender_of packet).0; number = number i })

pub same_edit : (a b : Edit) → a.by ≡ b.by → a.number ≡ b.number → a ≡ b
same_edit a b by number = λ i. record { by = by i; number = number i }

-- beyond 16 every count is 0
pub no_count_beyond : (v : List ℕ) → length v ≡ 16 → (k : ℕ) → (k < 16 → ⊥) → get_or v k 0 ≡ 0
no_count_beyond v long k beyond = get_or-eq_default v 0 {n = k} (omega arith)

pub count_of_maxes : (v w : List ℕ) → length v ≡ 16 → length w ≡ 16 → (i : ℕ) → count_of (maxes v w) i ≡ max (count_of v i) (count_of w i)
count_of_maxes v w v_long w_long zero = refl
count_of_maxes v w v_long w_long (suc k) =
    elim (dec_lt k 16) [
      | yes inside ↦ maxes_at v w k inside
      | no beyond ↦ rw (no_count_beyond (maxes v w) (length_maxes v w) k beyond, no_count_beyond v v_long k beyond, no_count_beyond w w_long k beyond)
    ]
