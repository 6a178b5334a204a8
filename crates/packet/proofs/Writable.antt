-- What can be written, as plain facts.
use Prim.Native.Nat.{ℕ, ◌≤◌}
use mathlib.Core.Path.{◌≡◌}
use mathlib.Core.Bool.{true, ◌&&◌}
use mathlib.Core.List.{List}
use lib.Dec.{leb, eqb}
use Rattle.std.proofs.lemmas.Bool.{le-leb, leb-true, eqb-true, eq-eqb, and_parts}
use Rattle.vectors.specs.Vectors.{zero_above}
use Rattle.packet.specs.Packet.{vectors_point}
use Rattle.packet.specs.Writing.{in_range, writable}
use Rattle.packet.specs.declared.Kind.{Kind}
use Rattle.packet.specs.declared.Header.{Header}

pub record InRange (header : Header) : Type 0 where
  pub seats_low : 1 ≤ header.n
  pub seats_high : header.n ≤ 16
  pub sender_low : 1 ≤ header.sender.0
  pub sender_high : header.sender.0 ≤ header.n

module _ (header : Header) where
  pub is_in_range : in_range header ≡ true → InRange header
  unfolding in_range
  is_in_range e =
      let abc = and_parts (leb 1 header.n && leb header.n 16 && leb 1 header.sender.0) (leb header.sender.0 header.n) e in
      let ab = and_parts (leb 1 header.n && leb header.n 16) (leb 1 header.sender.0) abc.0 in
      let a = and_parts (leb 1 header.n) (leb header.n 16) ab.0 in
      record {
        seats_low = leb-true _ _ a.0;
        seats_high = leb-true _ _ a.1;
        sender_low = leb-true _ _ ab.1;
        sender_high = leb-true _ _ abc.1;
      }

  pub range_holds : InRange header → in_range header ≡ true
  unfolding in_range
  range_holds r =
      simp (le-leb 1 header.n r.seats_low, le-leb header.n 16 r.seats_high, le-leb 1 header.sender.0 r.sender_low, le-leb header.sender.0 header.n r.sender_high)

-- a message that can be written
pub record Writable (kind : Kind) (header : Header) (past barrier : List ℕ) : Type 0 where
  pub range : in_range header ≡ true
  pub points : vectors_point kind header.sender past barrier ≡ 0
  pub past_zero : zero_above header.n past ≡ true
  pub barrier_zero : zero_above header.n barrier ≡ true

module _ (kind : Kind) (header : Header) (past barrier : List ℕ) where
  pub can_be_written : writable kind header past barrier ≡ true → Writable kind header past barrier
  unfolding writable
  can_be_written e =
      let abc = and_parts (in_range header && eqb (vectors_point kind header.sender past barrier) 0) (zero_above header.n past && zero_above header.n barrier) e in
      let ab = and_parts (in_range header) (eqb (vectors_point kind header.sender past barrier) 0) abc.0 in
      let c = and_parts (zero_above header.n past) (zero_above header.n barrier) abc.1 in
      record { range = ab.0; points = eqb-true _ _ ab.1; past_zero = c.0; barrier_zero = c.1 }

  pub writable_holds : Writable kind header past barrier → writable kind header past barrier ≡ true
  unfolding writable
  writable_holds w = simp (w.range, eq-eqb _ _ w.points, w.past_zero, w.barrier_zero)
