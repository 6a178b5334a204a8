-- The points that reading names when a packet breaks one, by their numbers.
use Rattle.std.specs.Prelude.{ℕ, Result, Ok, Err}
use Rattle.packet.specs.declared.points.Point.{Point}
use Rattle.packet.specs.declared.points.Point.TheVariants.{Bytes, Version, ZeroBits, Sender, BodyLength, TotalLength, BarrierWithinPast, CausalBarrier}

abbrev pub point_number : Point → ℕ
point_number Bytes = 1
point_number Version = 2
point_number ZeroBits = 3
point_number Sender = 4
point_number BodyLength = 5
point_number TotalLength = 6
point_number BarrierWithinPast = 7
point_number CausalBarrier = 8

-- The number of the point that failed; 0 where none did.
abbrev pub failed : {A : Type 0} → Result A Point → ℕ
failed (Ok value) = 0
failed (Err point) = point_number point
