-- What the points say that reading names: a point's number is not 0, and no point failed where the answer is a value.
use mathlib.Core.Path.{◌≡◌, refl}
use native.Mathlib.Omega.{arith}
use lib.Dec.{eqb}
use Rattle.std.specs.Prelude.{Result, Ok, Err, is_ok}
use Rattle.packet.specs.Points.{point_number, failed}
use Rattle.packet.specs.declared.points.Point.{Point}
use Rattle.packet.specs.declared.points.Point.TheVariants.{Bytes, Version, ZeroBits, Sender, BodyLength, TotalLength, BarrierWithinPast, CausalBarrier}

pub point_is_not_zero : (point : Point) → point_number point ≡ 0 → ⊥
point_is_not_zero Bytes e = omega arith
point_is_not_zero Version e = omega arith
point_is_not_zero ZeroBits e = omega arith
point_is_not_zero Sender e = omega arith
point_is_not_zero BodyLength e = omega arith
point_is_not_zero TotalLength e = omega arith
point_is_not_zero BarrierWithinPast e = omega arith
point_is_not_zero CausalBarrier e = omega arith

pub passes_where_ok : {A : Type 0} (answer : Result A Point) → is_ok answer ≡ eqb (failed answer) 0
passes_where_ok (Ok value) = refl
passes_where_ok (Err Bytes) = refl
passes_where_ok (Err Version) = refl
passes_where_ok (Err ZeroBits) = refl
passes_where_ok (Err Sender) = refl
passes_where_ok (Err BodyLength) = refl
passes_where_ok (Err TotalLength) = refl
passes_where_ok (Err BarrierWithinPast) = refl
passes_where_ok (Err CausalBarrier) = refl
