-- `show` cuts the vectors within their 16 entries.
use Prim.Native.Nat.{ℕ, ◌≤◌}
use mathlib.Core.Path.{◌≡◌, sym}
use mathlib.Core.List.{List}
use native.Mathlib.Omega.{arith}
use lib.ListN.{length}
use lib.Seq.{length-take-le}
use Rattle.std.specs.Prelude.{Ok}
use Rattle.packet.specs.Reading.{read_of}
use Rattle.packet.specs.declared.Heading.{Heading}
use Rattle.packet.specs.declared.Reading.{Reading}
use Rattle.packet.proofs.Told.{told}
use Rattle.packet_show.proofs.show.Goals as goal

past_fits : (packet : List ℕ) (reading : Reading) → reading ≡ read_of packet → (heading : Heading) → reading.answer ≡ Ok heading → heading.n ≤ length reading.past
past_fits packet reading is heading answered = let t = told packet reading is heading answered in omega (arith, t.seats_high, t.past_long)

barrier_fits : (packet : List ℕ) (reading : Reading) → reading ≡ read_of packet → (heading : Heading) → reading.answer ≡ Ok heading → heading.n ≤ length reading.barrier
barrier_fits packet reading is heading answered = let t = told packet reading is heading answered in omega (arith, t.seats_high, t.barrier_long)

pub slice_bounds-past-end : goal.slice_bounds-past-end
slice_bounds-past-end g c = past_fits _ _ c.read-reading.ensures _ c.in-Ok.is

pub slice_bounds-past_shown-end : goal.slice_bounds-past_shown-end
slice_bounds-past_shown-end g c = sym (length-take-le _ _ (past_fits _ _ c.read-reading.ensures _ c.in-Ok.is))

pub slice_bounds-barrier-end : goal.slice_bounds-barrier-end
slice_bounds-barrier-end g c = barrier_fits _ _ c.read-reading.ensures _ c.in-Ok.is

pub slice_bounds-barrier_shown-end : goal.slice_bounds-barrier_shown-end
slice_bounds-barrier_shown-end g c = sym (length-take-le _ _ (barrier_fits _ _ c.read-reading.ensures _ c.in-Ok.is))
