use Rattle.std.proofs.Common.{◌≡◌, ◌++◌, ℕ, List, length, drop, replicate}
use Rattle.seat.specs.State.{no_seat}
use Rattle.seat.specs.declared.Seat.{Seat}
use Rattle.steps.specs.Memory.{shelves_size, AllOpened}
use Rattle.steps.proofs.opening.open_all.Given as goal

-- the seats behind the first n
abbrev pub behind : ℕ → List Seat
behind n = drop n (replicate 16 no_seat)

abbrev pub invariant-loop-at : goal.invariant-loop-at
invariant-loop-at l =
    (length l.seat-items ≡ l.size.n)
    × (length l.shelves ≡ shelves_size)
    × AllOpened l.at l.size.n l.size.slots (l.seat-items ++ behind l.size.n) l.shelves
