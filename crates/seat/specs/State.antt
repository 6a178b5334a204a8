-- A seat's state, and when it is sound (document 01, "Numbers of a seat").
use Rattle.std.specs.Prelude.{ℕ, ◌-◌, ◌≤◌, ◌<◌, ◌≡◌, Bool, ◌&&◌, length, get_or}
use Rattle.answers.specs.Answers.{seat_no}
use Rattle.answers.specs.declared.SeatNo.{SeatNo}
use Rattle.vectors.specs.Vectors.{seats_most, all, entry, within, zero_above, zeros}
use Rattle.window.specs.Window.{sound_window, SoundWindow}
use Rattle.window.specs.declared.Window.{Window}
use Rattle.packet.specs.Writing.{in_range}
use Rattle.packet.specs.declared.Header.{Header}
use Rattle.seat.specs.declared.Seat.{Seat}

-- The header of the packets that the seat sends: n and its own number.
abbrev pub header_of : Seat → Header
header_of seat = record { n = seat.n; sender = seat.own }

-- How many edits the seat has sent.
abbrev pub own_count : Seat → ℕ
own_count seat = entry seat.past seat.own

-- What is handed over of the edits of the seat at an index.
abbrev pub window_at : Seat → ℕ → Window
window_at seat k = record { run = get_or seat.run k 0; ahead = get_or seat.ahead k 0 }

-- The same of a sender.
abbrev pub window_of : Seat → SeatNo → Window
window_of seat sender = window_at seat (sender.0 - 1)

-- Every entry above n is 0.
unfoldable pub clear_above : Seat → Bool
clear_above seat =
    zero_above seat.n seat.past
    && zero_above seat.n seat.barrier
    && zero_above seat.n seat.run
    && zero_above seat.n seat.ahead

-- Bit 0 of ahead[k] is clear; run[k] and every number marked in ahead[k] are at most past[k].
unfoldable pub sound_windows : Seat → Bool
sound_windows seat = all seats_most (λ k. sound_window (get_or seat.past k 0) (window_at seat k))

-- The state is sound: n and own number are in range; all entries above n are 0; barrier[k] ≤ past[k]; the windows are sound.
unfoldable pub sound_state : Seat → Bool
sound_state seat =
    in_range (header_of seat) && clear_above seat && within seat.barrier seat.past && sound_windows seat

-- The same in plain facts.
pub record SoundState (seat : Seat) : Type 0 where
  pub seats_low : 1 ≤ seat.n
  pub seats_high : seat.n ≤ 16
  pub own_low : 1 ≤ seat.own.0
  pub own_high : seat.own.0 ≤ seat.n
  pub past_above : (k : ℕ) → seat.n ≤ k → k < 16 → get_or seat.past k 0 ≡ 0
  pub barrier_above : (k : ℕ) → seat.n ≤ k → k < 16 → get_or seat.barrier k 0 ≡ 0
  pub run_above : (k : ℕ) → seat.n ≤ k → k < 16 → get_or seat.run k 0 ≡ 0
  pub ahead_above : (k : ℕ) → seat.n ≤ k → k < 16 → get_or seat.ahead k 0 ≡ 0
  pub barrier_within : (k : ℕ) → k < 16 → get_or seat.barrier k 0 ≤ get_or seat.past k 0
  pub windows : (k : ℕ) → k < 16 → SoundWindow (get_or seat.past k 0) (window_at seat k)

-- A state as every program holds it: arrays of 16 counts, and of 16 words of 64 bits.
pub record Held (seat : Seat) : Type 0 where
  pub past_long : length seat.past ≡ 16
  pub barrier_long : length seat.barrier ≡ 16
  pub run_long : length seat.run ≡ 16
  pub ahead_long : length seat.ahead ≡ 16
  pub past_fits : (k : ℕ) → get_or seat.past k 0 < 65536
  pub barrier_fits : (k : ℕ) → get_or seat.barrier k 0 < 65536
  pub run_fits : (k : ℕ) → get_or seat.run k 0 < 65536
  pub ahead_fits : (k : ℕ) → get_or seat.ahead k 0 < 18446744073709551616

-- A state with all counts zero.
abbrev pub counting : ℕ → SeatNo → Seat
counting n own = record { n = n; own = own; past = zeros; barrier = zeros; run = zeros; ahead = zeros }

-- A state of zeros only, which is not sound.
abbrev pub no_seat : Seat
no_seat = counting 0 (seat_no 0)
