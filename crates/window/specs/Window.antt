-- Run and ahead of one sender, as document 01's "Numbers of a seat" and "Handing over" have them.
use Rattle.std.specs.Prelude.{ℕ, zero, suc, ◌+◌, ◌-◌, ◌/◌, ◌%◌, ◌^◌, ◌≤◌, ◌<◌, ◌≡◌, Bool, true, false, cond, not, ◌&&◌, ◌||◌, leb, eqb}
use Rattle.std.specs.Int.Bits.{bit_or}
use Rattle.vectors.specs.Vectors.{all}
use Rattle.window.specs.declared.Window.{Window}

-- Bit b of a word, least significant first.
unfoldable pub bit : ℕ → ℕ → Bool
bit word b = eqb (word / 2 ^ b % 2) 1

-- The bit b of number s, which is run + 1 + b.
abbrev pub place : Window → ℕ → ℕ
place w s = s - (w.run + 1)

-- Number s is handed over: it is at most run, or marked in ahead.
unfoldable pub handed : Window → ℕ → Bool
handed w s = leb s w.run || bit w.ahead (place w s)

-- Every number marked in ahead is at most a bound.
unfoldable pub none_above : ℕ → Window → Bool
none_above bound w = all 64 (λ b. not (bit w.ahead b) || leb (w.run + 1 + b) bound)

-- The same as a plain fact.
abbrev pub NoneAbove : ℕ → Window → Type 0
NoneAbove bound w = (b : ℕ) → b < 64 → bit w.ahead b ≡ true → w.run + 1 + b ≤ bound

-- Bit 0 of ahead is clear; run and every number marked in ahead are at most past.
unfoldable pub sound_window : ℕ → Window → Bool
sound_window past w = leb w.run past && (not (bit w.ahead 0) && none_above past w)

-- The same in plain facts.
pub record SoundWindow (past : ℕ) (w : Window) : Type 0 where
  pub next_clear : bit w.ahead 0 ≡ false
  pub run_within : w.run ≤ past
  pub marks_within : NoneAbove past w

-- Nothing is handed over.
abbrev pub fresh_window : Window
fresh_window = record { run = 0; ahead = 0 }

-- Number s is marked.
unfoldable pub marked : Window → ℕ → Window
marked w s = record { run = w.run; ahead = bit_or w.ahead (2 ^ place w s) }

-- How many bits of a word of k bits are set below the first that is clear.
unfoldable pub trailing_ones : ℕ → ℕ → ℕ
trailing_ones zero word = 0
trailing_ones (suc k) word = cond (bit word 0) (suc (trailing_ones k (word / 2))) 0

-- Run moved up, and ahead moved down by as many.
abbrev pub moved : Window → ℕ → Window
moved w count = record { run = w.run + count; ahead = w.ahead / 2 ^ count }

-- Run advances over the unbroken run of marked numbers.
unfoldable pub advanced : Window → Window
advanced w = moved w (trailing_ones 64 w.ahead)

-- Number s is marked, and run advances.
unfoldable pub handed_over : Window → ℕ → Window
handed_over w s = advanced (marked w s)
