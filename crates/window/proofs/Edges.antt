-- Document 01's P5 and P6 of one sender's window, computed.
use Prim.Native.Nat.{◌+◌, ◌^◌}
use mathlib.Core.Path.{◌≡◌, refl}
use mathlib.Core.Bool.{true, false}
use mathlib.Core.List.{[], ◌∷◌, ◌++◌, foldl}
use lib.Dec.{leb}
use Rattle.vectors.specs.Vectors.{table}
use Rattle.window.specs.Window.{bit, fresh_window, marked, trailing_ones, advanced, handed_over}

-- P5: number 64 is in a fresh window, 65 is not
pub window_ends_at_64 : (leb 64 (fresh_window.run + 64) ≡ true) × (leb 65 (fresh_window.run + 64) ≡ false) × (handed_over fresh_window 64 ≡ record { run = 0; ahead = 2 ^ 63 })
unfolding handed_over advanced marked trailing_ones bit
window_ends_at_64 = (refl, refl, refl)

-- P6: after it 2 to 63, then 1
pub full_window_closes : foldl handed_over fresh_window (64 ∷ table 62 (λ k. k + 2) ++ (1 ∷ [])) ≡ record { run = 64; ahead = 0 }
unfolding handed_over advanced marked trailing_ones bit table
full_window_closes = refl
