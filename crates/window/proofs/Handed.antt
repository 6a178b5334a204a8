-- What run and ahead say of the set of numbers handed over: marking adds one number, advancing none, and run is the
-- largest number with all up to it in the set.
use Prim.Native.Nat.{ℕ, ◌+◌, ◌^◌, ◌≤◌, ◌<◌}
use mathlib.Core.Path.{◌≡◌, sym, ap₂, ◌∙◌}
use mathlib.Core.Bool.{true, false, ◌||◌, true≢false}
use native.Mathlib.Decide.{dec_le}
use native.Mathlib.Nat.{add-zero, lt_of_le_of_lt}
use native.Mathlib.Omega.{arith}
use borrow.Author.Tests.{eq-eqb, eqb-true, le-leb, lt-leb, leb-true}
use lib.Bits.{or_lt}
use lib.Dec.{leb, eqb}
use lib.Pow.{pow-lt, shr_le}
use Rattle.std.specs.Cmp.Derive.{one_truth}
use Rattle.window.specs.Window.{bit, place, handed, trailing_ones, marked, advanced, handed_over}
use Rattle.window.specs.declared.Window.{Window}
use Rattle.window.proofs.Bits.{bit_above, bit_moved, bit_of_or, bit_power, ones_are_set, next_is_clear}

-- ---- one number

pub up_to_run_is_handed : (w : Window) (t : ℕ) → t ≤ w.run → handed w t ≡ true
unfolding handed
up_to_run_is_handed w t h = rw (le-leb t w.run h)

pub above_run_is_its_bit : (w : Window) (t : ℕ) → w.run < t → handed w t ≡ bit w.ahead (place w t)
unfolding handed
above_run_is_its_bit w t h = rw (lt-leb t w.run h)

-- beyond the word no number is marked
pub beyond_the_word_is_not_handed : (w : Window) (t : ℕ) → w.run < t → w.ahead < 2 ^ 64 → 64 ≤ place w t → handed w t ≡ false
beyond_the_word_is_not_handed w t h fits far = above_run_is_its_bit w t h ∙ bit_above w.ahead 64 (place w t) fits far

pub not_handed_is_above_run : (w : Window) (t : ℕ) → handed w t ≡ false → w.run < t
not_handed_is_above_run w t e =
    elim (dec_le t w.run) [
      | yes low ↦ absurd (true≢false (sym (up_to_run_is_handed w t low) ∙ e))
      | no high ↦ omega arith
    ]

-- ---- marking and advancing

same_place : (w : Window) (s t : ℕ) → w.run < s → w.run < t → eqb (place w t) (place w s) ≡ eqb t s
same_place w s t h l =
    one_truth _ _ (λ e. eq-eqb t s (omega (arith, eqb-true _ _ e))) (λ e. eq-eqb (place w t) (place w s) (omega (arith, eqb-true _ _ e)))

pub marking_adds_one : (w : Window) (s t : ℕ) → w.run < s → handed (marked w s) t ≡ (handed w t || eqb t s)
unfolding marked
marking_adds_one w s t h =
    elim (dec_le t w.run) [
      | yes low ↦ up_to_run_is_handed (marked w s) t low ∙ sym (rw (up_to_run_is_handed w t low))
      | no high ↦ let l : w.run < t = omega arith in
          above_run_is_its_bit (marked w s) t l ∙ bit_of_or w.ahead (2 ^ place w s) (place w t)
          ∙ ap₂ ◌||◌ (sym (above_run_is_its_bit w t l)) (bit_power (place w s) (place w t) ∙ same_place w s t h l)
    ]

pub advancing_adds_none : (w : Window) (t : ℕ) → handed (advanced w) t ≡ handed w t
unfolding advanced
advancing_adds_none w t =
    let ones = trailing_ones 64 w.ahead in
    elim (dec_le t w.run) [
      | yes low ↦ up_to_run_is_handed (advanced w) t (omega arith) ∙ sym (up_to_run_is_handed w t low)
      | no high ↦ let l : w.run < t = omega arith in
          elim (dec_le t (w.run + ones)) [
            | yes in_ones ↦ up_to_run_is_handed (advanced w) t in_ones ∙ sym (above_run_is_its_bit w t l ∙ ones_are_set 64 w.ahead (place w t) (omega arith))
            | no above ↦ let further : ones + place (advanced w) t ≡ place w t = omega arith in
                above_run_is_its_bit (advanced w) t (omega arith) ∙ bit_moved w.ahead ones (place (advanced w) t) ∙ rw further (sym (above_run_is_its_bit w t l))
          ]
    ]

pub marked_fits : (w : Window) (s : ℕ) → s ≤ w.run + 64 → w.ahead < 2 ^ 64 → (marked w s).ahead < 2 ^ 64
unfolding marked
marked_fits w s l fits = or_lt 64 w.ahead (2 ^ place w s) fits (pow-lt {j = 64} (omega arith))

-- ---- handing over

module _ (w : Window) (s : ℕ) where
  pub run_does_not_fall : w.run ≤ (handed_over w s).run
  unfolding handed_over advanced marked
  run_does_not_fall = omega arith

  pub handing_over_adds_one : (t : ℕ) → w.run < s → handed (handed_over w s) t ≡ (handed w t || eqb t s)
  unfolding handed_over
  handing_over_adds_one t h = advancing_adds_none (marked w s) t ∙ marking_adds_one w s t h

  pub handed_over_fits : s ≤ w.run + 64 → w.ahead < 2 ^ 64 → (handed_over w s).ahead < 2 ^ 64
  unfolding handed_over advanced
  handed_over_fits l fits = lt_of_le_of_lt (shr_le (marked w s).ahead _) (marked_fits w s l fits)

  pub handed_over_clears_next : s ≤ w.run + 64 → w.ahead < 2 ^ 64 → bit (handed_over w s).ahead 0 ≡ false
  unfolding handed_over advanced
  handed_over_clears_next l fits =
      let word = (marked w s).ahead in
      bit_moved word (trailing_ones 64 word) 0 ∙ rw add-zero (next_is_clear 64 word (marked_fits w s l fits))

-- ---- run, where bit 0 of ahead is clear

pub next_is_not_handed : (w : Window) → bit w.ahead 0 ≡ false → handed w (w.run + 1) ≡ false
next_is_not_handed w clear =
    let first : place w (w.run + 1) ≡ 0 = omega arith in
    above_run_is_its_bit w (w.run + 1) (omega arith) ∙ rw first clear

pub run_is_the_largest : (w : Window) → bit w.ahead 0 ≡ false → ((t : ℕ) → t ≤ w.run → handed w t ≡ true) × (handed w (w.run + 1) ≡ false)
run_is_the_largest w clear = (up_to_run_is_handed w, next_is_not_handed w clear)

-- line 5's test on run is a test on the set
pub run_test_is_set_test : (w : Window) (b : ℕ) → bit w.ahead 0 ≡ false
    → (leb b w.run ≡ true → (t : ℕ) → 1 ≤ t → t ≤ b → handed w t ≡ true) × (((t : ℕ) → 1 ≤ t → t ≤ b → handed w t ≡ true) → leb b w.run ≡ true)
run_test_is_set_test w b clear = (there, back)
  where
    there : leb b w.run ≡ true → (t : ℕ) → 1 ≤ t → t ≤ b → handed w t ≡ true
    there e t low high = up_to_run_is_handed w t (omega (arith, leb-true b w.run e))

    back : ((t : ℕ) → 1 ≤ t → t ≤ b → handed w t ≡ true) → leb b w.run ≡ true
    back each =
        elim (dec_le b w.run) [
          | yes low ↦ le-leb b w.run low
          | no high ↦ absurd (true≢false (sym (each (w.run + 1) (omega arith) (omega arith)) ∙ next_is_not_handed w clear))
        ]
