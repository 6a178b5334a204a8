-- What the code computes of a window, by shifts and counts of zeros, is what the definitions say.
use Prim.Native.Nat.{ℕ, suc, ◌+◌, ◌-◌, ◌*◌, ◌%◌, ◌^◌, ◌≤◌, ◌<◌}
use mathlib.Core.Path.{◌≡◌, sym, ap, ◌∙◌}
use mathlib.Core.Bool.{true, false, ◌&&◌, true≢false}
use mathlib.Core.Logic.{⊎_elim}
use native.Mathlib.Decide.{dec_lt}
use native.Mathlib.Nat.{div-eq_of_lt, eq-zero-or-pos, lt_of_lt_of_le, one-mul}
use native.Mathlib.Omega.{arith}
use borrow.Author.Tests.{le-leb, lt-leb, leb-true}
use lib.Bits.{bit_or}
use lib.Count.{count_trailing_zeros, count_leading_zeros, leading_of_zero, leading_top}
use lib.Dec.{leb, eqb, lit<}
use lib.Pow.{pow_mono, pow_pos, shl_exact}
use Rattle.std.specs.Cmp.Derive.{one_truth}
use Rattle.window.specs.Window.{place, none_above, NoneAbove, sound_window, marked, trailing_ones, moved, advanced}
use Rattle.window.specs.declared.Window.{Window}
use Rattle.window.proofs.Bits.{even_is_clear, bit_none, bit_above, highest_is_set, ones_at_most, zeros_of_complement}
use Rattle.window.proofs.Sound.{none_above_says, none_above_passes, sound_passes, advancing_keeps_run_within}

-- ---- soundness

module _ (bound : ℕ) (w : Window) (h : w.run ≤ bound) where
  small_has_none_above : w.ahead < 2 ^ (bound - w.run) → NoneAbove bound w
  small_has_none_above small b i set =
      elim (dec_lt b (bound - w.run)) [
        | yes low ↦ omega arith
        | no high ↦ absurd (true≢false (sym set ∙ bit_above w.ahead (bound - w.run) b small (omega arith)))
      ]

  by_highest : (j : ℕ) → j < 64 → 2 ^ j ≤ w.ahead → w.ahead < 2 ^ suc j → leb (suc j) (bound - w.run) ≡ none_above bound w
  by_highest j i low high =
      one_truth (leb (suc j) (bound - w.run)) (none_above bound w)
      (λ e. none_above_passes bound w (small_has_none_above (lt_of_lt_of_le high (pow_mono (leb-true (suc j) (bound - w.run) e)))))
      (λ e. le-leb (suc j) (bound - w.run) (omega (arith, none_above_says bound w e j i (highest_is_set w.ahead j low high))))

  pub none_above_by_leading_zeros : w.ahead < 2 ^ 64 → leb (64 - count_leading_zeros 64 w.ahead) (bound - w.run) ≡ none_above bound w
  none_above_by_leading_zeros fits =
      ⊎_elim
      (λ (none : w.ahead ≡ 0).
      let all-zeros : count_leading_zeros 64 w.ahead ≡ 64 = rw none (leading_of_zero 64) in
      let small : w.ahead < 2 ^ (bound - w.run) = rw none (pow_pos (bound - w.run)) in
      rw all-zeros (le-leb 0 (bound - w.run) (omega arith) ∙ sym (none_above_passes bound w (small_has_none_above small))))
      (λ (some : 0 < w.ahead).
      let highest = leading_top 64 w.ahead some fits in
      let j = highest.0 in
      let above : 64 - count_leading_zeros 64 w.ahead ≡ suc j = omega (arith, highest.1) in
      rw above (by_highest j (omega (arith, highest.1)) highest.2 highest.3)) (eq-zero-or-pos w.ahead)

module _ (past : ℕ) (w : Window) where
  pub unsound_by_run : past < w.run → false ≡ sound_window past w
  unfolding sound_window
  unsound_by_run h = rw (lt-leb w.run past h)

  pub sound_without_marks : w.run ≤ past → w.ahead ≡ 0 → true ≡ sound_window past w
  sound_without_marks h none =
      sym
      (sound_passes past w
      (record {
        next_clear = rw none (bit_none 0);
        run_within = h;
        marks_within = λ b i set. absurd (true≢false (sym set ∙ rw none (bit_none b)));
      }))

  pub sound_by_ahead : w.run ≤ past → (eqb (w.ahead % 2) 0 && none_above past w) ≡ sound_window past w
  unfolding sound_window
  sound_by_ahead h = rw (le-leb w.run past h, even_is_clear)

-- ---- marking

one_moved_up : (b : ℕ) → b < 64 → (1 * 2 ^ b) % 2 ^ 64 ≡ 2 ^ b
one_moved_up b h = shl_exact {a = 1} 1 b 64 (lit< tt) (omega arith) ∙ one-mul (2 ^ b)

pub marked_by_shift : (w : Window) (s b : ℕ) → b < 64 → b ≡ place w s → ◌≡◌ {A = Window} (record { run = w.run; ahead = bit_or w.ahead ((1 * 2 ^ b) % 2 ^ 64) }) (marked w s)
unfolding marked
marked_by_shift w s b h e = rw (one_moved_up b h, e)

-- ---- advancing

module _ (w : Window) (fits : w.ahead < 2 ^ 64) where
  ones_counted : count_trailing_zeros 64 ((2 ^ 64 - 1) - w.ahead) ≡ trailing_ones 64 w.ahead
  ones_counted = zeros_of_complement 64 w.ahead fits

  pub count_keeps_run_within : (bound : ℕ) → w.run ≤ bound → none_above bound w ≡ true → w.run + count_trailing_zeros 64 ((2 ^ 64 - 1) - w.ahead) ≤ bound
  unfolding advanced
  count_keeps_run_within bound h e = rw ones_counted (advancing_keeps_run_within bound w (none_above_says bound w e) h)

  pub advanced_by_count : moved w (count_trailing_zeros 64 ((2 ^ 64 - 1) - w.ahead)) ≡ advanced w
  unfolding advanced
  advanced_by_count = ap (moved w) ones_counted

  -- a full window closes
  pub advanced_by_all : 64 ≤ count_trailing_zeros 64 ((2 ^ 64 - 1) - w.ahead) → ◌≡◌ {A = Window} (record { run = w.run + 64; ahead = 0 }) (advanced w)
  unfolding advanced
  advanced_by_all full =
      let all : 64 ≡ trailing_ones 64 w.ahead = omega (arith, ones_counted, ones_at_most 64 w.ahead) in
      ap (λ (word : ℕ). record { run = w.run + 64; ahead = word }) (sym (div-eq_of_lt fits)) ∙ ap (moved w) all
