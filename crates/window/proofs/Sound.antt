-- Soundness of a window: the test says the plain facts, it holds of a larger past too and after handing over, and
-- nothing above past is handed over.
use Prim.Native.Nat.{ℕ, ◌+◌, ◌-◌, ◌^◌, ◌≤◌, ◌<◌}
use mathlib.Core.Path.{◌≡◌, sym, ◌∙◌}
use mathlib.Core.Bool.{true, false, not, or-false, true≢false}
use mathlib.Core.Logic.{⊎_elim}
use native.Mathlib.Decide.{ℕ_discrete, dec_lt}
use native.Mathlib.Nat.{le_trans, eq-zero-or-pos}
use native.Mathlib.Omega.{arith}
use Rattle.std.proofs.lemmas.Bool.{ne_eqb, le-leb, leb-true, not-true, and_parts, cases_Bool}
use lib.Dec.{leb, lit<}
use Rattle.vectors.proofs.Every.{all_at, all_of}
use Rattle.window.specs.Window.{fresh_window, bit, place, handed, none_above, NoneAbove, sound_window, SoundWindow, marked, trailing_ones, advanced, handed_over}
use Rattle.window.specs.declared.Window.{Window}
use Rattle.window.proofs.Bits.{bit_none, bit_above, bit_moved, bit_of_or, bit_power, ones_at_most, ones_are_set}
use Rattle.window.proofs.Handed.{above_run_is_its_bit, marked_fits, handed_over_clears_next}

-- ---- the tests and the facts

module _ (bound : ℕ) (w : Window) where
  pub none_above_says : none_above bound w ≡ true → NoneAbove bound w
  unfolding none_above
  none_above_says e b h set = leb-true (w.run + 1 + b) bound (rw set at (all_at _ 64 b e h))

  pub none_above_passes : NoneAbove bound w → none_above bound w ≡ true
  unfolding none_above
  none_above_passes none =
      all_of _ 64 (λ b h.
      ⊎_elim (λ (set : bit w.ahead b ≡ true). rw set (le-leb (w.run + 1 + b) bound (none b h set))) (λ (clear : bit w.ahead b ≡ false). rw clear)
      (cases_Bool (bit w.ahead b)))

module _ (past : ℕ) (w : Window) where
  pub sound_says : sound_window past w ≡ true → SoundWindow past w
  unfolding sound_window
  sound_says e =
      let run = and_parts (leb w.run past) _ e in
      let ahead = and_parts (not (bit w.ahead 0)) _ run.1 in
      record {
        next_clear = not-true (bit w.ahead 0) ahead.0;
        run_within = leb-true w.run past run.0;
        marks_within = none_above_says past w ahead.1;
      }

  pub sound_passes : SoundWindow past w → sound_window past w ≡ true
  unfolding sound_window
  sound_passes sound = rw (le-leb w.run past sound.run_within, sound.next_clear) (none_above_passes past w sound.marks_within)

-- ---- a larger bound

none_above_grows : (bound top : ℕ) (w : Window) → bound ≤ top → NoneAbove bound w → NoneAbove top w
none_above_grows bound top w grown none b h set = le_trans (none b h set) grown

pub sound_grows : (past top : ℕ) (w : Window) → sound_window past w ≡ true → past ≤ top → sound_window top w ≡ true
sound_grows past top w e grown =
    let sound = sound_says past w e in
    sound_passes top w
    (record { next_clear = sound.next_clear; run_within = le_trans sound.run_within grown; marks_within = none_above_grows past top w grown sound.marks_within })

-- what `hand_over` requires of a sound window
pub sound_has_none_above : (past top : ℕ) (w : Window) → sound_window past w ≡ true → past ≤ top → none_above top w ≡ true
sound_has_none_above past top w e grown = none_above_passes top w (none_above_grows past top w grown (sound_says past w e).marks_within)

-- ---- marking and advancing

pub marking_keeps_none_above : (bound : ℕ) (w : Window) (s : ℕ) → NoneAbove bound w → w.run < s → s ≤ bound → NoneAbove bound (marked w s)
unfolding marked
marking_keeps_none_above bound w s none h l b i set =
    elim (ℕ_discrete b (place w s)) [
      | yes own ↦ omega arith
      | no other ↦ none b i (rw (bit_of_or w.ahead (2 ^ place w s) b, bit_power (place w s) b, ne_eqb b (place w s) other, or-false) at set)
    ]

module _ (bound : ℕ) (w : Window) (none : NoneAbove bound w) where
  pub advancing_keeps_run_within : w.run ≤ bound → (advanced w).run ≤ bound
  unfolding advanced
  advancing_keeps_run_within h =
      let ones = trailing_ones 64 w.ahead in
      ⊎_elim (λ (no_ones : ones ≡ 0). omega arith)
      (λ (some : 0 < ones). omega (arith, none (ones - 1) (omega (arith, ones_at_most 64 w.ahead)) (ones_are_set 64 w.ahead (ones - 1) (omega arith))))
      (eq-zero-or-pos ones)

  pub advancing_keeps_none_above : w.ahead < 2 ^ 64 → NoneAbove bound (advanced w)
  unfolding advanced
  advancing_keeps_none_above fits b i set =
      let ones = trailing_ones 64 w.ahead in
      let was-set : bit w.ahead (ones + b) ≡ true = sym (bit_moved w.ahead ones b) ∙ set in
      elim (dec_lt (ones + b) 64) [
        | yes inside ↦ omega (arith, none (ones + b) inside was-set)
        | no above ↦ absurd (true≢false (sym was-set ∙ bit_above w.ahead 64 (ones + b) fits (omega arith)))
      ]

-- ---- handing over

pub handing_over_keeps_sound : (past top : ℕ) (w : Window) (s : ℕ) → sound_window past w ≡ true → w.run < s → s ≤ w.run + 64 → w.ahead < 2 ^ 64
    → past ≤ top → s ≤ top → sound_window top (handed_over w s) ≡ true
unfolding handed_over marked
handing_over_keeps_sound past top w s e h l fits grown within =
    let sound = sound_says past w e in
    let none = marking_keeps_none_above top w s (none_above_grows past top w grown sound.marks_within) h within in
    sound_passes top (handed_over w s)
    (record {
      next_clear = handed_over_clears_next w s l fits;
      run_within = advancing_keeps_run_within top (marked w s) none (le_trans sound.run_within grown);
      marks_within = advancing_keeps_none_above top (marked w s) none (marked_fits w s l fits);
    })

-- ---- the numbers above past

pub nothing_above_past_is_handed_over : (past : ℕ) (w : Window) (t : ℕ) → sound_window past w ≡ true → w.ahead < 2 ^ 64 → past < t → handed w t ≡ false
nothing_above_past_is_handed_over past w t e fits h =
    let sound = sound_says past w e in
    let within = sound.run_within in
    above_run_is_its_bit w t (omega arith)
    ∙ elim (dec_lt (place w t) 64) [
      | yes inside ↦ ⊎_elim (λ (set : bit w.ahead (place w t) ≡ true). absurd (omega (arith, sound.marks_within (place w t) inside set))) (λ clear. clear)
          (cases_Bool (bit w.ahead (place w t)))
      | no above ↦ bit_above w.ahead 64 (place w t) fits (omega arith)
    ]

-- ---- a fresh window

pub fresh_is_sound : (past : ℕ) → sound_window past fresh_window ≡ true
fresh_is_sound past =
    sound_passes past fresh_window
    (record { next_clear = bit_none 0; run_within = omega arith; marks_within = λ b h set. absurd (true≢false (sym set ∙ bit_none b)) })

pub fresh_holds_nothing : (t : ℕ) → 1 ≤ t → handed fresh_window t ≡ false
fresh_holds_nothing t h = nothing_above_past_is_handed_over 0 fresh_window t (fresh_is_sound 0) (lit< tt) h
