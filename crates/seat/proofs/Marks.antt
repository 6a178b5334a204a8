-- Laws of the words that a look gathers: marking a packet's number adds that edit, and no other.
use Prim.Native.Nat.{ℕ, ◌-◌, ◌≤◌, ◌<◌}
use mathlib.Core.Path.{◌≡◌, sym, ap, ◌∙◌}
use mathlib.Core.Bool.{◌&&◌, ◌||◌, or-false}
use mathlib.Core.List.{List}
use native.Mathlib.Decide.{ℕ_discrete}
use native.Mathlib.Omega.{arith}
use lib.Dec.{eqb}
use lib.ListN.{length}
use lib.Seq.{get_or-set_same, get_or-set_other}
use borrow.Author.Tests.{eq-eqb, ne_eqb}
use Rattle.answers.specs.declared.SeatNo.{SeatNo}
use Rattle.vectors.specs.Vectors.{entry}
use Rattle.window.specs.Window.{handed, marked}
use Rattle.window.specs.declared.Window.{Window}
use Rattle.window.proofs.Handed.{marking_adds_one}
use Rattle.seat.specs.Survey.{window_with, marked_with}
use Rattle.seat.specs.declared.Seat.{Seat}

eqb_turned : (a b : ℕ) → eqb a b ≡ eqb b a
eqb_turned a b =
    elim (ℕ_discrete a b) [
      | yes same ↦ eq-eqb a b same ∙ sym (eq-eqb b a (sym same))
      | no other ↦ ne_eqb a b other ∙ sym (ne_eqb b a (λ same. other (sym same)))
    ]

module _ (seat : Seat) (words : List ℕ) (sender : SeatNo) (number : ℕ) (long : length words ≡ 16) (low : 1 ≤ sender.0) (high : sender.0 ≤ 16) where
  own_window : (other : SeatNo) → sender.0 ≡ other.0 → window_with seat.run (marked_with seat.run words sender number) other ≡ marked (window_with seat.run words sender) number
  unfolding marked
  own_window other same =
      rw (← same) (ap (λ (word : ℕ). record { run = entry seat.run sender; ahead = word }) (get_or-set_same words (sender.0 - 1) _ 0 (omega arith)))

  other_window : (other : SeatNo) → 1 ≤ other.0 → (sender.0 ≡ other.0 → ⊥)
      → window_with seat.run (marked_with seat.run words sender number) other ≡ window_with seat.run words other
  other_window other some differ =
      ap (λ (word : ℕ). record { run = entry seat.run other; ahead = word })
      (get_or-set_other words (sender.0 - 1) (other.0 - 1) _ 0 (λ (same : other.0 - 1 ≡ sender.0 - 1). differ (omega arith)))

  pub marking_adds_the_edit : entry seat.run sender < number → (other : SeatNo) (t : ℕ) → 1 ≤ other.0
      → handed (window_with seat.run (marked_with seat.run words sender number) other) t
      ≡ (handed (window_with seat.run words other) t || (eqb sender.0 other.0 && eqb number t))
  marking_adds_the_edit above other t some =
      elim (ℕ_discrete sender.0 other.0) [
        | yes same ↦ ap (λ (w : Window). handed w t) (own_window other same) ∙ marking_adds_one (window_with seat.run words sender) number t above
            ∙ rw (eq-eqb sender.0 other.0 same, ← same, eqb_turned t number)
        | no differ ↦ ap (λ (w : Window). handed w t) (other_window other some differ)
            ∙ rw (ne_eqb sender.0 other.0 differ) (sym (or-false _))
      ]
