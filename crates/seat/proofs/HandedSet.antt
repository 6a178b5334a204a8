-- The edits handed over after handing one over: those before, and that one.
use Prim.Native.Nat.{ℕ, ◌-◌, ◌≤◌}
use mathlib.Core.Path.{◌≡◌, refl, sym, ◌∙◌}
use mathlib.Core.Bool.{Bool, true, false, ◌||◌, or-true}
use mathlib.Core.List.{List}
use mathlib.Core.Logic.{◌⊎◌, inl, inr}
use native.Mathlib.Decide.{ℕ_discrete}
use native.Mathlib.Omega.{arith}
use lib.Dec.{eqb}
use borrow.Author.Tests.{eq-eqb, eqb-true}
use Rattle.vectors.specs.Vectors.{entry}
use Rattle.window.specs.Window.{handed}
use Rattle.window.proofs.Handed.{handing_over_adds_one}
use Rattle.packet.specs.declared.Heading.{Heading}
use Rattle.seat.specs.State.{window_at}
use Rattle.seat.specs.HandingOver.{hand_over}
use Rattle.seat.specs.declared.Seat.{Seat}
use Rattle.seat.proofs.Sound.{sound_says}
use Rattle.seat.proofs.HandedOver.{other_windows_stay, senders_window_takes_the_number}
use Rattle.seat.proofs.HandingOverSound.{CanHandOver}

one_of_both : (a b : Bool) → (a || b) ≡ true → (a ≡ true) ⊎ (b ≡ true)
one_of_both true b e = inl refl
one_of_both false b e = inr e

module _ (seat : Seat) (heading : Heading) (past barrier : List ℕ) (can : CanHandOver seat heading past barrier) where
  abbrev next : Seat
  next = hand_over seat heading past barrier

  abbrev at : ℕ
  at = heading.sender.0 - 1

  sender_in_array : heading.sender.0 ≤ 16
  sender_in_array = let s = sound_says seat can.sound in omega (arith, can.sender_high)

  -- of the sender's own edits, one more is handed over
  at_sender : (number : ℕ) → handed (window_at next at) number ≡ (handed (window_at seat at) number || eqb number (entry past heading.sender))
  at_sender number =
      rw (senders_window_takes_the_number seat heading past barrier can.held can.sender_low sender_in_array)
      (handing_over_adds_one (window_at seat at) (entry past heading.sender) number can.new)

  elsewhere : (sender : ℕ) → 1 ≤ sender → (sender ≡ heading.sender.0 → ⊥) → window_at next (sender - 1) ≡ window_at seat (sender - 1)
  elsewhere sender low away = other_windows_stay seat heading past barrier (sender - 1) (λ e. away (omega (arith, can.sender_low)))

  pub handed_after_was_handed_or_is_it : (sender number : ℕ) → 1 ≤ sender → handed (window_at next (sender - 1)) number ≡ true
      → (handed (window_at seat (sender - 1)) number ≡ true) ⊎ ((sender ≡ heading.sender.0) × (number ≡ entry past heading.sender))
  handed_after_was_handed_or_is_it sender number low e =
      elim (ℕ_discrete sender heading.sender.0) [
        | yes here ↦
            let now : handed (window_at next at) number ≡ true = rw here at e in
            elim (one_of_both (handed (window_at seat at) number) (eqb number (entry past heading.sender)) (sym (at_sender number) ∙ now)) [
              | inl was ↦ inl (rw here was)
              | inr is ↦ inr (here, eqb-true _ _ is)
            ]
        | no away ↦ inl (rw (elsewhere sender low away) at e)
      ]

  pub handed_stays_handed : (sender number : ℕ) → 1 ≤ sender → handed (window_at seat (sender - 1)) number ≡ true → handed (window_at next (sender - 1)) number ≡ true
  handed_stays_handed sender number low e =
      elim (ℕ_discrete sender heading.sender.0) [
        | yes here ↦ let was : handed (window_at seat at) number ≡ true = rw here at e in rw here (at_sender number ∙ rw was)
        | no away ↦ rw (elsewhere sender low away) e
      ]

  pub handed_over_is_handed : handed (window_at next at) (entry past heading.sender) ≡ true
  handed_over_is_handed = let s = entry past heading.sender in at_sender s ∙ rw (eq-eqb s s refl) (or-true (handed (window_at seat at) s))
