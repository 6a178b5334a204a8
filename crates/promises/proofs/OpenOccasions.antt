-- The occasion of each answer of opening.
use Prim.Native.Nat.{ℕ}
use mathlib.Core.Path.{◌≡◌, ap, subst}
use mathlib.Core.Logic.{inl, inr}
use mathlib.Core.List.{List, [], ◌∷◌}
use Rattle.answers.specs.declared.SeatNo.{SeatNo}
use Rattle.answers.specs.declared.Refusal.TheVariants.{NoSuchSeat, NotSound}
use Rattle.answers.specs.declared.Answer.{Answer}
use Rattle.answers.specs.declared.Answer.TheVariants.{Opened, Refused}
use Rattle.seat.specs.Opening.{open_answer}
use Rattle.seat.proofs.OpenAnswers.{no_such_seat_answers_20, broken_shelf_answers_10, opening_answers_0}
use Rattle.promises.specs.Demand1.{answer_number, SeatOf, WholeSlots, OpenAnswers}
use Rattle.promises.proofs.Occasions.{occasion_in, in_the_table}
use Rattle.promises.proofs.Plain.{decided, fails, range_agrees, whole_agrees}

module _ (n : ℕ) (own : SeatNo) (shelf : List ℕ) where
  abbrev answer : Answer
  answer = open_answer n own shelf

  -- each number and its occasion
  abbrev table : List (ℕ × Type 0)
  table =
      (20, (SeatOf own n → ⊥))
      ∷ (10, (SeatOf own n × (WholeSlots shelf → ⊥)))
      ∷ (0, (SeatOf own n × WholeSlots shelf))
      ∷ []

  abbrev occasion : ℕ → Type 0
  occasion k = occasion_in table k

  gives_20 : (SeatOf own n → ⊥) → answer ≡ Refused NoSuchSeat
  gives_20 none = no_such_seat_answers_20 n own shelf (fails _ (range_agrees (record { n = n; sender = own })) none)

  gives_10 : SeatOf own n → (WholeSlots shelf → ⊥) → answer ≡ Refused NotSound
  gives_10 range broken = broken_shelf_answers_10 n own shelf ((range_agrees (record { n = n; sender = own })).0 range) (fails _ (whole_agrees shelf) broken)

  pub in_range_is_opened : SeatOf own n → WholeSlots shelf → answer ≡ Opened
  in_range_is_opened range whole = opening_answers_0 n own shelf ((range_agrees (record { n = n; sender = own })).0 range) ((whole_agrees shelf).0 whole)

  by_shelf : SeatOf own n → occasion (answer_number answer)
  by_shelf range =
      elim (decided _ (whole_agrees shelf)) [
        | inl whole ↦ rw (in_range_is_opened range whole) (range, whole)
        | inr broken ↦ rw (gives_10 range broken) (range, broken)
      ]

  tells : occasion (answer_number answer)
  tells =
      elim (decided _ (range_agrees (record { n = n; sender = own }))) [
        | inl range ↦ by_shelf range
        | inr none ↦ rw (gives_20 none) none
      ]

  pub open_occasions : OpenAnswers n own shelf
  open_occasions =
      record {
        is_20 = (λ e. subst occasion e tells, λ none. ap answer_number (gives_20 none));
        is_10 = (λ e. subst occasion e tells, λ f. ap answer_number (gives_10 f.0 f.1));
        is_0 = (λ e. subst occasion e tells, λ f. ap answer_number (in_range_is_opened f.0 f.1));
        no_other = in_the_table table (answer_number answer) tells;
      }
