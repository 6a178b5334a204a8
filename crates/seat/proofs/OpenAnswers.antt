-- What opening answers: the exact occasion of each answer, and the contract at each way out.
use Prim.Native.Nat.{ℕ}
use mathlib.Core.Path.{◌≡◌, refl, sym, subst}
use mathlib.Core.Bool.{Bool, true, false, not}
use mathlib.Core.List.{List, [], ◌∷◌}
use lib.ListN.{length, replicate}
use Rattle.answers.specs.Answers.{first_of}
use Rattle.answers.specs.declared.SeatNo.{SeatNo}
use Rattle.answers.specs.declared.Refusal.{Refusal}
use Rattle.answers.specs.declared.Refusal.TheVariants.{NoSuchSeat, NotSound}
use Rattle.answers.specs.declared.Answer.{Answer}
use Rattle.answers.specs.declared.Answer.TheVariants.{Opened, Refused}
use Rattle.packet.specs.Writing.{in_range}
use Rattle.shelf.specs.Shelf.{whole_slots}
use Rattle.seat.specs.State.{counting, no_seat}
use Rattle.seat.specs.Opening.{open_refusals, open_answer, OpenedAs}
use Rattle.seat.specs.declared.Seat.{Seat}

-- The occasion of each answer. Opening gives no others.
pub data OpenOccasion (n : ℕ) (own : SeatNo) (shelf : List ℕ) : Answer → Type 0 where
  opened : in_range (record { n = n; sender = own }) ≡ true → whole_slots shelf ≡ true → OpenOccasion n own shelf Opened
  no_such_seat : in_range (record { n = n; sender = own }) ≡ false → OpenOccasion n own shelf (Refused NoSuchSeat)
  broken_shelf : in_range (record { n = n; sender = own }) ≡ true → whole_slots shelf ≡ false → OpenOccasion n own shelf (Refused NotSound)

module _ (n : ℕ) (own : SeatNo) (shelf : List ℕ) where
  -- ---- from the occasion to the answer

  pub no_such_seat_answers_20 : in_range (record { n = n; sender = own }) ≡ false → open_answer n own shelf ≡ Refused NoSuchSeat
  unfolding open_answer open_refusals first_of
  no_such_seat_answers_20 range = rw range

  pub broken_shelf_answers_10 : in_range (record { n = n; sender = own }) ≡ true → whole_slots shelf ≡ false → open_answer n own shelf ≡ Refused NotSound
  unfolding open_answer open_refusals first_of
  broken_shelf_answers_10 range whole = rw (range, whole)

  pub opening_answers_0 : in_range (record { n = n; sender = own }) ≡ true → whole_slots shelf ≡ true → open_answer n own shelf ≡ Opened
  unfolding open_answer open_refusals first_of
  opening_answers_0 range whole = rw (range, whole)

  -- ---- from the answer to the occasion

  tests_tell : (range whole : Bool) → in_range (record { n = n; sender = own }) ≡ range → whole_slots shelf ≡ whole
      → OpenOccasion n own shelf (first_of ((NoSuchSeat, not range) ∷ (NotSound, not whole) ∷ []) Opened)
  unfolding first_of
  tests_tell false whole r w = no_such_seat r
  tests_tell true false r w = broken_shelf r w
  tests_tell true true r w = opened r w

  pub open_tells_its_occasion : (answer : Answer) → open_answer n own shelf ≡ answer → OpenOccasion n own shelf answer
  unfolding open_answer open_refusals
  open_tells_its_occasion answer e = subst (OpenOccasion n own shelf) e (tests_tell _ _ refl refl)

  -- ---- the contract at each way out

  pub refused_open : (refusal : Refusal) → open_answer n own shelf ≡ Refused refusal → OpenedAs n own shelf (record { seat = no_seat; answer = Refused refusal }) shelf
  refused_open refusal e = record { answered = sym e; next = rw e; shelf_after_is = rw e }

  pub done_open : (seat : Seat) (after : List ℕ) → open_answer n own shelf ≡ Opened → seat ≡ counting n own → after ≡ replicate (length shelf) 0
      → OpenedAs n own shelf (record { seat = seat; answer = Opened }) after
  done_open seat after e is cleared = record { answered = sym e; next = rw e is; shelf_after_is = rw e cleared }
