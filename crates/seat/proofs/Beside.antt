-- Laws of a packet beside the words that a look gathers: the tests that it passes, and being counted in.
use Prim.Native.Nat.{ℕ, ◌+◌, ◌-◌, ◌≤◌, ◌<◌}
use mathlib.Core.Path.{◌≡◌, refl, sym, ap, ◌∙◌}
use mathlib.Core.Bool.{Bool, true, false, not, ◌&&◌, ◌||◌, true≢false}
use mathlib.Core.List.{List}
use lib.ListN.{length, length-set}
use borrow.Author.Tests.{eq-eqb}
use Rattle.std.proofs.lemmas.Bool.{not-true, not-false, ltb-false, eqb-true, and_parts}
use Rattle.std.specs.Prelude.{Result, Ok, Err, Some, is_ok}
use Rattle.answers.specs.Answers.{first_of, edit_no}
use Rattle.answers.specs.declared.SeatNo.{SeatNo}
use Rattle.answers.specs.declared.Refusal.{Refusal}
use Rattle.answers.specs.declared.Answer.{Answer}
use Rattle.answers.specs.declared.Answer.TheVariants.{Shelved}
use Rattle.answers.proofs.InOrder.{shelved_is_no_refusal}
use Rattle.vectors.specs.Vectors.{entry}
use Rattle.window.specs.Window.{handed}
use Rattle.window.proofs.Handed.{not_handed_is_above_run}
use Rattle.packet.specs.declared.Heading.{Heading}
use Rattle.seat.specs.Stock.{other_session, above_own_count, too_far_ahead}
use Rattle.seat.specs.HandingOver.{ready}
use Rattle.seat.specs.Survey.{window_with, marked_with, passes_beside, first_with, Counted}
use Rattle.seat.specs.Arriving.{admission_refusals}
use Rattle.seat.specs.Steps.{unless}
use Rattle.seat.specs.declared.Seat.{Seat}
use Rattle.seat.specs.declared.stock.Stock.{Stock}
use Rattle.seat.specs.declared.stock.Ready.{Ready}
use Rattle.seat.proofs.Admitting.{Admission, admission_passed, passes_all}

-- the words count what is repeated on an earlier slot
pub beside : (session above repeated before far : Bool)
    → (not session && not above && not (repeated || before) && not far) ≡ ((not session && not above && not repeated && not far) && not before)
beside true above repeated before far = refl
beside false true repeated before far = refl
beside false false true before far = refl
beside false false false true true = refl
beside false false false true false = refl
beside false false false false true = refl
beside false false false false false = refl

pub passed_is_in_window : (seat : Seat) (words : List ℕ) (heading : Heading) (past : List ℕ) → passes_beside seat words heading past ≡ true
    → (entry seat.run heading.sender < entry past heading.sender) × (entry past heading.sender ≤ entry seat.run heading.sender + 64)
unfolding passes_beside
passed_is_in_window seat words heading past passed =
    let number = entry past heading.sender in
    let repeated = handed (window_with seat.run words heading.sender) number in
    let far = too_far_ahead seat heading.sender number in
    let near = and_parts (not (other_session seat heading) && not (above_own_count seat past) && not repeated) (not far) passed in
    let new = and_parts (not (other_session seat heading) && not (above_own_count seat past)) (not repeated) near.0 in
    (not_handed_is_above_run (window_with seat.run words heading.sender) number (not-true repeated new.1), ltb-false _ _ (not-true far near.1))

-- what is admitted passes, and what is refused does not
module _ (seat : Seat) (words : List ℕ) (heading : Heading) (past : List ℕ) where
  abbrev repeated : Bool
  repeated = handed (window_with seat.run words heading.sender) (entry past heading.sender)

  passes_where : Admission seat heading past repeated → passes_beside seat words heading past ≡ true
  unfolding passes_beside
  passes_where a = simp (eq-eqb _ _ a.same, a.own, a.new, a.near)

  admits_where : passes_beside seat words heading past ≡ true → (done : Answer) → first_of (admission_refusals seat heading past repeated) done ≡ done
  unfolding passes_beside
  admits_where passed done =
      let far = too_far_ahead seat heading.sender (entry past heading.sender) in
      let near = and_parts (not (other_session seat heading) && not (above_own_count seat past) && not repeated) (not far) passed in
      let new = and_parts (not (other_session seat heading) && not (above_own_count seat past)) (not repeated) near.0 in
      let own = and_parts (not (other_session seat heading)) (not (above_own_count seat past)) new.0 in
      passes_all seat heading past repeated done (eqb-true _ _ (not-false _ (not-true _ own.0))) (not-true _ own.1) (not-true _ new.1) (not-true far near.1)

  pub admitted_is_passed : (result : Result (Unit {0}) Refusal) → ((done : Answer) → unless result done ≡ first_of (admission_refusals seat heading past repeated) done)
      → is_ok result ≡ passes_beside seat words heading past
  admitted_is_passed (Ok passed) admits =
      sym (passes_where (admission_passed seat heading past repeated Shelved Shelved (sym (admits Shelved)) shelved_is_no_refusal).0)
  admitted_is_passed (Err refusal) admits = refused_is_not _ refl
    where
      refused_is_not : (passed : Bool) → passes_beside seat words heading past ≡ passed → false ≡ passes_beside seat words heading past
      refused_is_not false e = sym e
      refused_is_not true e = absurd (shelved_is_no_refusal refusal (admits Shelved ∙ admits_where e Shelved))

-- ---- counted in

module _ (choosing : Bool) (seat : Seat) (stock : Stock) (i : ℕ) (sender : SeatNo) (past barrier : List ℕ) (run : List ℕ) (number : ℕ) (marks : List ℕ)
    (is_run : run ≡ seat.run) (is_number : number ≡ entry past sender) (is_marks : marks ≡ marked_with run stock.marks sender number) where
  marks_counted : marks ≡ marked_with seat.run stock.marks sender (entry past sender)
  marks_counted = is_marks ∙ (λ j. marked_with (is_run j) stock.marks sender (is_number j))

  pub counted_unchosen : choosing ≡ false → Counted choosing seat stock i sender past barrier (record { marks = marks; first = stock.first })
  counted_unchosen none = record { marks_are = marks_counted; first_is = λ some. absurd (true≢false (sym some ∙ none)) }

  module _ (next : Ready) (is_ready : Bool) (is_next : next ≡ record { slot = i; sender = sender; number = edit_no number }) (is-ready-is : is_ready ≡ ready seat barrier) where
    compared : first_with is_ready stock.first next
        ≡ first_with (ready seat barrier) stock.first (record { slot = i; sender = sender; number = edit_no (entry past sender) })
    compared j = first_with (is-ready-is j) stock.first ((is_next ∙ ap (λ (k : ℕ). record { slot = i; sender = sender; number = edit_no k }) is_number) j)

    pub counted_first : first_with is_ready stock.first next ≡ Some next → Counted choosing seat stock i sender past barrier (record { marks = marks; first = Some next })
    counted_first e = record { marks_are = marks_counted; first_is = λ some. sym e ∙ compared }

    pub counted_later : first_with is_ready stock.first next ≡ stock.first → Counted choosing seat stock i sender past barrier (record { marks = marks; first = stock.first })
    counted_later e = record { marks_are = marks_counted; first_is = λ some. sym e ∙ compared }

pub counted_length : (choosing : Bool) (seat : Seat) (stock : Stock) (i : ℕ) (sender : SeatNo) (past barrier : List ℕ) (next : Stock) → Counted choosing seat stock i sender past barrier next
    → length stock.marks ≡ 16 → length next.marks ≡ 16
counted_length choosing seat stock i sender past barrier next counted long = ap length counted.marks_are ∙ length-set stock.marks (sender.0 - 1) _ ∙ long
