-- Each step's contract settles its result: two results that meet it are equal.
use Prim.Native.Nat.{ℕ}
use mathlib.Core.Path.{◌≡◌, sym, ◌∙◌}
use mathlib.Core.List.{List}
use Rattle.answers.specs.declared.SeatNo.{SeatNo}
use Rattle.answers.specs.declared.Answer.{Answer}
use Rattle.seat.specs.Opening.{OpenedAs}
use Rattle.seat.specs.Sending.{Sent}
use Rattle.seat.specs.Arriving.{Arrived}
use Rattle.seat.specs.Releasing.{Released}
use Rattle.seat.specs.declared.Seat.{Seat}
use Rattle.seat.specs.declared.Wish.{Wish}
use Rattle.seat.specs.declared.Stepped.{Stepped}

-- state and answer are the whole of a step
same_step : (one other : Stepped) (seat : Seat) (answer : Answer) → one.seat ≡ seat → other.seat ≡ seat → one.answer ≡ answer → other.answer ≡ answer → one ≡ other
same_step one other seat answer s t a b = λ i. record { seat = (s ∙ sym t) i; answer = (a ∙ sym b) i }

pub open_settled : (n : ℕ) (own : SeatNo) (shelf : List ℕ) (one other : Stepped) (after after-other : List ℕ)
    → OpenedAs n own shelf one after → OpenedAs n own shelf other after-other → (one ≡ other) × (after ≡ after-other)
open_settled n own shelf one other after after-other a b =
    (same_step one other _ _ a.next b.next a.answered b.answered, a.shelf_after_is ∙ sym b.shelf_after_is)

pub send_settled : (seat : Seat) (wish : Wish) (body out : List ℕ) (one other : Stepped) (after after-other : List ℕ)
    → Sent seat wish body out one after → Sent seat wish body out other after-other → (one ≡ other) × (after ≡ after-other)
send_settled seat wish body out one other after after-other a b =
    (same_step one other _ _ a.next b.next a.answered b.answered, a.output ∙ sym b.output)

pub arrive_settled : (seat : Seat) (packet shelf : List ℕ) (one other : Stepped) (after after-other : List ℕ)
    → Arrived seat packet shelf one after → Arrived seat packet shelf other after-other → (one ≡ other) × (after ≡ after-other)
arrive_settled seat packet shelf one other after after-other a b =
    (same_step one other _ _ a.next b.next a.answered b.answered, a.shelf_after_is ∙ sym b.shelf_after_is)

pub release_settled : (seat : Seat) (shelf out : List ℕ) (one other : Stepped) (shelf-one out_one shelf-other out-other : List ℕ)
    → Released seat shelf out one shelf-one out_one → Released seat shelf out other shelf-other out-other
    → (one ≡ other) × (shelf-one ≡ shelf-other) × (out_one ≡ out-other)
release_settled seat shelf out one other shelf-one out_one shelf-other out-other a b = (
  same_step one other _ _ a.next b.next a.answered b.answered,
  a.shelf_after_is ∙ sym b.shelf_after_is,
  a.output ∙ sym b.output,
)
