-- `read_arrival` meets its contract.
use Rattle.std.proofs.Common.{ℕ, Option, List, [], ◌∷◌, ◌≡◌, sym, ap, ap₂, ◌∙◌, subst, rules, arith}
use Rattle.lines.specs.Lines.{words, number_of}
use Rattle.lines.specs.declared.Step.TheVariants.{Arrive}
use Rattle.lines.proofs.Words.{as_it_stands}
use Rattle.lines.proofs.Grammar.{three_of, arrival_of_one, arrival_of_two, arrival_is}
use Rattle.lines.proofs.read_arrival.Goals as goal

pub returns-in_err-seat : goal.returns-in_err-seat
returns-in_err-seat c = c.from_residual.ensures ∙ sym (arrival_of_one _ c.in_err-seat.ensures)

pub returns-in_err-sender : goal.returns-in_err-sender
returns-in_err-sender c =
    c.from_residual-in_err-sender.ensures
    ∙ sym (arrival_of_two _ _ _ c.in_ok-seat.ensures (subst (λ (l : List ℕ). words l ≡ l ∷ []) (search (rules, as_it_stands, arith)) c.in_err-sender.ensures))

pub returns-in_err-read_number : goal.returns-in_err-read_number
returns-in_err-read_number c =
    c.from_residual-in_err-read_number.ensures
    ∙ ap (λ (seat : Option ℕ). three_of Arrive seat (number_of c.in_ok-sender.sender.now) (number_of c.in_ok-sender.number.now))
    (sym c.in_err-read_number.was ∙ c.read_number.ensures)
    ∙ sym (arrival_is _ _ _ c.in_ok-seat.ensures _ _ (ap words (sym (search (rules, as_it_stands, arith))) ∙ c.in_ok-sender.ensures))

pub returns-in_err-read_number-2 : goal.returns-in_err-read_number-2
returns-in_err-read_number-2 c =
    c.from_residual-in_err-read_number-2.ensures
    ∙ ap₂ (λ (seat sender : Option ℕ). three_of Arrive seat sender (number_of c.in_ok-sender.number.now))
    (sym c.in_ok-read_number.was ∙ c.read_number.ensures) (sym c.in_err-read_number-2.was ∙ c.read_number-2.ensures)
    ∙ sym (arrival_is _ _ _ c.in_ok-seat.ensures _ _ (ap words (sym (search (rules, as_it_stands, arith))) ∙ c.in_ok-sender.ensures))

pub returns-in_err-read_number-3 : goal.returns-in_err-read_number-3
returns-in_err-read_number-3 c =
    let seat = sym c.in_ok-read_number.was ∙ c.read_number.ensures in
    let sender = sym c.in_ok-read_number-2.was ∙ c.read_number-2.ensures in
    let number = sym c.in_err-read_number-3.was ∙ c.read_number-3.ensures in
    c.from_residual-in_err-read_number-3.ensures
    ∙ (λ i. three_of Arrive (seat i) (sender i) (number i))
    ∙ sym (arrival_is _ _ _ c.in_ok-seat.ensures _ _ (ap words (sym (search (rules, as_it_stands, arith))) ∙ c.in_ok-sender.ensures))

pub returns : goal.returns
returns c =
    let seat = sym c.in_ok-read_number.was ∙ c.read_number.ensures in
    let sender = sym c.in_ok-read_number-2.was ∙ c.read_number-2.ensures in
    let number = sym c.in_ok-read_number-3.was ∙ c.read_number-3.ensures in
    (λ i. three_of Arrive (seat i) (sender i) (number i)) ∙ sym (arrival_is _ _ _ c.in_ok-seat.ensures _ _ (ap words (sym (search (rules, as_it_stands, arith))) ∙ c.in_ok-sender.ensures))
