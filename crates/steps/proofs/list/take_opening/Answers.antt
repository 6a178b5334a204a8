-- `take_opening` meets its contract.
use Rattle.std.proofs.Common.{Option, sym, ap, ◌∙◌}
use Rattle.lines.specs.declared.Opening.{Opening}
use Rattle.steps.specs.Printed.{walked_from}
use Rattle.steps.proofs.Printing.{good_opening, bad_opening, taken_alike}
use Rattle.steps.proofs.list.take_opening.Goals as goal

pub returns-in_default : goal.returns-in_default
returns-in_default c =
    λ number packets. taken_alike (λ lines. ap (λ (o : Option Opening). walked_from o lines) c.in_default.ensures) (c.refuse_list.ensures number _ packets)

pub returns-then-n-slots : goal.returns-then-n-slots
returns-then-n-slots c =
    λ number packets.
    taken_alike
    (λ lines. sym (good_opening c.in-Some.field-0 lines c.if-n-slots.true) ∙ ap (λ (o : Option Opening). walked_from o lines) c.in-Some.ensures)
    (c.begin.ensures number packets)

pub returns : goal.returns
returns c =
    λ number packets.
    taken_alike
    (λ lines. sym (bad_opening c.in-Some.field-0 lines c.if-n-slots.false) ∙ ap (λ (o : Option Opening). walked_from o lines) c.in-Some.ensures)
    (c.refuse_list-2.ensures number _ packets)
