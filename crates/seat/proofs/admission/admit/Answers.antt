-- `admit` meets its contract: each way out is a law of refusals 15 to 18.
use Rattle.std.proofs.Common.{◌≡◌, sym, ap, ◌∙◌, arith}
use borrow.Author.Tests.{lt-ltb, le-ltb}
use Rattle.answers.specs.declared.EditNo.{EditNo}
use Rattle.vectors.specs.Vectors.{entry}
use Rattle.window.specs.Window.{handed}
use Rattle.window.specs.declared.Window.{Window}
use Rattle.seat.specs.Survey.{window_with}
use Rattle.seat.proofs.Admitting.{refused_15, refused_16, refused_17, refused_18, passes_all}
use Rattle.seat.proofs.admission.admit.Goals.{After-holds}
use Rattle.seat.proofs.admission.admit.Goals as goal

pub returns-then-heading-seat : goal.returns-then-heading-seat
returns-then-heading-seat c done = sym (refused_15 _ _ _ _ _ c.if-heading-seat.true)

pub returns-then-is_above_own_count : goal.returns-then-is_above_own_count
returns-then-is_above_own_count c done = sym (refused_16 _ _ _ _ _ c.if-heading-seat.false (sym c.is_above_own_count.ensures ∙ c.if-is_above_own_count.true))

-- refusal 17, of the number that the packet carries
repeated : (c : After-holds)
    → c.holds.result
    ≡ handed (window_with c.args.seat.now.run c.args.words.now c.args.message.now.heading.sender) (entry c.args.message.now.past c.args.message.now.heading.sender)
repeated c = c.holds.ensures ∙ (λ i. handed (c.window_with-window.ensures i) (c.number-number.ensures i).0)

pub returns-then-holds : goal.returns-then-holds
returns-then-holds c done =
    sym
    (refused_17 _ _ _ _ _ c.if-heading-seat.false (sym c.is_above_own_count.ensures ∙ c.if-is_above_own_count.false)
    (sym (repeated (goal.at.returns-then-holds c).After-holds) ∙ c.if-holds.true))

-- refusal 18, of that number
run : (c : After-holds) → c.window_with-window.result.run ≡ entry c.args.seat.now.run c.args.message.now.heading.sender
run c = ap (λ (w : Window). w.run) c.window_with-window.ensures

number : (c : After-holds) → c.number-number.result.0 ≡ entry c.args.message.now.past c.args.message.now.heading.sender
number c = ap (λ (n : EditNo). n.0) c.number-number.ensures

pub returns-then-window-number : goal.returns-then-window-number
returns-then-window-number c done =
    let at = (goal.at.returns-then-window-number c).After-holds in
    sym
    (refused_18 _ _ _ _ _ c.if-heading-seat.false (sym c.is_above_own_count.ensures ∙ c.if-is_above_own_count.false) (sym (repeated at) ∙ c.if-holds.false)
    (lt-ltb _ _ (omega (arith, run at, number at, c.if-window-number.true))))

pub returns : goal.returns
returns c done =
    let at = (goal.at.returns c).After-holds in
    sym
    (passes_all _ _ _ _ _ c.if-heading-seat.false (sym c.is_above_own_count.ensures ∙ c.if-is_above_own_count.false) (sym (repeated at) ∙ c.if-holds.false)
    (le-ltb _ _ (omega (arith, run at, number at, c.if-window-number.false))))
