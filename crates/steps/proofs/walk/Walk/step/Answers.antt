-- `step` meets its contract.
use Rattle.std.proofs.Common.{◌≡◌, Option, Some, subst, refl, sym, ap, ◌∙◌}
use Rattle.seat.specs.declared.Wish.{Wish}
use Rattle.lines.specs.declared.Step.{Step}
use Rattle.lines.specs.declared.Step.TheVariants.{Send, Arrive, Release}
use Rattle.steps.specs.Session.{send_told, step_told}
use Rattle.steps.specs.Memory.{session_in, Walks}
use Rattle.steps.proofs.Walking.{unknown_walks}
use Rattle.steps.proofs.walk.Walk.step.Goals as goal

pub returns-in-Send : goal.returns-in-Send
unfolding step_told
returns-in-Send c =
    let a = c.args in
    let is : a.step ≡ Some (Send c.in-Send.seat c.in-Send.letter) = c.in-Some.is ∙ ap Some c.in-Send.is in
    subst (λ (step : Option Step). Walks (step_told (session_in a.self a.shelves.now a.packets.now) step) c.send.result a.shelves.now c.send.new.packets) (sym is)
    (subst (λ (wish : Wish). Walks (send_told (session_in a.self a.shelves.now a.packets.now) c.in-Send.seat wish) c.send.result a.shelves.now c.send.new.packets)
    c.wish_of.ensures (c.send.ensures a.shelves.now))

pub returns-in-Arrive : goal.returns-in-Arrive
unfolding step_told
returns-in-Arrive c =
    let a = c.args in
    let is : a.step ≡ Some (Arrive c.in-Arrive.seat c.in-Arrive.sender c.in-Arrive.number) = c.in-Some.is ∙ ap Some c.in-Arrive.is in
    subst (λ (step : Option Step). Walks (step_told (session_in a.self a.shelves.now a.packets.now) step) c.arrive.result c.arrive.new.shelves a.packets.now) (sym is)
    c.arrive.ensures

pub returns-in-Release : goal.returns-in-Release
unfolding step_told
returns-in-Release c =
    let a = c.args in
    let is : a.step ≡ Some (Release c.in-Release.seat) = c.in-Some.is ∙ ap Some c.in-Release.is in
    subst (λ (step : Option Step). Walks (step_told (session_in a.self a.shelves.now a.packets.now) step) c.release.result c.release.new.shelves a.packets.now) (sym is)
    (c.release.ensures a.packets.now)

pub returns-in_default : goal.returns-in_default
unfolding step_told
returns-in_default c =
    let a = c.args in
    subst (λ (step : Option Step). Walks (step_told (session_in a.self a.shelves.now a.packets.now) step) c.unknown.result a.shelves.now a.packets.now) (sym c.in_default.is)
    (unknown_walks a.self a.shelves.now a.packets.now _ c.unknown.result c.requires.bounded refl c.unknown.ensures)
