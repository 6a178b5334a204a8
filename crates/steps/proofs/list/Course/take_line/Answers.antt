-- `take_line` meets its contract.
use Rattle.std.proofs.Common.{ℕ, List, sym, ap}
use Rattle.steps.specs.Course.{line_in, number_at}
use Rattle.steps.proofs.Printing.{taken_alike, taken_at, first_line_is, walking_line, ended_line, list_ended}
use Rattle.steps.proofs.list.Course.take_line.Goals as goal

pub returns-in-First : goal.returns-in-First
returns-in-First c =
    let a = c.args in
    taken_alike (λ lines. first_line_is a.self.stage a.shelves.now a.packets.now (line_in a.self.line) lines c.in-First.is) (c.take_opening.ensures _ a.packets.now)

pub returns-in-Walking : goal.returns-in-Walking
returns-in-Walking c =
    let a = c.args in
    let walking = c.in-Walking in
    let alike = λ (lines : List (List ℕ)). walking_line a.self.stage a.shelves.now a.packets.now (line_in a.self.line) lines walking.number walking.walk walking.is in
    taken_at (sym (ap number_at walking.is)) (taken_alike alike c.take_step.ensures)

pub returns-in-Ended : goal.returns-in-Ended
returns-in-Ended c =
    let a = c.args in
    list_ended c.fresh.ensures (λ lines. ended_line a.self.stage a.shelves.now a.packets.now (line_in a.self.line) lines c.in-Ended.is)
