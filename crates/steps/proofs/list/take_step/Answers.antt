-- `take_step` meets its contract.
use Rattle.steps.specs.Memory.{session_in}
use Rattle.steps.proofs.Printing.{step_taken}
use Rattle.steps.proofs.list.take_step.Goals as goal

pub returns : goal.returns
returns c =
    let a = c.args in
    step_taken a.number a.line.now (session_in a.walk a.shelves.now a.packets.now) c.step-walked.result c.read_step.result c.fresh.result
    c.read_step.ensures c.step-walked.ensures c.fresh.ensures
