-- `start` meets its contract.
use Rattle.steps.proofs.Printing.{start_prints}
use Rattle.steps.proofs.list.Course.start.Goals as goal

pub returns-clause-prints : goal.returns-clause-prints
returns-clause-prints c = start_prints _ c.fresh.ensures
