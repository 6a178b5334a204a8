-- `begin` meets its contract.
use Rattle.steps.proofs.Printing.{list_begun}
use Rattle.steps.proofs.list.begin.Goals as goal

pub returns : goal.returns
returns c = λ number packets. list_begun _ _ _ _ packets c.fresh.ensures c.open-walk.ensures.bounded (c.open-walk.ensures.session packets)
