-- `refuse_list` meets its contract.
use Rattle.steps.proofs.Printing.{list_refused}
use Rattle.steps.proofs.list.refuse_list.Goals as goal

pub returns : goal.returns
returns c = λ number shelves packets. rw c.bare.ensures (list_refused c.fresh.ensures)
