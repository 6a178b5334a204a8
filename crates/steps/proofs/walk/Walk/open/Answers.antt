-- `open` meets its contract.
use Rattle.steps.proofs.Opened.{opened_session}
use Rattle.steps.proofs.walk.Walk.open.Goals as goal

pub returns-clause-session : goal.returns-clause-session
returns-clause-session c = opened_session c.args.size _ _ _ c.open_all.ensures
