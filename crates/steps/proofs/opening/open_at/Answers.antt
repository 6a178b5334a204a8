-- `open_at` meets its contract.
use Rattle.steps.proofs.Opened.{opened_inside, opened_at}
use Rattle.steps.proofs.opening.open_at.Goals as goal

pub returns : goal.returns
returns c =
    let a = c.args in
    let inside = opened_inside a.size a.shelves.now a.at c.requires.shelves c.requires.at in
    opened_at a.size a.at c.requires.at a.shelves.now _ _ c.open.result _ inside c.piece_at.ensures.start c.piece_at.ensures.end c.open.ensures
