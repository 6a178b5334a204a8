-- `open_all` meets its contract.
use Rattle.std.proofs.Common.{◌<◌, ◌∙◌, arith}
use Rattle.std.proofs.lemmas.List.{set-append_left}
use lib.ListN.{length-set}
use Rattle.steps.proofs.Opened.{opened_inside, opened_long, one_more_opened}
use Rattle.steps.proofs.opening.open_all.Invariants.{behind}
use Rattle.steps.proofs.opening.open_all.Goals as goal

pub loop-at-preserved : goal.loop-at-preserved
loop-at-preserved c =
    let size = c.args.size in
    let at = c.loop-at in
    let less : at.at < size.n = omega (arith, at.invariant.0) in
    let inside = opened_inside size at.shelves at.at at.invariant.1 less in
    let opened = c.open_at.ensures in (
      length-set at.seat-items at.at c.open_at.result ∙ at.invariant.0,
      opened_long size.n size.slots at.at at.shelves inside opened ∙ at.invariant.1,
      rw (← set-append_left at.seat-items (behind size.n) at.at c.open_at.result (omega arith))
          (one_more_opened size at.at _ _ c.open_at.result _ less at.invariant.1 at.invariant.2 opened),
    )
