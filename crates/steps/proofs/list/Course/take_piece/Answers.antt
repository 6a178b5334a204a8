-- `take_piece` meets its contract.
use Rattle.lines.specs.Lines.{line_feed}
use Rattle.lines.proofs.Places.{searched}
use Rattle.steps.proofs.Texts.{before_feed, no_feed_at_all, goes_further}
use Rattle.steps.proofs.list.Course.take_piece.Goals as goal

pub keep-requires-clause-no_feed : goal.keep-requires-clause-no_feed
keep-requires-clause-no_feed c = before_feed _ _ (searched line_feed c.loop-feed.rest.now _ c.in-Some.ensures).1

pub loop-feed-preserved : goal.loop-feed-preserved
loop-feed-preserved c =
    let at = searched line_feed c.loop-feed.rest.now _ c.in-Some.ensures in
    goes_further _ _ _ _ c.args.out.now _ _ _ c.loop-feed.course c.keep.result _ _ _ c.take_line-answered.result _ _ _ _ c.loop-feed.invariant at.0 at.1 c.keep.ensures
    c.take_line-answered.ensures c.put_line-end.ensures.wrote c.put_line-end.ensures.short c.requires.room

pub keep-requires-2-clause-no_feed : goal.keep-requires-2-clause-no_feed
keep-requires-2-clause-no_feed c = no_feed_at_all _ (searched line_feed c.loop-feed.rest.now _ c.in_default.ensures)
