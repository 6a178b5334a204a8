use Rattle.std.proofs.Common.{length}
use Rattle.steps.proofs.Texts.{Going}
use Rattle.steps.proofs.list.Course.take_piece.Given as goal

abbrev pub invariant-loop-feed : goal.invariant-loop-feed
invariant-loop-feed l =
    Going l.initial.course l.text l.initial.shelves l.initial.packets (length l.initial.out) l.shelves l.packets l.out l.course l.end l.rest

abbrev pub decreases-loop-feed : goal.decreases-loop-feed
decreases-loop-feed l = length l.rest
