-- `keep` meets its contract.
use Rattle.steps.proofs.Texts.{course_kept}
use Rattle.steps.proofs.list.Course.keep.Goals as goal

pub returns : goal.returns
returns c = course_kept _ _ _ c.requires.ready c.requires.no_feed c.keep.ensures
