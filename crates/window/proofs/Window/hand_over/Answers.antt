-- `Window::hand_over` meets its contract.
use Rattle.std.proofs.Common.{◌∙◌, ap, arith}
use Rattle.window.specs.Window.{advanced, handed_over}
use Rattle.window.proofs.Sound.{none_above_says, none_above_passes, marking_keeps_none_above}
use Rattle.window.proofs.Window.hand_over.Goals as goal

pub advance-requires : goal.advance-requires
advance-requires c =
    rw c.mark.ensures (none_above_passes 65535 _ (marking_keeps_none_above 65535 _ _ (none_above_says 65535 _ c.requires.2) c.requires.0 (omega arith)))

pub returns : goal.returns
unfolding handed_over
returns c = c.advance.ensures ∙ ap advanced c.mark.ensures
