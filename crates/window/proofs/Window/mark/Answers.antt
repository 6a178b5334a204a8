-- `Window::mark` meets its contract.
use Rattle.std.proofs.Common.{arith}
use Rattle.window.proofs.Computed.{marked_by_shift}
use Rattle.window.proofs.Window.mark.Goals as goal

pub returns : goal.returns
returns c = marked_by_shift _ _ _ (omega arith) c.place-place.ensures
