-- `Window::none_above` meets its contract.
use Rattle.std.proofs.Common.{arith}
use Rattle.window.proofs.Computed.{none_above_by_leading_zeros}
use Rattle.window.proofs.Window.none_above.Goals as goal

pub returns : goal.returns
returns c = none_above_by_leading_zeros _ _ (omega arith) (omega arith)
