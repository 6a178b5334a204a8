-- `Window::holds` meets its contract.
use Rattle.std.proofs.Common.{sym, arith}
use Rattle.window.specs.Window.{bit}
use Rattle.window.proofs.Handed.{up_to_run_is_handed, above_run_is_its_bit}
use Rattle.window.proofs.Window.holds.Goals as goal

pub returns-then-number-self : goal.returns-then-number-self
returns-then-number-self c = sym (up_to_run_is_handed _ _ (omega arith))

pub returns : goal.returns
unfolding bit
returns c = rw c.place-place.ensures (sym (above_run_is_its_bit _ _ (omega arith)))
