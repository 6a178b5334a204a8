-- `Window::is_sound` meets its contract.
use Rattle.std.proofs.Common.{arith}
use Rattle.window.proofs.Computed.{unsound_by_run, sound_by_ahead}
use Rattle.window.proofs.Window.is_sound.Goals as goal

pub returns-then-past-self : goal.returns-then-past-self
returns-then-past-self c = unsound_by_run _ _ (omega arith)

pub returns : goal.returns
returns c = rw c.none_above.ensures (sound_by_ahead _ _ (omega arith))
