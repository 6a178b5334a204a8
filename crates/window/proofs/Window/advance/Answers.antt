-- `Window::advance` meets its contract.
use Rattle.std.proofs.Common.{arith}
use Rattle.window.proofs.Computed.{count_keeps_run_within, advanced_by_count}
use Rattle.window.proofs.Window.advance.Goals as goal

pub overflow_add-run : goal.overflow_add-run
overflow_add-run c = omega (arith, count_keeps_run_within _ (omega arith) 65535 (omega arith) c.requires)

pub overflow_add-run-2 : goal.overflow_add-run-2
overflow_add-run-2 c = omega (arith, count_keeps_run_within _ (omega arith) 65535 (omega arith) c.requires)

pub returns : goal.returns
returns c = advanced_by_count _ (omega arith)
