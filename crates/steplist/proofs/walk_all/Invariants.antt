use Rattle.std.proofs.Common.{◌*◌, ◌≤◌}
use Rattle.steps.specs.Course.{number_in, Ready}
use Rattle.steplist.proofs.walk_all.Given as goal

abbrev pub invariant-loop : goal.invariant-loop
invariant-loop g l = Ready l.course × (number_in l.course ≤ 4096 * l.counter)
