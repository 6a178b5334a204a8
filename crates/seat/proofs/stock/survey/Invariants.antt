use Rattle.std.proofs.Common.{◌≡◌, length}
use Rattle.seat.specs.Survey.{Looked}
use Rattle.seat.proofs.stock.survey.Given as goal

-- what is found on the first i slots, all of them sound
abbrev pub invariant-loop-i : goal.invariant-loop-i
invariant-loop-i l = record {
  long : length l.stock.marks ≡ 16;
  looked : Looked l.choosing l.i l.seat l.shelf l.stock;
}
