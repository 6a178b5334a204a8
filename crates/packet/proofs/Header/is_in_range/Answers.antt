-- `is_in_range` meets its contract.
use Rattle.std.proofs.Common.{refl}
use Rattle.packet.specs.Writing.{in_range}
use Rattle.packet.proofs.Header.is_in_range.Goals as goal

pub returns : goal.returns
unfolding in_range
returns c = refl
