-- `pack` meets its contract.
use Rattle.std.proofs.Common.{refl}
use Rattle.tautrobin.specs.Calls.{packed}
use Rattle.tautrobin.proofs.pack.Goals as goal

pub returns : goal.returns
unfolding packed
returns c = refl
