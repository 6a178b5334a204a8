-- `has_whole_slots` meets its contract.
use Rattle.std.proofs.Common.{refl}
use Rattle.shelf.specs.Shelf.{whole_slots}
use Rattle.shelf.proofs.has_whole_slots.Goals as goal

pub returns : goal.returns
unfolding whole_slots
returns c = refl
