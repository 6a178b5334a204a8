-- `slot` meets its contract.
use Rattle.std.proofs.Common.{rules}
use Rattle.shelf.proofs.Slots.{slot_in_chunks}
use Rattle.shelf.proofs.slot.Goals as goal

pub returns : goal.returns
returns c = search (rules, slot_in_chunks)
