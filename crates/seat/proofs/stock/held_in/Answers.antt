-- `held_in` meets its contract.
use Rattle.std.proofs.Common.{sym, arith}
use Rattle.seat.proofs.InSlot.{held_is_short, held_stands}
use Rattle.seat.proofs.stock.held_in.Goals as goal

pub slice_bounds-result-end : goal.slice_bounds-result-end
slice_bounds-result-end c = omega (arith, held_is_short c.args.slot.now c.requires _ c.end_in-end.ensures)

pub returns : goal.returns
returns c = sym (held_stands c.args.slot.now c.requires _ c.end_in-end.ensures)
