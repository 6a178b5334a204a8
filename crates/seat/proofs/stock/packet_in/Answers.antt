-- `packet_in` meets its contract.
use Rattle.std.proofs.Common.{◌≡◌, sym, ap, ◌∙◌, arith}
use lib.ListN.{length-drop}
use lib.Seq.{take_all}
use Rattle.shelf.specs.Shelf.{rest_zero, all_zero}
use Rattle.seat.proofs.InSlot.{first_byte_not_one, named_too_long, rest_not_zero, packet_stands}
use Rattle.seat.proofs.stock.packet_in.Goals as goal

pub returns-then-slot-ne1 : goal.returns-then-slot-ne1
returns-then-slot-ne1 c = let slot = c.args.slot.now in sym (first_byte_not_one slot _ c.end_in-end.ensures c.if-slot-ne1.true)

pub returns-then-end-gt-SLOT_SIZE : goal.returns-then-end-gt-SLOT_SIZE
returns-then-end-gt-SLOT_SIZE c = let slot = c.args.slot.now in sym (named_too_long slot _ c.end_in-end.ensures c.if-end-gt-SLOT_SIZE.true)

-- what the test says of the bytes after the packet
pub returns-then-not-is_zero : goal.returns-then-not-is_zero
returns-then-not-is_zero c =
    let slot = c.args.slot.now in
    let tested : c.is_zero.result ≡ rest_zero slot c.end_in-end.result =
    c.is_zero.ensures ∙ ap all_zero (take_all _ _ (omega (arith, length-drop c.end_in-end.result slot))) in
    sym (rest_not_zero slot _ c.end_in-end.ensures (sym tested ∙ c.if-not-is_zero.true))

pub returns : goal.returns
returns c =
    let slot = c.args.slot.now in
    let tested : c.is_zero.result ≡ rest_zero slot c.end_in-end.result =
    c.is_zero.ensures ∙ ap all_zero (take_all _ _ (omega (arith, length-drop c.end_in-end.result slot))) in
    sym (packet_stands slot _ c.end_in-end.ensures c.if-slot-ne1.false c.if-end-gt-SLOT_SIZE.false (sym tested ∙ c.if-not-is_zero.false))
