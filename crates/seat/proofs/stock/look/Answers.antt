-- `look` meets its contract: a packet that is refused, one that does not pass, and one that is counted in.
use Rattle.std.proofs.Common.{true, false, not, ◌≡◌, refl, sym, ap, ◌∙◌}
use Rattle.std.specs.Prelude.{Ok}
use Rattle.packet.specs.Reading.{read_of}
use Rattle.packet.proofs.PointNumbers.{point_is_not_zero}
use Rattle.packet.proofs.Told.{read_refused, message_is_read}
use Rattle.seat.specs.Stock.{packet_in, packet_at}
use Rattle.seat.proofs.Beside.{passed_is_in_window, admitted_is_passed}
use Rattle.seat.proofs.Looked.{refused_is_bad, sound_where_passed, packet_is_counted}
use Rattle.seat.specs.Survey.{passes_beside}
use Rattle.seat.proofs.stock.look.Goals.{In-Ok, After-is_err}
use Rattle.seat.proofs.stock.look.Goals as goal

-- what was read is the packet on slot i
read : (c : In-Ok) → record { answer = Ok c.in-Ok.message.heading; past = c.in-Ok.message.past; barrier = c.in-Ok.message.barrier } ≡ read_of (packet_at c.args.shelf.now c.args.i)
read c =
    let said = c.in-Ok.ensures in
    message_is_read _ _ _ _ (sym said.point) said.heading said.past said.barrier ∙ ap read_of (c.packet_in.ensures ∙ ap packet_in c.slot-slot.ensures)

passes : (c : After-is_err) → passes_beside c.args.seat.now c.args.stock.now.marks c.in-Ok.message.heading c.in-Ok.message.past ≡ not c.is_err.result
passes c = sym (admitted_is_passed _ _ _ _ c.admit.result c.admit.ensures) ∙ c.is_err.ensures.negation

pub returns-in_default-clause-looked : goal.returns-in_default-clause-looked
returns-in_default-clause-looked c =
    let is = sym (read_refused _ (λ e. point_is_not_zero _ (c.in_default.ensures.point ∙ e))) ∙ ap read_of (c.packet_in.ensures ∙ ap packet_in c.slot-slot.ensures) in
    refused_is_bad _ _ _ _ _ c.requires.looked _ is c.requires.used _ refl

pub returns-then-is_err-clause-looked : goal.returns-then-is_err-clause-looked
returns-then-is_err-clause-looked c =
    sound_where_passed _ _ _ _ _ c.requires.looked _ (read (goal.at.returns-then-is_err-clause-looked c).In-Ok) c.requires.used _ refl
    ∙ passes (goal.at.returns-then-is_err-clause-looked c).After-is_err ∙ ap not c.if-is_err.true

-- the message passed
within : (c : After-is_err) → c.is_err.result ≡ false → passes_beside c.args.seat.now c.args.stock.now.marks c.in-Ok.message.heading c.in-Ok.message.past ≡ true
within c e = passes c ∙ ap not e

pub count_in-requires-clause-new : goal.count_in-requires-clause-new
count_in-requires-clause-new c = (passed_is_in_window _ _ _ _ (within (goal.at.count_in-requires-clause-new c).After-is_err c.if-is_err.false)).0

pub count_in-requires-clause-near : goal.count_in-requires-clause-near
count_in-requires-clause-near c = (passed_is_in_window _ _ _ _ (within (goal.at.count_in-requires-clause-near c).After-is_err c.if-is_err.false)).1

pub returns-clause-looked : goal.returns-clause-looked
returns-clause-looked c =
    let at = goal.at.returns-clause-looked c in
    packet_is_counted _ _ _ _ _ c.requires.looked _ (read at.In-Ok) c.requires.used _ refl (within at.After-is_err c.if-is_err.false) _ c.count_in.ensures c.requires.long
