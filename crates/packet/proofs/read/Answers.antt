-- `read` meets its contract: what the fields say, or a refusal where a point fails.
use Rattle.std.proofs.Common.{sym, ◌∙◌}
use Rattle.std.specs.Prelude.{Err}
use Rattle.packet.specs.Reading.{refused}
use Rattle.packet.proofs.Told.{read_refused, message_is_read}
use Rattle.packet.proofs.PointNumbers.{point_is_not_zero}
use Rattle.packet.proofs.read.Goals as goal

pub returns-in-Ok : goal.returns-in-Ok
returns-in-Ok c =
    let said = c.in-Ok.ensures in
    message_is_read _ _ _ _ (sym said.point) said.heading said.past said.barrier

pub returns-in-Err : goal.returns-in-Err
returns-in-Err c =
    (λ i. record { answer = Err (c.into.ensures i); past = refused.past; barrier = refused.barrier })
    ∙ sym (read_refused _ (λ e. point_is_not_zero _ (c.in-Err.ensures.point ∙ e)))
