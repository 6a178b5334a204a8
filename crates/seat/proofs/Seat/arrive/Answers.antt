-- `Seat::arrive` meets its contract.
use Rattle.std.proofs.Common.{◌∙◌}
use Rattle.packet.proofs.PointNumbers.{point_is_not_zero}
use Rattle.seat.proofs.Hearing.{refused_10, refused_14}
use Rattle.seat.proofs.LookedOver.{none_found}
use Rattle.seat.proofs.Seat.arrive.Goals as goal

pub returns-in_default : goal.returns-in_default
returns-in_default c = rw c.refuse.ensures (refused_10 _ _ _ (none_found _ _ _ _ c.look_over.ensures c.in_default.not-Some))

pub returns-in-Err : goal.returns-in-Err
returns-in-Err c =
    rw (c.refuse-in-Err.ensures, c.into.ensures) (refused_14 _ _ _ c.in-Some.ensures.0 (λ e. point_is_not_zero _ (c.in-Err.ensures.point ∙ e)))
