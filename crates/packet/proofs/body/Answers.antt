-- `body` meets its contract: what stands after barrier, or nothing where a point fails.
use Rattle.std.proofs.Common.{sym, ◌∙◌, arith}
use native.Mathlib.Nat.{le_of_eq}
use lib.ListN.{length-drop}
use lib.Seq.{take_all}
use Rattle.packet.proofs.Told.{told_of, body_formed, body_refused}
use Rattle.packet.proofs.PointNumbers.{point_is_not_zero}
use Rattle.packet.proofs.body.Goals as goal

pub slice_bounds-result-count : goal.slice_bounds-result-count
slice_bounds-result-count c = let t = told_of _ (sym c.in-Ok.ensures.point) in rw c.in-Ok.ensures.heading (omega arith)

pub slice_bounds-result-start : goal.slice_bounds-result-start
slice_bounds-result-start c = let t = told_of _ (sym c.in-Ok.ensures.point) in rw c.in-Ok.ensures.heading (omega arith)

pub returns-in-Ok : goal.returns-in-Ok
returns-in-Ok c =
    let packet = c.args.packet.now in
    take_all _ _ (le_of_eq (length-drop _ packet)) ∙ rw c.in-Ok.ensures.heading (sym (body_formed packet (sym c.in-Ok.ensures.point)))

pub returns-in-Err : goal.returns-in-Err
returns-in-Err c = sym (body_refused _ (λ e. point_is_not_zero _ (c.in-Err.ensures.point ∙ e)))
