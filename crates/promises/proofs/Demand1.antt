-- Demand 1 is kept, call by call.
use Prim.Native.Nat.{ℕ, ◌≤◌}
use mathlib.Core.Path.{◌≡◌, sym, ◌∙◌}
use mathlib.Core.List.{List}
use Rattle.answers.specs.declared.Answer.{Answer}
use Rattle.answers.specs.declared.Answer.TheVariants.{Refused}
use Rattle.answers.proofs.InOrder.{from_10_is_refused}
use Rattle.packet.specs.Writing.{write_answer, write_output, Written}
use Rattle.packet.specs.declared.Kind.{Kind}
use Rattle.packet.specs.declared.Header.{Header}
use Rattle.seat.proofs.Unchanged.{refused_open_leaves_the_shelf, refused_send_leaves_all, refused_arrival_leaves_all, refused_release_leaves_all}
use Rattle.promises.specs.Demand1.{answer_number, RefusalsChangeNothing, Demand1}
use Rattle.promises.proofs.PacketOccasions.{write_occasions, read_occasions}
use Rattle.promises.proofs.OpenOccasions.{open_occasions}
use Rattle.promises.proofs.SendOccasions.{send_occasions}
use Rattle.promises.proofs.ArriveOccasions.{arrive_occasions}
use Rattle.promises.proofs.ReleaseOccasions.{release_occasions}
use Rattle.promises.proofs.Reports.{reports}

refused_write_leaves_output : (kind : Kind) (header : Header) (past barrier body out : List ℕ) (answer : Answer) (after : List ℕ)
    → Written kind header past barrier body out answer after → 10 ≤ answer_number answer → after ≡ out
unfolding write_output
refused_write_leaves_output kind header past barrier body out answer after w h =
    let r = from_10_is_refused answer h in
    let is : write_answer kind header past barrier body out ≡ Refused r.0 = sym w.answered ∙ r.1 in
    rw is at w.output

pub refusals_change_nothing : RefusalsChangeNothing
refusals_change_nothing =
    record {
      writing = refused_write_leaves_output;
      opening = refused_open_leaves_the_shelf;
      sending = refused_send_leaves_all;
      arriving = refused_arrival_leaves_all;
      releasing = refused_release_leaves_all;
    }

pub demand_1 : Demand1
demand_1 =
    record {
      writing = write_occasions;
      reading = read_occasions;
      opening = open_occasions;
      sending = send_occasions;
      arriving = arrive_occasions;
      releasing = release_occasions;
      reports = reports;
      unchanged = refusals_change_nothing;
    }
