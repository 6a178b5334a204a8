-- `read_message` meets its contract: the first point that fails, else what the fields say.
use Rattle.std.proofs.Common.{ℕ, List, ◌+◌, ◌*◌, ◌≡◌, sym, ◌∙◌, arith}
use Rattle.vectors.specs.Vectors.{vector}
use Rattle.vectors.specs.Bytes.{number_at}
use Rattle.std.proofs.lemmas.Result.{err_from_is_err_and}
use Rattle.packet.specs.Packet.{head_len, kind_of, head_point, vectors_point, first_bad_point}
use Rattle.packet.specs.Reading.{headed, header_of}
use Rattle.packet.specs.declared.Heading.{Heading}
use Rattle.packet.proofs.Formed.{head_has, bad_head, bad_vectors}
use Rattle.packet.proofs.PointNumbers.{point_is_not_zero}
use Rattle.packet.proofs.read_message.Goals as goal

pub returns-in_err-heading-clause-point : goal.returns-in_err-heading-clause-point
returns-in_err-heading-clause-point c =
    let p = err_from_is_err_and c.from_residual.result c.from_residual.ensures.1 in
    let is = c.in_err-heading.ensures.point in
    rw (p.1, p.2) (is ∙ sym (bad_head _ (λ e. point_is_not_zero _ (is ∙ e))))

pub fields-past-requires : goal.fields-past-requires
fields-past-requires c = let h = head_has _ (sym c.in_ok-heading.ensures.point) in rw c.in_ok-heading.ensures.heading (omega arith, omega arith)

pub fields-barrier-requires : goal.fields-barrier-requires
fields-barrier-requires c = let h = head_has _ (sym c.in_ok-heading.ensures.point) in rw c.in_ok-heading.ensures.heading (omega arith, omega arith)

pub invariant_of-message : goal.invariant_of-message
invariant_of-message c =
    let h = head_has _ (sym c.in_ok-heading.ensures.point) in
    rw c.in_ok-heading.ensures.heading (record { seats_high = omega arith; sender_low = omega arith; sender_high = omega arith })

-- points 7 and 8 of what was read are the packet's
points_said : (packet : List ℕ) {past barrier : List ℕ} {heading : Heading} → 0 ≡ head_point packet → heading ≡ headed (kind_of packet) (header_of packet)
    → past ≡ vector heading.n (λ k. number_at 2 packet (head_len + 2 * k)) → barrier ≡ vector heading.n (λ k. number_at 2 packet (head_len + 2 * heading.n + 2 * k))
    → vectors_point heading.kind heading.sender past barrier ≡ first_bad_point packet
points_said packet passes h p b = rw (p, b, h) (sym (bad_vectors _ (sym passes)))

pub returns-in_err-check-clause-point : goal.returns-in_err-check-clause-point
returns-in_err-check-clause-point c =
    let p = err_from_is_err_and c.from_residual-in_err-check.result c.from_residual-in_err-check.ensures.1 in
    let said = c.in_ok-heading.ensures in
    rw (p.1, p.2) (c.in_err-check.ensures ∙ points_said _ said.point said.heading c.fields-past.ensures c.fields-barrier.ensures)

pub returns-clause-point : goal.returns-clause-point
returns-clause-point c =
    let said = c.in_ok-heading.ensures in
    c.in_ok-check.ensures ∙ points_said _ said.point said.heading c.fields-past.ensures c.fields-barrier.ensures
