-- `put` meets its contract: the four parts, one after the other.
use Rattle.std.proofs.Common.{◌≡◌, ◌≤◌, refl, length, rules, arith}
use Rattle.packet.specs.Reading.{header_in}
use Rattle.packet.proofs.Laid.{four_parts}
use Rattle.packet.proofs.message.Message.put.Goals as goal

pub returns : goal.returns
returns c =
    let m = c.args.self.now in
    let past_long : length m.past ≡ 16 = search rules in
    let barrier_long : length m.barrier ≡ 16 = search rules in
    let p : m.heading.n ≤ length m.past = omega arith in
    let b : m.heading.n ≤ length m.barrier = omega arith in
    four_parts m.heading.kind (header_in m.heading) m.past m.barrier c.args.body.now p b _ _ _ _ _ _ refl c.put_head.ensures c.put_fields.ensures c.put_fields-2.ensures
    c.put_bytes.ensures
