-- `write` meets its contract: each way out is a law of writing's answers.
use Rattle.std.proofs.Common.{◌≡◌, ◌≤◌, sym, length, rules, arith}
use Rattle.packet.proofs.Laid.{at_start_lem, answer_14, answer_13, answer_0, refused_write, done_write}
use Rattle.packet.proofs.Writable.{is_in_range, can_be_written}
use Rattle.packet.proofs.write.Goals as goal

pub returns-in_default : goal.returns-in_default
returns-in_default c = refused_write _ _ _ _ _ _ (answer_14 _ _ _ _ _ _ (omega arith) (sym c.in_default.ensures.some))

pub returns-then-out-length : goal.returns-then-out-length
returns-then-out-length c = refused_write _ _ _ _ _ _ (answer_13 _ _ _ _ _ _ (omega arith) (sym c.in-Some.ensures.some) c.if-out-length.true)

pub returns : goal.returns
returns c =
    let a = c.args in
    let said = c.in-Some.ensures in
    let good = sym said.some in
    let past_long : length a.past ≡ 16 = search rules in
    let barrier_long : length a.barrier ≡ 16 = search rules in
    let r = is_in_range _ (can_be_written _ _ _ _ good).range in
    let p : a.header.n ≤ length a.past = omega arith in
    let b : a.header.n ≤ length a.barrier = omega arith in
    rw (c.number.ensures, c.put.ensures, said.heading, said.past, said.barrier)
    (done_write _ _ _ _ _ _ _ (answer_0 _ _ _ _ _ _ (omega arith) good c.if-out-length.false)
    (at_start_lem a.kind a.header a.past a.barrier a.body.now p b a.out.now c.if-out-length.false))
