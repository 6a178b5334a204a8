-- `tautrobin_send` meets its contract: each way out is a law of the call.
use Rattle.std.proofs.Common.{sym, ap, ◌∙◌, arith}
use Rattle.tautrobin.specs.Image.{decoded}
use Rattle.tautrobin.proofs.SendCall.{send_wrong_length_is_10, unsound_send_is_10, no_such_kind_is_22, send_steps, stepped_send_recounts, refused_send_call, stepped_send_call}
use Rattle.tautrobin.proofs.tautrobin_send.Goals as goal

pub returns-in_default : goal.returns-in_default
returns-in_default c = rw c.number.ensures (refused_send_call _ _ _ _ 10 (omega arith) (send_wrong_length_is_10 _ _ _ _ c.in_default.ensures.cases))

pub returns-then-is_sound : goal.returns-then-is_sound
returns-then-is_sound c =
    let whole = c.in-Some.ensures.cases in
    rw (← whole.same, c.number-then-is_sound.ensures)
    (refused_send_call _ _ _ _ 22 (omega arith) (no_such_kind_is_22 _ _ _ _ (rw whole.same whole.long) (cc c.decode-seat.ensures.0) c.in_default-wish_of.ensures))

pub returns-in_default-wish_of : goal.returns-in_default-wish_of
returns-in_default-wish_of c =
    let whole = c.in-Some.ensures.cases in
    rw (← whole.same, c.number-in_default-wish_of.ensures)
    (refused_send_call _ _ _ _ 10 (omega arith) (unsound_send_is_10 _ _ _ _ (rw whole.same whole.long) (cc c.decode-seat.ensures.0)))

pub keep-requires-clause-can : goal.keep-requires-clause-can
keep-requires-clause-can c image same done = stepped_send_recounts _ _ _ _ _ _ _ (c.decode-seat.ensures.0 ∙ ap decoded (sym same)) c.send.ensures

pub returns : goal.returns
returns c =
    let whole = c.in-Some.ensures.cases in
    let wish = c.in-Some-wish_of.ensures in
    rw (← whole.same)
    (stepped_send_call _ _ _ _ _ _ _ _ _ _ c.decode-seat.ensures.0 wish.1 (send_steps _ _ _ _ (rw whole.same whole.long) wish.0) c.send.ensures c.keep.ensures)
