-- `tautrobin_open` meets its contract: each way out is a law of the call.
use Rattle.std.proofs.Common.{arith}
use Rattle.tautrobin.proofs.OpenCall.{no_such_seat_is_20, open_wrong_length_is_10, stepped_open_is_numbered, refused_open_call, stepped_open_call}
use Rattle.tautrobin.proofs.tautrobin_open.Goals as goal

pub returns-in_default : goal.returns-in_default
returns-in_default c = rw c.number.ensures (refused_open_call _ _ _ _ 20 (omega arith) (no_such_seat_is_20 _ _ _ _ c.in_default.ensures))

pub returns-in_default-as_mut_array : goal.returns-in_default-as_mut_array
returns-in_default-as_mut_array c =
    rw c.number-in_default-as_mut_array.ensures
    (refused_open_call _ _ _ _ 10 (omega arith) (open_wrong_length_is_10 _ _ _ _ (cc (c.in-Some.ensures.0, c.in-Some.ensures.1)) c.in_default-as_mut_array.ensures.cases))

pub keep-requires-clause-can : goal.keep-requires-clause-can
keep-requires-clause-can c image same done =
    stepped_open_is_numbered _ _ _ _ _ c.in-Some.ensures.1 c.open.ensures done

pub returns : goal.returns
returns c =
    let opened = rw c.in-Some.ensures.0 at c.open.ensures in
    let whole = c.in-Some-as_mut_array.ensures.cases in
    rw (← whole.same) (stepped_open_call _ _ _ _ (cc (c.in-Some.ensures.0, c.in-Some.ensures.1)) _ _ _ _ (rw whole.same whole.long) opened c.keep.ensures)
