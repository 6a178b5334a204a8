-- `tautrobin_release` meets its contract: each way out is a law of the call.
use Rattle.tautrobin.proofs.ReleaseCall.{release_wrong_length_is_10, stepped_release_is_numbered, stepped_release_call}
use Rattle.tautrobin.proofs.tautrobin_release.Goals as goal

pub returns-in_default : goal.returns-in_default
returns-in_default c = rw c.number.ensures (release_wrong_length_is_10 _ _ _ c.in_default.ensures.cases)

pub keep-requires-clause-can : goal.keep-requires-clause-can
keep-requires-clause-can c image same done = stepped_release_is_numbered _ _ _ _ _ _ c.decode-seat.ensures.1 c.release.ensures

pub returns : goal.returns
returns c =
    let whole = c.in-Some.ensures.cases in
    rw (← whole.same) (stepped_release_call _ _ _ _ _ _ _ _ _ (rw whole.same whole.long) c.decode-seat.ensures.0 c.release.ensures c.keep.ensures)
