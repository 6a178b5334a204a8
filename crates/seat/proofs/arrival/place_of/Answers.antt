-- `place_of` meets its contract: each way out is a law of the answer of an arrival that is admitted.
use Rattle.std.proofs.Common.{is_some, sym, ap, ◌∙◌, le_antisymm, arith}
use Rattle.shelf.proofs.Lowest.{lowest_is_lowest, none_is_past, some_is_below}
use Rattle.seat.proofs.Admitting.{ready_refused, ready_done, wait_refused, wait_shelved}
use Rattle.seat.proofs.arrival.place_of.Goals as goal

pub returns-then-is_barrier_above_past-clause-answer : goal.returns-then-is_barrier_above_past-clause-answer
returns-then-is_barrier_above_past-clause-answer c edit =
    sym (ready_refused _ _ _ _ _ _ (sym c.is_ready.ensures ∙ c.if-is_ready.true) (sym c.is_barrier_above_past.ensures ∙ c.if-is_barrier_above_past.true))

pub returns-then-is_ready-clause-answer : goal.returns-then-is_ready-clause-answer
returns-then-is_ready-clause-answer c edit =
    sym (ready_done _ _ _ _ _ _ (sym c.is_ready.ensures ∙ c.if-is_ready.true) (sym c.is_barrier_above_past.ensures ∙ c.if-is_barrier_above_past.false))

pub returns-in-None-clause-answer : goal.returns-in-None-clause-answer
returns-in-None-clause-answer c edit =
    let full = none_is_past _ _ _ c.lowest_free.ensures (ap is_some c.in-None.is) in
    sym (wait_refused _ _ _ _ _ _ (sym c.is_ready.ensures ∙ c.if-is_ready.false) (le_antisymm (lowest_is_lowest _ _).most full))

pub returns-in-Some-clause-answer : goal.returns-in-Some-clause-answer
returns-in-Some-clause-answer c edit =
    let below = some_is_below _ _ _ c.lowest_free.ensures (ap is_some c.in-Some.is) in
    sym (wait_shelved _ _ _ _ _ _ (sym c.is_ready.ensures ∙ c.if-is_ready.false) (λ e. omega (arith, e, below)))
