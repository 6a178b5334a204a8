-- `Seat::open` meets its contract: each way out is a law of opening's answers.
use Rattle.std.proofs.Common.{sym, ◌∙◌}
use Rattle.seat.proofs.OpenAnswers.{no_such_seat_answers_20, broken_shelf_answers_10, opening_answers_0, refused_open, done_open}
use Rattle.seat.proofs.Seat.open.Goals as goal

pub returns-then-not-is_in_range : goal.returns-then-not-is_in_range
returns-then-not-is_in_range c =
    rw c.refuse.ensures
    (refused_open _ _ _ _ (no_such_seat_answers_20 _ _ _ (sym c.is_in_range.ensures ∙ c.if-not-is_in_range.true)))

pub returns-then-not-has_whole_slots : goal.returns-then-not-has_whole_slots
returns-then-not-has_whole_slots c =
    rw c.refuse-then-not-has_whole_slots.ensures
    (refused_open _ _ _ _
    (broken_shelf_answers_10 _ _ _ (sym c.is_in_range.ensures ∙ c.if-not-is_in_range.false) (sym c.has_whole_slots.ensures ∙ c.if-not-has_whole_slots.true)))

pub returns : goal.returns
returns c =
    done_open _ _ _ _ _
    (opening_answers_0 _ _ _ (sym c.is_in_range.ensures ∙ c.if-not-is_in_range.false) (sym c.has_whole_slots.ensures ∙ c.if-not-has_whole_slots.false))
    c.counting_from_zero.ensures c.clear_all.ensures
