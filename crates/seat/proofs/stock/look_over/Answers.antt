-- `look_over` meets its contract.
use Rattle.std.proofs.Common.{sym, ◌∙◌}
use Rattle.seat.proofs.LookedOver.{broken_slots, surveyed_shelf}
use Rattle.seat.proofs.stock.look_over.Goals as goal

pub returns-then-not-has_whole_slots : goal.returns-then-not-has_whole_slots
returns-then-not-has_whole_slots c =
    broken_slots c.args.choosing _ _ (sym c.is_sound.ensures ∙ c.if-not-is_sound.false) (sym c.has_whole_slots.ensures ∙ c.if-not-has_whole_slots.true)

pub returns : goal.returns
returns c =
    surveyed_shelf _ _ _ (sym c.is_sound.ensures ∙ c.if-not-is_sound.false) (sym c.has_whole_slots.ensures ∙ c.if-not-has_whole_slots.false) _ c.survey.ensures
