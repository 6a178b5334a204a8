-- `Seat::release` meets its contract.
use Rattle.std.proofs.Common.{refl}
use Rattle.seat.proofs.LookedOver.{none_found}
use Rattle.seat.proofs.ReleaseAnswers.{not_sound_answers_10, none_ready_answers_2, refused_release, idle_release}
use Rattle.seat.proofs.FirstReady.{none_is_chosen}
use Rattle.seat.proofs.Seat.release.Goals as goal

pub returns-in_default : goal.returns-in_default
returns-in_default c = rw c.refuse.ensures (refused_release _ _ _ _ (not_sound_answers_10 _ _ _ (none_found _ _ _ _ c.look_over.ensures c.in_default.not-Some)))

pub returns-in_default-first : goal.returns-in_default-first
returns-in_default-first c =
    idle_release _ _ _
    (none_ready_answers_2 _ _ _ c.in-Some.ensures.0 (none_is_chosen _ _ _ (c.in-Some.ensures.1.first_is refl) c.in_default-first.not-Some))
