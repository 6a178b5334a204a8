-- `message_sent` meets its contract: n and own number of a sound state are in range.
use Rattle.seat.proofs.Sound.{sound_says}
use Rattle.seat.proofs.Seat.message_sent.Goals as goal

pub invariant_of-result : goal.invariant_of-result
invariant_of-result c = let s = sound_says _ c.requires.sound in record { seats_high = s.seats_high; sender_low = s.own_low; sender_high = s.own_high }
