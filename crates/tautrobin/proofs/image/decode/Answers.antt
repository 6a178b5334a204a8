-- `decode` meets its contract.
use Rattle.std.proofs.Common.{arith, rules, get_or, ◌<◌}
use Rattle.tautrobin.proofs.ImageParts.{decoded_is}
use Rattle.tautrobin.proofs.image.decode.Goals as goal

pub returns : goal.returns
returns c =
    let first : get_or c.args.image.now 0 0 < 256 = search rules in (
      decoded_is _ _ _ _ _ c.fields-past.ensures c.fields-barrier.ensures c.fields-run.ensures c.fields-ahead.ensures,
      record { seats_low = omega arith; seats_high = omega (arith, first); own_low = omega arith; own_high = omega arith },
    )
