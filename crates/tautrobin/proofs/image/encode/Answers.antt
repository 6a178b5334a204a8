-- `encode` meets its contract: the five parts, one after the other.
use Rattle.std.proofs.Common.{refl, rules}
use Rattle.tautrobin.proofs.ImageParts.{five_parts}
use Rattle.tautrobin.proofs.image.encode.Goals as goal

pub returns : goal.returns
returns c =
    five_parts c.args.seat (record { past = search rules; barrier = search rules; run = search rules; ahead = search rules }) c.args.image.now
    _ _ _ _ _ (search rules) c.put_numbers.ensures refl c.put_counts.ensures c.put_fields.ensures c.put_fields-2.ensures
