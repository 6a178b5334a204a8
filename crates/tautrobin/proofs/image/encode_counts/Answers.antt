-- `encode_counts` meets its contract: past and barrier, over a state's own.
use Rattle.std.proofs.Common.{refl, rules}
use Rattle.vectors.specs.Bytes.{Bytes}
use Rattle.tautrobin.proofs.ImageRoundTrip.{counts_written}
use Rattle.tautrobin.proofs.image.encode_counts.Goals as goal

pub returns : goal.returns
unfolding Bytes
returns c =
    let bytes : Bytes c.args.image.now = λ k. search rules in
    counts_written c.args.image.now (search rules) bytes c.args.seat c.requires (search rules) (search rules) _ _ refl c.put_counts.ensures
