-- `gathered` meets its contract: its number is 0 where the number of the same bytes, high byte first, is.
use Rattle.std.proofs.Common.{◌∙◌, add-zero, arith}
use Rattle.vectors.specs.Bytes.{number_at}
use Rattle.vectors.proofs.Numbers.{zero_together, zero_number}
use Rattle.vectors.proofs.bytes.gathered.Goals as goal

pub returns : goal.returns
unfolding number_at
returns c =
    zero_together _ _ (λ e. rw add-zero (omega (arith, e, c.from_le_bytes.ensures))) (λ e. omega (arith, rw add-zero at e, c.from_le_bytes.ensures))
    ∙ zero_number 4 c.args.s.now c.args.i
