-- `is_number` meets its contract.
use Rattle.lines.specs.Lines.{is_number}
use Rattle.lines.proofs.Numbers.{listed_digits}
use Rattle.lines.proofs.is_number.Goals as goal

pub returns : goal.returns
unfolding is_number
returns c = rw (c.has_digits_alone.ensures, listed_digits c.args.word.now)
