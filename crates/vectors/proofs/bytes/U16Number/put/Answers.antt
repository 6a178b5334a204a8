-- A number is put down in 2 bytes.
use Rattle.std.proofs.Common.{◌∙◌, ap, arith}
use Rattle.vectors.specs.Bytes.{bytes_of}
use Rattle.vectors.proofs.Numbers.{high_first, length_bytes_of, stands_back}
use Rattle.vectors.proofs.bytes.U16Number.put.Goals as goal

pub returns : goal.returns
returns c =
    stands_back c.args.out.now c.args.i 2 _ _
    (c.copy_from_slice.ensures.after ∙ c.to_be_bytes.ensures ∙ high_first 2 _ ∙ ap (bytes_of 2) (omega arith)) (length_bytes_of 2 _) (omega arith)
