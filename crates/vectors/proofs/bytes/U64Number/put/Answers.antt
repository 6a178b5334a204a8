-- A number is put down in 8 bytes.
use Rattle.std.proofs.Common.{◌∙◌, ap, arith}
use Rattle.vectors.specs.Bytes.{bytes_of}
use Rattle.vectors.proofs.Numbers.{high_first, length_bytes_of, stands_back}
use Rattle.vectors.proofs.bytes.U64Number.put.Goals as goal

pub returns : goal.returns
returns c =
    stands_back c.args.out.now c.args.i 8 _ _
    (c.copy_from_slice.ensures.after ∙ c.to_be_bytes.ensures ∙ high_first 8 _ ∙ ap (bytes_of 8) (omega arith)) (length_bytes_of 8 _) (omega arith)
