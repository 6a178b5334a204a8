-- A number of 8 bytes is read.
use Rattle.std.proofs.Common.{◌≡◌, arith}
use Rattle.vectors.specs.Bytes.{number_at}
use Rattle.vectors.proofs.Numbers.{number_copied}
use Rattle.vectors.proofs.bytes.U64Number.read.Goals as goal

pub returns : goal.returns
unfolding number_at
returns c =
    let read : c.from_be_bytes.result ≡ number_at 8 c.copy_from_slice.new.self 0 = omega (arith, c.from_be_bytes.ensures) in
    let there : number_at 8 c.copy_from_slice.new.self 0 ≡ number_at 8 c.args.s.now c.args.i
    = number_copied 8 c.args.s.now _ c.args.i c.copy_from_slice.ensures.after in
    omega (arith, read, there)
