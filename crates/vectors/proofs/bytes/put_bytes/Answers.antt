-- `put_bytes` meets its contract.
use Rattle.std.proofs.Common.{◌≡◌, refl, length, take, arith}
use lib.Seq.{length-take-le}
use Rattle.vectors.proofs.Numbers.{bytes_more, put_more}
use Rattle.vectors.proofs.bytes.put_bytes.Goals as goal

pub loop-k-init : goal.loop-k-init
loop-k-init c = record { low = omega arith; long = refl; is = refl }

pub loop-k-preserved : goal.loop-k-preserved
loop-k-preserved c =
    let s = c.args.s.now in
    let so_far : length (take c.loop-k.k s) ≡ c.loop-k.k = length-take-le c.loop-k.k s (omega arith) in
    put_more _ _ _ _ _ _ _ _ _ c.loop-k.invariant (omega arith) (bytes_more s c.loop-k.k (omega arith)) (omega arith) refl
