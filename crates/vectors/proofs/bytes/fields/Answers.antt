-- `fields` meets its contract.
use Rattle.std.proofs.Common.{◌≡◌, ◌+◌, ◌*◌, ◌∙◌, ap, length, replicate, arith, rules}
use lib.Seq.{length-take-le}
use Rattle.vectors.specs.Bytes.{number_at}
use Rattle.vectors.proofs.Vector.{numbers_more, numbers_below}
use Rattle.vectors.proofs.bytes.fields.Goals as goal

pub loop-k-preserved : goal.loop-k-preserved
loop-k-preserved g c =
    let t = g.T.Number in
    let read : t.number c.read.result ≡ number_at t.WIDTH c.args.s.now (c.args.i + t.WIDTH * c.loop-k.k) = search rules in
    numbers_more t.number t.numbers g.met.T.Number.numbers_each (λ j. number_at t.WIDTH c.args.s.now (c.args.i + t.WIDTH * j)) c.loop-k.below c.loop-k.k
    c.read.result (omega (arith, c.loop-k.auto.below)) c.loop-k.invariant read

pub returns : goal.returns
returns g c =
    let t = g.T.Number in
    let m = g.met.T.Number in
    let long : length c.loop-k.below ≡ c.args.n = c.loop-k.auto.below ∙ length-take-le c.args.n (replicate 16 c.ZERO-v.result) (omega arith) in
    numbers_below t.number t.numbers m.numbers_each _ c.ZERO-v.result c.loop-k.below c.args.n (ap t.number c.ZERO-v.ensures ∙ m.zero_is_zero) (omega arith) long
    (λ j h. c.loop-k.invariant j (omega arith))
