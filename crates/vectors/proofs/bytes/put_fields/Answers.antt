-- `put_fields` meets its contract.
use Rattle.std.proofs.Common.{◌≡◌, ◌*◌, ◌++◌, ◌∙◌, refl, sym, ap, length, take, arith, rules, ◌+◌}
use lib.Seq.{sets}
use Rattle.vectors.specs.Bytes.{fields_of, bytes_of}
use Rattle.vectors.proofs.Numbers.{length_fields, fields_more, put_more}
use Rattle.vectors.proofs.Vector.{length_numbers, numbers_at}
use Rattle.vectors.proofs.bytes.put_fields.Goals as goal

pub loop-k-init : goal.loop-k-init
unfolding fields_of
loop-k-init g c = record { low = omega arith; long = refl; is = refl }

pub loop-k-preserved : goal.loop-k-preserved
loop-k-preserved g c =
    let t = g.T.Number in
    let m = g.met.T.Number in
    let v = t.numbers c.args.v.now in
    let long : length v ≡ length c.args.v.now = length_numbers t.number t.numbers m.numbers_each c.args.v.now in
    let here = numbers_at t.number t.numbers m.numbers_each c.args.v.now c.loop-k.k c.index-v-k.result (omega arith) ∙ ap t.number (sym c.index-v-k.is) in
    let so_far : length (fields_of t.WIDTH (take c.loop-k.k v)) ≡ t.WIDTH * c.loop-k.k = length_fields t.WIDTH c.loop-k.k v (omega arith) in
    let written : c.put.new.out ≡ sets c.loop-k.out (c.args.i + t.WIDTH * c.loop-k.k) (bytes_of t.WIDTH (t.number c.index-v-k.result)) = search rules in
    put_more _ _ _ _ _ _ _ _ _ c.loop-k.invariant (omega arith)
    (fields_more t.WIDTH v c.loop-k.k (omega arith) ∙ ap (λ x. fields_of t.WIDTH (take c.loop-k.k v) ++ bytes_of t.WIDTH x) here)
    (omega (arith, so_far)) written
