-- `is_zero_above` meets its contract.
use Rattle.std.proofs.Common.{◌≡◌, ◌∙◌, ◌&&◌, ℕ, Bool, true, ap, eqb, length, take, drop, arith, rules}
use Rattle.std.proofs.lemmas.Iterator.{YieldsList-from_slice}
use Rattle.std.proofs.lemmas.Iterator.Consumers.{fold_from_yields_List}
use Rattle.vectors.proofs.Tests.{zero_above_folded}
use Rattle.vectors.proofs.is_zero_above.Goals as goal

pub returns : goal.returns
returns g c =
    let t = g.T.Number in
    let long : length c.args.v ≡ 16 = search rules in
    fold_from_yields_List _ (λ (ok : Bool) (x : g.row.T.Denot). ok && eqb (t.number x) 0) true _ c.fold.ensures.ran
    (YieldsList-from_slice _ c.iter.ensures.rest) (λ a x b q called. search rules)
    ∙ zero_above_folded t.number t.numbers g.met.T.Number.numbers_each c.args.n c.args.v _ t.ZERO long c.requires
    (ap (λ (m : ℕ). take m (drop c.args.n c.args.v)) (omega (arith, long, c.requires)))
