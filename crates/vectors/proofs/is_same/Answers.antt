-- `is_same` meets its contract.
use Rattle.std.proofs.Common.{◌≡◌, ◌&&◌, ◌∙◌, Bool, true, ℕ, eqb, length, rules}
use Rattle.std.proofs.lemmas.Iterator.{YieldsList-from_slice, YieldsList-from_zip}
use Rattle.std.proofs.lemmas.Iterator.Consumers.{fold_from_yields_List}
use Rattle.vectors.proofs.Tests.{same_folded}
use Rattle.vectors.proofs.is_same.Goals as goal

pub returns : goal.returns
returns c =
    let a_long : length c.args.a ≡ 16 = search rules in
    let b_long : length c.args.b ≡ 16 = search rules in
    fold_from_yields_List _ (λ (ok : Bool) (p : ℕ × ℕ). ok && eqb p.0 p.1) true _ c.fold.ensures.ran
    (YieldsList-from_zip (YieldsList-from_slice c.args.a (search rules)) (YieldsList-from_slice c.args.b (search rules)))
    (λ a x b q called. search rules)
    ∙ same_folded c.args.a c.args.b a_long b_long
