-- `max_of` meets its contract.
use Rattle.std.proofs.Common.{ℕ, max, get_or, rules, arith}
use Rattle.vectors.specs.Vectors.{maxes}
use Rattle.vectors.proofs.Vector.{is_vector}
use Rattle.vectors.proofs.max_of.Goals as goal

pub returns : goal.returns
unfolding maxes
returns c =
    let f : ℕ → ℕ = λ k. max (get_or c.args.a k 0) (get_or c.args.b k 0) in
    is_vector 16 f _ c.from_fn.ensures.items.long (λ k h b. let called = c.from_fn.ensures.items.at k 0 h in search rules) (λ k h b. omega arith)
