use Rattle.std.proofs.Common.{◌≡◌, ◌+◌, ◌*◌, ◌<◌, ℕ, get_or}
use Rattle.vectors.specs.Bytes.{number_at}
use Rattle.vectors.proofs.bytes.fields.Given as goal

abbrev pub invariant-loop-k : goal.invariant-loop-k
invariant-loop-k g l =
    let t = g.T.Number in
    (j : ℕ) → j < l.k → get_or (t.numbers l.below) j 0 ≡ number_at t.WIDTH l.s (l.i + t.WIDTH * j)
