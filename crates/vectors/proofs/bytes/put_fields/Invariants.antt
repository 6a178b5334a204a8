use Rattle.std.proofs.Common.{length, take}
use Rattle.vectors.specs.Bytes.{fields_of}
use Rattle.vectors.proofs.Numbers.{Put}
use Rattle.vectors.proofs.bytes.put_fields.Given as goal

abbrev pub invariant-loop-k : goal.invariant-loop-k
invariant-loop-k g l = let t = g.T.Number in Put l.initial.out l.i (length l.v) (λ j. fields_of t.WIDTH (take j (t.numbers l.v))) l.k l.out
