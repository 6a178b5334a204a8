use Rattle.std.proofs.Common.{length, take}
use Rattle.vectors.proofs.Numbers.{Put}
use Rattle.vectors.proofs.bytes.put_bytes.Given as goal

abbrev pub invariant-loop-k : goal.invariant-loop-k
invariant-loop-k l = Put l.initial.out l.i (length l.s) (λ j. take j l.s) l.k l.out
