use Rattle.std.proofs.Common.{◌≡◌, ◌≤◌, length}
use Rattle.lines.specs.Lines.{value_of}
use Rattle.lines.proofs.value_of.Given as goal

abbrev pub invariant-loop-byte : goal.invariant-loop-byte
invariant-loop-byte l = (l.byte-index ≤ length l.word) × (l.value ≡ value_of l.byte-index l.word)
