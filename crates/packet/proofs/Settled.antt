-- Each call's contract settles its result: two results that meet it are equal.
use mathlib.Core.Path.{◌≡◌, sym, ◌∙◌}
use mathlib.Core.List.{List}
use Prim.Native.Nat.{ℕ}
use Rattle.answers.specs.declared.Answer.{Answer}
use Rattle.packet.specs.Reading.{read_of, body_of}
use Rattle.packet.specs.Writing.{Written}
use Rattle.packet.specs.declared.Kind.{Kind}
use Rattle.packet.specs.declared.Header.{Header}
use Rattle.packet.specs.declared.Reading.{Reading}

pub read_settled : (packet : List ℕ) (one other : Reading) → one ≡ read_of packet → other ≡ read_of packet → one ≡ other
read_settled packet one other a b = a ∙ sym b

pub body_settled : (packet one other : List ℕ) → one ≡ body_of packet → other ≡ body_of packet → one ≡ other
body_settled packet one other a b = a ∙ sym b

pub write_settled : (kind : Kind) (header : Header) (past barrier body out : List ℕ) (one other : Answer) (after after-other : List ℕ)
    → Written kind header past barrier body out one after → Written kind header past barrier body out other after-other → (one ≡ other) × (after ≡ after-other)
write_settled kind header past barrier body out one other after after-other a b = (a.answered ∙ sym b.answered, a.output ∙ sym b.output)
