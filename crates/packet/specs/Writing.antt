-- What writing answers, and what it leaves in the output.
use Rattle.std.specs.Prelude.{ℕ, ◌+◌, ◌*◌, ◌-◌, ◌≡◌, Bool, not, ◌&&◌, List, [], ◌∷◌, ◌++◌, leb, ltb, eqb, length, take, drop}
use Rattle.answers.specs.Answers.{edit_no, first_of}
use Rattle.answers.specs.declared.Edit.{Edit}
use Rattle.answers.specs.declared.Refusal.{Refusal}
use Rattle.answers.specs.declared.Refusal.TheVariants.{BodyTooLong, NotWellFormed, OutputTooShort}
use Rattle.answers.specs.declared.Answer.{Answer}
use Rattle.answers.specs.declared.Answer.TheVariants.{Opened, Done, Shelved, NothingReady, Refused}
use Rattle.vectors.specs.Vectors.{seats_most, entry, zero_above}
use Rattle.vectors.specs.Bytes.{fields_of}
use Rattle.packet.specs.Packet.{body_most, packet_length, vectors_point}
use Rattle.packet.specs.declared.Kind.{Kind}
use Rattle.packet.specs.declared.Kind.TheVariants.{Ordinary, Causal}
use Rattle.packet.specs.declared.Header.{Header}

-- The kind's bit.
abbrev pub bit_of : Kind → ℕ
bit_of Ordinary = 0
bit_of Causal = 1

-- Version 1 and n - 1; sender - 1, the kind and 3 zero bits; the body's length.
abbrev pub head_of : Kind → Header → ℕ → List ℕ
head_of kind header body = (16 + (header.n - 1)) ∷ ((header.sender.0 - 1) * 16 + bit_of kind * 8) ∷ body ∷ []

-- The packet of a message.
unfoldable pub packet_of : Kind → Header → List ℕ → List ℕ → List ℕ → List ℕ
packet_of kind header past barrier body =
    head_of kind header (length body) ++ fields_of 2 (take header.n past) ++ fields_of 2 (take header.n barrier) ++ body

-- n and sender are in range.
unfoldable pub in_range : Header → Bool
in_range header = leb 1 header.n && leb header.n seats_most && leb 1 header.sender.0 && leb header.sender.0 header.n

-- What can be written: n and sender in range, points 7 and 8, and every entry above n 0.
unfoldable pub writable : Kind → Header → List ℕ → List ℕ → Bool
writable kind header past barrier =
    in_range header
    && eqb (vectors_point kind header.sender past barrier) 0
    && (zero_above header.n past && zero_above header.n barrier)

-- Writing refuses in this order.
unfoldable pub write_refusals : Kind → Header → List ℕ → List ℕ → List ℕ → List ℕ → List (Refusal × Bool)
write_refusals kind header past barrier body out =
    (BodyTooLong, ltb body_most (length body))
    ∷ (NotWellFormed, not (writable kind header past barrier))
    ∷ (OutputTooShort, ltb (length out) (packet_length header.n (length body)))
    ∷ []

-- The edit that was written, with its packet's length.
abbrev pub edit_of : Header → List ℕ → List ℕ → Edit
edit_of header past body =
    record { sender = header.sender; number = edit_no (entry past header.sender); length = packet_length header.n (length body) }

unfoldable pub write_answer : Kind → Header → List ℕ → List ℕ → List ℕ → List ℕ → Answer
write_answer kind header past barrier body out =
    first_of (write_refusals kind header past barrier body out) (Done (edit_of header past body))

-- The packet stands at the start of the output, the rest untouched.
abbrev pub at_start : List ℕ → List ℕ → List ℕ
at_start packet out = packet ++ drop (length packet) out

-- The output after an answer: a refusal leaves it as it was.
abbrev pub output_after : Answer → List ℕ → List ℕ → List ℕ
output_after (Done edit) packet out = at_start packet out
output_after Opened packet out = out
output_after Shelved packet out = out
output_after NothingReady packet out = out
output_after (Refused refusal) packet out = out

unfoldable pub write_output : Kind → Header → List ℕ → List ℕ → List ℕ → List ℕ → List ℕ
write_output kind header past barrier body out =
    output_after (write_answer kind header past barrier body out) (packet_of kind header past barrier body) out

-- The contract of writing: its answer, and every byte of the output after it.
pub record Written (kind : Kind) (header : Header) (past barrier body out : List ℕ) (answer : Answer) (after : List ℕ) : Type 0 where
  pub answered : answer ≡ write_answer kind header past barrier body out
  pub output : after ≡ write_output kind header past barrier body out
