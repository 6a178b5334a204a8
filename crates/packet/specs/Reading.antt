-- What reading answers, and the body.
use Rattle.std.specs.Prelude.{ℕ, cond, List, [], drop, Result, Ok, Err}
use Rattle.answers.specs.Answers.{refusal_number}
use Rattle.answers.specs.declared.Refusal.{Refusal}
use Rattle.answers.specs.declared.Refusal.TheVariants.{NotWellFormed}
use Rattle.vectors.specs.Vectors.{zeros}
use Rattle.packet.specs.Packet.{seats_of, sender_of, kind_of, past_of, barrier_of, body_at, well_formed}
use Rattle.packet.specs.declared.Kind.{Kind}
use Rattle.packet.specs.declared.Header.{Header}
use Rattle.packet.specs.declared.Heading.{Heading}
use Rattle.packet.specs.declared.Reading.{Reading}

-- The kind with its header, and that header again.
abbrev pub headed : Kind → Header → Heading
headed kind header = record { n = header.n; sender = header.sender; kind = kind }

abbrev pub header_in : Heading → Header
header_in heading = record { n = heading.n; sender = heading.sender }

-- A refusal: both vectors are all 0.
abbrev pub refused : Reading
refused = record { answer = Err NotWellFormed; past = zeros; barrier = zeros }

-- The reading of a message.
abbrev pub message : Kind → Header → List ℕ → List ℕ → Reading
message kind header past barrier = record { answer = Ok (headed kind header); past = past; barrier = barrier }

abbrev pub header_of : List ℕ → Header
header_of packet = record { n = seats_of packet; sender = sender_of packet }

-- Reading answers what a well formed packet says, or a refusal.
unfoldable pub read_of : List ℕ → Reading
read_of packet = cond (well_formed packet) (message (kind_of packet) (header_of packet) (past_of packet) (barrier_of packet)) refused

-- The body is what stands after barrier; empty on a refusal.
unfoldable pub body_of : List ℕ → List ℕ
body_of packet = cond (well_formed packet) (drop (body_at (seats_of packet)) packet) []

-- Document 01's number of each case.
abbrev pub read_number : Result Heading Refusal → ℕ
read_number (Err refusal) = refusal_number refusal
read_number (Ok heading) = 0
