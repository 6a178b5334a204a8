-- Sending an edit: lines 1 to 4 of document 000, section 3.2.
use Rattle.std.specs.Prelude.{ℕ, ◌+◌, ◌-◌, ◌≡◌, Bool, not, List, [], ◌∷◌, ltb, eqb, length, set}
use Rattle.answers.specs.Answers.{first_of}
use Rattle.answers.specs.declared.Refusal.{Refusal}
use Rattle.answers.specs.declared.Refusal.TheVariants.{NotSound, BodyTooLong, CountFull, OutputTooShort}
use Rattle.answers.specs.declared.Answer.{Answer}
use Rattle.answers.specs.declared.Answer.TheVariants.{Opened, Done, Shelved, NothingReady, Refused}
use Rattle.packet.specs.Packet.{body_most, packet_length}
use Rattle.packet.specs.Writing.{edit_of, packet_of, output_after}
use Rattle.packet.specs.declared.Kind.{Kind}
use Rattle.packet.specs.declared.Kind.TheVariants.{Ordinary, Causal}
use Rattle.seat.specs.State.{header_of, own_count, sound_state}
use Rattle.seat.specs.declared.Seat.{Seat}
use Rattle.seat.specs.declared.Wish.{Wish}
use Rattle.seat.specs.declared.Wish.TheVariants.{Ordinary as PlainOrdinary, Causal as PlainCausal, Usual}
use Rattle.seat.specs.declared.Stepped.{Stepped}

-- The highest count.
abbrev pub count_most : ℕ
count_most = 65535

-- The kind that is wished for: usual is ordinary.
abbrev pub kind_of : Wish → Kind
kind_of PlainOrdinary = Ordinary
kind_of PlainCausal = Causal
kind_of Usual = Ordinary

-- Line 1: the barrier that the packet carries is past if causal.
abbrev pub barrier_sent : Seat → Kind → List ℕ
barrier_sent seat Ordinary = seat.barrier
barrier_sent seat Causal = seat.past

-- Line 2: past[self] rises by 1.
abbrev pub past_sent : Seat → List ℕ
past_sent seat = set seat.past (seat.own.0 - 1) (own_count seat + 1)

-- Line 3: the packet, with past and barrier.
abbrev pub packet_sent : Seat → Kind → List ℕ → List ℕ
packet_sent seat kind body = packet_of kind (header_of seat) (past_sent seat) (barrier_sent seat kind) body

-- Line 4: barrier becomes the new past if causal.
abbrev pub barrier_after : Seat → Kind → List ℕ
barrier_after seat Ordinary = seat.barrier
barrier_after seat Causal = past_sent seat

unfoldable pub sent_seat : Seat → Kind → Seat
sent_seat seat kind =
    record { n = seat.n; own = seat.own; past = past_sent seat; barrier = barrier_after seat kind; run = seat.run; ahead = seat.ahead }

-- Sending refuses in this order.
unfoldable pub send_refusals : Seat → List ℕ → List ℕ → List (Refusal × Bool)
send_refusals seat body out =
    (NotSound, not (sound_state seat))
    ∷ (BodyTooLong, ltb body_most (length body))
    ∷ (CountFull, eqb (own_count seat) count_most)
    ∷ (OutputTooShort, ltb (length out) (packet_length seat.n (length body)))
    ∷ []

unfoldable pub send_answer : Seat → List ℕ → List ℕ → Answer
send_answer seat body out = first_of (send_refusals seat body out) (Done (edit_of (header_of seat) (past_sent seat) body))

-- The state after an answer: a refusal leaves it as it was.
abbrev pub seat_after : Answer → Seat → Seat → Seat
seat_after (Done edit) next seat = next
seat_after Opened next seat = seat
seat_after Shelved next seat = seat
seat_after NothingReady next seat = seat
seat_after (Refused refusal) next seat = seat

-- The contract of sending: answer, next state, and every byte of the output after it.
pub record Sent (seat : Seat) (wish : Wish) (body out : List ℕ) (stepped : Stepped) (after : List ℕ) : Type 0 where
  pub answered : stepped.answer ≡ send_answer seat body out
  pub next : stepped.seat ≡ seat_after (send_answer seat body out) (sent_seat seat (kind_of wish)) seat
  pub output : after ≡ output_after (send_answer seat body out) (packet_sent seat (kind_of wish) body) out
