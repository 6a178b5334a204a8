-- What the three calls leave, where they are given the pieces of one seat.
use Prim.Native.Nat.{ℕ, ◌+◌, ◌*◌, ◌-◌, ◌≤◌}
use mathlib.Core.Path.{◌≡◌, subst, ap, ◌∙◌}
use mathlib.Core.List.{List, []}
use lib.ListN.{length, take, drop, length-set}
use borrow.Rule.Slice.PartMut.{put_mid}
use Rattle.answers.specs.declared.Answer.{Answer}
use Rattle.packet.specs.Packet.{packet_length}
use Rattle.packet.specs.Writing.{output_after}
use Rattle.packet.specs.declared.Kind.{Kind}
use Rattle.packet.specs.declared.Kind.TheVariants.{Ordinary, Causal}
use Rattle.packet.proofs.Laid.{length_packet}
use Rattle.seat.specs.State.{header_of}
use Rattle.seat.specs.Sending.{kind_of, barrier_sent, past_sent, packet_sent, sent_seat, send_answer, seat_after, Sent}
use Rattle.seat.specs.Arriving.{arrive_answer, shelf_after, Arrived}
use Rattle.seat.specs.Releasing.{chosen_packet, release_answer, shelf_after_release, Released}
use Rattle.seat.specs.declared.Seat.{Seat}
use Rattle.seat.specs.declared.Stepped.{Stepped}
use Rattle.seat.specs.declared.Wish.{Wish}
use Rattle.steps.specs.Session.{packet_most, handed_to}
use Rattle.steps.specs.Memory.{seat_in, shelf_size, shelf_in, piece, with_piece, with_edit, walked_to, SentEmpty}
use Rattle.steps.specs.declared.walk.Walk.{Walk}
use Rattle.steps.specs.declared.walk.Walked.{Walked}
use Rattle.steps.proofs.Parts.{part_lent, part_back}

module _ (seat : Seat) (past_long : length seat.past ≡ 16) (barrier_long : length seat.barrier ≡ 16) where
  barrier_sent_long : (kind : Kind) → length (barrier_sent seat kind) ≡ 16
  barrier_sent_long Ordinary = barrier_long
  barrier_sent_long Causal = past_long

  pub empty_packet_long : (wish : Wish) → seat.n ≤ 16 → length (packet_sent seat (kind_of wish) []) ≡ packet_length seat.n 0
  empty_packet_long wish most =
      length_packet (kind_of wish) (header_of seat) (past_sent seat) (barrier_sent seat (kind_of wish)) [] (rw (length-set, past_long) most) (rw (barrier_sent_long (kind_of wish)) most)

-- ---- what the calls leave in memory

-- the seat at i has sent
pub record SentAs (walk : Walk) (i : ℕ) (wish : Wish) (packets : List ℕ) (answer : Answer) (walked : Walked) (packets-left : List ℕ) : Type 0 where
  pub walked_is : walked
      ≡ walked_to (with_edit walk answer) i (seat_after answer (sent_seat (seat_in walk i) (kind_of wish)) (seat_in walk i)) answer
  pub packets_are : packets-left
      ≡ with_piece packet_most packets walk.letters
      (output_after answer (packet_sent (seat_in walk i) (kind_of wish) []) (piece packet_most packets walk.letters))
  pub packet_long : (seat_in walk i).n ≤ 16 → length (packet_sent (seat_in walk i) (kind_of wish) []) ≡ packet_length (seat_in walk i).n 0

abbrev pub SentAt : Walk → ℕ → Wish → List ℕ → Walked → List ℕ → Type 0
SentAt walk i wish packets =
    SentAs walk i wish packets (send_answer (seat_in walk i) [] (piece packet_most packets walk.letters))

-- the seat at i has taken a packet over, or has refused it, and this is its shelf now
pub record TakenAs (walk : Walk) (i : ℕ) (packet shelf shelves : List ℕ) (answer : Answer) (walked : Walked) (shelves-left : List ℕ) : Type 0 where
  pub walked_is : walked ≡ walked_to walk i (handed_to answer (seat_in walk i) packet) answer
  pub shelves_are : shelves-left ≡ with_piece (shelf_size walk) shelves i shelf

-- a packet has arrived at the seat at i
abbrev ArrivedAs : Walk → ℕ → List ℕ → List ℕ → Answer → Walked → List ℕ → Type 0
ArrivedAs walk i packet shelves answer = TakenAs walk i packet (shelf_after answer packet (shelf_in walk shelves i)) shelves answer

abbrev pub ArrivedAt : Walk → ℕ → List ℕ → List ℕ → Walked → List ℕ → Type 0
ArrivedAt walk i packet shelves =
    ArrivedAs walk i packet shelves (arrive_answer (seat_in walk i) (shelf_in walk shelves i) packet)

-- the seat at i has released a packet
abbrev ReleasedAs : Walk → ℕ → List ℕ → List ℕ → Answer → Walked → List ℕ → Type 0
ReleasedAs walk i packet shelves answer =
    TakenAs walk i packet (shelf_after_release answer (seat_in walk i) (shelf_in walk shelves i)) shelves answer

abbrev pub ReleasedAt : Walk → ℕ → List ℕ → Walked → List ℕ → Type 0
ReleasedAt walk i shelves =
    ReleasedAs walk i (chosen_packet (seat_in walk i) (shelf_in walk shelves i)) shelves
    (release_answer (seat_in walk i) (shelf_in walk shelves i) [])

module _ (walk : Walk) (i : ℕ) (buffer : List ℕ) (stepped : Stepped) (after : List ℕ) (walked : Walked) (start end : ℕ) where
  pub sent_at : (wish : Wish) (noted : Walk) → start ≡ packet_most * walk.letters → end ≡ packet_most * walk.letters + packet_most
      → SentEmpty (seat_in walk i) wish (take (end - start) (drop start buffer)) stepped after
      → noted ≡ with_edit walk stepped.answer
      → walked ≡ walked_to noted i stepped.seat stepped.answer
      → SentAt walk i wish buffer walked (put_mid start (end - start) buffer after)
  sent_at wish noted starts ends lent is-noted moved =
      let sent : Sent (seat_in walk i) wish [] (piece packet_most buffer walk.letters) stepped after
      = subst (λ (out : List ℕ). Sent (seat_in walk i) wish [] out stepped after) (part_lent packet_most walk.letters buffer start end starts ends) lent.sent in
      record {
        walked_is = moved
            ∙ ap (λ (m : Walk). walked_to m i stepped.seat stepped.answer) is-noted
            ∙ (λ j. walked_to (with_edit walk (sent.answered j)) i (sent.next j) (sent.answered j));
        packets_are = part_back packet_most walk.letters buffer start end starts ends after
            ∙ ap (with_piece packet_most buffer walk.letters) sent.output;
        packet_long = lent.packet_long;
      }

  module _ (starts : start ≡ shelf_size walk * i) (ends : end ≡ shelf_size walk * i + shelf_size walk)
      (moved : walked ≡ walked_to walk i stepped.seat stepped.answer) where
    pub arrived_at : (packet : List ℕ) → Arrived (seat_in walk i) packet (take (end - start) (drop start buffer)) stepped after
        → ArrivedAt walk i packet buffer walked (put_mid start (end - start) buffer after)
    arrived_at packet lent =
        let arrived : Arrived (seat_in walk i) packet (shelf_in walk buffer i) stepped after
        = subst (λ (shelf : List ℕ). Arrived (seat_in walk i) packet shelf stepped after) (part_lent (shelf_size walk) i buffer start end starts ends) lent in
        record {
          walked_is = moved ∙ (λ j. walked_to walk i (arrived.next j) (arrived.answered j));
          shelves_are = part_back (shelf_size walk) i buffer start end starts ends after ∙ ap (with_piece (shelf_size walk) buffer i) arrived.shelf_after_is;
        }

    pub released_at : (out : List ℕ) → Released (seat_in walk i) (take (end - start) (drop start buffer)) [] stepped after out
        → ReleasedAt walk i buffer walked (put_mid start (end - start) buffer after)
    released_at out lent =
        let released : Released (seat_in walk i) (shelf_in walk buffer i) [] stepped after out
        = subst (λ (shelf : List ℕ). Released (seat_in walk i) shelf [] stepped after out) (part_lent (shelf_size walk) i buffer start end starts ends) lent in
        record {
          walked_is = moved ∙ (λ j. walked_to walk i (released.next j) (released.answered j));
          shelves_are = part_back (shelf_size walk) i buffer start end starts ends after ∙ ap (with_piece (shelf_size walk) buffer i) released.shelf_after_is;
        }
