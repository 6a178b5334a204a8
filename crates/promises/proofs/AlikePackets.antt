-- Packets that are alike but for their bodies say the same.
use Prim.Native.Nat.{ℕ, ◌+◌, ◌*◌, ◌-◌, ◌/◌, ◌%◌, ◌<◌}
use mathlib.Core.Path.{◌≡◌, refl, sym, ap, ◌∙◌}
use mathlib.Core.List.{List, [], ◌∷◌, ◌++◌}
use native.Mathlib.Decide.{ℕ_discrete}
use native.Mathlib.Omega.{arith}
use lib.Dec.{leb, eqb}
use lib.ListN.{length, get_or}
use Rattle.answers.specs.Answers.{seat_no}
use Rattle.vectors.specs.Vectors.{vector}
use Rattle.vectors.specs.Bytes.{number_at}
use Rattle.vectors.proofs.Vector.{length_vector, vector_below, vector_above, is_vector}
use Rattle.vectors.proofs.Numbers.{two_bytes}
use Rattle.packet.specs.Packet.{seats_of, sender_of, kind_of, kind_bit, past_of, barrier_of, body_at, packet_length, head_tests, vector_tests, first_failing, first_bad_point}
use Rattle.packet.specs.Reading.{message, read_of, body_of}
use Rattle.packet.proofs.Told.{read_formed, read_refused, body_refused}
use Rattle.seat.specs.Stock.{number_of}
use Rattle.seat.specs.Arriving.{heading_of, edit_handed}
use Rattle.seat.proofs.WellRead.{body_length}
use Rattle.promises.specs.BodyUnread.{Alike}

-- vectors of the same fields are the same
same_vector : (n : ℕ) (f g : ℕ → ℕ) → ((k : ℕ) → k < n → f k ≡ g k) → vector n f ≡ vector n g
same_vector n f g each = is_vector n g (vector n f) (length_vector n f) (λ k below low. vector_below n f k below low ∙ each k below) (vector_above n f)

same_field : (one other : List ℕ) (i : ℕ) → get_or one i 0 ≡ get_or other i 0 → get_or one (i + 1) 0 ≡ get_or other (i + 1) 0 → number_at 2 one i ≡ number_at 2 other i
same_field one other i high low = sym (two_bytes one i) ∙ (λ j. high j * 256 + low j) ∙ two_bytes other i

-- the first bad point, by what it is made of
abbrev point_of : ℕ → ℕ → ℕ → ℕ → List ℕ → List ℕ → ℕ
point_of len first second third past barrier =
    first_failing 1
    ((leb 3 len
    ∷ eqb (first / 16) 1
    ∷ eqb (second % 8) 0
    ∷ leb (second / 16 + 1) (first % 16 + 1)
    ∷ leb third 200
    ∷ eqb len (packet_length (first % 16 + 1) third)
    ∷ [])
    ++ vector_tests (kind_bit second) (seat_no (second / 16 + 1)) past barrier)

point_by_parts : (packet : List ℕ) → first_bad_point packet ≡ point_of (length packet) (get_or packet 0 0) (get_or packet 1 0) (get_or packet 2 0) (past_of packet) (barrier_of packet)
unfolding first_bad_point head_tests
point_by_parts packet = refl

module _ (one other : List ℕ) (alike : Alike one other) where
  byte : (k : ℕ) → k < 3 → get_or one k 0 ≡ get_or other k 0
  byte k low = alike.same_front k (omega arith)

  pub same_seats : seats_of one ≡ seats_of other
  same_seats = ap (λ (b : ℕ). b % 16 + 1) (byte 0 (omega arith))

  pub same_sender : sender_of one ≡ sender_of other
  same_sender = ap (λ (b : ℕ). seat_no (b / 16 + 1)) (byte 1 (omega arith))

  pub same_kind : kind_of one ≡ kind_of other
  same_kind = ap kind_bit (byte 1 (omega arith))

  pub same_past : past_of one ≡ past_of other
  same_past =
      same_vector (seats_of one) (λ k. number_at 2 one (3 + 2 * k)) (λ k. number_at 2 other (3 + 2 * k))
      (λ k below. same_field one other (3 + 2 * k) (alike.same_front (3 + 2 * k) (omega arith)) (alike.same_front (3 + 2 * k + 1) (omega arith)))
      ∙ ap (λ (n : ℕ). vector n (λ k. number_at 2 other (3 + 2 * k))) same_seats

  pub same_barrier : barrier_of one ≡ barrier_of other
  same_barrier =
      same_vector (seats_of one) (λ k. number_at 2 one (3 + 2 * seats_of one + 2 * k)) (λ k. number_at 2 other (3 + 2 * seats_of one + 2 * k))
      (λ k below.
      same_field one other (3 + 2 * seats_of one + 2 * k) (alike.same_front (3 + 2 * seats_of one + 2 * k) (omega arith))
      (alike.same_front (3 + 2 * seats_of one + 2 * k + 1) (omega arith)))
      ∙ ap (λ (n : ℕ). vector n (λ k. number_at 2 other (3 + 2 * n + 2 * k))) same_seats

  pub same_point : first_bad_point one ≡ first_bad_point other
  same_point =
      point_by_parts one
      ∙ (λ i. point_of (alike.same_length i) (byte 0 (omega arith) i) (byte 1 (omega arith) i) (byte 2 (omega arith) i) (same_past i) (same_barrier i))
      ∙ sym (point_by_parts other)

  pub same_heading : heading_of one ≡ heading_of other
  same_heading = λ i. record { n = same_seats i; sender = same_sender i; kind = same_kind i }

  pub same_number : number_of one ≡ number_of other
  same_number = λ i. get_or (same_past i) ((same_sender i).0 - 1) 0

  pub same_reading : read_of one ≡ read_of other
  same_reading =
      elim (ℕ_discrete (first_bad_point one) 0) [
        | yes well ↦ read_formed one well
            ∙ (λ i. message (same_kind i) (record { n = same_seats i; sender = same_sender i }) (same_past i) (same_barrier i))
            ∙ sym (read_formed other (sym same_point ∙ well))
        | no bad ↦ read_refused one bad ∙ sym (read_refused other (λ well. bad (same_point ∙ well)))
      ]

  pub same_body_length : length (body_of one) ≡ length (body_of other)
  same_body_length =
      elim (ℕ_discrete (first_bad_point one) 0) [
        | yes well ↦ body_length one well ∙ (λ i. alike.same_length i - body_at (same_seats i)) ∙ sym (body_length other (sym same_point ∙ well))
        | no bad ↦ ap length (body_refused one bad ∙ sym (body_refused other (λ well. bad (same_point ∙ well))))
      ]

  pub same_edit : edit_handed one ≡ edit_handed other
  same_edit = λ i. record { sender = same_sender i; number = record { 0 = same_number i }; length = same_body_length i }
