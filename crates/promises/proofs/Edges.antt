-- P1 to P12 hold: by the laws of the calls' answers, and by computing.
use Prim.Native.Nat.{ℕ, ◌≤◌}
use mathlib.Core.Path.{◌≡◌, refl, ap, sym}
use mathlib.Core.Bool.{true}
use mathlib.Core.List.{List, []}
use native.Mathlib.Omega.{arith}
use lib.ListN.{length}
use Rattle.answers.specs.Answers.{seat_no, first_of}
use Rattle.vectors.specs.Vectors.{all, table, vector, within, same, zero_above, maxes}
use Rattle.vectors.specs.Bytes.{number_at, bytes_of, fields_of}
use Rattle.window.specs.Window.{bit, handed, none_above, sound_window, marked, trailing_ones, advanced, handed_over}
use Rattle.packet.specs.Packet.{body_length_of, head_tests, point_seven, point_eight, vector_tests, first_failing, first_bad_point}
use Rattle.packet.specs.Reading.{read_of, body_of, read_number}
use Rattle.packet.specs.Writing.{packet_of, in_range}
use Rattle.packet.specs.declared.Kind.{Kind}
use Rattle.packet.specs.declared.Kind.TheVariants.{Ordinary, Causal}
use Rattle.packet.proofs.Formed.{formed}
use Rattle.packet.proofs.Told.{read_refused}
use Rattle.shelf.specs.Shelf.{whole_slots, slot_at, all_zero, slot_of, lowest}
use Rattle.seat.specs.State.{clear_above, sound_windows, sound_state}
use Rattle.seat.specs.Stock.{holds_packet, packet_in, passes, is_edit, on_slots, distinct, sound_slots, sound_shelf}
use Rattle.seat.specs.Opening.{open_answer}
use Rattle.seat.specs.Sending.{send_answer, sent_seat}
use Rattle.seat.specs.HandingOver.{hand_over}
use Rattle.seat.specs.Arriving.{admission_refusals, arrive_refusals, ready_answer, wait_answer, admitted_answer, arrive_answer, sound_both}
use Rattle.seat.specs.Releasing.{ready_at, no_later, comes_first, chosen, take_refusals, release_answer}
use Rattle.seat.proofs.OpenAnswers.{no_such_seat_answers_20, opening_answers_0}
use Rattle.seat.proofs.SendAnswers.{long_body_answers_11, full_count_answers_12, sending_answers_0}
use Rattle.seat.proofs.Hearing.{refused_14}
use Rattle.seat.proofs.Opened.{counting_is_sound}
use Rattle.promises.specs.Demand1.{answer_number}
use Rattle.promises.specs.Edges.{Edges, fresh_seat, seat_that_sent, first_sent, second_sent, arrival_number, arrival_numbers, after_arrivals, packets_numbered, one_last}

opened : (shelf : List ℕ)
    → (answer_number (open_answer 0 (seat_no 0) shelf) ≡ 20)
    × (answer_number (open_answer 17 (seat_no 1) shelf) ≡ 20)
    × (answer_number (open_answer 2 (seat_no 3) shelf) ≡ 20)
    × (whole_slots shelf ≡ true → answer_number (open_answer 16 (seat_no 16) shelf) ≡ 0)
unfolding in_range
opened shelf = (
  ap answer_number (no_such_seat_answers_20 0 (seat_no 0) shelf refl),
  ap answer_number (no_such_seat_answers_20 17 (seat_no 1) shelf refl),
  ap answer_number (no_such_seat_answers_20 2 (seat_no 3) shelf refl),
  λ whole. ap answer_number (opening_answers_0 16 (seat_no 16) shelf refl whole),
)

no_slots : (first : Kind) → (arrival_number (fresh_seat 2 2) (second_sent first Causal) ≡ 19) × (arrival_number (fresh_seat 2 2) (first_sent first) ≡ 0)
unfolding sent_seat arrive_answer arrive_refusals first_of sound_state in_range clear_above zero_above within sound_windows sound_window none_above bit all sound_shelf whole_slots sound_slots distinct first_bad_point head_tests vector_tests point_seven point_eight first_failing packet_of fields_of bytes_of number_at vector table same admission_refusals admitted_answer ready_answer wait_answer handed on_slots maxes body_of lowest
no_slots Ordinary = (refl, refl)
no_slots Causal = (refl, refl)

-- ---- sends

sent_count_is_sound : (sound_state (seat_that_sent 65534) ≡ true) × (sound_state (seat_that_sent 65535) ≡ true)
unfolding sound_state in_range clear_above zero_above within sound_windows sound_window none_above bit all
sent_count_is_sound = (refl, refl)

counts : (out : List ℕ)
    → (7 ≤ length out → answer_number (send_answer (seat_that_sent 65534) [] out) ≡ 0)
    × (answer_number (send_answer (seat_that_sent 65535) [] out) ≡ 12)
counts out = (
  λ room. ap answer_number (sending_answers_0 (seat_that_sent 65534) [] out sent_count_is_sound.0 (omega arith) (λ full. omega arith) room),
  ap answer_number (full_count_answers_12 (seat_that_sent 65535) [] out sent_count_is_sound.1 (omega arith) refl),
)

fresh_is_sound : sound_state (fresh_seat 1 1) ≡ true
unfolding in_range
fresh_is_sound = counting_is_sound 1 (seat_no 1) refl

bodies : (body out : List ℕ)
    → (length body ≡ 200 → 207 ≤ length out → answer_number (send_answer (fresh_seat 1 1) body out) ≡ 0)
    × (length body ≡ 201 → answer_number (send_answer (fresh_seat 1 1) body out) ≡ 11)
bodies body out = (
  λ long room. ap answer_number (sending_answers_0 (fresh_seat 1 1) body out fresh_is_sound (omega arith) (λ full. omega arith) (omega arith)),
  λ long. ap answer_number (long_body_answers_11 (fresh_seat 1 1) body out fresh_is_sound (omega arith)),
)

-- ---- packets that are not well formed

fresh_both_sound : sound_both (fresh_seat 1 1) [] ≡ true
unfolding sound_state in_range clear_above zero_above within sound_windows sound_window none_above bit all sound_shelf whole_slots sound_slots distinct
fresh_both_sound = refl

badly_formed : (packet : List ℕ) → (first_bad_point packet ≡ 0 → ⊥)
    → (read_number (read_of packet).answer ≡ 14) × (arrival_number (fresh_seat 1 1) packet ≡ 14)
badly_formed packet bad = (
  rw (read_refused packet bad),
  sym (ap answer_number (refused_14 (fresh_seat 1 1) packet [] fresh_both_sound bad).answered),
)

naming_201 : (packet : List ℕ) → body_length_of packet ≡ 201 → first_bad_point packet ≡ 0 → ⊥
naming_201 packet names good = let short = (formed packet good).head.body in omega arith

empty_packet : first_bad_point [] ≡ 0 → ⊥
empty_packet good = let long = (formed [] good).head.long in omega arith

pub edges : Edges
unfolding sent_seat arrive_answer arrive_refusals first_of sound_state in_range clear_above zero_above within sound_windows sound_window none_above bit all sound_shelf whole_slots sound_slots distinct first_bad_point head_tests vector_tests point_seven point_eight first_failing packet_of fields_of bytes_of number_at vector table same admission_refusals admitted_answer ready_answer wait_answer handed on_slots maxes body_of lowest hand_over handed_over advanced marked trailing_ones arrival_numbers after_arrivals packets_numbered one_last read_of release_answer slot_of slot_at all_zero chosen comes_first ready_at no_later take_refusals packet_in holds_packet passes is_edit
edges =
    record {
      p1 = opened;
      p2 = record { past_is = refl; barrier_is = refl };
      p3 = (record { past_is = refl; barrier_is = refl }, record { past_is = refl; barrier_is = refl });
      p4 = refl;
      p5 = (refl, refl);
      p6 = (refl, refl, refl);
      p7 = counts;
      p8 = no_slots;
      p9 = λ body out. (
        (bodies body out).0,
        (bodies body out).1,
        λ packet names. badly_formed packet (naming_201 packet names),
        (badly_formed [] empty_packet).0,
        (badly_formed [] empty_packet).1,
      );
      p10 = (refl, refl);
      p11 = refl;
      p12 = (refl, λ byte. refl);
    }
