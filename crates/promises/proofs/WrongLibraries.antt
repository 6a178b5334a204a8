-- Each wrong library answers otherwise than the definition somewhere: by P1 to P12, and by computing.
use Prim.Native.Nat.{ℕ}
use mathlib.Core.Path.{◌≡◌, refl, sym, ap, ◌∙◌}
use mathlib.Core.Bool.{true}
use mathlib.Core.List.{List, [], ◌∷◌}
use native.Mathlib.Omega.{arith}
use lib.ListN.{get_or, replicate}
use Rattle.answers.specs.Answers.{seat_no, first_of}
use Rattle.vectors.specs.Vectors.{entry, all, table, vector, within, same, zero_above, maxes, zeros}
use Rattle.vectors.specs.Bytes.{number_at, bytes_of, fields_of}
use Rattle.window.specs.Window.{bit, handed, none_above, sound_window, marked, trailing_ones, advanced, handed_over}
use Rattle.packet.specs.Packet.{past_of, barrier_of, head_tests, point_seven, point_eight, vector_tests, first_failing, first_bad_point}
use Rattle.packet.specs.Reading.{read_of, body_of, read_number}
use Rattle.packet.specs.Writing.{packet_of, in_range, writable, write_refusals, write_answer, write_output, output_after}
use Rattle.packet.specs.declared.Kind.TheVariants.{Ordinary, Causal}
use Rattle.packet.specs.declared.Header.{Header}
use Rattle.packet.specs.declared.Reading.{Reading}
use Rattle.shelf.specs.Shelf.{whole_slots, slot_at, all_zero, slot_of, lowest, laid, free_slot}
use Rattle.seat.specs.State.{clear_above, sound_windows, sound_state}
use Rattle.seat.specs.Stock.{on_slots, distinct, sound_slots, sound_shelf}
use Rattle.seat.specs.Opening.{open_answer, opened_seat, opened_shelf}
use Rattle.seat.specs.Releasing.{chosen_packet, release_answer, shelf_after_release}
use Rattle.seat.specs.Sending.{kind_of, packet_sent, sent_seat, send_refusals, send_answer, seat_after}
use Rattle.seat.specs.HandingOver.{hand_over}
use Rattle.seat.specs.Arriving.{heading_of, admission_refusals, arrive_refusals, ready_answer, wait_answer, admitted_answer, arrive_answer, shelf_after}
use Rattle.seat.specs.declared.Seat.{Seat}
use Rattle.seat.specs.declared.Wish.TheVariants.{Usual}
use Rattle.promises.specs.Demand1.{answer_number}
use Rattle.promises.specs.Edges.{fresh_seat, seat_that_sent, from_one, first_sent, second_sent, arrival_number, after_arrival}
use Rattle.promises.specs.WrongLibraries.{Library, Meets, RefusesEverything, AnswersOneThing, OnlyShelves, ChangesNothing, WrongLibraries, every_reading, every_writing, every_opening, every_sending, every_arrival, every_release, one_reading, one_writing, one_opening, one_sending, one_arrival, one_release, no_state_sent, no_state_arrived, no_shelf, read_as, written_as, opened_as, sent_as, arrived_as, released_as, after_first}
use Rattle.promises.proofs.Edges.{edges}

-- ---- what the definitions say at the witnesses

no_slots_are_whole : whole_slots [] ≡ true
unfolding whole_slots
no_slots_are_whole = refl

good_packet_reads : read_number (read_of (from_one 1 0 [])).answer ≡ 0
unfolding read_of first_bad_point head_tests vector_tests point_seven point_eight first_failing packet_of fields_of bytes_of number_at vector table within same all
good_packet_reads = refl

abbrev header : Header
header = record { n = 2; sender = seat_no 1 }

abbrev past : List ℕ
past = 1 ∷ replicate 15 0

-- a message is written where there is room, and refused where there is none
writes_say : (answer_number (write_answer Ordinary header past zeros [] (replicate 11 0)) ≡ 0)
    × (answer_number (write_answer Ordinary header past zeros [] []) ≡ 13)
unfolding write_answer write_refusals first_of writable in_range vector_tests point_seven point_eight first_failing within same all zero_above
writes_say = (refl, refl)

a_send_counts : entry (seat_after (send_answer (fresh_seat 1 1) [] (replicate 7 0)) (sent_seat (fresh_seat 1 1) Ordinary) (fresh_seat 1 1)).past (seat_no 1) ≡ 1
unfolding send_answer send_refusals first_of sent_seat sound_state in_range clear_above zero_above within sound_windows sound_window none_above bit all
a_send_counts = refl

-- a first packet moves run; one that waits is laid on a free slot; the first packet again is refused
arrivals_say : (entry (after_arrival (fresh_seat 2 2) (first_sent Ordinary)).run (seat_no 1) ≡ 1)
    × (get_or (shelf_after (arrive_answer (fresh_seat 2 2) free_slot (second_sent Ordinary Causal)) (second_sent Ordinary Causal) free_slot) 0 0 ≡ 1)
    × (arrival_number (after_arrival (fresh_seat 2 2) (first_sent Ordinary)) (first_sent Ordinary) ≡ 17)
unfolding arrive_answer arrive_refusals first_of sound_state in_range clear_above zero_above within sound_windows sound_window none_above bit all sound_shelf whole_slots sound_slots distinct first_bad_point head_tests vector_tests point_seven point_eight first_failing packet_of fields_of bytes_of number_at vector table same admission_refusals admitted_answer ready_answer wait_answer handed on_slots maxes body_of lowest hand_over handed_over advanced marked trailing_ones sent_seat slot_at all_zero slot_of laid free_slot
arrivals_say = (refl, refl, refl)

free_starts_with_zero : get_or free_slot 0 0 ≡ 0
unfolding free_slot
free_starts_with_zero = refl

-- ---- what a library that meets the contracts says there

module _ (library : Library) (meets : Meets library) where
  read_is : (packet : List ℕ) → read_as library packet ≡ read_number (read_of packet).answer
  read_is packet = ap (λ (r : Reading). read_number r.answer) (meets.reading packet)

  write_is : (out : List ℕ) → written_as library Ordinary header past zeros [] out ≡ answer_number (write_answer Ordinary header past zeros [] out)
  write_is out = ap answer_number (meets.writing Ordinary header past zeros [] out).answered

  opened_0 : opened_as library 16 (seat_no 16) [] ≡ 0
  opened_0 = ap answer_number (meets.opening 16 (seat_no 16) []).answered ∙ (edges.p1 []).3 no_slots_are_whole

  opened_20 : opened_as library 0 (seat_no 0) [] ≡ 20
  opened_20 = ap answer_number (meets.opening 0 (seat_no 0) []).answered ∙ (edges.p1 []).0

  sent_0 : sent_as library (seat_that_sent 65534) Usual [] (replicate 7 0) ≡ 0
  sent_0 = ap answer_number (meets.sending (seat_that_sent 65534) Usual [] (replicate 7 0)).answered ∙ (edges.p7 (replicate 7 0)).0 (omega arith)

  sent_12 : sent_as library (seat_that_sent 65535) Usual [] [] ≡ 12
  sent_12 = ap answer_number (meets.sending (seat_that_sent 65535) Usual [] []).answered ∙ (edges.p7 []).1

  arrived_0 : arrived_as library (fresh_seat 2 2) (from_one 64 0 []) [] ≡ 0
  arrived_0 = ap answer_number (meets.arriving (fresh_seat 2 2) (from_one 64 0 []) []).answered ∙ edges.p5.0

  arrived_18 : arrived_as library (fresh_seat 2 2) (from_one 65 0 []) [] ≡ 18
  arrived_18 = ap answer_number (meets.arriving (fresh_seat 2 2) (from_one 65 0 []) []).answered ∙ edges.p5.1

  released_0 : released_as library (fresh_seat 2 2) (slot_of (from_one 1 0 [])) [] ≡ 0
  released_0 = ap answer_number (meets.releasing (fresh_seat 2 2) (slot_of (from_one 1 0 [])) []).answered ∙ edges.p12.0

  released_13 : released_as library (fresh_seat 2 2) (slot_of (from_one 1 0 (0 ∷ []))) [] ≡ 13
  released_13 = ap answer_number (meets.releasing (fresh_seat 2 2) (slot_of (from_one 1 0 (0 ∷ []))) []).answered ∙ edges.p12.1 0

  no_refuser : RefusesEverything library → ⊥
  no_refuser (every_reading each) = omega (arith, each (from_one 1 0 []), read_is (from_one 1 0 []) ∙ good_packet_reads)
  no_refuser (every_writing each) = omega (arith, each Ordinary header past zeros [] (replicate 11 0), write_is (replicate 11 0) ∙ writes_say.0)
  no_refuser (every_opening each) = omega (arith, each 16 (seat_no 16) [], opened_0)
  no_refuser (every_sending each) = omega (arith, each (seat_that_sent 65534) Usual [] (replicate 7 0), sent_0)
  no_refuser (every_arrival each) = omega (arith, each (fresh_seat 2 2) (from_one 64 0 []) [], arrived_0)
  no_refuser (every_release each) = omega (arith, each (fresh_seat 2 2) (slot_of (from_one 1 0 [])) [], released_0)

  differ : (k a b : ℕ) {x y : ℕ} → x ≡ k → y ≡ k → x ≡ a → y ≡ b → a ≡ b
  differ k a b p q r s = sym r ∙ p ∙ sym q ∙ s

  no_fixed_answer : AnswersOneThing library → ⊥
  no_fixed_answer (one_reading k each) =
      omega (arith, differ k 0 14 (each (from_one 1 0 [])) (each []) (read_is (from_one 1 0 []) ∙ good_packet_reads) (read_is [] ∙ (edges.p9 [] []).3))
  no_fixed_answer (one_writing k each) =
      omega (
        arith,
        differ k 0 13 (each Ordinary header past zeros [] (replicate 11 0)) (each Ordinary header past zeros [] [])
            (write_is (replicate 11 0) ∙ writes_say.0) (write_is [] ∙ writes_say.1),
      )
  no_fixed_answer (one_opening k each) = omega (arith, differ k 0 20 (each 16 (seat_no 16) []) (each 0 (seat_no 0) []) opened_0 opened_20)
  no_fixed_answer (one_sending k each) =
      omega (arith, differ k 0 12 (each (seat_that_sent 65534) Usual [] (replicate 7 0)) (each (seat_that_sent 65535) Usual [] []) sent_0 sent_12)
  no_fixed_answer (one_arrival k each) =
      omega (arith, differ k 0 18 (each (fresh_seat 2 2) (from_one 64 0 []) []) (each (fresh_seat 2 2) (from_one 65 0 []) []) arrived_0 arrived_18)
  no_fixed_answer (one_release k each) =
      omega (arith, differ k 0 13 (each (fresh_seat 2 2) (slot_of (from_one 1 0 [])) []) (each (fresh_seat 2 2) (slot_of (from_one 1 0 (0 ∷ []))) []) released_0 released_13)

  not_only_shelving : OnlyShelves library → ⊥
  not_only_shelving never = never (fresh_seat 2 2) (from_one 64 0 []) [] arrived_0

  something_changes : ChangesNothing library → ⊥
  something_changes (no_state_sent each) =
      let stays : fresh_seat 1 1 ≡ _ = sym (each (fresh_seat 1 1) Usual [] (replicate 7 0)) ∙ (meets.sending (fresh_seat 1 1) Usual [] (replicate 7 0)).next in
      omega (arith, ap (λ (s : Seat). entry s.past (seat_no 1)) stays ∙ a_send_counts)
  something_changes (no_state_arrived each) =
      let stays : fresh_seat 2 2 ≡ _ = sym (each (fresh_seat 2 2) (first_sent Ordinary) []) ∙ (meets.arriving (fresh_seat 2 2) (first_sent Ordinary) []).next in
      omega (arith, ap (λ (s : Seat). entry s.run (seat_no 1)) stays ∙ arrivals_say.0)
  something_changes (no_shelf each) =
      let stays : free_slot ≡ _ = sym (each (fresh_seat 2 2) (second_sent Ordinary Causal) free_slot) ∙ (meets.arriving (fresh_seat 2 2) (second_sent Ordinary Causal) free_slot).shelf_after_is in
      omega (arith, sym free_starts_with_zero ∙ ap (λ (s : List ℕ). get_or s 0 0) stays ∙ arrivals_say.1)

-- ---- the definitions themselves are a library

abbrev defined : Library
defined =
    record {
      reads = read_of;
      writes = λ kind header past barrier body out. (write_answer kind header past barrier body out, write_output kind header past barrier body out);
      opens = λ n own shelf.
          let answer = open_answer n own shelf in (record { seat = opened_seat answer n own; answer = answer }, opened_shelf answer shelf);
      sends = λ seat wish body out.
          let answer = send_answer seat body out in
          (record { seat = seat_after answer (sent_seat seat (kind_of wish)) seat; answer = answer }, output_after answer (packet_sent seat (kind_of wish) body) out);
      arrives = λ seat packet shelf.
          let answer = arrive_answer seat shelf packet in (
            record { seat = seat_after answer (hand_over seat (heading_of packet) (past_of packet) (barrier_of packet)) seat; answer = answer },
            shelf_after answer packet shelf,
          );
      releases = λ seat shelf out.
          let answer = release_answer seat shelf out in
          let packet = chosen_packet seat shelf in (
            record { seat = seat_after answer (hand_over seat (heading_of packet) (past_of packet) (barrier_of packet)) seat; answer = answer },
            shelf_after_release answer seat shelf,
            output_after answer (body_of packet) out,
          );
    }

defined_meets : Meets defined
defined_meets =
    record {
      reading = λ packet. refl;
      writing = λ kind header past barrier body out. record { answered = refl; output = refl };
      opening = λ n own shelf. record { answered = refl; next = refl; shelf_after_is = refl };
      sending = λ seat wish body out. record { answered = refl; next = refl; output = refl };
      arriving = λ seat packet shelf. record { answered = refl; next = refl; shelf_after_is = refl };
      releasing = λ seat shelf out. record { answered = refl; next = refl; shelf_after_is = refl; output = refl };
    }

pub wrong_libraries : WrongLibraries
wrong_libraries =
    record {
      some_library_meets = (defined, defined_meets);
      refuses_everything = λ library wrong meets. no_refuser library meets wrong;
      answers_one_thing = λ library wrong meets. no_fixed_answer library meets wrong;
      only_shelves = λ library wrong meets. not_only_shelving library meets wrong;
      changes_nothing = λ library wrong meets. something_changes library meets wrong;
      right_once = λ library once second.
          let after : after_first library (first_sent Ordinary) ≡ after_arrival (fresh_seat 2 2) (first_sent Ordinary) = (once.first_right (first_sent Ordinary)).next in
          let is : arrived_as library (after_first library (first_sent Ordinary)) (first_sent Ordinary) [] ≡ 17 =
          ap answer_number second.answered ∙ ap (λ (s : Seat). arrival_number s (first_sent Ordinary)) after ∙ arrivals_say.2 in
          omega (arith, once.then_0_or_1 (first_sent Ordinary) (first_sent Ordinary) []);
    }
