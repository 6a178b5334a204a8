-- The definitions that a printed session computes with, all at once: `unfolding computed` opens them.
use Prim.Native.Nat.{ℕ}
use Rattle.answers.specs.Answers.{first_of}
use Rattle.vectors.specs.Vectors.{all, table, vector, within, same, zero_above, maxes}
use Rattle.vectors.specs.Bytes.{number_at, bytes_of, fields_of}
use Rattle.window.specs.Window.{bit, handed, none_above, sound_window, marked, trailing_ones, advanced, handed_over}
use Rattle.packet.specs.Packet.{head_tests, point_seven, point_eight, vector_tests, first_failing, first_bad_point}
use Rattle.packet.specs.Reading.{read_of, body_of}
use Rattle.packet.specs.Writing.{packet_of, in_range}
use Rattle.shelf.specs.Shelf.{whole_slots, slot_at, all_zero, slot_of, laid, free_slot, lowest}
use Rattle.seat.specs.State.{clear_above, sound_windows, sound_state}
use Rattle.seat.specs.Stock.{holds_packet, packet_in, passes, is_edit, on_slots, distinct, sound_slots, sound_shelf}
use Rattle.seat.specs.HandingOver.{hand_over}
use Rattle.seat.specs.Opening.{open_refusals, open_answer}
use Rattle.seat.specs.Sending.{sent_seat, send_refusals, send_answer}
use Rattle.seat.specs.Arriving.{admission_refusals, arrive_refusals, ready_answer, wait_answer, admitted_answer, arrive_answer}
use Rattle.seat.specs.Releasing.{ready_at, no_later, comes_first, chosen, take_refusals, release_answer}

unfoldable pub computed : ℕ
unfolding first_of all table vector within same zero_above maxes number_at bytes_of fields_of bit handed none_above sound_window marked trailing_ones advanced handed_over
    head_tests point_seven point_eight vector_tests first_failing first_bad_point read_of body_of packet_of in_range whole_slots slot_at all_zero slot_of laid free_slot lowest
    clear_above sound_windows sound_state holds_packet packet_in passes is_edit on_slots distinct sound_slots sound_shelf hand_over open_refusals open_answer
    sent_seat send_refusals send_answer admission_refusals arrive_refusals ready_answer wait_answer admitted_answer arrive_answer
    ready_at no_later comes_first chosen take_refusals release_answer
computed = 0
