-- One send more: the session goes on as a run.
use Prim.Native.Nat.{ℕ, ◌-◌, ◌<◌}
use mathlib.Core.Path.{◌≡◌, refl, sym, ap, subst, ◌∙◌}
use mathlib.Core.List.{List, ◌∷◌}
use native.Mathlib.Omega.{arith}
use lib.Arith.{lt_of_le-ne}
use lib.ListN.{length, take, drop}
use lib.Seq.{take_at}
use Rattle.answers.specs.declared.Edit as answers
use Rattle.answers.specs.declared.Answer.{Answer}
use Rattle.answers.specs.declared.Answer.TheVariants.{Done}
use Rattle.packet.specs.Writing.{output_after, at_start}
use Rattle.packet.proofs.Laid.{length_packet}
use Rattle.seat.specs.State.{header_of, own_count}
use Rattle.seat.specs.declared.Stepped.{Stepped}
use Rattle.seat.specs.Sending.{Sent, kind_of, past_sent, barrier_sent, packet_sent, sent_seat, send_answer, seat_after}
use Rattle.seat.specs.declared.Seat.{Seat}
use Rattle.seat.specs.declared.Wish.{Wish}
use Rattle.seat.proofs.Sound.{sound_says}
use Rattle.seat.proofs.Sent.{sending_keeps_own, past_sent_is_counts}
use Rattle.seat.proofs.SentPacket.{barrier_sent_is_counts}
use Rattle.seat.proofs.SendAnswers as send
use Rattle.seat.proofs.SteppingSound.{SoundPlace, sending_keeps_place_sound}
use Rattle.session.specs.Events.{Kind, sent, Trace}
use Rattle.session.specs.Protocol.{Seated, edit, Sends, Turn, Run, sends}
use Rattle.promises.specs.Demand3.{Place, reported, Letter, letter_in, kind_as, kind_sent, letters_after_send, trace_after_send}
use Rattle.promises.specs.Demand1.{answer_number}
use Rattle.promises.proofs.Model.{model}
use Rattle.promises.proofs.Sending.{sent_by_number, sent_kind, sent_edit, sent_packet_carries_counts, send_is_lines_1_to_4}
use Rattle.promises.proofs.Moving.{turn_of}
use Rattle.promises.proofs.Goes.{WellPlaced, packets_of, Goes, here, place_with, posted_after, placed_after, stays}

module _ {n : ℕ} {places : ℕ → Place} {letters : List Letter} {trace : Trace} (so_far : Goes n places letters trace) (j : ℕ) (seated : Seated n j) where
  abbrev seat : Seat
  seat = (places j).seat

  abbrev shelf : List ℕ
  shelf = (places j).shelf

  placed : WellPlaced j (places j)
  placed = here so_far j seated

  module _ (wish : Wish) (body out : List ℕ) where
    abbrev packet : List ℕ
    packet = packet_sent seat (kind_of wish) body

    abbrev next : Seat
    next = sent_seat seat (kind_of wish)

    send_done : (told : answers.Edit) → send.SendDone seat body out told → SoundPlace next shelf
        → Goes n (place_with so_far j seated next shelf) (letter_in (Done told) (at_start packet out) ∷ letters) (sent (reported (Done told)) (kind_sent wish) ∷ trace)
    send_done told so stays_sound =
        let kind = kind_of wish in
        let sound = placed.sound.sound in
        let held = placed.sound.held in
        let state = sound_says seat sound in
        let not_full : own_count seat < 65535 = lt_of_le-ne (omega (arith, held.past_fits (seat.own.0 - 1))) so.not_full in
        let past_long = (past_sent_is_counts seat sound held not_full).long in
        let barrier_long = (barrier_sent_is_counts seat sound held kind).long in
        let edits : reported (Done told) ≡ edit model packet =
        ap (λ (x : answers.Edit). record { by = x.sender.0; number = x.number.0 }) so.edit_is ∙ sym (sent_edit seat sound held not_full kind body so.short) in
        let bytes : take told.length (at_start packet out) ≡ packet =
        take_at packet (drop (length packet) out) told.length
        (length_packet kind (header_of seat) (past_sent seat) (barrier_sent seat kind) body (omega arith) (omega arith) ∙ sym (ap (λ (x : answers.Edit). x.length) so.edit_is)) in
        let by_number = sent_by_number seat sound held not_full kind body so.short ∙ placed.numbered in
        let turn = subst (λ (i : ℕ). Turn model i (Sends model packet) places (place_with so_far j seated next shelf)) (sym by_number)
        (turn_of j (record { seat = next; shelf = shelf }) places (Sends model packet) (send_is_lines_1_to_4 seat sound held not_full kind body so.short shelf)) in
        let run = sends packet so_far.run (subst (Seated n) (sym by_number) seated) turn in
        rw (edits, bytes)
        (record {
          run = subst (λ (k : Kind). Run model n (place_with so_far j seated next shelf) (packet ∷ packets_of letters) (sent (edit model packet) k ∷ trace))
              (ap kind_as (sent_kind seat sound held not_full kind body so.short)) run;
          placed = placed_after so_far j seated next shelf stays_sound (sending_keeps_own seat kind);
          posted = posted_after (record { edit = edit model packet; bytes = packet }) letters
              (record { counts = sent_packet_carries_counts seat sound held not_full kind body so.short; same = refl }) so_far.posted;
        })

    send_step : {answer : Answer} → send.SendOccasion seat body out answer → SoundPlace (seat_after answer next seat) shelf
        → Goes n (place_with so_far j seated (seat_after answer next seat) shelf) (letters_after_send (answer_number answer) (letter_in answer (output_after answer packet out)) letters)
        (trace_after_send (answer_number answer) (reported answer) (kind_sent wish) trace)
    send_step (send.done told so) stays_sound = send_done told so stays_sound
    send_step (send.not_sound _) stays_sound = stays so_far j seated
    send_step (send.long_body _ _) stays_sound = stays so_far j seated
    send_step (send.full_count _ _ _) stays_sound = stays so_far j seated
    send_step (send.short_output _ _ _ _) stays_sound = stays so_far j seated

    -- One send more.
    pub after_a_send : (stepped : Stepped) (output : List ℕ) → Sent seat wish body out stepped output
        → Goes n (place_with so_far j seated stepped.seat shelf) (letters_after_send (answer_number stepped.answer) (letter_in stepped.answer output) letters)
        (trace_after_send (answer_number stepped.answer) (reported stepped.answer) (kind_sent wish) trace)
    after_a_send stepped output meets =
        rw (meets.next, meets.output, meets.answered)
        (send_step (send.send_tells_its_occasion seat body out (send_answer seat body out) refl)
        (rw meets.next at (sending_keeps_place_sound seat shelf placed.sound wish body out stepped output meets)))
