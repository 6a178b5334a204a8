-- No call reads a body.
use Prim.Native.Nat.{ℕ, ◌+◌, ◌<◌}
use mathlib.Core.Path.{◌≡◌, refl, sym, ap, ◌∙◌}
use mathlib.Core.Logic.{inl, inr}
use mathlib.Core.Bool.{Bool, cond, not, ◌||◌}
use mathlib.Core.List.{List, [], ◌∷◌, ◌++◌, append_assoc}
use native.Mathlib.Decide.{dec_lt}
use native.Mathlib.Omega.{arith}
use lib.Dec.{ltb, eqb}
use lib.ListN.{length, take, drop, length-append}
use borrow.Author.Tests.{eq-eqb}
use Rattle.answers.specs.Answers.{first_of}
use Rattle.answers.specs.declared.Edit.{Edit}
use Rattle.answers.specs.declared.Refusal.TheVariants.{NotSound, OutputTooShort, NotWellFormed, ShelfFull, BarrierAbovePast}
use Rattle.answers.specs.declared.Answer.{Answer}
use Rattle.answers.specs.declared.Answer.TheVariants.{Opened, Done, Shelved, NothingReady, Refused}
use Rattle.vectors.specs.Bytes.{fields_of}
use Rattle.packet.specs.Packet.{sender_of, past_of, barrier_of, first_bad_point}
use Rattle.packet.specs.Reading.{body_of}
use Rattle.packet.specs.Writing.{head_of, packet_of, write_refusals, write_answer, at_start, output_after, write_output, Written}
use Rattle.packet.specs.declared.Kind.{Kind}
use Rattle.packet.specs.declared.Header.{Header}
use Rattle.packet.specs.declared.Heading.{Heading}
use Rattle.shelf.specs.Shelf.{slots, slot_of, lowest_free, free_slot}
use Rattle.seat.specs.State.{header_of}
use Rattle.seat.specs.Stock.{packet_at, number_of, is_handed, on_shelf}
use Rattle.seat.specs.Sending.{kind_of, past_sent, barrier_sent, sent_seat, send_refusals, send_answer, seat_after, Sent}
use Rattle.seat.specs.HandingOver.{ready, hand_over, barrier_above_past}
use Rattle.seat.specs.Arriving.{heading_of, sound_both, admission_refusals, repeats, arrive_refusals, edit_handed, ready_answer, wait_answer, admitted_answer, arrive_answer, shelf_after, Arrived}
use Rattle.seat.specs.Releasing.{chosen, take_refusals, release_answer, shelf_after_release, Released}
use Rattle.seat.specs.declared.Seat.{Seat}
use Rattle.seat.specs.declared.Wish.{Wish}
use Rattle.seat.specs.declared.Stepped.{Stepped}
use Rattle.seat.proofs.Chosen.{chosen_is_at_most_slots, chosen_is_ready, ready_slot_is_used}
use Rattle.promises.specs.Demand1.{answer_number}
use Rattle.promises.specs.BodyUnread.{Alike, AlikeShelves, SameButFor, SameSlotChanges, BodyUnread}
use Rattle.promises.proofs.AlikePackets.{same_sender, same_past, same_barrier, same_point, same_heading, same_number, same_reading, same_body_length, same_edit}
use Rattle.promises.proofs.AlikeShelves.{same_slots, same_on_shelf, same_lowest_free, same_sound, same_chosen}
use Rattle.promises.proofs.ReleaseOccasions.{next_is_chosen, release_occasions}

-- state and answer are the whole of a step
same_step : (one other : Stepped) → one.seat ≡ other.seat → one.answer ≡ other.answer → one ≡ other
same_step one other seat answer = λ i. record { seat = seat i; answer = answer i }

-- ---- writing and sending

module _ (front body other out : List ℕ) (same : length body ≡ length other) where
  same_rest : drop (length (front ++ other)) out ≡ drop (length (front ++ body)) out
  same_rest = ap (λ (n : ℕ). drop n out) (length-append front other ∙ ap (λ (n : ℕ). length front + n) (sym same) ∙ sym (length-append front body))

  put_same : SameButFor body other (at_start (front ++ body) out) (at_start (front ++ other) out)
  put_same =
      inr (
        front,
        drop (length (front ++ body)) out,
        append_assoc front body (drop (length (front ++ body)) out),
        append_assoc front other (drop (length (front ++ other)) out) ∙ ap (λ (rest : List ℕ). front ++ (other ++ rest)) same_rest,
      )

  output_same : (answer : Answer) → SameButFor body other (output_after answer (front ++ body) out) (output_after answer (front ++ other) out)
  output_same (Done edit) = put_same
  output_same Opened = inl refl
  output_same Shelved = inl refl
  output_same NothingReady = inl refl
  output_same (Refused refusal) = inl refl

-- what stands before the body
abbrev front_of : Kind → Header → List ℕ → List ℕ → ℕ → List ℕ
front_of kind header past barrier len = head_of kind header len ++ fields_of 2 (take header.n past) ++ fields_of 2 (take header.n barrier)

packet_ends_in_body : (kind : Kind) (header : Header) (past barrier body : List ℕ)
    → packet_of kind header past barrier body ≡ front_of kind header past barrier (length body) ++ body
unfolding packet_of
packet_ends_in_body kind header past barrier body = refl

module _ (kind : Kind) (header : Header) (past barrier body other out : List ℕ) (same : length body ≡ length other) where
  packets_same : (answer : Answer)
      → SameButFor body other (output_after answer (packet_of kind header past barrier body) out) (output_after answer (packet_of kind header past barrier other) out)
  packets_same answer =
      rw (packet_ends_in_body kind header past barrier body, packet_ends_in_body kind header past barrier other, ← same)
      (output_same (front_of kind header past barrier (length body)) body other out same answer)

  same_write_answer : write_answer kind header past barrier body out ≡ write_answer kind header past barrier other out
  unfolding write_answer write_refusals
  same_write_answer = rw same

  written_same : (answer answer_other : Answer) (after after_other : List ℕ) → Written kind header past barrier body out answer after
      → Written kind header past barrier other out answer_other after_other → (answer ≡ answer_other) × SameButFor body other after after_other
  unfolding write_output
  written_same answer answer_other after after_other w v = (
    w.answered ∙ same_write_answer ∙ sym v.answered,
    rw (w.output, v.output, ← same_write_answer) (packets_same (write_answer kind header past barrier body out)),
  )

module _ (seat : Seat) (wish : Wish) (body other out : List ℕ) (same : length body ≡ length other) where
  same_send_answer : send_answer seat body out ≡ send_answer seat other out
  unfolding send_answer send_refusals
  same_send_answer = rw same

  sent_same : (stepped stepped_other : Stepped) (after after_other : List ℕ) → Sent seat wish body out stepped after
      → Sent seat wish other out stepped_other after_other → (stepped ≡ stepped_other) × SameButFor body other after after_other
  sent_same stepped stepped_other after after_other s t = (
    same_step stepped stepped_other
        (s.next ∙ ap (λ (a : Answer). seat_after a (sent_seat seat (kind_of wish)) seat) same_send_answer ∙ sym t.next)
        (s.answered ∙ same_send_answer ∙ sym t.answered),
    rw (s.output, t.output, ← same_send_answer)
        (packets_same (kind_of wish) (header_of seat) (past_sent seat) (barrier_sent seat (kind_of wish)) body other out same (send_answer seat body out)),
  )

-- ---- arrivals

-- the answer, by what it is made of
abbrev arrival_by : Seat → Bool → ℕ → Heading → List ℕ → List ℕ → Bool → ℕ → ℕ → Edit → Answer
arrival_by seat sound point heading past barrier repeated free count edit =
    first_of ((NotSound, not sound) ∷ (NotWellFormed, not (eqb point 0)) ∷ admission_refusals seat heading past repeated)
    (cond (ready seat barrier) (ready_answer seat heading past barrier edit) (first_of ((ShelfFull, eqb free count) ∷ []) Shelved))

arrival_by_parts : (seat : Seat) (shelf packet : List ℕ)
    → arrive_answer seat shelf packet
    ≡ arrival_by seat (sound_both seat shelf) (first_bad_point packet) (heading_of packet) (past_of packet) (barrier_of packet) (repeats seat shelf packet) (lowest_free shelf) (slots shelf)
    (edit_handed packet)
unfolding arrive_answer arrive_refusals admitted_answer wait_answer
arrival_by_parts seat shelf packet = refl

module _ (seat : Seat) (packet other shelf shelf_other : List ℕ) (alike : Alike packet other) (shelves : AlikeShelves shelf shelf_other) where
  same_repeats : repeats seat shelf packet ≡ repeats seat shelf_other other
  same_repeats =
      (λ i. is_handed seat (same_sender _ _ alike i) (same_number _ _ alike i) || on_shelf shelf (same_sender _ _ alike i) (same_number _ _ alike i))
      ∙ ap (λ (on : Bool). is_handed seat (sender_of other) (number_of other) || on) (same_on_shelf _ _ shelves (sender_of other) (number_of other))

  same_arrival : arrive_answer seat shelf packet ≡ arrive_answer seat shelf_other other
  same_arrival =
      arrival_by_parts seat shelf packet
      ∙ (λ i.
      arrival_by seat (same_sound _ _ shelves seat i) (same_point _ _ alike i) (same_heading _ _ alike i) (same_past _ _ alike i)
      (same_barrier _ _ alike i) (same_repeats i) (same_lowest_free _ _ shelves i) (same_slots _ _ shelves i)
      (same_edit _ _ alike i))
      ∙ sym (arrival_by_parts seat shelf_other other)

  shelves_same : (answer : Answer)
      → SameSlotChanges shelf shelf_other (shelf_after answer packet shelf) (shelf_after answer other shelf_other) (lowest_free shelf) (slot_of packet) (slot_of other)
  shelves_same Shelved = inr (refl, rw (same_lowest_free _ _ shelves))
  shelves_same Opened = inl (refl, refl)
  shelves_same (Done edit) = inl (refl, refl)
  shelves_same NothingReady = inl (refl, refl)
  shelves_same (Refused refusal) = inl (refl, refl)

  arrived_same : (stepped stepped_other : Stepped) (after after_other : List ℕ) → Arrived seat packet shelf stepped after → Arrived seat other shelf_other stepped_other after_other
      → (stepped ≡ stepped_other) × ((i : ℕ) × SameSlotChanges shelf shelf_other after after_other i (slot_of packet) (slot_of other))
  arrived_same stepped stepped_other after after_other a b = (
    same_step stepped stepped_other
        (a.next
        ∙ (λ i. seat_after (same_arrival i) (hand_over seat (same_heading _ _ alike i) (same_past _ _ alike i) (same_barrier _ _ alike i)) seat)
        ∙ sym b.next)
        (a.answered ∙ same_arrival ∙ sym b.answered),
    (lowest_free shelf, rw (a.shelf_after_is, b.shelf_after_is, ← same_arrival) (shelves_same (arrive_answer seat shelf packet))),
  )

-- ---- releases

-- the answer for a packet that is taken
abbrev taking_by : Seat → List ℕ → ℕ → Heading → List ℕ → List ℕ → Edit → Answer
taking_by seat out len heading past barrier edit =
    first_of ((OutputTooShort, ltb (length out) len) ∷ (BarrierAbovePast, barrier_above_past seat heading past barrier) ∷ []) (Done edit)

abbrev taking_of : Seat → List ℕ → List ℕ → Answer
taking_of seat out packet = taking_by seat out (length (body_of packet)) (heading_of packet) (past_of packet) (barrier_of packet) (edit_handed packet)

abbrev release_by : Bool → ℕ → ℕ → Answer → Answer
release_by sound i count taking = first_of ((NotSound, not sound) ∷ []) (cond (eqb i count) NothingReady taking)

release_by_parts : (seat : Seat) (shelf out : List ℕ)
    → release_answer seat shelf out ≡ release_by (sound_both seat shelf) (chosen seat shelf) (slots shelf) (taking_of seat out (packet_at shelf (chosen seat shelf)))
unfolding release_answer take_refusals
release_by_parts seat shelf out = refl

module _ (seat : Seat) (shelf shelf_other out : List ℕ) (shelves : AlikeShelves shelf shelf_other) where
  abbrev at : ℕ
  at = chosen seat shelf

  taken_alike : at < slots shelf → Alike (packet_at shelf at) (packet_at shelf_other at)
  taken_alike there = shelves.same_packets at there (ready_slot_is_used seat shelf at (chosen_is_ready seat shelf there))

  same_taking : at < slots shelf → taking_of seat out (packet_at shelf at) ≡ taking_of seat out (packet_at shelf_other (chosen seat shelf_other))
  same_taking there =
      let alike = taken_alike there in
      (λ i. taking_by seat out (same_body_length _ _ alike i) (same_heading _ _ alike i) (same_past _ _ alike i) (same_barrier _ _ alike i) (same_edit _ _ alike i))
      ∙ ap (λ (k : ℕ). taking_of seat out (packet_at shelf_other k)) (same_chosen _ _ shelves seat)

  same_release : release_answer seat shelf out ≡ release_answer seat shelf_other out
  same_release =
      let sound = same_sound _ _ shelves seat in
      let here = same_chosen _ _ shelves seat in
      let count = same_slots _ _ shelves in
      elim (dec_lt at (slots shelf)) [
        | yes there ↦ release_by_parts seat shelf out ∙ (λ i. release_by (sound i) (here i) (count i) (same_taking there i)) ∙ sym (release_by_parts seat shelf_other out)
        | no more ↦ let none : at ≡ slots shelf = omega (arith, chosen_is_at_most_slots seat shelf) in
            let also : chosen seat shelf_other ≡ slots shelf_other = sym here ∙ none ∙ count in
            release_by_parts seat shelf out
            ∙ rw (eq-eqb at (slots shelf) none, eq-eqb (chosen seat shelf_other) (slots shelf_other) also)
            (ap (λ (b : Bool). first_of ((NotSound, not b) ∷ []) NothingReady) sound)
            ∙ sym (release_by_parts seat shelf_other out)
      ]

  shelves_left_same : (answer : Answer)
      → SameSlotChanges shelf shelf_other (shelf_after_release answer seat shelf) (shelf_after_release answer seat shelf_other) at free_slot free_slot
  shelves_left_same (Done edit) = inr (refl, rw (same_chosen _ _ shelves seat))
  shelves_left_same Opened = inl (refl, refl)
  shelves_left_same Shelved = inl (refl, refl)
  shelves_left_same NothingReady = inl (refl, refl)
  shelves_left_same (Refused refusal) = inl (refl, refl)

  -- a packet is taken only where one is chosen
  done_is_there : answer_number (release_answer seat shelf out) ≡ 0 → at < slots shelf
  done_is_there zero =
      let facts = (release_occasions seat shelf out).is_0.0 zero in
      let is = next_is_chosen seat shelf out facts.0 facts.1.0 facts.1.1 in
      rw is at facts.1.1.ready.0

  abbrev body : List ℕ
  body = body_of (packet_at shelf at)

  abbrev body_other : List ℕ
  body_other = body_of (packet_at shelf_other at)

  outputs_same : (answer : Answer) → release_answer seat shelf out ≡ answer → SameButFor body body_other (output_after answer body out) (output_after answer body_other out)
  outputs_same (Done edit) is =
      output_same [] body body_other out (same_body_length (packet_at shelf at) (packet_at shelf_other at) (taken_alike (done_is_there (ap answer_number is)))) (Done edit)
  outputs_same Opened is = inl refl
  outputs_same Shelved is = inl refl
  outputs_same NothingReady is = inl refl
  outputs_same (Refused refusal) is = inl refl

  -- the next state after an answer
  next_same : (answer : Answer) → release_answer seat shelf out ≡ answer
      → seat_after answer (hand_over seat (heading_of (packet_at shelf at)) (past_of (packet_at shelf at)) (barrier_of (packet_at shelf at))) seat
      ≡ seat_after answer (hand_over seat (heading_of (packet_at shelf_other at)) (past_of (packet_at shelf_other at)) (barrier_of (packet_at shelf_other at))) seat
  next_same (Done edit) is =
      let alike = taken_alike (done_is_there (ap answer_number is)) in
      (λ i. hand_over seat (same_heading _ _ alike i) (same_past _ _ alike i) (same_barrier _ _ alike i))
  next_same Opened is = refl
  next_same Shelved is = refl
  next_same NothingReady is = refl
  next_same (Refused refusal) is = refl

  released_same : (stepped stepped_other : Stepped) (left left_other out_left out_other : List ℕ) → Released seat shelf out stepped left out_left
      → Released seat shelf_other out stepped_other left_other out_other
      → (stepped ≡ stepped_other)
      × ((i : ℕ) × SameSlotChanges shelf shelf_other left left_other i free_slot free_slot
      × SameButFor (body_of (packet_at shelf i)) (body_of (packet_at shelf_other i)) out_left out_other)
  released_same stepped stepped_other left left_other out_left out_other r q =
      let answer = release_answer seat shelf out in
      let here = same_chosen _ _ shelves seat in
      let next_other : stepped_other.seat
      ≡ seat_after answer (hand_over seat (heading_of (packet_at shelf_other at)) (past_of (packet_at shelf_other at)) (barrier_of (packet_at shelf_other at))) seat =
      rw (← same_release, ← here) at q.next in
      let left_is : left_other ≡ shelf_after_release answer seat shelf_other = q.shelf_after_is ∙ ap (λ (a : Answer). shelf_after_release a seat shelf_other) (sym same_release) in
      let out_is : out_other ≡ output_after answer body_other out = rw (← same_release, ← here) at q.output in (
        same_step stepped stepped_other (r.next ∙ next_same answer refl ∙ sym next_other) (r.answered ∙ same_release ∙ sym q.answered),
        (at, rw (r.shelf_after_is, left_is) (shelves_left_same answer), rw (r.output, out_is) (outputs_same answer refl)),
      )

pub body_unread : BodyUnread
body_unread =
    record {
      writing = λ kind header past barrier body other out answer answer_other after after_other same.
          written_same kind header past barrier body other out same answer answer_other after after_other;
      reading = λ packet other alike. (same_reading _ _ alike, same_body_length _ _ alike);
      sending = λ seat wish body other out stepped stepped_other after after_other same. sent_same seat wish body other out same stepped stepped_other after after_other;
      arriving = λ seat packet other shelf shelf_other stepped stepped_other after after_other alike shelves.
          arrived_same seat packet other shelf shelf_other alike shelves stepped stepped_other after after_other;
      releasing = λ seat shelf shelf_other out stepped stepped_other left left_other out_left out_other shelves.
          released_same seat shelf shelf_other out shelves stepped stepped_other left left_other out_left out_other;
    }
