-- One release more: the session goes on as a run.
use Prim.Native.Nat.{ℕ}
use mathlib.Core.Path.{◌≡◌, refl, sym, ap, ◌∙◌}
use mathlib.Core.List.{List}
use Rattle.answers.specs.Answers.{refusal_number}
use Rattle.answers.specs.declared.Edit as answers
use Rattle.answers.proofs.InOrder.{refusals_between}
use Rattle.answers.specs.declared.Answer.{Answer}
use Rattle.answers.specs.declared.Answer.TheVariants.{Done, Refused}
use Rattle.packet.specs.Packet.{past_of, barrier_of}
use Rattle.shelf.specs.Shelf.{laid, free_slot}
use Rattle.seat.specs.HandingOver.{hand_over}
use Rattle.seat.specs.declared.Stepped.{Stepped}
use Rattle.seat.specs.Sending.{seat_after}
use Rattle.seat.specs.Arriving.{heading_of}
use Rattle.seat.specs.Releasing.{Released, chosen, chosen_packet, release_answer, shelf_after_release}
use Rattle.seat.specs.declared.Seat.{Seat}
use Rattle.seat.proofs.HandedOver.{handing_over_keeps_own}
use Rattle.seat.proofs.ReleaseTells as release
use Rattle.seat.proofs.SteppingSound.{SoundPlace, releasing_keeps_sound}
use Rattle.session.specs.Events.{Trace}
use Rattle.session.specs.Protocol.{Seated, edit, Releases, releases, rests}
use Rattle.promises.specs.Demand3.{Place, reported, Letter, trace_after_release}
use Rattle.promises.specs.Demand1.{answer_number}
use Rattle.promises.proofs.Model.{model, edit_is}
use Rattle.promises.proofs.Releasing.{release_releases, idle_rests}
use Rattle.promises.proofs.Moving.{moved_here, turn_of, refused_release_tells_nothing}
use Rattle.promises.proofs.Goes.{Goes, here, place_with, moves, stays}

module _ {n : ℕ} {places : ℕ → Place} {letters : List Letter} {trace : Trace} (so_far : Goes n places letters trace) (j : ℕ) (seated : Seated n j) where
  abbrev seat : Seat
  seat = (places j).seat

  abbrev shelf : List ℕ
  shelf = (places j).shelf

  sound : SoundPlace seat shelf
  sound = (here so_far j seated).sound

  abbrev released : List ℕ
  released = chosen_packet seat shelf

  abbrev handed_seat : Seat
  handed_seat = hand_over seat (heading_of released) (past_of released) (barrier_of released)

  release_step : (out : List ℕ) {answer : Answer} → release.ReleaseTold seat shelf out answer → SoundPlace (seat_after answer handed_seat seat) (shelf_after_release answer seat shelf)
      → Goes n (place_with so_far j seated (seat_after answer handed_seat seat) (shelf_after_release answer seat shelf)) letters
      (trace_after_release (answer_number answer) j (reported answer) trace)
  release_step out (release.done told so) stays_sound =
      let edits : reported (Done told) ≡ edit model released =
      ap (λ (x : answers.Edit). record { by = x.sender.0; number = x.number.0 }) (sym so.edit_is) ∙ sym (edit_is released) in
      let left = laid shelf (chosen seat shelf) free_slot in
      rw edits
      (moves so_far j seated handed_seat left stays_sound (handing_over_keeps_own seat (heading_of released) (past_of released) (barrier_of released))
      (releases j released so_far.run seated
      (turn_of j (record { seat = handed_seat; shelf = left }) places (Releases model released) (release_releases seat shelf sound out told so))))
  release_step out (release.idle so) stays_sound =
      let gone = stays so_far j seated in
      record {
        run = rests j gone.run seated (rw (moved_here j (places j) places) (idle_rests seat shelf sound so));
        placed = gone.placed;
        posted = gone.posted;
      }
  release_step out (release.refused refusal) stays_sound =
      rw (refused_release_tells_nothing (refusal_number refusal) (refusals_between refusal).0 j (reported (Refused refusal)) trace) (stays so_far j seated)

  -- One release more.
  pub after_a_release : (out : List ℕ) (stepped : Stepped) (left output : List ℕ) → Released seat shelf out stepped left output
      → Goes n (place_with so_far j seated stepped.seat left) letters (trace_after_release (answer_number stepped.answer) j (reported stepped.answer) trace)
  after_a_release out stepped left output meets =
      rw (meets.next, meets.shelf_after_is, meets.answered)
      (release_step out (release.release_tells seat shelf out (release_answer seat shelf out) refl)
      (rw (meets.next, meets.shelf_after_is) at (releasing_keeps_sound seat shelf sound out stepped left output meets)))
