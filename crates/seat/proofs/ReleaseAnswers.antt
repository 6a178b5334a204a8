-- Each answer of a release from what leads to it, and what each leaves.
use Prim.Native.Nat.{ℕ, ◌≤◌, ◌<◌}
use mathlib.Core.Path.{◌≡◌, sym, ap, ◌∙◌}
use mathlib.Core.Bool.{true, false, not}
use mathlib.Core.List.{List, []}
use native.Mathlib.Nat.{zero-add}
use native.Mathlib.Omega.{arith}
use lib.ListN.{length}
use lib.Seq.{sets, sets-eq}
use borrow.Author.Tests.{eq-eqb, ne_eqb, lt-ltb, le-ltb}
use Rattle.answers.specs.Answers.{first_of}
use Rattle.answers.specs.declared.Edit.{Edit}
use Rattle.answers.specs.declared.Refusal.{Refusal}
use Rattle.answers.specs.declared.Refusal.TheVariants.{NotSound, OutputTooShort, BarrierAbovePast}
use Rattle.answers.specs.declared.Answer.TheVariants.{Done, NothingReady, Refused}
use Rattle.answers.proofs.InOrder.{refuses, goes_on, none_left}
use Rattle.packet.specs.Packet.{past_of, barrier_of}
use Rattle.packet.specs.Reading.{body_of}
use Rattle.packet.specs.Writing.{at_start}
use Rattle.shelf.specs.Shelf.{slots, laid, free_slot}
use Rattle.seat.specs.Stock.{packet_at}
use Rattle.seat.specs.HandingOver.{hand_over, barrier_above_past}
use Rattle.seat.specs.Arriving.{heading_of, sound_both, edit_handed}
use Rattle.seat.specs.Releasing.{chosen, take_refusals, release_answer, Released}
use Rattle.seat.specs.Steps.{Chosen}
use Rattle.seat.specs.declared.Seat.{Seat}

module _ (seat : Seat) (shelf out : List ℕ) where
  pub not_sound_answers_10 : sound_both seat shelf ≡ false → release_answer seat shelf out ≡ Refused NotSound
  unfolding release_answer
  not_sound_answers_10 bad = refuses NotSound [] _ _ (ap not bad)

  pub none_ready_answers_2 : sound_both seat shelf ≡ true → chosen seat shelf ≡ slots shelf → release_answer seat shelf out ≡ NothingReady
  unfolding release_answer
  none_ready_answers_2 sound none = goes_on NotSound [] _ _ (ap not sound) ∙ none_left _ ∙ rw (eq-eqb _ _ none)

  module _ (i : ℕ) (c : Chosen seat shelf i) where
    abbrev packet : List ℕ
    packet = packet_at shelf i

    taking : release_answer seat shelf out ≡ first_of (take_refusals seat packet out) (Done (edit_handed packet))
    unfolding release_answer
    taking =
        let some : chosen seat shelf ≡ slots shelf → ⊥ = λ none. omega (arith, c.there, c.chosen_is ∙ none) in
        goes_on NotSound [] _ _ (ap not c.sound) ∙ none_left _ ∙ rw (ne_eqb _ _ some, ← c.chosen_is)

    pub no_room_answers_13 : length out < length (body_of packet) → release_answer seat shelf out ≡ Refused OutputTooShort
    unfolding take_refusals
    no_room_answers_13 short = taking ∙ refuses OutputTooShort _ _ _ (lt-ltb _ _ short)

    pub above_answers_23 : length (body_of packet) ≤ length out → barrier_above_past seat (heading_of packet) (past_of packet) (barrier_of packet) ≡ true
        → release_answer seat shelf out ≡ Refused BarrierAbovePast
    unfolding take_refusals
    above_answers_23 room above = taking ∙ goes_on OutputTooShort _ _ _ (le-ltb _ _ room) ∙ refuses BarrierAbovePast [] _ _ above

    pub releasing_answers_0 : length (body_of packet) ≤ length out → barrier_above_past seat (heading_of packet) (past_of packet) (barrier_of packet) ≡ false
        → release_answer seat shelf out ≡ Done (edit_handed packet)
    unfolding take_refusals
    releasing_answers_0 room within =
        taking ∙ goes_on OutputTooShort _ _ _ (le-ltb _ _ room) ∙ goes_on BarrierAbovePast [] _ _ within ∙ none_left _

    pub done_release : (next : Seat) (edit : Edit) (shelf-left out-left : List ℕ) → release_answer seat shelf out ≡ Done (edit_handed packet) → edit ≡ edit_handed packet
        → next ≡ hand_over seat (heading_of packet) (past_of packet) (barrier_of packet) → shelf-left ≡ laid shelf i free_slot → out-left ≡ at_start (body_of packet) out
        → Released seat shelf out (record { seat = next; answer = Done edit }) shelf-left out-left
    done_release next edit shelf-left out-left e same n s o =
        record {
          answered = ap Done same ∙ sym e;
          next = rw (e, ← c.chosen_is) n;
          shelf_after_is = rw (e, ← c.chosen_is) s;
          output = rw (e, ← c.chosen_is) o;
        }

  pub refused_release : (refusal : Refusal) → release_answer seat shelf out ≡ Refused refusal → Released seat shelf out (record { seat = seat; answer = Refused refusal }) shelf out
  refused_release refusal e = record { answered = sym e; next = rw e; shelf_after_is = rw e; output = rw e }

  pub idle_release : release_answer seat shelf out ≡ NothingReady → Released seat shelf out (record { seat = seat; answer = NothingReady }) shelf out
  idle_release e = record { answered = sym e; next = rw e; shelf_after_is = rw e; output = rw e }

-- a body stored from the start on
pub body_at_start : (body out after : List ℕ) → length body ≤ length out → after ≡ sets out 0 body → after ≡ at_start body out
body_at_start body out after room e = e ∙ sets-eq body out 0 (omega arith) ∙ rw zero-add
