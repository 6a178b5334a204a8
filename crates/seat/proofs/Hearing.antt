-- A well formed packet that meets a sound seat and shelf: its answer, and what it tells.
use Prim.Native.Nat.{ℕ, ◌+◌, ◌≤◌, ◌<◌}
use mathlib.Core.Path.{◌≡◌, refl, sym, ap, ◌∙◌}
use mathlib.Core.Bool.{Bool, true, false, not, ◌||◌, true≢false}
use mathlib.Core.List.{List}
use lib.ListN.{length}
use Rattle.std.proofs.lemmas.Bool.{eq-eqb, ne_eqb, ltb-false, and_parts}
use Rattle.answers.specs.Answers.{first_of}
use Rattle.answers.specs.declared.Edit.{Edit}
use Rattle.answers.specs.declared.Refusal.TheVariants.{NotSound, NotWellFormed}
use Rattle.answers.specs.declared.Answer.{Answer}
use Rattle.answers.specs.declared.Answer.TheVariants.{Done, Shelved, Refused}
use Rattle.answers.specs.declared.Refusal.{Refusal}
use Rattle.answers.proofs.InOrder.{NoRefusal, refuses, goes_on}
use Rattle.vectors.specs.Vectors.{entry}
use Rattle.window.specs.Window.{handed, none_above}
use Rattle.window.proofs.Handed.{not_handed_is_above_run}
use Rattle.packet.specs.Packet.{sender_of, kind_of, past_of, barrier_of, first_bad_point}
use Rattle.packet.specs.Reading.{header_of, message}
use Rattle.packet.specs.declared.Heading.{Heading}
use Rattle.packet.proofs.Told.{Told, told_of}
use Rattle.shelf.specs.Shelf.{slot_of, laid, lowest_free}
use Rattle.seat.specs.State.{window_of, sound_state, SoundState}
use Rattle.seat.specs.Stock.{number_of, sound_shelf}
use Rattle.seat.specs.HandingOver.{hand_over}
use Rattle.seat.specs.Arriving.{heading_of, sound_both, admission_refusals, repeats, arrive_refusals, edit_handed, admitted_answer, arrive_answer, Arrived}
use Rattle.seat.specs.Survey.{window_with}
use Rattle.seat.specs.Steps.{Heard}
use Rattle.seat.specs.declared.Seat.{Seat}
use Rattle.seat.specs.declared.stock.Stock.{Stock}
use Rattle.seat.proofs.Admitting.{admission_passed}
use Rattle.seat.proofs.Sound.{sound_says}
use Rattle.seat.proofs.WellRead.{Sizes, carried, read_sizes, carried_is, marks_are_low}

or_neither : (a b : Bool) → (a || b) ≡ false → (a ≡ false) × (b ≡ false)
or_neither true b e = (e, absurd (true≢false e))
or_neither false b e = (refl, e)

-- ---- the answer

pub heard_goes_on : (seat : Seat) (shelf packet : List ℕ) → sound_both seat shelf ≡ true → first_bad_point packet ≡ 0
    → arrive_answer seat shelf packet
    ≡ first_of (admission_refusals seat (heading_of packet) (past_of packet) (repeats seat shelf packet))
    (admitted_answer seat shelf (heading_of packet) (past_of packet) (barrier_of packet) (edit_handed packet))
unfolding arrive_answer arrive_refusals
heard_goes_on seat shelf packet sound well = goes_on NotSound _ _ _ (ap not sound) ∙ goes_on NotWellFormed _ _ _ (ap not (eq-eqb _ _ well))

module _ (seat : Seat) (shelf : List ℕ) (stock : Stock) (packet : List ℕ) (heading : Heading) (past barrier : List ℕ)
    (h : Heard seat shelf stock packet heading past barrier) where
  pub heard_told : Told packet (message (kind_of packet) (header_of packet) (past_of packet) (barrier_of packet)) (heading_of packet)
  heard_told = told_of packet h.is_well_formed

  pub heard_state : SoundState seat
  heard_state = sound_says seat (and_parts (sound_state seat) (sound_shelf seat shelf) h.sound).0

  pub heard_sizes : Sizes heading packet
  heard_sizes = read_sizes packet heading h.is_well_formed h.heading_is

  -- what the words say is what refusal 17 asks
  repeats_is : handed (window_with seat.run stock.marks heading.sender) (entry past heading.sender) ≡ repeats seat shelf packet
  repeats_is =
      h.surveyed.marks_are heading.sender (entry past heading.sender) heard_sizes.sender_low heard_sizes.sender_high
      ∙ rw (h.heading_is, h.past_is)

  pub heard_answer : (answer : Answer)
      → answer
      ≡ first_of (admission_refusals seat heading past (handed (window_with seat.run stock.marks heading.sender) (entry past heading.sender)))
      (admitted_answer seat shelf heading past barrier (carried heading past (length packet)))
      → answer ≡ arrive_answer seat shelf packet
  heard_answer answer a =
      let same : carried heading past (length packet) ≡ edit_handed packet = carried_is packet heading h.is_well_formed h.heading_is past h.past_is in
      a ∙ (λ i. first_of (admission_refusals seat (h.heading_is i) (h.past_is i) (repeats_is i)) (admitted_answer seat shelf (h.heading_is i) (h.past_is i) (h.barrier_is i) (same i)))
      ∙ sym (heard_goes_on seat shelf packet h.sound h.is_well_formed)

  pub heard_none_above : entry seat.past heading.sender ≤ 65535 → none_above 65535 (window_of seat heading.sender) ≡ true
  heard_none_above fits = let z = heard_sizes in marks_are_low seat heading.sender heard_state z.sender_low z.sender_high fits

  -- ---- what an answer tells

  -- a packet that passed every refusal is new and in its sender's window
  pub record InWindow : Type 0 where
    pub above_run : entry seat.run heading.sender < entry past heading.sender
    pub in_reach : entry past heading.sender ≤ entry seat.run heading.sender + 64

  pub heard_in_window : (answer : Answer) → answer ≡ arrive_answer seat shelf packet → NoRefusal answer → InWindow
  heard_in_window answer a none =
      let admitted = (admission_passed seat (heading_of packet) (past_of packet) (repeats seat shelf packet) _ answer (sym (heard_goes_on seat shelf packet h.sound h.is_well_formed) ∙ sym a) none).0 in
      let new = (or_neither _ _ admitted.new).0 in
      record {
        above_run = rw (h.heading_is, h.past_is) (not_handed_is_above_run (window_of seat (sender_of packet)) (number_of packet) new);
        in_reach = rw (h.heading_is, h.past_is) (ltb-false _ _ admitted.near);
      }

-- ---- what each answer leaves

module _ (seat : Seat) (packet shelf : List ℕ) (answer : Answer) (a : answer ≡ arrive_answer seat shelf packet) where
  pub arrived_done : (edit : Edit) (next : Seat) → answer ≡ Done edit → next ≡ hand_over seat (heading_of packet) (past_of packet) (barrier_of packet)
      → Arrived seat packet shelf (record { seat = next; answer = answer }) shelf
  arrived_done edit next e n = let is = sym a ∙ e in record { answered = a; next = rw is n; shelf_after_is = rw is }

  pub arrived_shelved : (after : List ℕ) → answer ≡ Shelved → after ≡ laid shelf (lowest_free shelf) (slot_of packet)
      → Arrived seat packet shelf (record { seat = seat; answer = answer }) after
  arrived_shelved after e l = let is = sym a ∙ e in record { answered = a; next = rw is; shelf_after_is = rw is l }

  pub arrived_refused : (refusal : Refusal) → answer ≡ Refused refusal → Arrived seat packet shelf (record { seat = seat; answer = answer }) shelf
  arrived_refused refusal e = let is = sym a ∙ e in record { answered = a; next = rw is; shelf_after_is = rw is }

-- ---- the two refusals before a packet is heard

module _ (seat : Seat) (packet shelf : List ℕ) where
  pub refused_10 : sound_both seat shelf ≡ false → Arrived seat packet shelf (record { seat = seat; answer = Refused NotSound }) shelf
  unfolding arrive_answer arrive_refusals
  refused_10 bad = arrived_refused seat packet shelf _ (sym (refuses NotSound _ _ _ (ap not bad))) NotSound refl

  pub refused_14 : sound_both seat shelf ≡ true → (first_bad_point packet ≡ 0 → ⊥) → Arrived seat packet shelf (record { seat = seat; answer = Refused NotWellFormed }) shelf
  unfolding arrive_answer arrive_refusals
  refused_14 sound bad =
      arrived_refused seat packet shelf _ (sym (goes_on NotSound _ _ _ (ap not sound) ∙ refuses NotWellFormed _ _ _ (ap not (ne_eqb _ _ bad)))) NotWellFormed refl
