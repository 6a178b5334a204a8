-- What each answer to an arrival tells, whatever the packet.
use Prim.Native.Nat.{ℕ, ◌<◌}
use mathlib.Core.Path.{◌≡◌, refl}
use mathlib.Core.Bool.{Bool, true, false, cond, ◌||◌, true≢false}
use mathlib.Core.List.{List, [], ◌∷◌}
use native.Mathlib.Omega.{arith}
use lib.Arith.{lt_of_le-ne}
use lib.Dec.{eqb}
use Rattle.std.proofs.lemmas.Bool.{eqb-true, ltb-false, not-false, and_parts}
use Rattle.answers.specs.Answers.{first_of}
use Rattle.answers.specs.declared.Edit.{Edit}
use Rattle.answers.specs.declared.Refusal.{Refusal}
use Rattle.answers.specs.declared.Refusal.TheVariants.{NotSound, NotWellFormed, ShelfFull, BarrierAbovePast}
use Rattle.answers.specs.declared.Answer.{Answer}
use Rattle.answers.specs.declared.Answer.TheVariants.{Opened, Done, Shelved, NothingReady, Refused}
use Rattle.answers.proofs.InOrder.{NoRefusal, done_is_no_refusal, shelved_is_no_refusal, idle_is_no_refusal, opened_is_no_refusal, passed}
use Rattle.packet.specs.Packet.{sender_of, past_of, barrier_of, first_bad_point}
use Rattle.shelf.specs.Shelf.{slots, is_free, lowest_free}
use Rattle.shelf.proofs.Lowest.{lowest_is_lowest}
use Rattle.seat.specs.State.{sound_state}
use Rattle.seat.specs.Stock.{number_of, is_handed, on_shelf, sound_shelf, Passing}
use Rattle.seat.specs.HandingOver.{ready, barrier_above_past}
use Rattle.seat.specs.Arriving.{heading_of, repeats, arrive_refusals, edit_handed, ready_answer, wait_answer, admitted_answer, arrive_answer}
use Rattle.seat.specs.declared.Seat.{Seat}
use Rattle.seat.proofs.Admitting.{admission_passed, done_tells, shelved_tells}

-- A packet that passed refusals 10 to 18.
pub record Admitted (seat : Seat) (shelf packet : List ℕ) : Type 0 where
  pub sound : sound_state seat ≡ true
  pub shelf_sound : sound_shelf seat shelf ≡ true
  pub passing : Passing seat packet
  pub not_on_shelf : on_shelf shelf (sender_of packet) (number_of packet) ≡ false

-- It is handed over.
pub record ArrivalDone (seat : Seat) (shelf packet : List ℕ) (edit : Edit) : Type 0 where
  pub admitted : Admitted seat shelf packet
  pub is_ready : ready seat (barrier_of packet) ≡ true
  pub barrier_stays : barrier_above_past seat (heading_of packet) (past_of packet) (barrier_of packet) ≡ false
  pub edit_is : edit_handed packet ≡ edit

-- It is put on the shelf.
pub record ArrivalShelved (seat : Seat) (shelf packet : List ℕ) : Type 0 where
  pub admitted : Admitted seat shelf packet
  pub waits : ready seat (barrier_of packet) ≡ false
  pub there : lowest_free shelf < slots shelf
  pub free : is_free shelf (lowest_free shelf) ≡ true

-- What each answer tells. An arrival gives no others.
pub data ArrivalTold (seat : Seat) (shelf packet : List ℕ) : Answer → Type 0 where
  done : (edit : Edit) → ArrivalDone seat shelf packet edit → ArrivalTold seat shelf packet (Done edit)
  shelved : ArrivalShelved seat shelf packet → ArrivalTold seat shelf packet Shelved
  refused : (refusal : Refusal) → ArrivalTold seat shelf packet (Refused refusal)

or_neither : (a b : Bool) → (a || b) ≡ false → (a ≡ false) × (b ≡ false)
or_neither true b e = absurd (true≢false e)
or_neither false b e = (refl, e)

done_or_shelved : (is_ready above full : Bool) (edit : Edit) (answer : Answer)
    → cond is_ready (first_of ((BarrierAbovePast, above) ∷ []) (Done edit)) (first_of ((ShelfFull, full) ∷ []) Shelved) ≡ answer → NoRefusal answer
    → (Done edit ≡ answer → ⊥) → (Shelved ≡ answer → ⊥) → ⊥
unfolding first_of
done_or_shelved true true full edit answer e none not_done not_shelved = none BarrierAbovePast e
done_or_shelved true false full edit answer e none not_done not_shelved = not_done e
done_or_shelved false above true edit answer e none not_done not_shelved = none ShelfFull e
done_or_shelved false above false edit answer e none not_done not_shelved = not_shelved e

module _ (seat : Seat) (shelf packet : List ℕ) where
  abbrev judged : Answer
  judged = admitted_answer seat shelf (heading_of packet) (past_of packet) (barrier_of packet) (edit_handed packet)

  -- an answer that is no refusal comes from a packet that passed
  passed_all : (answer : Answer) → arrive_answer seat shelf packet ≡ answer → NoRefusal answer → Admitted seat shelf packet × (judged ≡ answer)
  unfolding arrive_answer arrive_refusals
  passed_all answer e none =
      let p10 = passed NotSound _ judged _ answer e (none NotSound) in
      let p14 = passed NotWellFormed _ judged _ answer p10.1 (none NotWellFormed) in
      let rest = admission_passed seat (heading_of packet) (past_of packet) (repeats seat shelf packet) judged answer p14.1 none in
      let sound = and_parts (sound_state seat) (sound_shelf seat shelf) (not-false _ p10.0) in
      let new = or_neither (is_handed seat (sender_of packet) (number_of packet)) (on_shelf shelf (sender_of packet) (number_of packet)) rest.0.new in (
        record {
          sound = sound.0;
          shelf_sound = sound.1;
          passing = record {
            is_well_formed = eqb-true (first_bad_point packet) 0 (not-false _ p14.0);
            same_session = rest.0.same;
            within_own_count = ltb-false _ _ rest.0.own;
            not_handed = new.0;
            near = ltb-false _ _ rest.0.near;
          };
          not_on_shelf = new.1;
        },
        rest.1,
      )

  never_other : (answer : Answer) → arrive_answer seat shelf packet ≡ answer → NoRefusal answer → ((edit : Edit) → Done edit ≡ answer → ⊥) → (Shelved ≡ answer → ⊥) → ⊥
  unfolding admitted_answer ready_answer wait_answer
  never_other answer e none not_done not_shelved =
      done_or_shelved (ready seat (barrier_of packet)) (barrier_above_past seat (heading_of packet) (past_of packet) (barrier_of packet)) (eqb (lowest_free shelf) (slots shelf))
      (edit_handed packet) answer (passed_all answer e none).1 none (not_done (edit_handed packet)) not_shelved

  pub arrival_tells : (answer : Answer) → arrive_answer seat shelf packet ≡ answer → ArrivalTold seat shelf packet answer
  arrival_tells (Done edit) e =
      let so = passed_all (Done edit) e (done_is_no_refusal edit) in
      let told = done_tells seat shelf (heading_of packet) (past_of packet) (barrier_of packet) (edit_handed packet) edit so.1 in
      done edit (record { admitted = so.0; is_ready = told.0; barrier_stays = told.1; edit_is = told.2 })
  arrival_tells Shelved e =
      let so = passed_all Shelved e shelved_is_no_refusal in
      let told = shelved_tells seat shelf (heading_of packet) (past_of packet) (barrier_of packet) (edit_handed packet) so.1 in
      let first = lowest_is_lowest (slots shelf) (is_free shelf) in
      let there = lt_of_le-ne first.most told.1 in
      shelved (record { admitted = so.0; waits = told.0; there = there; free = first.holds there })
  arrival_tells (Refused refusal) e = refused refusal
  arrival_tells Opened e =
      absurd (never_other Opened e opened_is_no_refusal (λ edit c. let z : ◌≡◌ {A = ℕ} 0 1 = cc in omega arith) (λ c. let z : ◌≡◌ {A = ℕ} 0 1 = cc in omega arith))
  arrival_tells NothingReady e =
      absurd (never_other NothingReady e idle_is_no_refusal (λ edit c. let z : ◌≡◌ {A = ℕ} 0 1 = cc in omega arith) (λ c. let z : ◌≡◌ {A = ℕ} 0 1 = cc in omega arith))
