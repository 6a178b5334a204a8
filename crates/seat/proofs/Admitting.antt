-- Each answer to a packet that passed refusals 10 to 18, and to one that passed 10 and 14.
use Prim.Native.Nat.{ℕ}
use mathlib.Core.Path.{◌≡◌, refl, sym, ap, ◌∙◌}
use mathlib.Core.Bool.{Bool, true, false, cond, not}
use mathlib.Core.List.{List, [], ◌∷◌}
use mathlib.Core.Logic.{◌⊎◌, inl, inr, ⊎_elim}
use lib.Dec.{eqb}
use native.Mathlib.Omega.{arith}
use borrow.Author.Tests.{eq-eqb, ne_eqb, eqb-true, eqb-false, not-false}
use Rattle.answers.specs.Answers.{first_of}
use Rattle.answers.specs.declared.Edit.{Edit}
use Rattle.answers.specs.declared.Refusal.TheVariants.{OtherSession, AboveOwnCount, Repeated, TooFarAhead, ShelfFull, BarrierAbovePast}
use Rattle.answers.specs.declared.Answer.{Answer}
use Rattle.answers.specs.declared.Answer.TheVariants.{Done, Shelved, Refused}
use Rattle.answers.proofs.InOrder.{NoRefusal, done_is_no_refusal, shelved_is_no_refusal, refuses, goes_on, passed, none_left}
use Rattle.vectors.specs.Vectors.{entry}
use Rattle.packet.specs.declared.Heading.{Heading}
use Rattle.shelf.specs.Shelf.{slots, lowest_free}
use Rattle.seat.specs.Stock.{other_session, above_own_count, too_far_ahead}
use Rattle.seat.specs.HandingOver.{ready, barrier_above_past}
use Rattle.seat.specs.Arriving.{admission_refusals, ready_answer, wait_answer, admitted_answer}
use Rattle.seat.specs.declared.Seat.{Seat}

module _ (seat : Seat) (shelf : List ℕ) (heading : Heading) (past barrier : List ℕ) (edit : Edit) where
  abbrev answer : Answer
  answer = admitted_answer seat shelf heading past barrier edit

  pub ready_refused : ready seat barrier ≡ true → barrier_above_past seat heading past barrier ≡ true → answer ≡ Refused BarrierAbovePast
  unfolding admitted_answer ready_answer
  ready_refused is_ready above = rw is_ready (refuses BarrierAbovePast [] _ _ above)

  pub ready_done : ready seat barrier ≡ true → barrier_above_past seat heading past barrier ≡ false → answer ≡ Done edit
  unfolding admitted_answer ready_answer
  ready_done is_ready within = rw is_ready (goes_on BarrierAbovePast [] _ _ within ∙ none_left _)

  pub wait_refused : ready seat barrier ≡ false → lowest_free shelf ≡ slots shelf → answer ≡ Refused ShelfFull
  unfolding admitted_answer wait_answer
  wait_refused waits full = rw waits (refuses ShelfFull [] _ _ (eq-eqb _ _ full))

  pub wait_shelved : ready seat barrier ≡ false → (lowest_free shelf ≡ slots shelf → ⊥) → answer ≡ Shelved
  unfolding admitted_answer wait_answer
  wait_shelved waits free = rw waits (goes_on ShelfFull [] _ _ (ne_eqb _ _ free) ∙ none_left _)

-- a packet that passed refusals 15 to 18
pub record Admission (seat : Seat) (heading : Heading) (past : List ℕ) (repeated : Bool) : Type 0 where
  pub same : heading.n ≡ seat.n
  pub own : above_own_count seat past ≡ false
  pub new : repeated ≡ false
  pub near : too_far_ahead seat heading.sender (entry past heading.sender) ≡ false

module _ (seat : Seat) (heading : Heading) (past : List ℕ) (repeated : Bool) (done : Answer) where
  abbrev judgement : Answer
  judgement = first_of (admission_refusals seat heading past repeated) done

  pub refused_15 : (heading.n ≡ seat.n → ⊥) → judgement ≡ Refused OtherSession
  unfolding admission_refusals
  refused_15 other = refuses OtherSession _ done _ (ap not (ne_eqb _ _ other))

  -- past refusal 15
  same_session : heading.n ≡ seat.n → other_session seat heading ≡ false
  same_session same = ap not (eq-eqb _ _ same)

  pub refused_16 : heading.n ≡ seat.n → above_own_count seat past ≡ true → judgement ≡ Refused AboveOwnCount
  unfolding admission_refusals
  refused_16 same above = goes_on OtherSession _ done _ (same_session same) ∙ refuses AboveOwnCount _ done _ above

  pub refused_17 : heading.n ≡ seat.n → above_own_count seat past ≡ false → repeated ≡ true → judgement ≡ Refused Repeated
  unfolding admission_refusals
  refused_17 same own again = goes_on OtherSession _ done _ (same_session same) ∙ goes_on AboveOwnCount _ done _ own ∙ refuses Repeated _ done _ again

  -- past refusal 17
  so_far : heading.n ≡ seat.n → above_own_count seat past ≡ false → repeated ≡ false
      → judgement ≡ first_of ((TooFarAhead, too_far_ahead seat heading.sender (entry past heading.sender)) ∷ []) done
  unfolding admission_refusals
  so_far same own new = goes_on OtherSession _ done _ (same_session same) ∙ goes_on AboveOwnCount _ done _ own ∙ goes_on Repeated _ done _ new

  pub refused_18 : heading.n ≡ seat.n → above_own_count seat past ≡ false → repeated ≡ false
      → too_far_ahead seat heading.sender (entry past heading.sender) ≡ true → judgement ≡ Refused TooFarAhead
  refused_18 same own new far = so_far same own new ∙ refuses TooFarAhead [] done _ far

  pub passes_all : heading.n ≡ seat.n → above_own_count seat past ≡ false → repeated ≡ false
      → too_far_ahead seat heading.sender (entry past heading.sender) ≡ false → judgement ≡ done
  passes_all same own new near = so_far same own new ∙ goes_on TooFarAhead [] done _ near ∙ none_left done

  -- what an answer that is no refusal tells
  pub admission_passed : (answer : Answer) → judgement ≡ answer → NoRefusal answer → Admission seat heading past repeated × (done ≡ answer)
  unfolding admission_refusals
  admission_passed answer e none =
      let p15 = passed OtherSession _ done _ answer e (none OtherSession) in
      let p16 = passed AboveOwnCount _ done _ answer p15.1 (none AboveOwnCount) in
      let p17 = passed Repeated _ done _ answer p16.1 (none Repeated) in
      let p18 = passed TooFarAhead _ done _ answer p17.1 (none TooFarAhead) in (
        record { same = eqb-true _ _ (not-false _ p15.0); own = p16.0; new = p17.0; near = p18.0 },
        sym (none_left done) ∙ p18.1,
      )

done_or_shelved : (is_ready : Bool) (above full : Bool) (edit : Edit) (answer : Answer)
    → cond is_ready (first_of ((BarrierAbovePast, above) ∷ []) (Done edit)) (first_of ((ShelfFull, full) ∷ []) Shelved) ≡ answer → NoRefusal answer
    → ((is_ready ≡ true) × (above ≡ false) × (Done edit ≡ answer)) ⊎ ((is_ready ≡ false) × (full ≡ false) × (Shelved ≡ answer))
done_or_shelved true above full edit answer e none =
    let p = passed BarrierAbovePast [] (Done edit) above answer e (none BarrierAbovePast) in
    inl (refl, p.0, sym (none_left (Done edit)) ∙ p.1)
done_or_shelved false above full edit answer e none =
    let p = passed ShelfFull [] Shelved full answer e (none ShelfFull) in
    inr (refl, p.0, sym (none_left Shelved) ∙ p.1)

done_not_shelved : (edit : Edit) → Done edit ≡ Shelved → ⊥
done_not_shelved edit e = let z : ◌≡◌ {A = ℕ} 0 1 = cc in omega arith

module _ (seat : Seat) (shelf : List ℕ) (heading : Heading) (past barrier : List ℕ) (edit : Edit) where
  pub done_tells : (told : Edit) → admitted_answer seat shelf heading past barrier edit ≡ Done told
      → (ready seat barrier ≡ true) × (barrier_above_past seat heading past barrier ≡ false) × (edit ≡ told)
  unfolding admitted_answer ready_answer wait_answer
  done_tells told e =
      ⊎_elim (λ (d : (_ ≡ true) × (_ ≡ false) × (Done edit ≡ Done told)). let same : Done edit ≡ Done told = d.2 in (d.0, d.1, cc))
      (λ (s : (_ ≡ false) × (_ ≡ false) × (Shelved ≡ Done told)). absurd (done_not_shelved told (sym s.2)))
      (done_or_shelved (ready seat barrier) (barrier_above_past seat heading past barrier) (eqb (lowest_free shelf) (slots shelf)) edit (Done told) e (done_is_no_refusal told))

  pub shelved_tells : admitted_answer seat shelf heading past barrier edit ≡ Shelved → (ready seat barrier ≡ false) × (lowest_free shelf ≡ slots shelf → ⊥)
  unfolding admitted_answer ready_answer wait_answer
  shelved_tells e =
      ⊎_elim (λ (d : (_ ≡ true) × (_ ≡ false) × (Done edit ≡ Shelved)). absurd (done_not_shelved edit d.2))
      (λ (s : (ready seat barrier ≡ false) × (eqb (lowest_free shelf) (slots shelf) ≡ false) × (Shelved ≡ Shelved)). (s.0, eqb-false _ _ s.1))
      (done_or_shelved (ready seat barrier) (barrier_above_past seat heading past barrier) (eqb (lowest_free shelf) (slots shelf)) edit Shelved e shelved_is_no_refusal)
