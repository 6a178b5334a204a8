-- Demand 3, of every session of the library.
use mathlib.Core.List.{List, ◌∷◌, ◌++◌}
use mathlib.Core.Logic.{◌↔◌}
use Prim.Native.Nat.{ℕ}
use Rattle.session.specs.Events.{Way, Edit, handed, idle, Trace, ◌∈◌, Earlier, Needs, Exact, Throughout, Kept, Sent}
use Rattle.session.proofs.Order.{New, needs_settled_by_later}
use Rattle.session.proofs.Kept.{at_most_once, after_all_it_needs, exact_when_idle}
use Rattle.session.proofs.Runs.{run_invariant}
use Rattle.seat.proofs.SteppingSound.{SoundPlace}
use Rattle.session.specs.Protocol.{Seated}
use Rattle.promises.specs.Demand3.{Place, Letter, Session, Demand3}
use Rattle.promises.proofs.Model.{model}
use Rattle.promises.proofs.Runs.{session_goes}

module _ {n : ℕ} {places : ℕ → Place} {letters : List Letter} where
  -- Demand 3.
  pub demand_3 : {trace : Trace} → Session n places letters trace → Kept trace
  demand_3 session = (run_invariant model (session_goes session).run).kept

  every_event_is_new : {trace : Trace} → Session n places letters trace → Throughout New trace
  every_event_is_new session = (run_invariant model (session_goes session).run).all_new

  -- A seat hands over each edit at most once.
  pub handed_over_at_most_once : {trace : Trace} → Session n places letters trace
      → (way other : Way) (j : ℕ) (e : Edit) → ¬ Earlier (handed way j e) (handed other j e) trace
  handed_over_at_most_once session way other j e = at_most_once way other j e (demand_3 session)

  -- A seat hands over each edit after all it needs.
  pub handed_over_after_all_it_needs : {trace : Trace} → Session n places letters trace → {way : Way} {j : ℕ} {e f : Edit}
      → handed way j e ∈ trace → Needs trace e f → (other : Way) × Earlier (handed other j f) (handed way j e) trace
  handed_over_after_all_it_needs session = after_all_it_needs (every_event_is_new session) (demand_3 session)

  -- Whenever a seat is told that nothing on its shelf is ready, it has handed over exactly the accepted edits whose
  -- every needed edit it has accepted.
  pub exact_when_nothing_is_ready : (later : Trace) {trace : Trace} (j : ℕ) → Session n places letters (later ++ (idle j ∷ trace)) → Exact trace j
  exact_when_nothing_is_ready later j session = exact_when_idle later j (demand_3 session)

  -- What a sent edit needs is settled: no later event changes it.
  pub needs_are_settled : (later : Trace) {trace : Trace} {e f : Edit} → Session n places letters (later ++ trace)
      → Sent trace e → Needs (later ++ trace) e f ↔ Needs trace e f
  needs_are_settled later session = needs_settled_by_later later (every_event_is_new session)

  -- Throughout a session every seat's state and shelf are sound, so no step of it is refused with 10.
  pub every_place_is_sound : {trace : Trace} → Session n places letters trace → (j : ℕ) → Seated n j → SoundPlace (places j).seat (places j).shelf
  every_place_is_sound session j seated = ((session_goes session).placed j seated).sound

pub demand_3_holds : Demand3
demand_3_holds n places letters trace session = demand_3 session
