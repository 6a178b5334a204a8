-- Demand 3, of every session of every library that has the laws.
use mathlib.Core.List.{List, ◌∷◌, ◌++◌}
use mathlib.Core.Logic.{◌↔◌}
use Prim.Native.Nat.{ℕ}
use Rattle.session.specs.Events.{Way, Edit, handed, idle, Trace, ◌∈◌, Earlier, Needs, Exact, Throughout, Kept, Sent}
use Rattle.session.specs.Protocol.{Model}
use Rattle.session.specs.Library.{Library, Session}
use Rattle.session.proofs.Order.{New, needs_settled_by_later}
use Rattle.session.proofs.Kept.{at_most_once, after_all_it_needs, exact_when_idle}
use Rattle.session.proofs.Runs.{run_invariant}
use Rattle.session.proofs.Calls.{session_is_a_run}

module _ (D : Model) (library : Library D) {n : ℕ} {seats : ℕ → D.Seat} {packets : List D.Packet} where
  every_event_is_new : {t : Trace} → Session D library n seats packets t → Throughout New t
  every_event_is_new session = (run_invariant D (session_is_a_run D library session)).all_new

  -- Demand 3.
  pub session_keeps_demand_3 : {t : Trace} → Session D library n seats packets t → Kept t
  session_keeps_demand_3 session = (run_invariant D (session_is_a_run D library session)).kept

  -- A seat hands over each edit at most once.
  pub handed_over_at_most_once : {t : Trace} → Session D library n seats packets t
      → (w v : Way) (j : ℕ) (e : Edit) → ¬ Earlier (handed w j e) (handed v j e) t
  handed_over_at_most_once session w v j e = at_most_once w v j e (session_keeps_demand_3 session)

  -- A seat hands over each edit after all it needs.
  pub handed_over_after_all_it_needs : {t : Trace} → Session D library n seats packets t
      → {w : Way} {j : ℕ} {e f : Edit} → handed w j e ∈ t → Needs t e f → (v : Way) × Earlier (handed v j f) (handed w j e) t
  handed_over_after_all_it_needs session = after_all_it_needs (every_event_is_new session) (session_keeps_demand_3 session)

  -- Whenever a seat is told that nothing on its shelf is ready, it has handed over exactly the accepted edits whose
  -- every needed edit it has accepted.
  pub exact_when_nothing_is_ready : (later : Trace) {t : Trace} (j : ℕ) → Session D library n seats packets (later ++ (idle j ∷ t)) → Exact t j
  exact_when_nothing_is_ready later j session = exact_when_idle later j (session_keeps_demand_3 session)

  -- What a sent edit needs is settled: no later event changes it.
  pub needs_are_settled : (later : Trace) {t : Trace} {e f : Edit} → Session D library n seats packets (later ++ t)
      → Sent t e → Needs (later ++ t) e f ↔ Needs t e f
  needs_are_settled later session = needs_settled_by_later later (every_event_is_new session)
