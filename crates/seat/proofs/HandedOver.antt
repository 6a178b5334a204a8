-- The state after handing over, entry by entry: the sender's window takes the edit's number and the other windows stay,
-- past and barrier are raised, and nothing falls.
use Prim.Native.Nat.{ℕ, ◌-◌, ◌≤◌}
use mathlib.Core.Path.{◌≡◌, refl, ap}
use mathlib.Core.Bool.{Bool, not}
use mathlib.Core.List.{List}
use native.Mathlib.Decide.{ℕ_discrete, dec_lt}
use native.Mathlib.Nat.{le-max_left}
use native.Mathlib.Omega.{arith}
use lib.ListN.{length, get_or, set, get_or-eq_default}
use lib.Seq.{get_or-set_same, get_or-set_other}
use Rattle.vectors.specs.Vectors.{entry, within, maxes}
use Rattle.vectors.proofs.Tests.{maxes_at}
use Rattle.window.specs.Window.{handed_over}
use Rattle.window.specs.declared.Window.{Window}
use Rattle.window.proofs.Handed as window
use Rattle.packet.specs.declared.Heading.{Heading}
use Rattle.seat.specs.State.{window_at, Held}
use Rattle.seat.specs.HandingOver.{raised_by, next_window, hand_over, barrier_above_past}
use Rattle.seat.specs.declared.Seat.{Seat}

-- the state that is built of its parts
pub handed_over_is : (seat : Seat) (heading : Heading) (past barrier raised next_past next-barrier : List ℕ) (moved : Window) → raised ≡ raised_by heading.kind past barrier
    → moved ≡ next_window seat heading.sender past → next_past ≡ maxes seat.past past → next-barrier ≡ maxes seat.barrier raised
    → ◌≡◌ {A = Seat}
    (record {
      n = seat.n;
      own = seat.own;
      past = next_past;
      barrier = next-barrier;
      run = set seat.run (heading.sender.0 - 1) moved.run;
      ahead = set seat.ahead (heading.sender.0 - 1) moved.ahead;
    })
    (hand_over seat heading past barrier)
unfolding hand_over
handed_over_is seat heading past barrier raised next_past next-barrier moved is-raised is-moved is-past is-barrier = rw (is-past, is-barrier, is-raised, is-moved)

-- the test of the raised vectors
pub barrier_above_past_is : (seat : Seat) (heading : Heading) (past barrier raised next-barrier next_past : List ℕ) (ok : Bool) → raised ≡ raised_by heading.kind past barrier
    → next-barrier ≡ maxes seat.barrier raised → next_past ≡ maxes seat.past past → ok ≡ within next-barrier next_past
    → not ok ≡ barrier_above_past seat heading past barrier
barrier_above_past_is seat heading past barrier raised next-barrier next_past ok is-raised is-barrier is-past is_ok = rw (is_ok, is-barrier, is-raised, is-past)

-- a raised vector is nowhere below what it was
raised_is_not_below : (v w : List ℕ) → length v ≡ 16 → (k : ℕ) → get_or v k 0 ≤ get_or (maxes v w) k 0
raised_is_not_below v w long k =
    elim (dec_lt k 16) [
      | yes inside ↦ omega (arith, maxes_at v w k inside, le-max_left (get_or v k 0) (get_or w k 0))
      | no above ↦ omega (arith, get_or-eq_default v 0 {n = k} (omega arith))
    ]

module _ (seat : Seat) (heading : Heading) (past barrier : List ℕ) where
  pub handing_over_keeps_seats : (hand_over seat heading past barrier).n ≡ seat.n
  unfolding hand_over
  handing_over_keeps_seats = refl

  pub handing_over_keeps_own : (hand_over seat heading past barrier).own ≡ seat.own
  unfolding hand_over
  handing_over_keeps_own = refl

  pub handing_over_raises_past : (hand_over seat heading past barrier).past ≡ maxes seat.past past
  unfolding hand_over
  handing_over_raises_past = refl

  pub handing_over_raises_barrier : (hand_over seat heading past barrier).barrier ≡ maxes seat.barrier (raised_by heading.kind past barrier)
  unfolding hand_over
  handing_over_raises_barrier = refl

  pub other_windows_stay : (k : ℕ) → (k ≡ heading.sender.0 - 1 → ⊥) → window_at (hand_over seat heading past barrier) k ≡ window_at seat k
  unfolding hand_over
  other_windows_stay k other =
      let at = heading.sender.0 - 1 in
      let moved = next_window seat heading.sender past in
      let run : get_or (set seat.run at moved.run) k 0 ≡ get_or seat.run k 0 = get_or-set_other seat.run at k moved.run 0 other in
      let ahead : get_or (set seat.ahead at moved.ahead) k 0 ≡ get_or seat.ahead k 0 = get_or-set_other seat.ahead at k moved.ahead 0 other in
      (λ i. record { run = run i; ahead = ahead i })

  module _ (held : Held seat) where
    pub past_does_not_fall : (k : ℕ) → get_or seat.past k 0 ≤ get_or (hand_over seat heading past barrier).past k 0
    unfolding hand_over
    past_does_not_fall k = raised_is_not_below seat.past past held.past_long k

    pub barrier_does_not_fall : (k : ℕ) → get_or seat.barrier k 0 ≤ get_or (hand_over seat heading past barrier).barrier k 0
    unfolding hand_over
    barrier_does_not_fall k = raised_is_not_below seat.barrier (raised_by heading.kind past barrier) held.barrier_long k

    module _ (low : 1 ≤ heading.sender.0) (high : heading.sender.0 ≤ 16) where
      pub senders_window_takes_the_number :
          window_at (hand_over seat heading past barrier) (heading.sender.0 - 1) ≡ handed_over (window_at seat (heading.sender.0 - 1)) (entry past heading.sender)
      unfolding hand_over
      senders_window_takes_the_number =
          let at = heading.sender.0 - 1 in
          let moved = next_window seat heading.sender past in
          let run : get_or (set seat.run at moved.run) at 0 ≡ moved.run = get_or-set_same seat.run at moved.run 0 (omega (arith, held.run_long)) in
          let ahead : get_or (set seat.ahead at moved.ahead) at 0 ≡ moved.ahead = get_or-set_same seat.ahead at moved.ahead 0 (omega (arith, held.ahead_long)) in
          (λ i. record { run = run i; ahead = ahead i })

      pub run_does_not_fall : (k : ℕ) → get_or seat.run k 0 ≤ get_or (hand_over seat heading past barrier).run k 0
      run_does_not_fall k =
          elim (ℕ_discrete k (heading.sender.0 - 1)) [
            | yes here ↦ rw (here, ap (λ (w : Window). w.run) senders_window_takes_the_number)
                (window.run_does_not_fall (window_at seat (heading.sender.0 - 1)) (entry past heading.sender))
            | no other ↦ omega (arith, ap (λ (w : Window). w.run) (other_windows_stay k other))
          ]
