-- A seat has counted every edit of its own that any packet speaks of: no packet sent is ahead of its own past.
use mathlib.Core.Path.{◌≡◌, refl, sym, ap}
use mathlib.Core.List.Memᴰ
use mathlib.Core.List.{List}
use mathlib.Core.Logic.{inl, ⊎_elim}
use Prim.Native.Nat.{ℕ, ◌≤◌}
use Rattle.session.specs.Events.{Edit, sent, Trace, ◌∈◌, Sent}
use Rattle.session.specs.Protocol.{Model, Covered, Seated, edit, Run}
use Rattle.session.proofs.Order.{before_in}
use Rattle.session.proofs.Knowledge.{Knows}
use Rattle.session.proofs.Covering.{within_at}
use Rattle.session.proofs.Invariant.{Posted, Invariant}
use Rattle.session.proofs.Runs.{run_invariant}

module _ (D : Model) {n : ℕ} {seats : ℕ → D.Seat} {packets : List D.Packet} {t : Trace} (run : Run D n seats packets t) where
  I : Invariant D n seats packets t
  I = run_invariant D run

  -- what a packet's past covers was sent
  covered_was_sent : {m : D.Packet} {e : Edit} → Posted D t m → Covered e (D.pastₘ m) → Sent t e
  covered_was_sent {m} {e} posted u = ⊎_elim same (λ (k, l, b). (k, (before_in b).0)) ((posted.covers e).0 u)
    where
      same : e ≡ edit D m → Sent t e
      same q = (D.kind m, Memᴰ.cast (ap (λ (d : Edit). sent d (D.kind m)) q) posted.out)

  -- what a seat sent, it knows
  own_is_known : {j : ℕ} {e : Edit} → e.by ≡ j → Sent t e → Knows t j e
  own_is_known {e = e} own (k, p) = (k, (sent e k, p, sym own, inl refl))

  -- A packet counts at a seat no more of that seat's edits than the seat does.
  pub own_edits_are_counted : (m : D.Packet) → m ∈ packets → (j : ℕ) → Seated n j → D.pastₘ m j ≤ D.past (seats j) j
  own_edits_are_counted m mail j seated =
      within_at (D.pastₘ m) (D.past (seats j)) j
      (λ e own u. ((I.counts j seated).knows e).1 (own_is_known own (covered_was_sent (I.posted m mail) u)))
