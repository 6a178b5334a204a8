-- The invariant holds throughout every run: at the start, and after each step.
use mathlib.Core.List.Memᴰ
use mathlib.Core.List.{List, []}
use mathlib.Core.Logic.{⊎_elim}
use Prim.Native.Nat.{ℕ}
use Rattle.session.specs.Events.{Trace}
use Rattle.session.specs.Protocol.{Model, Seated, Fresh, Run, opened, sends, takes, shelves, releases, rests}
use Rattle.session.proofs.Covering.{covered_by_none}
use Rattle.session.proofs.Invariant.{Invariant}
use Rattle.session.proofs.Sending.{after_sending}
use Rattle.session.proofs.HandingOver.{after_taking, after_releasing}
use Rattle.session.proofs.Shelving.{after_shelving}
use Rattle.session.proofs.Due.{after_resting}

module _ (D : Model) where
  open D use {Packet, Seat}

  at_the_start : {n : ℕ} (seats : ℕ → Seat) → ((j : ℕ) → Seated n j → Fresh D (seats j)) → Invariant D n seats [] []
  at_the_start seats fresh = record {
    all_new = tt;
    kept = tt;
    posted = λ m p. absurd (Memᴰ.not-nil p);
    counts = λ j s. record {
      knows = λ e. (λ u. absurd (covered_by_none e (fresh j s).no_past u), λ c. absurd (Memᴰ.not-nil c.1.1));
      owes = λ e. (λ u. absurd (covered_by_none e (fresh j s).no_barrier u), λ c. absurd (Memᴰ.not-nil c.1.1));
    };
    holds = λ j s. record {
      marks = λ e. (λ u. absurd ((fresh j s).none_marked e u), λ h. absurd (Memᴰ.not-nil h.1));
      shelf = λ m y. absurd ((fresh j s).none_shelved m y);
      accepts = λ e. (
        ⊎_elim (λ p. absurd (Memᴰ.not-nil p)) (λ p. absurd (Memᴰ.not-nil p)),
        ⊎_elim (λ h. absurd (Memᴰ.not-nil h.1)) (λ w. absurd ((fresh j s).none_shelved w.0 w.1)),
      );
    };
  }

  -- The invariant holds of every run.
  pub run_invariant : {n : ℕ} {seats : ℕ → Seat} {packets : List Packet} {t : Trace} → Run D n seats packets t → Invariant D n seats packets t
  run_invariant (opened {seats} fresh) = at_the_start seats fresh
  run_invariant (sends m run seated turn) = after_sending D (run_invariant run) m seated turn
  run_invariant (takes j m run seated mail turn) = after_taking D (run_invariant run) j m seated mail turn
  run_invariant (shelves j m run seated mail turn) = after_shelving D (run_invariant run) j m seated mail turn
  run_invariant (releases j m run seated turn) = after_releasing D (run_invariant run) j m seated turn
  run_invariant (rests j run seated rest) = after_resting D (run_invariant run) j seated rest
