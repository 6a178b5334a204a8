-- A seat on whose shelf nothing is ready has handed over exactly the edits that are due; so that answer keeps the
-- invariant.
use mathlib.Core.Path.{refl, sym, ap, subst}
use mathlib.Core.List.Memᴰ
use mathlib.Core.List.{List, ◌∷◌}
use mathlib.Core.Logic.{inl, ⊎_elim}
use Prim.Native.Nat.{ℕ}
use Rattle.session.specs.Events.{Edit, sent, idle, Trace, Needs, Handed, Accepted, Exact, Sent, Prior}
use Rattle.session.specs.Protocol.{Model, Seated, Rests}
use Rattle.session.proofs.Either.{same}
use Rattle.session.proofs.Order.{earlier_in, needs_chain}
use Rattle.session.proofs.OneKind.{one_kind, needs_are_prior}
use Rattle.session.proofs.Kept.{handed_was_sent, after_all_it_needs}
use Rattle.session.proofs.Invariant.{Holds, Invariant, posted_later, counts_still, holds_still, invariant_after}
use Rattle.session.proofs.Answered.{quiet_idle}
use Rattle.session.proofs.Induction.{along_the_order}

module _ (D : Model) {n : ℕ} {seats : ℕ → D.Seat} {packets : List D.Packet} {t : Trace} (I : Invariant D n seats packets t)
    (j : ℕ) (seated : Seated n j) where
  holds : Holds D t j (seats j)
  holds = I.holds j seated

  accepted_was_sent : {e : Edit} → Accepted t j e → Sent t e
  accepted_was_sent {e} a =
      ⊎_elim (λ (w, p). handed_was_sent I.all_new p)
      (λ (m, y, q). (D.kind m, Memᴰ.cast (ap (λ (d : Edit). sent d (D.kind m)) (sym q)) (holds.shelf m y).0.out))
      ((holds.accepts e).0 a)

  -- Accepted with all it needs, the edit is handed over.
  abbrev Due : Edit → Type 0
  Due e = Accepted t j e → ((f : Edit) → Needs t e f → Accepted t j f) → Handed t j e

  due_if_all_before : Rests D (seats j) → (e : Edit) → ((f : Edit) → Prior t f e → Due f) → Due e
  due_if_all_before rests e before a needs =
      ⊎_elim (λ y. y)
      (λ (m, y, q). absurd (rests m y (λ f u. (holds.marks f).1 (all f (subst (λ (d : Edit). Needs t d f) q (((holds.shelf m y).0.waits f).0 u))))))
      ((holds.accepts e).0 a)
    where
      all : (f : Edit) → Needs t e f → Handed t j f
      all f r = before f (needs_are_prior (one_kind t I.all_new) r) (needs f r) (λ g further. needs g (needs_chain r further))

  handed_with_needs : (e f : Edit) → Handed t j e → Needs t e f → Handed t j f
  handed_with_needs e f (w, p) r = let (v, h) = after_all_it_needs I.all_new I.kept p r in (v, (earlier_in h).0)

  resting_seat_is_exact : Rests D (seats j) → Exact t j
  resting_seat_is_exact rests e = (
    λ y. ((holds.accepts e).1 (inl y), λ f r. (holds.accepts f).1 (inl (handed_with_needs e f y r))),
    λ (a, needs). along_the_order Due t I.all_new (λ g s before. due_if_all_before rests g before) e (accepted_was_sent a) a needs,
  )

  -- The invariant holds after a seat was told that nothing is ready.
  pub after_resting : Rests D (seats j) → Invariant D n seats packets (idle j ∷ t)
  after_resting rests =
      invariant_after D {Step = λ a b. Unit {0}} (idle j) I (record { step = tt; others = λ i d. refl }) tt
      (resting_seat_is_exact rests) (λ p q. posted_later D (idle j) tt (I.posted p q))
      (counts_still D (idle j) tt (seats j) (seats j) (λ h. h) (λ _. refl) (λ _. refl) (I.counts j seated))
      (holds_still D (idle j) tt (seats j) (seats j) (quiet_idle j j) (λ _. same) (λ _. same) holds)
