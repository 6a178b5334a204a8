-- An arrival that is put on the shelf keeps the invariant.
use mathlib.Core.Path.{refl, sym, ◌∙◌, ap, subst}
use mathlib.Core.List.{List, ◌∷◌}
use mathlib.Core.Logic.{◌⊎◌, inl, inr, ◌↔◌, ⊎_elim}
use Prim.Native.Nat.{ℕ}
use Rattle.session.specs.Events.{Edit, shelved, Trace, ◌∈◌}
use Rattle.session.specs.Protocol.{Model, Seated, edit, Shelves, Turn}
use Rattle.session.proofs.Either.{◌⨾◌, back, or_never}
use Rattle.session.proofs.Answered.{Hands}
use Rattle.session.proofs.Invariant.{Posted, ShelfFits, Moves, Invariant, posted_later, counts_still, holds_after, invariant_after}

module _ (D : Model) {n : ℕ} {seats seats' : ℕ → D.Seat} {packets : List D.Packet} {t : Trace} (I : Invariant D n seats packets t)
    (j : ℕ) (m : D.Packet) (seated : Seated n j) (mail : m ∈ packets) (turn : Turn D j (Shelves D m) seats seats') where
  step : Shelves D m (seats j) (seats' j)
  step = turn.step

  marks_stay : (e : Edit) → D.Marked (seats' j) e ↔ (D.Marked (seats j) e ⊎ Hands (shelved j (edit D m)) j e)
  marks_stay e = step.marks_after e ⨾ back (or_never (λ h. h))

  -- what was on the shelf, and the packet that came to it
  shelf_fits : ShelfFits D t (seats' j)
  shelf_fits p y = ⊎_elim old_fits (λ is. subst Fits (sym is) new_fits) ((step.shelf_after_is p).0 y)
    where
      Fits : D.Packet → Type 0
      Fits d = Posted D t d × (¬ D.Marked (seats' j) (edit D d))

      old_fits : D.OnShelf (seats j) p → Fits p
      old_fits on = let (out, fresh) = (I.holds j seated).shelf p on in (out, λ z. fresh ((step.marks_after (edit D p)).0 z))

      new_fits : Fits m
      new_fits = (I.posted m mail, λ z. step.not_marked ((step.marks_after (edit D m)).0 z))

  moves : Moves D (shelved j (edit D m)) j (seats j) (seats' j)
  moves e = (
    ⊎_elim (λ (p, y, q). inr (p, (step.shelf_after_is p).1 (inl y), q)) (λ (_, q). inr (m, (step.shelf_after_is m).1 (inr refl), sym q)),
    ⊎_elim absurd (λ (p, y, q). ⊎_elim (λ on. inl (p, on, q)) (λ is. inr (refl, sym q ∙ ap (edit D) is)) ((step.shelf_after_is p).0 y)),
  )

  -- The invariant holds after an arrival that is shelved.
  pub after_shelving : Invariant D n seats' packets (shelved j (edit D m) ∷ t)
  after_shelving =
      invariant_after D (shelved j (edit D m)) I turn tt tt (λ p q. posted_later D (shelved j (edit D m)) tt (I.posted p q))
      (counts_still D (shelved j (edit D m)) tt (seats j) (seats' j) (λ h. h) step.past_after step.barrier_after_is (I.counts j seated))
      (holds_after D (shelved j (edit D m)) tt (seats j) (seats' j) marks_stay shelf_fits moves (I.holds j seated))
