-- Lines 5 to 10: handing a packet over, on its arrival or on a release, keeps the invariant.
use mathlib.Core.Path.{◌≡◌, refl, sym, ◌∙◌}
use mathlib.Core.List.{List, ◌∷◌}
use mathlib.Core.Logic.{◌⊎◌, inl, inr, ◌↔◌, ◌≢◌, ⊎_elim}
use Prim.Native.Nat.{ℕ}
use native.Mathlib.Omega.{arith}
use Rattle.session.specs.Events.{Kind, ordinary, causal, Way, arrival, release, Edit, handed, Trace, ◌∈◌, Promised}
use Rattle.session.specs.Protocol.{Model, Covered, Seated, edit, Ready, Learns, Takes, Releases, Turn}
use Rattle.session.proofs.Either.{◌⨾◌, same, either}
use Rattle.session.proofs.Order.{New}
use Rattle.session.proofs.OneKind.{one_kind}
use Rattle.session.proofs.Knowledge.{Knows, Owes}
use Rattle.session.proofs.AfterHandOver.{knows_after_handing, owes_after_handing_causal, owes_after_handing_ordinary}
use Rattle.session.proofs.Covering.{edit_same, covered_max}
use Rattle.session.proofs.Answered.{Hands}
use Rattle.session.proofs.Invariant.{Posted, Waits, ShelfFits, Moves, Invariant, posted_later, holds_after, invariant_after}

module _ (D : Model) {n : ℕ} {seats : ℕ → D.Seat} {packets : List D.Packet} {t : Trace} (I : Invariant D n seats packets t) where
  open D use {Packet, kind, pastₘ, barrierₘ, Seat, past, barrier, Marked, OnShelf}

  -- A packet that was sent, is new here and ready, is handed over at seat `j`.
  module _ (w : Way) (j : ℕ) (m : Packet) (seated : Seated n j) (posted : Posted D t m) (not_marked : ¬ Marked (seats j) (edit D m))
      (ready : Ready D (seats j) m) where
    handing_is_new : New (handed w j (edit D m)) t
    handing_is_new = (λ y. not_marked (((I.holds j seated).marks (edit D m)).1 y), (kind m, posted.out))

    -- line 5
    handing_is_promised : Promised (handed w j (edit D m)) t
    handing_is_promised = (handing_is_new.0, λ f r. ((I.holds j seated).marks f).0 (ready f ((posted.waits f).1 r)))

    module _ {Step : Seat → Seat → Type 0} {seats' : ℕ → Seat} (turn : Turn D j Step seats seats') (learns : Learns D m (seats j) (seats' j)) where
      -- line 8
      receiver_knows : (e : Edit) → Covered e (past (seats' j)) ↔ Knows (handed w j (edit D m) ∷ t) j e
      receiver_knows e =
          covered_max (past (seats j)) (pastₘ m) e learns.past_after ⨾ either ((I.counts j seated).knows e) (posted.covers e)
          ⨾ knows_after_handing w j (edit D m) handing_is_new

      -- lines 9 and 10
      receiver_owes : (k : Kind) → kind m ≡ k → (e : Edit) → Covered e (barrier (seats' j)) ↔ Owes (handed w j (edit D m) ∷ t) j e
      receiver_owes ordinary is e =
          covered_max (barrier (seats j)) (barrierₘ m) e (λ i. rw is at (learns.barrier_after_is i))
          ⨾ either ((I.counts j seated).owes e) (posted.waits e)
          ⨾ owes_after_handing_ordinary w j (edit D m) handing_is_new (one_kind t I.all_new) (rw is at posted.out)
      receiver_owes causal is e =
          covered_max (barrier (seats j)) (pastₘ m) e (λ i. rw is at (learns.barrier_after_is i))
          ⨾ either ((I.counts j seated).owes e) (posted.covers e)
          ⨾ owes_after_handing_causal w j (edit D m) handing_is_new (one_kind t I.all_new) (rw is at posted.out)

      -- line 7
      receiver_marks : (e : Edit) → Marked (seats' j) e ↔ (Marked (seats j) e ⊎ Hands (handed w j (edit D m)) j e)
      receiver_marks e = learns.marks_after e ⨾ either same (λ q. (refl, q), λ h. h.1)

      after_handing : ((p : Packet) → OnShelf (seats' j) p → OnShelf (seats j) p × (edit D p ≢ edit D m))
          → Moves D (handed w j (edit D m)) j (seats j) (seats' j)
          → Invariant D n seats' packets (handed w j (edit D m) ∷ t)
      after_handing shelf moves =
          let held = holds_after D (handed w j (edit D m)) handing_is_new (seats j) (seats' j) receiver_marks stays moves in
          invariant_after D (handed w j (edit D m)) I turn handing_is_new handing_is_promised
          (λ p q. posted_later D (handed w j (edit D m)) handing_is_new (I.posted p q))
          (record { knows = receiver_knows; owes = receiver_owes (kind m) refl })
          (held (I.holds j seated))
        where
          stays : ShelfFits D t (seats' j)
          stays p y =
              let (on, other) = shelf p y in
              let (out, fresh) = (I.holds j seated).shelf p on in
              (out, λ z. ⊎_elim fresh other ((learns.marks_after (edit D p)).0 z))

  module _ {seats' : ℕ → Seat} (j : ℕ) (m : Packet) (seated : Seated n j) where
    -- The invariant holds after an arrival that is handed over.
    pub after_taking : m ∈ packets → Turn D j (Takes D m) seats seats' → Invariant D n seats' packets (handed arrival j (edit D m) ∷ t)
    after_taking mail turn =
        let step = turn.step in
        after_handing arrival j m seated (I.posted m mail) step.not_marked step.ready turn step.learns
        (λ p y. let on = (step.shelf_after_is p).0 y in (on, step.not_shelved p on))
        (λ e. (
          ⊎_elim (λ (p, y, q). inr (p, (step.shelf_after_is p).1 y, q)) (λ (_, h, q). inl (h, q)),
          ⊎_elim (λ (h, q). inr (refl, h, q)) (λ (p, y, q). inl (p, (step.shelf_after_is p).0 y, q)),
        ))

    -- The invariant holds after a release.
    pub after_releasing : Turn D j (Releases D m) seats seats' → Invariant D n seats' packets (handed release j (edit D m) ∷ t)
    after_releasing turn =
        let (posted, fresh) = (I.holds j seated).shelf m step.is_on_shelf in
        after_handing release j m seated posted fresh step.ready turn step.learns (λ p y. (step.shelf_after_is p).0 y) moves
      where
        step : Releases D m (seats j) (seats' j)
        step = turn.step

        clash : {A : Type 0} → release ≡ arrival → A
        clash q = let z : ◌≡◌ {A = ℕ} 0 1 = cc in absurd (omega arith)

        leaves_or_stays : (e : Edit) → Waits D (seats j) e → Hands (handed release j (edit D m)) j e ⊎ Waits D (seats' j) e
        leaves_or_stays e (p, y, q) =
            ⊎_elim (λ is. inl (refl, sym q ∙ is)) (λ other. inr (p, (step.shelf_after_is p).1 (y, other), q)) (edit_same (edit D p) (edit D m))

        moves : Moves D (handed release j (edit D m)) j (seats j) (seats' j)
        moves e = (
          ⊎_elim (leaves_or_stays e) (λ (way, _, _). clash way),
          ⊎_elim (λ (_, q). inl (m, step.is_on_shelf, sym q)) (λ (p, y, q). inl (p, ((step.shelf_after_is p).0 y).0, q)),
        )
