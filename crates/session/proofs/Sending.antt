-- Lines 1 to 4: a send keeps the invariant.
use mathlib.Core.Path.{◌≡◌, refl, sym, subst}
use mathlib.Core.List.Memᴰ
use mathlib.Core.List.{List, ◌∷◌}
use mathlib.Core.Logic.{◌⊎◌, inl, ◌↔◌}
use Prim.Native.Nat.{ℕ}
use Rattle.session.specs.Events.{Kind, ordinary, causal, Edit, sent, Trace, ◌∈◌, Needs}
use Rattle.session.specs.Protocol.{Model, Covered, Seated, edit, Sends, Turn}
use Rattle.session.proofs.Either.{◌⨾◌, same, either}
use Rattle.session.proofs.OneKind.{OneKind, one_kind}
use Rattle.session.proofs.Knowledge.{Knows, Owes}
use Rattle.session.proofs.AfterSend.{knows_after_sending, prior_to_sent}
use Rattle.session.proofs.AfterSend.{causal_edit_needs, owes_after_causal, ordinary_edit_needs, owes_after_ordinary}
use Rattle.session.proofs.Covering.{covered_same, covered_one_more, one_more_is_new}
use Rattle.session.proofs.Answered.{quiet_send}
use Rattle.session.proofs.Invariant.{Posted, Counts, Invariant, posted_later, holds_still, invariant_after}

module _ (D : Model) {n : ℕ} {seats seats' : ℕ → D.Seat} {packets : List D.Packet} {t : Trace} (I : Invariant D n seats packets t)
    (m : D.Packet) (seated : Seated n (D.sender m)) (turn : Turn D (D.sender m) (Sends D m) seats seats') where
  open D use {Packet, sender, kind, pastₘ, barrierₘ, past, barrier}

  step : Sends D m (seats (sender m)) (seats' (sender m))
  step = turn.step

  counts : Counts D t (sender m) (seats (sender m))
  counts = I.counts (sender m) seated

  -- the sent edit is a new one
  sent_is_new : (l : Kind) → ¬ (sent (edit D m) l ∈ t)
  sent_is_new l p =
      one_more_is_new (edit D m) (pastₘ m) (past (seats (sender m))) refl step.own_past_sent
      ((counts.knows (edit D m)).1 (l, (sent (edit D m) l, p, refl, inl refl)))

  one : OneKind (sent (edit D m) causal ∷ t)
  one = one_kind (sent (edit D m) causal ∷ t) (sent_is_new, I.all_new)

  -- line 2
  past_covers : (e : Edit) → Covered e (pastₘ m) ↔ ((e ≡ edit D m) ⊎ Knows t (sender m) e)
  past_covers e =
      covered_one_more (edit D m) (pastₘ m) (past (seats (sender m))) refl step.own_past_sent e step.past_sent_is
      ⨾ either same (counts.knows e)

  -- lines 1 and 3
  packet_waits : (k : Kind) → kind m ≡ k → (e : Edit) → Covered e (barrierₘ m) ↔ Needs (sent (edit D m) k ∷ t) (edit D m) e
  packet_waits ordinary is e =
      covered_same e (λ i. rw is at (step.barrier_sent_is i)) ⨾ counts.owes e ⨾ ordinary_edit_needs (edit D m) sent_is_new
  packet_waits causal is e =
      covered_same e (λ i. rw is at (step.barrier_sent_is i)) ⨾ counts.knows e ⨾ causal_edit_needs (edit D m) sent_is_new one

  -- line 4
  sender_owes : (k : Kind) → kind m ≡ k → (e : Edit) → Covered e (barrier (seats' (sender m))) ↔ Owes (sent (edit D m) k ∷ t) (sender m) e
  sender_owes ordinary is e =
      covered_same e (λ i. rw is at (step.barrier_after_is i)) ⨾ counts.owes e ⨾ owes_after_ordinary (edit D m) sent_is_new
  sender_owes causal is e =
      covered_same e (λ i. rw is at (step.barrier_after_is i)) ⨾ past_covers e ⨾ owes_after_causal (edit D m) sent_is_new one

  sent_is_posted : Posted D (sent (edit D m) (kind m) ∷ t) m
  sent_is_posted = record {
    out = Memᴰ.head refl;
    covers = λ e. past_covers e ⨾ either same (prior_to_sent (edit D m) (kind m) sent_is_new);
    waits = packet_waits (kind m) refl;
  }

  sender_counts : Counts D (sent (edit D m) (kind m) ∷ t) (sender m) (seats' (sender m))
  sender_counts = record {
    knows = λ e. covered_same e step.past_after ⨾ past_covers e ⨾ knows_after_sending (edit D m) (kind m) sent_is_new;
    owes = sender_owes (kind m) refl;
  }

  all_posted : (p : Packet) → p ∈ (m ∷ packets) → Posted D (sent (edit D m) (kind m) ∷ t) p
  all_posted p (Memᴰ.head q) = subst (λ (d : Packet). Posted D (sent (edit D m) (kind m) ∷ t) d) (sym q) sent_is_posted
  all_posted p (Memᴰ.tail q) = posted_later D (sent (edit D m) (kind m)) sent_is_new (I.posted p q)

  -- The invariant holds after a send.
  pub after_sending : Invariant D n seats' (m ∷ packets) (sent (edit D m) (kind m) ∷ t)
  after_sending =
      let still = holds_still D (sent (edit D m) (kind m)) sent_is_new (seats (sender m)) (seats' (sender m)) in
      invariant_after D (sent (edit D m) (kind m)) I turn sent_is_new tt all_posted sender_counts
      (still (quiet_send (sender m) (edit D m) (kind m)) step.marks_after step.shelf_after_is (I.holds (sender m) seated))
