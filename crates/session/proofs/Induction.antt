-- Induction along the causal order of the sent edits.
use mathlib.Core.List.Memᴰ
use mathlib.Core.List.{[], ◌∷◌}
use Rattle.session.specs.Events.{Edit, Trace, Throughout, Sent, Prior}
use Rattle.session.proofs.Order.{New, before_old, prior_is_settled}

-- What holds of a sent edit where it holds of all sent before it, holds of every sent edit.
pub along_the_order : (P : Edit → Type 0) (t : Trace) → Throughout New t
    → ((e : Edit) → Sent t e → ((f : Edit) → Prior t f e → P f) → P e) → (e : Edit) → Sent t e → P e
along_the_order P [] all_new step e s = absurd (Memᴰ.not-nil s.1)
along_the_order P (x ∷ t) all_new step e s =
    let was = along_the_order P t all_new.1 (λ g r h. step g (r.0, Memᴰ.tail r.1) (λ f p. h f ((prior_is_settled all_new.0 r).0 p))) in
    step e s (λ f (k, l, b). was f (k, before_old b))
