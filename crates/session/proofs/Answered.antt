-- What one event more adds to what is sent, handed over and accepted.
use mathlib.Core.Path.{◌≡◌, refl, ap, subst}
use mathlib.Core.List.Memᴰ
use mathlib.Core.List.{[], ◌∷◌}
use mathlib.Core.Logic.{◌⊎◌, inl, inr, ◌↔◌, ◌≢◌, ⊎_elim, ⊎_map, by_cases}
use Prim.Native.Nat.{ℕ}
use native.Mathlib.Decide.{ℕ_discrete}
use Rattle.session.specs.Events.{Kind, Way, arrival, Edit, Event, sent, handed, shelved, idle, Trace, ◌∈◌, At, Sent, Handed, Accepted}
use Rattle.session.proofs.Covering.{edit_same}

-- The seat whose call was answered by this event.
abbrev pub seat_of : Event → ℕ
seat_of (sent e k) = e.by
seat_of (handed w i e) = i
seat_of (shelved i e) = i
seat_of (idle i) = i

-- The event sends the edit.
abbrev pub SentBy : Event → Edit → Type 0
SentBy (sent f k) e = e ≡ f
SentBy (handed w i f) e = ⊥
SentBy (shelved i f) e = ⊥
SentBy (idle i) e = ⊥

-- The event hands the edit over at the seat.
abbrev pub Hands : Event → ℕ → Edit → Type 0
Hands (sent f k) j e = ⊥
Hands (handed w i f) j e = (j ≡ i) × (e ≡ f)
Hands (shelved i f) j e = ⊥
Hands (idle i) j e = ⊥

-- The event accepts the edit at the seat.
abbrev pub Accepts : Event → ℕ → Edit → Type 0
Accepts (sent f k) j e = ⊥
Accepts (handed w i f) j e = (w ≡ arrival) × (j ≡ i) × (e ≡ f)
Accepts (shelved i f) j e = (j ≡ i) × (e ≡ f)
Accepts (idle i) j e = ⊥

-- The event does nothing at the seat but, perhaps, send.
pub record Quiet (j : ℕ) (x : Event) : Type 0 where
  pub hands_none : (e : Edit) → ¬ Hands x j e
  pub accepts_none : (e : Edit) → ¬ Accepts x j e

pub quiet_send : (j : ℕ) (f : Edit) (k : Kind) → Quiet j (sent f k)
quiet_send j f k = record { hands_none = λ e h. h; accepts_none = λ e h. h }

pub quiet_idle : (j i : ℕ) → Quiet j (idle i)
quiet_idle j i = record { hands_none = λ e h. h; accepts_none = λ e h. h }

pub quiet_elsewhere : (j : ℕ) (x : Event) → j ≢ seat_of x → Quiet j x × (¬ At j x)
quiet_elsewhere j (sent f k) d = (quiet_send j f k, d)
quiet_elsewhere j (handed w i f) d = (record { hands_none = λ e h. d h.0; accepts_none = λ e h. d h.1 }, d)
quiet_elsewhere j (shelved i f) d = (record { hands_none = λ e h. h; accepts_none = λ e h. d h.0 }, λ h. h)
quiet_elsewhere j (idle i) d = (quiet_idle j i, λ h. h)

module _ {t : Trace} {e : Edit} where
  sent_is_in : (x : Event) → SentBy x e → Sent (x ∷ t) e
  sent_is_in (sent f k) q = (k, Memᴰ.head (ap (λ (d : Edit). sent d k) q))
  sent_is_in (handed w i f) h = absurd h
  sent_is_in (shelved i f) h = absurd h
  sent_is_in (idle i) h = absurd h

  pub sent_with : (x : Event) → Sent (x ∷ t) e ↔ (Sent t e ⊎ SentBy x e)
  sent_with x = (λ (k, p). was k p, ⊎_elim (λ (k, p). (k, Memᴰ.tail p)) (sent_is_in x))
    where
      was : (k : Kind) → sent e k ∈ (x ∷ t) → Sent t e ⊎ SentBy x e
      was k (Memᴰ.head q) = inr (subst (λ (y : Event). SentBy y e) q refl)
      was k (Memᴰ.tail p) = inl (k, p)

module _ {t : Trace} {j : ℕ} {e : Edit} where
  hands_is_in : (x : Event) → Hands x j e → Handed (x ∷ t) j e
  hands_is_in (handed w i f) (p, q) = let is : handed w j e ≡ handed w i f = cc in (w, Memᴰ.head is)
  hands_is_in (sent f k) h = absurd h
  hands_is_in (shelved i f) h = absurd h
  hands_is_in (idle i) h = absurd h

  accepts_is_in : (x : Event) → Accepts x j e → Accepted (x ∷ t) j e
  accepts_is_in (handed w i f) (o, p, q) = let is : handed arrival j e ≡ handed w i f = cc in inl (Memᴰ.head is)
  accepts_is_in (shelved i f) (p, q) = let is : shelved j e ≡ shelved i f = cc in inr (Memᴰ.head is)
  accepts_is_in (sent f k) h = absurd h
  accepts_is_in (idle i) h = absurd h

  pub handed_with : (x : Event) → Handed (x ∷ t) j e ↔ (Handed t j e ⊎ Hands x j e)
  handed_with x = (λ (w, p). was w p, ⊎_elim (λ (w, p). (w, Memᴰ.tail p)) (hands_is_in x))
    where
      was : (w : Way) → handed w j e ∈ (x ∷ t) → Handed t j e ⊎ Hands x j e
      was w (Memᴰ.head q) = inr (subst (λ (y : Event). Hands y j e) q (refl, refl))
      was w (Memᴰ.tail p) = inl (w, p)

  pub accepted_with : (x : Event) → Accepted (x ∷ t) j e ↔ (Accepted t j e ⊎ Accepts x j e)
  accepted_with x = (⊎_elim taken put, ⊎_elim (⊎_map Memᴰ.tail Memᴰ.tail) (accepts_is_in x))
    where
      taken : handed arrival j e ∈ (x ∷ t) → Accepted t j e ⊎ Accepts x j e
      taken (Memᴰ.head q) = inr (subst (λ (y : Event). Accepts y j e) q (refl, refl, refl))
      taken (Memᴰ.tail p) = inl (inl p)

      put : shelved j e ∈ (x ∷ t) → Accepted t j e ⊎ Accepts x j e
      put (Memᴰ.head q) = inr (subst (λ (y : Event). Accepts y j e) q (refl, refl))
      put (Memᴰ.tail p) = inl (inr p)

hands_or_not : (x : Event) (j : ℕ) (e : Edit) → Hands x j e ⊎ (¬ Hands x j e)
hands_or_not (sent f k) j e = inr (λ h. h)
hands_or_not (handed w i f) j e =
    by_cases (ℕ_discrete j i) (λ p. ⊎_map (λ q. (p, q)) (λ d h. d h.1) (edit_same e f)) (λ d. inr (λ h. d h.0))
hands_or_not (shelved i f) j e = inr (λ h. h)
hands_or_not (idle i) j e = inr (λ h. h)

-- an edit is handed over at a seat or not
pub handed_or_not : (t : Trace) (j : ℕ) (e : Edit) → Handed t j e ⊎ (¬ Handed t j e)
handed_or_not [] j e = inr (λ h. Memᴰ.not-nil h.1)
handed_or_not (x ∷ t) j e =
    ⊎_elim (λ h. inl ((handed_with x).1 (inl h)))
    (λ not_yet. ⊎_map (λ h. (handed_with x).1 (inr h)) (λ not_now h. ⊎_elim not_yet not_now ((handed_with x).0 h)) (hands_or_not x j e))
    (handed_or_not t j e)
