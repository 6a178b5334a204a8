-- What a seat has seen: its own sends and hand-overs, and all that is causally before them. It is what will be causally
-- before whatever the seat does next.
use mathlib.Core.Path.{◌≡◌, refl, sym, ◌∙◌, subst}
use mathlib.Core.List.Memᴰ
use mathlib.Core.List.{◌∷◌}
use mathlib.Core.Logic.{◌⊎◌, inl, inr, ◌↔◌, ⊎_elim, ⊎_map}
use Prim.Native.Nat.{ℕ}
use Rattle.session.specs.Events.{Kind, Event, sent, handed, shelved, idle, Trace, ◌∈◌, Earlier, last, before}
use Rattle.session.specs.Events.{At, Link, seat, message, Before, link, chain}
use Rattle.session.proofs.Either.{or_else}
use Rattle.session.proofs.Order.{New, new_is_not_in, earlier_in, before_in, before_grows, before_shrinks}

-- `a` is `b`, or causally before it.
abbrev pub UpTo : Trace → Event → Event → Type 0
UpTo t a b = (a ≡ b) ⊎ Before t a b

-- `a` is one of seat `j`'s sends and hand-overs, or causally before one.
abbrev pub Seen : Trace → ℕ → Event → Type 0
Seen t j a = (y : Event) × (y ∈ t) × At j y × UpTo t a y

-- What an event brings to its seat: a hand-over brings the edit's send, and all that is causally before that.
abbrev pub Brings : Trace → Event → Event → Type 0
Brings t (sent e k) a = ⊥
Brings t (handed w j e) a = (k : Kind) × (sent e k ∈ t) × UpTo t a (sent e k)
Brings t (shelved j e) a = ⊥
Brings t (idle j) a = ⊥

pub before_chains : {t : Trace} {a b c : Event} → Before t a b → Before t b c → Before t a c
before_chains p (link l) = chain p l
before_chains p (chain q l) = chain (before_chains p q) l

pub seen_in : {a : Event} {t : Trace} (j : ℕ) → Seen t j a → a ∈ t
seen_in j (y, p, h, r) = ⊎_elim (λ q. Memᴰ.cast q p) (λ b. (before_in b).0) r

pub seen_further : {t : Trace} {a b : Event} (j : ℕ) → Before t a b → Seen t j b → Seen t j a
seen_further {t} {a} j p (y, m, h, r) = (y, m, h, inr (⊎_elim (λ q. subst (λ (z : Event). Before t a z) q p) (before_chains p) r))

at_one_seat : (i j : ℕ) (x : Event) → At i x → At j x → i ≡ j
at_one_seat i j (sent e k) p q = cc
at_one_seat i j (handed w _ e) p q = cc
at_one_seat i j (shelved _ e) p q = absurd p
at_one_seat i j (idle _) p q = absurd p

brought : {t : Trace} {a : Event} (y : Event) → Brings t y a → Before (y ∷ t) a y
brought (handed w i e) (k, p, inl q) = link (message e k w i (last refl (Memᴰ.cast q p)) q refl)
brought (handed w i e) (k, p, inr b) = chain (before_grows b) (message e k w i (last refl p) refl refl)
brought (sent e k) h = absurd h
brought (shelved i e) h = absurd h
brought (idle i) h = absurd h

module _ {x : Event} {t : Trace} (j : ℕ) (n : New x t) where
  up_to_settled : {a b : Event} → b ∈ t → UpTo (x ∷ t) a b → UpTo t a b
  up_to_settled p = or_else (before_shrinks n p)

  pub seen_grows : {a : Event} → Seen t j a → Seen (x ∷ t) j a
  seen_grows (y, m, h, r) = (y, Memᴰ.tail m, h, or_else before_grows r)

  -- an event elsewhere shows a seat nothing
  pub seen_elsewhere : {a : Event} → ¬ At j x → Seen (x ∷ t) j a ↔ Seen t j a
  seen_elsewhere {a} away = (λ (y, m, h, r). was y m h r, seen_grows)
    where
      was : (y : Event) → y ∈ (x ∷ t) → At j y → UpTo (x ∷ t) a y → Seen t j a
      was y (Memᴰ.head q) h r = absurd (away (subst (λ (z : Event). At j z) q h))
      was y (Memᴰ.tail m) h r = (y, m, h, up_to_settled m r)

  module _ (here : At j x) where
    last_in : {b : Event} → Earlier b x (x ∷ t) → b ∈ t
    last_in (last q p) = p
    last_in (before e) = absurd (new_is_not_in j x n here (earlier_in e).1)

    linked : {a b : Event} → (b ∈ t → UpTo t a b) → Link (x ∷ t) b x → Seen t j a ⊎ Brings t x a
    linked {a} {b} r (seat i h p q) =
        let m = last_in h in
        inl (b, m, subst (λ (l : ℕ). At l b) (at_one_seat i j x q here) p, r m)
    linked {a} r (message e k w i h p q) =
        let m = last_in h in
        inr (subst (λ (y : Event). Brings t y a) (sym q) (k, Memᴰ.cast (sym p) m, subst (λ (y : Event). UpTo t a y) p (r m)))

    -- what is causally before a seat's new event: what the seat has seen, and what the event brings
    pub before_new : {a : Event} → Before (x ∷ t) a x ↔ (Seen t j a ⊎ Brings t x a)
    before_new {a} = (split, ⊎_elim own (brought x))
      where
        split : Before (x ∷ t) a x → Seen t j a ⊎ Brings t x a
        split (link l) = linked (λ _. inl refl) l
        split (chain b l) = linked (λ m. inr (before_shrinks n m b)) l

        own : Seen t j a → Before (x ∷ t) a x
        own (y, m, h, inl q) = link (seat j (last refl (Memᴰ.cast q m)) (subst (λ (z : Event). At j z) (sym q) h) here)
        own (y, m, h, inr b) = chain (before_grows b) (seat j (last refl m) h here)

    -- what a seat has seen after its new event
    pub seen_here : {a : Event} → Seen (x ∷ t) j a ↔ ((a ≡ x) ⊎ (Seen t j a ⊎ Brings t x a))
    seen_here {a} = (λ (y, m, h, r). split y m h r, λ r. (x, Memᴰ.head refl, here, or_else before_new.1 r))
      where
        split : (y : Event) → y ∈ (x ∷ t) → At j y → UpTo (x ∷ t) a y → (a ≡ x) ⊎ (Seen t j a ⊎ Brings t x a)
        split y (Memᴰ.head q) h r =
            ⊎_map (λ e. e ∙ q) (λ b. before_new.0 (subst (λ (z : Event). Before (x ∷ t) a z) q b)) r
        split y (Memᴰ.tail m) h r = inr (inl (y, m, h, up_to_settled m r))
