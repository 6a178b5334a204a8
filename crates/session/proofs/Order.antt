-- The causal order of a trace as one event more comes to it: a new event adds nothing before an old one.
use mathlib.Core.Path.{◌≡◌, refl, sym, subst}
use mathlib.Core.List.Memᴰ
use mathlib.Core.List.{[], ◌∷◌, ◌++◌}
use mathlib.Core.Logic.{◌↔◌}
use Prim.Native.Nat.{ℕ}
use Rattle.session.specs.Events.{Kind, Edit, Event, sent, handed, shelved, idle, Trace, ◌∈◌, Earlier, last, before}
use Rattle.session.specs.Events.{At, Link, seat, message, Before, link, chain, Sent, Prior, Pair, pair, Needs, direct, through}
use Rattle.session.specs.Events.{Handed, Throughout}
use Rattle.session.proofs.Either.{◌⨾◌, same}

-- The event comes new after `t`: a send of an edit not sent, a hand-over of one sent and not handed over there, or any other.
abbrev pub New : Event → Trace → Type 0
New (sent e k) t = (l : Kind) → ¬ (sent e l ∈ t)
New (handed w j e) t = (¬ Handed t j e) × Sent t e
New (shelved j e) t = Unit {0}
New (idle j) t = Unit {0}

pub new_is_not_in : (j : ℕ) (x : Event) {t : Trace} → New x t → At j x → ¬ (x ∈ t)
new_is_not_in j (sent e k) n h p = n k p
new_is_not_in j (handed w i e) n h p = n.0 (w, p)
new_is_not_in j (shelved i e) n h p = h
new_is_not_in j (idle i) n h p = h

-- a sent edit is not sent again
pub sent_not_again : {x : Event} {t : Trace} {e : Edit} {k : Kind} → New x t → Sent t e → ¬ (sent e k ≡ x)
sent_not_again {t = t} n (l, p) q = (subst (λ (y : Event). New y t) (sym q) n) l p

sent_before : {x : Event} {t : Trace} {e : Edit} {k : Kind} → New x t → Sent t e → sent e k ∈ (x ∷ t) → sent e k ∈ t
sent_before n s (Memᴰ.head q) = absurd (sent_not_again n s q)
sent_before n s (Memᴰ.tail p) = p

-- both ends of the order stand in the trace, and the first of them before its newest event
pub earlier_in : {a b : Event} {t : Trace} → Earlier a b t → (a ∈ t) × (b ∈ t)
earlier_in (last q p) = (Memᴰ.tail p, Memᴰ.head q)
earlier_in (before h) = let r = earlier_in h in (Memᴰ.tail r.0, Memᴰ.tail r.1)

link_earlier : {a b : Event} {t : Trace} → Link t a b → Earlier a b t
link_earlier (seat j h p q) = h
link_earlier (message e k w j h p q) = h

pub before_in : {a : Event} {t : Trace} {b : Event} → Before t a b → (a ∈ t) × (b ∈ t)
before_in (link l) = earlier_in (link_earlier l)
before_in (chain b l) = ((before_in b).0, (earlier_in (link_earlier l)).1)

earlier_old : {x a b : Event} {t : Trace} → Earlier a b (x ∷ t) → a ∈ t
earlier_old (last q p) = p
earlier_old (before h) = (earlier_in h).0

pub before_old : {x a : Event} {t : Trace} {b : Event} → Before (x ∷ t) a b → a ∈ t
before_old (link l) = earlier_old (link_earlier l)
before_old (chain b l) = before_old b

-- what holds of a trace holds of a longer one
link_grows : {x a b : Event} {t : Trace} → Link t a b → Link (x ∷ t) a b
link_grows (seat j h p q) = seat j (before h) p q
link_grows (message e k w j h p q) = message e k w j (before h) p q

pub before_grows : {x a : Event} {t : Trace} {b : Event} → Before t a b → Before (x ∷ t) a b
before_grows (link l) = link (link_grows l)
before_grows (chain b l) = chain (before_grows b) (link_grows l)

pair_grows : {x : Event} {t : Trace} {e f : Edit} → Pair t e f → Pair (x ∷ t) e f
pair_grows (pair k l b c) = pair k l (before_grows b) c

pub needs_grow : {x : Event} {t : Trace} {e f : Edit} → Needs t e f → Needs (x ∷ t) e f
needs_grow (direct p) = direct (pair_grows p)
needs_grow (through p n) = through (pair_grows p) (needs_grow n)

pub needs_chain : {t : Trace} {e f g : Edit} → Needs t e f → Needs t f g → Needs t e g
needs_chain (direct p) m = through p m
needs_chain (through p n) m = through p (needs_chain n m)

-- what a new event did not touch held before it
module _ {x : Event} {t : Trace} (n : New x t) where
  earlier_shrinks : {a b : Event} (j : ℕ) → At j b → b ∈ t → Earlier a b (x ∷ t) → Earlier a b t
  earlier_shrinks j h p (last q _) =
      absurd (new_is_not_in j x n (subst (λ (y : Event). At j y) q h) (subst (λ (y : Event). y ∈ t) q p))
  earlier_shrinks j h p (before e) = e

  link_shrinks : {a b : Event} → b ∈ t → Link (x ∷ t) a b → Link t a b
  link_shrinks p (seat j h pa pb) = seat j (earlier_shrinks j pb p h) pa pb
  link_shrinks p (message e k w j h pa pb) =
      message e k w j (earlier_shrinks j (subst (λ (y : Event). At j y) (sym pb) refl) p h) pa pb

  pub before_shrinks : {a b : Event} → b ∈ t → Before (x ∷ t) a b → Before t a b
  before_shrinks p (link l) = link (link_shrinks p l)
  before_shrinks p (chain b l) =
      let was = link_shrinks p l in
      chain (before_shrinks (earlier_in (link_earlier was)).0 b) was

  pair_shrinks : {e f : Edit} → Sent t e → Pair (x ∷ t) e f → Pair t e f
  pair_shrinks s (pair k l b c) = pair k l (before_shrinks (sent_before n s (before_in b).1) b) c

  needs_shrink : {e f : Edit} → Sent t e → Needs (x ∷ t) e f → Needs t e f
  needs_shrink s (direct p) = direct (pair_shrinks s p)
  needs_shrink s (through p r) = through (pair_shrinks s p) (needs_shrink (sent_pair (pair_shrinks s p)) r)
    where
      sent_pair : {e f : Edit} → Pair t e f → Sent t f
      sent_pair (pair k l b c) = (k, (before_in b).0)

  -- nothing is sent before a sent edit any more, and it needs nothing more
  pub prior_is_settled : {e f : Edit} → Sent t f → Prior (x ∷ t) e f ↔ Prior t e f
  prior_is_settled s = (λ (k, l, b). (k, l, before_shrinks (sent_before n s (before_in b).1) b), λ (k, l, b). (k, l, before_grows b))

  pub needs_settled_by_one : {e f : Edit} → Sent t e → Needs (x ∷ t) e f ↔ Needs t e f
  needs_settled_by_one s = (needs_shrink s, needs_grow)

-- nothing is causally before itself
pub never_before_itself : (t : Trace) (a : Event) → Throughout New t → ¬ Before t a a
never_before_itself [] a n b = Memᴰ.not-nil (before_in b).0
never_before_itself (x ∷ t) a n b = never_before_itself t a n.1 (before_shrinks n.0 (before_old b) b)

-- What an edit needs is settled once it is sent: later events change nothing of it.
pub needs_settled_by_later : (later : Trace) {t : Trace} {e f : Edit} → Throughout New (later ++ t) → Sent t e → Needs (later ++ t) e f ↔ Needs t e f
needs_settled_by_later [] n s = same
needs_settled_by_later (x ∷ later) n s =
    needs_settled_by_one n.0 (s.0, Memᴰ.append_right later s.1) ⨾ needs_settled_by_later later n.1 s
