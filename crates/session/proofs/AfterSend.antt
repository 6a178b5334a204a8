-- What a new edit needs, and what its sender then knows and owes.
use mathlib.Core.Path.{◌≡◌, refl, sym, ap, subst}
use mathlib.Core.List.Memᴰ
use mathlib.Core.List.{◌∷◌}
use mathlib.Core.Logic.{◌⊎◌, inl, inr, ◌↔◌, ⊎_elim}
use Rattle.session.specs.Events.{Kind, ordinary, causal, Edit, Event, sent, Trace, ◌∈◌, Before, Prior, Pair, pair, Needs, direct, through}
use Rattle.session.proofs.Order.{New, before_in, needs_grow, needs_settled_by_one}
use Rattle.session.proofs.Seen.{Seen, seen_in, seen_here, before_new}
use Rattle.session.proofs.OneKind.{OneKind, not_causal, needs_are_prior}
use Rattle.session.proofs.Knowledge.{Knows, NeedsOrSame, Owes, owed_is_known, rest_shrinks, owes_grows}

-- the seat that sends `f`
module _ {t : Trace} (f : Edit) (k : Kind) (n : New (sent f k) t) where
  pub knows_after_sending : {e : Edit} → ((e ≡ f) ⊎ Knows t f.by e) ↔ Knows (sent f k ∷ t) f.by e
  knows_after_sending {e} = (
    ⊎_elim (λ q. (k, seen_more.1 (inl (ap (λ (d : Edit). sent d k) q)))) (λ (l, s). (l, seen_more.1 (inr (inl s)))),
    λ (l, s). ⊎_elim (λ q. inl (cc)) (⊎_elim (λ was. inr (l, was)) absurd) (seen_more.0 s),
  )
    where
      seen_more : {a : Event} → Seen (sent f k ∷ t) f.by a ↔ ((a ≡ sent f k) ⊎ (Seen t f.by a ⊎ ⊥))
      seen_more = seen_here f.by n refl

  -- what is causally before the new send is what the seat has seen
  before_sending : {a : Event} (l : Kind) → Before (sent f k ∷ t) a (sent f l) → Seen t f.by a
  before_sending {a} l b = go (before_in b).1
    where
      go : sent f l ∈ (sent f k ∷ t) → Seen t f.by a
      go (Memᴰ.head q) =
          ⊎_elim (λ s. s) absurd ((before_new f.by n refl).0 (subst (λ (y : Event). Before (sent f k ∷ t) a y) q b))
      go (Memᴰ.tail m) = absurd (n l m)

  sending_before : {a : Event} → Seen t f.by a → Before (sent f k ∷ t) a (sent f k)
  sending_before s = (before_new f.by n refl).1 (inl s)

  pub prior_to_sent : {e : Edit} → Knows t f.by e ↔ Prior (sent f k ∷ t) e f
  prior_to_sent = (λ (i, s). (i, k, sending_before s), λ (i, l, b). (i, before_sending l b))

-- A new causal edit needs all that its seat knew, and its seat owes that and the edit from then on.
module _ {t : Trace} (f : Edit) (n : New (sent f causal) t) (one : OneKind (sent f causal ∷ t)) where
  pub causal_edit_needs : {e : Edit} → Knows t f.by e ↔ Needs (sent f causal ∷ t) f e
  causal_edit_needs = (
    λ (i, s). direct (pair i causal (sending_before f causal n s) (inr refl)),
    λ r. (prior_to_sent f causal n).1 (needs_are_prior one r),
  )

  pub owes_after_causal : {e : Edit} → ((e ≡ f) ⊎ Knows t f.by e) ↔ Owes (sent f causal ∷ t) f.by e
  owes_after_causal = (
    ⊎_elim (λ q. (f, self, inl (sym q))) (λ o. (f, self, inr (causal_edit_needs.0 o))),
    λ o. (knows_after_sending f causal n).1 (owed_is_known one f.by o),
  )
    where
      self : Seen (sent f causal ∷ t) f.by (sent f causal)
      self = (seen_here f.by n refl).1 (inl refl)

-- A new ordinary edit needs what its seat owed, and its seat owes the same from then on.
module _ {t : Trace} (f : Edit) (n : New (sent f ordinary) t) where
  the_causal_one : (i l : Kind) → sent f l ∈ (sent f ordinary ∷ t) → (i ≡ causal) ⊎ (l ≡ causal) → i ≡ causal
  the_causal_one i l p (inl q) = q
  the_causal_one i l (Memᴰ.head q) (inr r) = let z : ordinary ≡ causal = cc in absurd (not_causal z)
  the_causal_one i l (Memᴰ.tail m) (inr r) = absurd (n l m)

  seen_causal : {e : Edit} → Pair (sent f ordinary ∷ t) f e → Seen t f.by (sent e causal)
  seen_causal {e} (pair i l b c) =
      subst (λ (k : Kind). Seen t f.by (sent e k)) (the_causal_one i l (before_in b).1 c) (before_sending f ordinary n l b)

  pub ordinary_edit_needs : {e : Edit} → Owes t f.by e ↔ Needs (sent f ordinary ∷ t) f e
  ordinary_edit_needs {e} = (λ (g, s, r). there g s r, from)
    where
      there : (g : Edit) → Seen t f.by (sent g causal) → NeedsOrSame t g e → Needs (sent f ordinary ∷ t) f e
      there g s r =
          let p : Pair (sent f ordinary ∷ t) f g = pair causal ordinary (sending_before f ordinary n s) (inl refl) in
          ⊎_elim (λ q. subst (λ (y : Edit). Needs (sent f ordinary ∷ t) f y) q (direct p)) (λ m. through p (needs_grow m)) r

      from : Needs (sent f ordinary ∷ t) f e → Owes t f.by e
      from (direct p) = (e, seen_causal p, inl refl)
      from (through {g = g} p r) =
          let s = seen_causal p in
          (g, s, inr ((needs_settled_by_one n (causal, seen_in f.by s)).0 r))

  pub owes_after_ordinary : {e : Edit} → Owes t f.by e ↔ Owes (sent f ordinary ∷ t) f.by e
  owes_after_ordinary {e} = (owes_grows f.by n, λ (g, s, r). ⊎_elim clash (⊎_elim (was g r) absurd) ((seen_here f.by n refl).0 s))
    where
      clash : {g : Edit} → sent g causal ≡ sent f ordinary → Owes t f.by e
      clash q = let z : ordinary ≡ causal = cc in absurd (not_causal z)

      was : (g : Edit) → NeedsOrSame (sent f ordinary ∷ t) g e → Seen t f.by (sent g causal) → Owes t f.by e
      was g r s = (g, s, rest_shrinks f.by n (seen_in f.by s) r)
