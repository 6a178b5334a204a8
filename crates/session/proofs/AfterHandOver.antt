-- What a seat knows and owes once it handed an edit over.
use mathlib.Core.Path.{◌≡◌, refl, sym, ◌∙◌, ap, subst}
use mathlib.Core.List.Memᴰ
use mathlib.Core.List.{◌∷◌}
use mathlib.Core.Logic.{◌⊎◌, inl, inr, ◌↔◌, ⊎_elim, ⊎_map}
use Prim.Native.Nat.{ℕ}
use Rattle.session.specs.Events.{Kind, ordinary, causal, Way, Edit, Event, sent, handed, Trace, ◌∈◌, Before, Prior, Pair, pair, Needs}
use Rattle.session.specs.Events.{direct, through}
use Rattle.session.proofs.Either.{◌⨾◌, same, either, or_else}
use Rattle.session.proofs.Order.{New, before_in}
use Rattle.session.proofs.Seen.{UpTo, Seen, Brings, seen_in, seen_here}
use Rattle.session.proofs.Answered.{SentBy}
use Rattle.session.proofs.OneKind.{OneKind, not_causal, prior_chains, needs_are_prior}
use Rattle.session.proofs.Knowledge.{Knows, NeedsOrSame, Owes, PriorOrSame, rest_grows, rest_shrinks, owes_grows}

-- The seat `j` that hands over `f` learns of it and of all that was sent before it.
module _ {t : Trace} (w : Way) (j : ℕ) (f : Edit) (n : New (handed w j f) t) where
  seen_after_handing : {e : Edit} {i : Kind} → (Seen t j (sent e i) ⊎ Brings t (handed w j f) (sent e i)) ↔ Seen (handed w j f ∷ t) j (sent e i)
  seen_after_handing {e} {i} = (λ r. (seen_here j n refl).1 (inr r), λ s. ⊎_elim clash (λ r. r) ((seen_here j n refl).0 s))
    where
      clash : sent e i ≡ handed w j f → Seen t j (sent e i) ⊎ Brings t (handed w j f) (sent e i)
      clash q = absurd (subst (λ (y : Event). SentBy y e) q refl)

  pub knows_after_handing : {e : Edit} → (Knows t j e ⊎ PriorOrSame t e f) ↔ Knows (handed w j f ∷ t) j e
  knows_after_handing {e} = (
    ⊎_elim (λ (i, s). (i, seen_after_handing.0 (inl s))) brought,
    λ (i, s). ⊎_elim (λ was. inl (i, was)) (λ (k, p, r). inr (⊎_map (λ q. cc) (λ b. (i, k, b)) r)) (seen_after_handing.1 s),
  )
    where
      brought : PriorOrSame t e f → Knows (handed w j f ∷ t) j e
      brought (inl q) =
          let (k, p) = n.1 in
          (k, seen_after_handing.0 (inr (k, p, inl (ap (λ (d : Edit). sent d k) q))))
      brought (inr (i, l, b)) = (i, seen_after_handing.0 (inr (l, (before_in b).1, inr b)))

  -- What the hand-over makes the seat owe: through a causal edit that is `f` or sent before it.
  abbrev Through : Edit → Type 0
  Through e = (g : Edit) × Brings t (handed w j f) (sent g causal) × NeedsOrSame t g e

  owes_through : {e : Edit} → (Owes t j e ⊎ Through e) ↔ Owes (handed w j f ∷ t) j e
  owes_through {e} = (
    ⊎_elim (owes_grows j n) (λ (g, s, r). (g, seen_after_handing.0 (inr s), rest_grows j n r)),
    λ (g, s, r). ⊎_elim
        (λ was. inl (g, was, rest_shrinks j n (seen_in j was) r))
        (λ (k, p, c). inr (g, (k, p, c), rest_shrinks j n (⊎_elim (λ q. Memᴰ.cast q p) (λ b. (before_in b).0) c) r))
        (seen_after_handing.1 s),
  )

  pub owes_after_handing_causal : {e : Edit} → OneKind t → sent f causal ∈ t → (Owes t j e ⊎ PriorOrSame t e f) ↔ Owes (handed w j f ∷ t) j e
  owes_after_handing_causal {e} one p = either same (there, λ (g, (k, _, c), r). from g k c (or_else (needs_are_prior one) r)) ⨾ owes_through
    where
      there : PriorOrSame t e f → Through e
      there (inl q) = (f, (causal, p, inl refl), inl (sym q))
      there (inr (i, l, b)) = (f, (causal, p, inl refl), inr (direct (pair i l b (inr (one f l causal (before_in b).1 p)))))

      from : (g : Edit) (k : Kind) → UpTo t (sent g causal) (sent f k) → (g ≡ e) ⊎ Prior t e g → PriorOrSame t e f
      from g k (inl r) (inl q) = inl (cc)
      from g k (inr b) (inl q) = inr (causal, k, subst (λ (y : Edit). Before t (sent y causal) (sent f k)) q b)
      from g k (inl r) (inr h) = let z : g ≡ f = cc in inr (subst (λ (y : Edit). Prior t e y) z h)
      from g k (inr b) (inr h) = inr (prior_chains one h (causal, k, b))

  pub owes_after_handing_ordinary : {e : Edit} → OneKind t → sent f ordinary ∈ t → (Owes t j e ⊎ Needs t f e) ↔ Owes (handed w j f ∷ t) j e
  owes_after_handing_ordinary {e} one p = either same (there, λ (g, (k, m, c), r). from g k m c r) ⨾ owes_through
    where
      brought : {g : Edit} → Pair t f g → Brings t (handed w j f) (sent g causal)
      brought {g} (pair i l b (inl q)) = (l, (before_in b).1, inr (subst (λ (y : Kind). Before t (sent g y) (sent f l)) q b))
      brought (pair i l b (inr q)) = absurd (not_causal (one f ordinary l p (before_in b).1 ∙ q))

      there : Needs t f e → Through e
      there (direct d) = (e, brought d, inl refl)
      there (through {g = g} d m) = (g, brought d, inr m)

      from : (g : Edit) (k : Kind) → sent f k ∈ t → UpTo t (sent g causal) (sent f k) → NeedsOrSame t g e → Needs t f e
      from g k m (inl c) r = let z : causal ≡ k = cc in absurd (not_causal (one f ordinary k p m ∙ sym z))
      from g k m (inr b) (inl q) = subst (λ (y : Edit). Needs t f y) q (direct (pair causal k b (inl refl)))
      from g k m (inr b) (inr h) = through (pair causal k b (inl refl)) h
