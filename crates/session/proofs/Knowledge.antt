-- What a seat knows, and what its next edit will need; an event elsewhere changes neither.
use mathlib.Core.Path.{◌≡◌, subst}
use mathlib.Core.List.{◌∷◌}
use mathlib.Core.Logic.{◌⊎◌, ◌↔◌, ⊎_elim}
use Prim.Native.Nat.{ℕ}
use Rattle.session.specs.Events.{Kind, causal, Edit, Event, sent, Trace, ◌∈◌, At, Prior, Needs}
use Rattle.session.proofs.Either.{or_else}
use Rattle.session.proofs.Order.{New, needs_grow, needs_settled_by_one}
use Rattle.session.proofs.Seen.{Seen, seen_in, seen_further, seen_grows, seen_elsewhere}
use Rattle.session.proofs.OneKind.{OneKind, before_whichever, needs_are_prior}

-- The seat has seen the edit sent.
abbrev pub Knows : Trace → ℕ → Edit → Type 0
Knows t j e = (k : Kind) × Seen t j (sent e k)

-- `f` is `e`, or needs it.
abbrev pub NeedsOrSame : Trace → Edit → Edit → Type 0
NeedsOrSame t f e = (f ≡ e) ⊎ Needs t f e

-- Whatever the seat sends from now on will need `e`: a causal edit that it has seen is `e` or needs it.
abbrev pub Owes : Trace → ℕ → Edit → Type 0
Owes t j e = (f : Edit) × Seen t j (sent f causal) × NeedsOrSame t f e

-- `e` is `f`, or sent causally before it.
abbrev pub PriorOrSame : Trace → Edit → Edit → Type 0
PriorOrSame t e f = (e ≡ f) ⊎ Prior t e f

-- what is owed is known
module _ {t : Trace} (one : OneKind t) where
  prior_is_known : {e f : Edit} (j : ℕ) → Prior t e f → Knows t j f → Knows t j e
  prior_is_known j b (i, s) = (b.0, seen_further j (before_whichever one b (seen_in j s)) s)

  pub owed_is_known : {e : Edit} (j : ℕ) → Owes t j e → Knows t j e
  owed_is_known j (f, s, r) =
      ⊎_elim (λ q. subst (λ (g : Edit). Knows t j g) q (causal, s)) (λ n. prior_is_known j (needs_are_prior one n) (causal, s)) r

-- an event elsewhere, and what is owed in any case
module _ {x : Event} {t : Trace} (j : ℕ) (n : New x t) where
  pub rest_grows : {f e : Edit} → NeedsOrSame t f e → NeedsOrSame (x ∷ t) f e
  rest_grows = or_else needs_grow

  pub rest_shrinks : {f e : Edit} → sent f causal ∈ t → NeedsOrSame (x ∷ t) f e → NeedsOrSame t f e
  rest_shrinks p = or_else (needs_settled_by_one n (causal, p)).0

  pub owes_grows : {e : Edit} → Owes t j e → Owes (x ∷ t) j e
  owes_grows (f, s, r) = (f, seen_grows j n s, rest_grows r)

  pub knows_elsewhere : {e : Edit} → ¬ At j x → Knows t j e ↔ Knows (x ∷ t) j e
  knows_elsewhere away = (λ (k, s). (k, (seen_elsewhere j n away).1 s), λ (k, s). (k, (seen_elsewhere j n away).0 s))

  pub owes_elsewhere : {e : Edit} → ¬ At j x → Owes t j e ↔ Owes (x ∷ t) j e
  owes_elsewhere away = (owes_grows, λ (f, s, r). let was = (seen_elsewhere j n away).0 s in (f, was, rest_shrinks (seen_in j was) r))
