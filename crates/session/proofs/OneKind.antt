-- Each edit is sent once, so with one kind; so "sent before" chains, has no loops, and takes needs along.
use mathlib.Core.Path.{◌≡◌, ◌∙◌, subst}
use mathlib.Core.List.Memᴰ
use mathlib.Core.List.{[], ◌∷◌}
use mathlib.Core.Logic.{inl, inr}
use Prim.Native.Nat.{ℕ}
use native.Mathlib.Omega.{arith}
use Rattle.session.specs.Events.{Kind, ordinary, causal, Edit, sent, Trace, ◌∈◌, Before, Prior, Pair, pair, Needs, direct, through, Throughout}
use Rattle.session.proofs.Order.{New, sent_not_again, before_in, never_before_itself, needs_chain}
use Rattle.session.proofs.Seen.{before_chains}

-- Each edit was sent once, so with one kind.
abbrev pub OneKind : Trace → Type 0
OneKind t = (e : Edit) (k l : Kind) → sent e k ∈ t → sent e l ∈ t → k ≡ l

pub not_causal : ordinary ≡ causal → ⊥
not_causal q = let z : ◌≡◌ {A = ℕ} 0 1 = cc in omega arith

pub one_kind : (t : Trace) → Throughout New t → OneKind t
one_kind [] n e k l p q = absurd (Memᴰ.not-nil p)
one_kind (x ∷ t) n e k l (Memᴰ.head p) (Memᴰ.head q) = cc
one_kind (x ∷ t) n e k l (Memᴰ.head p) (Memᴰ.tail q) = absurd (sent_not_again n.0 (l, q) p)
one_kind (x ∷ t) n e k l (Memᴰ.tail p) (Memᴰ.head q) = absurd (sent_not_again n.0 (k, p) q)
one_kind (x ∷ t) n e k l (Memᴰ.tail p) (Memᴰ.tail q) = one_kind t n.1 e k l p q

module _ {t : Trace} (one : OneKind t) where
  -- an edit sent before another is before it under whatever kind that was sent with
  pub before_whichever : {e f : Edit} {l : Kind} (b : Prior t e f) → sent f l ∈ t → Before t (sent e b.0) (sent f l)
  before_whichever {e} {f} {l} (k, h, b) p = subst (λ (i : Kind). Before t (sent e k) (sent f i)) (one f h l (before_in b).1 p) b

  pub prior_chains : {e f g : Edit} → Prior t e f → Prior t f g → Prior t e g
  prior_chains b (k, l, c) = (b.0, l, before_chains (before_whichever b (before_in c).0) c)

  pub needs_are_prior : {e f : Edit} → Needs t f e → Prior t e f
  needs_are_prior (direct (pair k l b c)) = (k, l, b)
  needs_are_prior (through (pair k l b c) n) = prior_chains (needs_are_prior n) (k, l, b)

  pub never_prior_to_itself : {e : Edit} → Throughout New t → ¬ Prior t e e
  never_prior_to_itself {e} all_new b = never_before_itself t (sent e b.0) all_new (before_whichever b (before_in b.2).0)

  pair_passes_on : {e f g : Edit} → Prior t f g → Pair t f e → Needs t g e
  pair_passes_on (k, l, b) (pair i h c (inl q)) =
      direct (pair i l (before_chains (before_whichever (i, h, c) (before_in b).0) b) (inl q))
  pair_passes_on {f = f} (k, l, b) (pair i h c (inr q)) =
      through (pair k l b (inl (one f k h (before_in b).0 (before_in c).1 ∙ q))) (direct (pair i h c (inr q)))

  -- what an edit needs, each edit sent after it needs too
  pub needs_pass_on : {e f g : Edit} → Prior t f g → Needs t f e → Needs t g e
  needs_pass_on h (direct p) = pair_passes_on h p
  needs_pass_on h (through p n) = needs_chain (pair_passes_on h p) n
