-- The lemmas of source document 000, section 3.3, and its safety, section 3.4, under their own numbers. A message of the
-- paper is a packet sent in the run; m → p is that m's edit was sent causally before p's.
use mathlib.Core.Path.{◌≡◌, refl, sym, subst}
use mathlib.Core.List.{List}
use mathlib.Core.Logic.{inl, inr, ◌↔◌, ⊎_elim, by_cases}
use Prim.Native.Nat.{ℕ, ◌≤◌, ◌<◌}
use native.Mathlib.Omega.{arith}
use native.Mathlib.Decide.{dec_le}
use Rattle.session.specs.Events.{Way, Edit, handed, Trace, ◌∈◌, Before, link, seat, Prior, Pair, direct}
use Rattle.session.specs.Protocol.{Model, Covered, Within, Below, Seated, edit, Run}
use Rattle.session.proofs.OneKind.{OneKind, one_kind, prior_chains, needs_are_prior, never_prior_to_itself, needs_pass_on}
use Rattle.session.proofs.Knowledge.{PriorOrSame, owed_is_known}
use Rattle.session.proofs.Covering.{covered_within}
use Rattle.session.proofs.Kept.{after_all_it_needs}
use Rattle.session.proofs.Invariant.{Posted, Invariant}
use Rattle.session.proofs.Runs.{run_invariant}

module _ (D : Model) {n : ℕ} {seats : ℕ → D.Seat} {packets : List D.Packet} {t : Trace} (run : Run D n seats packets t) where
  open D use {Packet, sender, pastₘ, barrierₘ, past, barrier}

  I : Invariant D n seats packets t
  I = run_invariant D run

  one : OneKind t
  one = one_kind t I.all_new

  no_loop : {e : Edit} → ¬ Prior t e e
  no_loop = never_prior_to_itself one I.all_new

  covers_itself : {m : Packet} → Posted D t m → Covered (edit D m) (pastₘ m)
  covers_itself {m} posted = (posted.covers (edit D m)).1 (inl refl)

  -- Lemma 1: one message is causally before another exactly when its past is below the other's.
  pub lemma_1 : (m p : Packet) → m ∈ packets → p ∈ packets → Prior t (edit D m) (edit D p) ↔ Below (pastₘ m) (pastₘ p)
  lemma_1 m p m_sent p_sent = (λ before. (within before, (sender p, strict before)), λ (less, (i, more)). first less i more)
    where
      m_posted : Posted D t m
      m_posted = I.posted m m_sent

      p_posted : Posted D t p
      p_posted = I.posted p p_sent

      later : Prior t (edit D m) (edit D p) → (e : Edit) → PriorOrSame t e (edit D m) → Prior t e (edit D p)
      later before e =
          ⊎_elim (λ q. subst (λ (d : Edit). Prior t d (edit D p)) (sym q) before) (λ earlier. prior_chains one earlier before)

      within : Prior t (edit D m) (edit D p) → Within (pastₘ m) (pastₘ p)
      within before = covered_within (pastₘ m) (pastₘ p) (λ e u. (p_posted.covers e).1 (inr (later before e ((m_posted.covers e).0 u))))

      strict : Prior t (edit D m) (edit D p) → pastₘ m (sender p) < pastₘ p (sender p)
      strict before =
          by_cases (dec_le (pastₘ p (sender p)) (pastₘ m (sender p)))
          (λ covered. absurd (no_loop (later before (edit D p) ((m_posted.covers (edit D p)).0 ((covers_itself p_posted).0, covered)))))
          (λ more. omega arith)

      first : Within (pastₘ m) (pastₘ p) → (i : ℕ) → pastₘ m i < pastₘ p i → Prior t (edit D m) (edit D p)
      first less i more = ⊎_elim same (λ before. before) ((p_posted.covers (edit D m)).0 ((covers_itself m_posted).0, least))
        where
          least : pastₘ m (sender m) ≤ pastₘ p (sender m)
          least = less (sender m)

          same : edit D m ≡ edit D p → Prior t (edit D m) (edit D p)
          same q = let no_more = covered_within (pastₘ p) (pastₘ m) (λ e u. (m_posted.covers e).1 (as_m e u)) i in absurd (omega arith)
            where
              as_m : (e : Edit) → Covered e (pastₘ p) → PriorOrSame t e (edit D m)
              as_m e u = subst (λ (d : Edit). PriorOrSame t e d) (sym q) ((p_posted.covers e).0 u)

  -- Lemma 2.1: a seat's barrier is within its past.
  pub lemma_2_1 : (j : ℕ) → Seated n j → Within (barrier (seats j)) (past (seats j))
  lemma_2_1 j seated =
      covered_within (barrier (seats j)) (past (seats j))
      (λ e u. ((I.counts j seated).knows e).1 (owed_is_known one j (((I.counts j seated).owes e).0 u)))

  -- Lemma 2.2: a message's barrier is below its past, and smaller at its sender.
  pub lemma_2_2 : (m : Packet) → m ∈ packets → Below (barrierₘ m) (pastₘ m) × (barrierₘ m (sender m) < pastₘ m (sender m))
  lemma_2_2 m m_sent = ((within, (sender m, smaller)), smaller)
    where
      m_posted : Posted D t m
      m_posted = I.posted m m_sent

      within : Within (barrierₘ m) (pastₘ m)
      within = covered_within (barrierₘ m) (pastₘ m) (λ e u. (m_posted.covers e).1 (inr (needs_are_prior one ((m_posted.waits e).0 u))))

      smaller : barrierₘ m (sender m) < pastₘ m (sender m)
      smaller =
          by_cases (dec_le (pastₘ m (sender m)) (barrierₘ m (sender m)))
          (λ covered. absurd (no_loop (needs_are_prior one ((m_posted.waits (edit D m)).0 ((covers_itself m_posted).0, covered)))))
          (λ more. omega arith)

  -- Lemma 3: along the causal order of messages, barriers do not decrease.
  pub lemma_3 : (m p : Packet) → m ∈ packets → p ∈ packets → Prior t (edit D m) (edit D p) → Within (barrierₘ m) (barrierₘ p)
  lemma_3 m p m_sent p_sent before =
      covered_within (barrierₘ m) (barrierₘ p)
      (λ e u. ((I.posted p p_sent).waits e).1 (needs_pass_on one before (((I.posted m m_sent).waits e).0 u)))

  -- Lemma 4: where m is causally before p and either is causal, p's barrier covers m.
  pub lemma_4 : (m p : Packet) → m ∈ packets → p ∈ packets → Pair t (edit D p) (edit D m) → pastₘ m (sender m) ≤ barrierₘ p (sender m)
  lemma_4 m p m_sent p_sent bound = (((I.posted p p_sent).waits (edit D m)).1 (direct bound)).1

  -- Safety: where f was sent causally before e and either is causal, each seat's hand-over of f is causally before its
  -- hand-over of e.
  pub safety : {e f : Edit} → Pair t e f → (w : Way) (j : ℕ) → handed w j e ∈ t → (v : Way) × Before t (handed v j f) (handed w j e)
  safety bound w j p =
      let (v, earlier) = after_all_it_needs I.all_new I.kept p (direct bound) in
      (v, link (seat j earlier refl refl))
