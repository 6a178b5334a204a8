-- Which edits a vector of counts covers, as the protocol's lines change it.
use mathlib.Core.Path.{◌≡◌, refl, sym, subst}
use mathlib.Core.Logic.{◌⊎◌, inl, inr, ◌↔◌, ◌≢◌, ⊎_elim, by_cases}
use Prim.Native.Nat.{ℕ, zero, suc, ◌≤◌, max}
use native.Mathlib.Omega.{arith}
use native.Mathlib.Decide.{ℕ_discrete, dec_le}
use Rattle.session.specs.Events.{Edit}
use Rattle.session.specs.Protocol.{Covered, Within}

pub edit_is : {e f : Edit} → e.by ≡ f.by → e.number ≡ f.number → e ≡ f
edit_is p q = λ i. record { by = p i; number = q i }

-- two edits are the same or not
pub edit_same : (e f : Edit) → (e ≡ f) ⊎ (e ≢ f)
edit_same e f = by_cases (ℕ_discrete e.by f.by)
    (λ p. by_cases (ℕ_discrete e.number f.number) (λ q. inl (edit_is p q)) (λ d. inr (λ q. d (cc))))
    (λ d. inr (λ q. d (cc)))

-- equal vectors cover the same edits, and a maximum what either covers
pub covered_same : {u v : ℕ → ℕ} (e : Edit) → ((i : ℕ) → u i ≡ v i) → Covered e u ↔ Covered e v
covered_same e same = (λ p. omega (arith, same e.by), λ p. omega (arith, same e.by))

pub covered_max : {u : ℕ → ℕ} (v w : ℕ → ℕ) (e : Edit) → ((i : ℕ) → u i ≡ max (v i) (w i)) → Covered e u ↔ (Covered e v ⊎ Covered e w)
covered_max v w e most = (
  λ p. by_cases (dec_le e.number (v e.by)) (λ h. inl (p.0, h)) (λ h. inr (p.0, omega (arith, most e.by))),
  ⊎_elim (λ p. omega (arith, most e.by)) (λ p. omega (arith, most e.by)),
)

-- no edit is covered by zeros
pub covered_by_none : {u : ℕ → ℕ} (e : Edit) → ((i : ℕ) → u i ≡ 0) → ¬ Covered e u
covered_by_none e none p = omega (arith, none e.by)

-- a vector that covers no more is within the other, at one seat and at all
pub within_at : (u v : ℕ → ℕ) (i : ℕ) → ((e : Edit) → e.by ≡ i → Covered e u → Covered e v) → u i ≤ v i
within_at u v i more = go (u i) (λ k low high. (more (record { by = i; number = k }) refl (low, high)).1)
  where
    go : (count : ℕ) → ((k : ℕ) → 1 ≤ k → k ≤ count → k ≤ v i) → count ≤ v i
    go zero h = omega arith
    go (suc count) h = h (suc count) (omega arith) (omega arith)

pub covered_within : (u v : ℕ → ℕ) → ((e : Edit) → Covered e u → Covered e v) → Within u v
covered_within u v more i = within_at u v i (λ e _. more e)

-- One more at the seat of `f`, which has that number: `f` is covered besides, and was not.
module _ (f : Edit) (u v : ℕ → ℕ) (number : f.number ≡ u f.by) (own : u f.by ≡ suc (v f.by)) where
  pub covered_one_more : (e : Edit) → ((i : ℕ) → i ≢ f.by → u i ≡ v i) → Covered e u ↔ ((e ≡ f) ⊎ Covered e v)
  covered_one_more e others = by_cases (ℕ_discrete e.by f.by) here away
    where
      away : e.by ≢ f.by → Covered e u ↔ ((e ≡ f) ⊎ Covered e v)
      away d = (
        λ p. inr (p.0, omega (arith, others e.by d)),
        ⊎_elim (λ q. absurd (d (cc))) (λ p. (p.0, omega (arith, others e.by d))),
      )

      here : e.by ≡ f.by → Covered e u ↔ ((e ≡ f) ⊎ Covered e v)
      here h = (
        λ p. let at = (there u).0 p.1 in
            by_cases (dec_le e.number (v f.by)) (λ l. inr (p.0, (there v).1 l)) (λ l. inl (edit_is h (omega arith))),
        ⊎_elim
            (λ q. let is : e.number ≡ f.number = cc in (omega arith, (there u).1 (omega arith)))
            (λ p. let at = (there v).0 p.1 in (p.0, (there u).1 (omega arith))),
      )
        where
          there : (counts : ℕ → ℕ) → (e.number ≤ counts e.by) ↔ (e.number ≤ counts f.by)
          there counts = (subst (λ (i : ℕ). e.number ≤ counts i) h, subst (λ (i : ℕ). e.number ≤ counts i) (sym h))

  pub one_more_is_new : ¬ Covered f v
  one_more_is_new p = omega arith
