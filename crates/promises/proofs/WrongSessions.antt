-- The traces of wrong libraries break demand 3: an edit is handed over twice, or before one it needs, or not at all.
use Prim.Native.Nat.{ℕ}
use mathlib.Core.Path.{◌≡◌, refl, ap}
use mathlib.Core.List.Memᴰ
use mathlib.Core.List.{[], ◌∷◌}
use mathlib.Core.Logic.{◌⊎◌, inl, inr, ⊎_elim, ⊎_map}
use Rattle.session.specs.Events.{Kind, causal, Way, arrival, Edit, Event, sent, handed, shelved, idle, Trace, ◌∈◌, last}
use Rattle.session.specs.Events.{seat, link, Sent, Pair, pair, Needs, direct, through, Handed, Accepted, Exact, Kept}
use Rattle.session.proofs.Order.{before_in, before_old}
use Rattle.promises.specs.WrongSessions.{AllAccepted, WrongSessions}

-- ---- events

older : {x y : Event} {t : Trace} → ¬ (x ≡ y) → x ∈ (y ∷ t) → x ∈ t
older other (Memᴰ.head q) = absurd (other q)
older other (Memᴰ.tail m) = m

sends_one_edit : {e f : Edit} {k l : Kind} → sent f l ≡ sent e k → f ≡ e
sends_one_edit q = cc

-- ---- what is needed

pair_is_sent : {t : Trace} {e f : Edit} → Pair t e f → Sent t f
pair_is_sent (pair k l b c) = (k, (before_in b).0)

needed_is_sent : {t : Trace} {e f : Edit} → Needs t e f → Sent t f
needed_is_sent (direct p) = pair_is_sent p
needed_is_sent (through p n) = needed_is_sent n

first_has_no_pair : {x : Event} {e f : Edit} → ¬ Pair (x ∷ []) e f
first_has_no_pair (pair k l b c) = Memᴰ.not-nil (before_old b)

first_needs_nothing : {x : Event} {e f : Edit} → ¬ Needs (x ∷ []) e f
first_needs_nothing (direct p) = first_has_no_pair p
first_needs_nothing (through p n) = first_has_no_pair p

-- an edit needs the one that its seat sent just before it, if either is causal
needs_the_one_before : {first second : Edit} (k l : Kind) (t : Trace) → first.by ≡ second.by → (k ≡ causal) ⊎ (l ≡ causal)
    → Needs (sent second l ∷ sent first k ∷ t) second first
needs_the_one_before {first} k l t same either =
    direct (pair k l (link (seat first.by (last refl (Memᴰ.head refl)) refl same)) either)

-- ---- an edit that was sent and is not handed over

left_lying : (j : ℕ) (e : Edit) (t : Trace) → AllAccepted t j → Sent t e → ¬ Handed t j e → ¬ Kept (idle j ∷ t)
left_lying j e t all s lacks kept = lacks ((kept.0 e).1 (all e s, λ f n. all f (needed_is_sent n)))

module _ (j : ℕ) (e : Edit) (k : Kind) where
  one_shelved : AllAccepted (shelved j e ∷ sent e k ∷ []) j
  one_shelved f (l, m) =
      let is : f ≡ e = sends_one_edit (Memᴰ.eq_of_singleton (older (λ q. cc) m)) in
      let same : shelved j f ≡ shelved j e = cc in
      inr (Memᴰ.head same)

  only_shelves : ¬ Kept (idle j ∷ shelved j e ∷ sent e k ∷ [])
  only_shelves =
      left_lying j e (shelved j e ∷ sent e k ∷ []) one_shelved (k, Memᴰ.tail (Memᴰ.head refl))
      (λ (w, m). Memᴰ.not-nil (older (λ q. cc) (older (λ q. cc) m)))

  one_handed : AllAccepted (handed arrival j e ∷ sent e k ∷ []) j
  one_handed f (l, m) =
      let is : f ≡ e = sends_one_edit (Memᴰ.eq_of_singleton (older (λ q. cc) m)) in
      let same : handed arrival j f ≡ handed arrival j e = cc in
      inl (Memᴰ.head same)

  on_arrival : {w : Way} {f : Edit} → handed w j f ∈ (handed arrival j e ∷ sent e k ∷ []) → handed arrival j f ∈ (handed arrival j e ∷ sent e k ∷ [])
  on_arrival {w} {f} m =
      ⊎_elim (λ q. let same : handed arrival j f ≡ handed arrival j e = cc in Memᴰ.head same)
      (λ m. absurd (Memᴰ.not-nil (older (λ q. cc) m))) (Memᴰ.cases_cons m)

  exact : Exact (handed arrival j e ∷ sent e k ∷ []) j
  exact f = (
    λ (w, m). (inl (on_arrival m), λ g n. one_handed g (needed_is_sent n)),
    λ (accepted, _).
        ⊎_elim (λ m. (arrival, m)) (λ m. absurd (Memᴰ.not-nil (older (λ q. cc) (older (λ q. cc) m)))) accepted,
  )

  treated_rightly : Kept (idle j ∷ handed arrival j e ∷ sent e k ∷ [])
  treated_rightly =
      (exact, ((λ (w, m). Memᴰ.not-nil (older (λ q. cc) m), λ f n. absurd (first_needs_nothing n)), (tt, tt)))

-- ---- two edits

module _ (j : ℕ) (first second : Edit) (k l : Kind) (other : ¬ (second ≡ first)) where
  one_of_two : {f : Edit} {m : Kind} → sent f m ∈ (sent second l ∷ sent first k ∷ []) → (f ≡ second) ⊎ (f ≡ first)
  one_of_two p = ⊎_map sends_one_edit (λ r. sends_one_edit (Memᴰ.eq_of_singleton r)) (Memᴰ.cases_cons p)

  not_yet : {w : Way} → ¬ (handed w j second ∈ (sent second l ∷ sent first k ∷ []))
  not_yet m = Memᴰ.not-nil (older (λ q. cc) (older (λ q. cc) m))

  another : {w : Way} → ¬ (handed w j second ≡ handed arrival j first)
  another q = other cc

  second_sent_lem : sent second l ∈ (sent second l ∷ sent first k ∷ [])
  second_sent_lem = Memᴰ.head refl

  -- both are accepted, whatever the trace, if the first is handed over and the second shelved
  both : {t : Trace} {f : Edit} → handed arrival j first ∈ t → shelved j second ∈ t → (f ≡ second) ⊎ (f ≡ first) → Accepted t j f
  both {t} {f} p q (inl is) = inr (Memᴰ.cast (ap (shelved j) is) q)
  both {t} {f} p q (inr is) = inl (Memᴰ.cast (ap (handed arrival j) is) p)

  shelf_unchanged : ¬ Kept (idle j ∷ handed arrival j first ∷ shelved j second ∷ sent second l ∷ sent first k ∷ [])
  shelf_unchanged =
      left_lying j second (handed arrival j first ∷ shelved j second ∷ sent second l ∷ sent first k ∷ [])
      (λ f (m, p). both (Memᴰ.head refl) (Memᴰ.tail (Memᴰ.head refl)) (one_of_two (older (λ q. cc) (older (λ q. cc) p))))
      (l, Memᴰ.tail (Memᴰ.tail second_sent_lem))
      (λ (w, m). not_yet (older (λ q. cc) (older another m)))

  says_1_after_first : ¬ Kept (idle j ∷ shelved j second ∷ handed arrival j first ∷ sent second l ∷ sent first k ∷ [])
  says_1_after_first =
      left_lying j second (shelved j second ∷ handed arrival j first ∷ sent second l ∷ sent first k ∷ [])
      (λ f (m, p). both (Memᴰ.tail (Memᴰ.head refl)) (Memᴰ.head refl) (one_of_two (older (λ q. cc) (older (λ q. cc) p))))
      (l, Memᴰ.tail (Memᴰ.tail second_sent_lem))
      (λ (w, m). not_yet (older another (older (λ q. cc) m)))

pub wrong_sessions : WrongSessions
wrong_sessions =
    record {
      treated_rightly = treated_rightly;
      left_lying = left_lying;
      only_shelves = only_shelves;
      shelf_unchanged = shelf_unchanged;
      says_0_again = λ w v j e t kept. kept.0.0 (v, Memᴰ.head refl);
      numbered_alike = λ w j e k l t either kept. kept.0.0 (kept.0.1 e (needs_the_one_before k l t refl either));
      says_0_too_early = λ w j first second k l t same either lacks kept.
          let (v, m) = kept.0.1 first (needs_the_one_before k l t same either) in
          lacks (v, older (λ q. cc) (older (λ q. cc) m));
      says_1_after_first = says_1_after_first;
    }
