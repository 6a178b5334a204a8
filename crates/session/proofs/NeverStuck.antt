-- Nothing can get stuck (source document 000, section 3.5): at a seat that has not handed over every sent edit, some sent
-- edit can be handed over next.
use mathlib.Core.Path.{◌≡◌, refl, sym, ap, subst}
use mathlib.Core.List.Memᴰ
use mathlib.Core.List.{List, [], ◌∷◌}
use mathlib.Core.Logic.{◌⊎◌, inl, inr, ⊎_elim, ⊎_map}
use Prim.Native.Nat.{ℕ, ◌<◌}
use native.Mathlib.Omega.{arith}
use Rattle.session.specs.Events.{arrival, release, Edit, Event, sent, handed, shelved, idle, Trace, ◌∈◌, Sent, Prior, Handed, Throughout}
use Rattle.session.specs.Protocol.{Model, Seated, edit, Next, Run, opened, sends, takes, shelves, releases, rests}
use Rattle.session.proofs.Order.{New, before_old, prior_is_settled}
use Rattle.session.proofs.OneKind.{one_kind, needs_are_prior}
use Rattle.session.proofs.Knowledge.{PriorOrSame}
use Rattle.session.proofs.Answered.{SentBy, sent_with, handed_or_not}
use Rattle.session.proofs.Invariant.{Invariant}
use Rattle.session.proofs.Runs.{run_invariant}

-- Of the sent edits that are not done, one that has all sent before it done.
abbrev Oldest : (Edit → Type 0) → Trace → Type 0
Oldest Done t = (e : Edit) × Sent t e × (¬ Done e) × ((g : Edit) → Prior t g e → Done g)

module _ (Done : Edit → Type 0) (done_or_not : (e : Edit) → Done e ⊎ (¬ Done e)) where
  newest : (x : Event) → ((e : Edit) → SentBy x e → Done e) ⊎ ((f : Edit) × SentBy x f × (¬ Done f))
  newest (sent f k) = ⊎_map (λ done e q. subst Done (sym q) done) (λ missing. (f, refl, missing)) (done_or_not f)
  newest (handed w j f) = inl (λ e h. absurd h)
  newest (shelved j f) = inl (λ e h. absurd h)
  newest (idle j) = inl (λ e h. absurd h)

  -- all that was sent is done, or there is an oldest that is not
  oldest : (t : Trace) → Throughout New t → ((e : Edit) → Sent t e → Done e) ⊎ Oldest Done t
  oldest [] all_new = inl (λ e s. absurd (Memᴰ.not-nil s.1))
  oldest (x ∷ t) all_new = ⊎_elim all_old (λ o. inr (still_oldest o)) (oldest t all_new.1)
    where
      still_oldest : Oldest Done t → Oldest Done (x ∷ t)
      still_oldest (e, s, missing, before) =
          (e, (sent_with x).1 (inl s), missing, λ g r. before g ((prior_is_settled all_new.0 s).0 r))

      all_old : ((e : Edit) → Sent t e → Done e) → ((e : Edit) → Sent (x ∷ t) e → Done e) ⊎ Oldest Done (x ∷ t)
      all_old all =
          ⊎_map (λ done e s. ⊎_elim (all e) (done e) ((sent_with x).0 s))
          (λ (f, is, missing). (f, (sent_with x).1 (inr is), missing, λ g (k, l, b). all g (k, before_old b)))
          (newest x)

module _ (D : Model) {n : ℕ} where
  open D use {Packet, sender, kind, Seat}

  -- every sent edit has its packet
  packet_of_lem : {seats : ℕ → Seat} {packets : List Packet} {t : Trace} → Run D n seats packets t → (e : Edit) → Sent t e
      → (m : Packet) × (m ∈ packets) × (edit D m ≡ e)
  packet_of_lem (opened fresh) e s = absurd (Memᴰ.not-nil s.1)
  packet_of_lem (sends m run seated turn) e s =
      ⊎_elim (λ was. let (p, on, q) = packet_of_lem run e was in (p, Memᴰ.tail on, q)) (λ q. (m, Memᴰ.head refl, sym q))
      ((sent_with (sent (edit D m) (kind m))).0 s)
  packet_of_lem (takes j m run seated mail turn) e s = ⊎_elim (λ was. packet_of_lem run e was) absurd ((sent_with (handed arrival j (edit D m))).0 s)
  packet_of_lem (shelves j m run seated mail turn) e s = ⊎_elim (λ was. packet_of_lem run e was) absurd ((sent_with (shelved j (edit D m))).0 s)
  packet_of_lem (releases j m run seated turn) e s = ⊎_elim (λ was. packet_of_lem run e was) absurd ((sent_with (handed release j (edit D m))).0 s)
  packet_of_lem (rests j run seated rest) e s = ⊎_elim (λ was. packet_of_lem run e was) absurd ((sent_with (idle j)).0 s)

  -- Every sent edit is handed over at the seat, or the packet of one that is not can be handed over there next.
  pub never_stuck : {seats : ℕ → Seat} {packets : List Packet} {t : Trace} → Run D n seats packets t → (j : ℕ) → Seated n j
      → ((e : Edit) → Sent t e → Handed t j e) ⊎ ((m : Packet) × Next D packets t j (seats j) m)
  never_stuck {seats} {packets} {t} run j seated =
      ⊎_map (λ all. all) (λ (e, s, missing, before). let (m, mail, q) = packet_of_lem run e s in (m, next e m q mail missing before))
      (oldest (Handed t j) (handed_or_not t j) t I.all_new)
    where
      I : Invariant D n seats packets t
      I = run_invariant D run

      next : (e : Edit) (m : Packet) → edit D m ≡ e → m ∈ packets → ¬ Handed t j e → ((g : Edit) → Prior t g e → Handed t j g)
          → Next D packets t j (seats j) m
      next e m q mail missing before = record {
        posted = mail;
        missing = λ h. missing (subst (λ (d : Edit). Handed t j d) q h);
        ready = λ d u. ((I.holds j seated).marks d).1 (earlier d (needs_are_prior (one_kind t I.all_new) (((I.posted m mail).waits d).0 u)));
        after_all_before = earlier;
        in_turn = λ k low high. in_turn k high (((I.posted m mail).covers (record { by = sender m; number = k })).0 (omega arith, omega arith));
      }
        where
          earlier : (d : Edit) → Prior t d (edit D m) → Handed t j d
          earlier d b = before d (subst (λ (y : Edit). Prior t d y) q b)

          in_turn : (k : ℕ) → k < (edit D m).number → PriorOrSame t (record { by = sender m; number = k }) (edit D m)
              → Handed t j (record { by = sender m; number = k })
          in_turn k high (inl is) = let z : k ≡ (edit D m).number = ap (λ (y : Edit). y.number) is in absurd (omega arith)
          in_turn k high (inr b) = earlier (record { by = sender m; number = k }) b
