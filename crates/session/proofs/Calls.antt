-- The sessions of a library that has the laws are runs of the protocol.
use mathlib.Core.Path.{◌≡◌, refl, sym, ◌∙◌, ap, subst}
use mathlib.Core.List.{List, ◌∷◌}
use Prim.Native.Nat.{ℕ, zero, suc}
use native.Mathlib.Omega.{arith}
use Rattle.session.specs.Events.{Way, Edit, sent, handed, Trace, ◌∈◌}
use Rattle.session.specs.Protocol.{Model, Seated, Sends, Takes, Shelves, Releases, Rests, Turn, Run, opened, sends, takes, shelves}
use Rattle.session.specs.Protocol.{releases, rests}
use Rattle.session.specs.Library.{Library, packets_after_send, trace_after_send, trace_after_arrival, trace_after_release}
use Rattle.session.specs.Library.{Session, start, sending, arriving, releasing}
use Rattle.session.proofs.Invariant.{each_seat}

module _ (D : Model) (library : Library D) where
  open D use {Packet, sender, kind, Seat}
  open library use {own, Request, Room, send, written, arrive, release, send_0, send_other, arrive_0, arrive_1, arrive_other}
  open library use {release_0, release_2, release_other, own_send, own_arrive, own_release}

  -- every seat keeps its number
  owns : {n : ℕ} {seats : ℕ → Seat} {packets : List Packet} {t : Trace} → Session D library n seats packets t → (j : ℕ) → Seated n j → own (seats j) ≡ j
  owns (start fresh) = λ i h. (fresh i h).numbered
  owns {n} (sending {seats = seats} j q s seated turn) =
      each_seat D (λ i a. Seated n i → own a ≡ i) turn (λ h. ap own turn.step ∙ own_send q (seats j) ∙ owns s j h) (λ i _. owns s i)
  owns {n} (arriving {seats = seats} j m s seated mail turn) =
      each_seat D (λ i a. Seated n i → own a ≡ i) turn (λ h. ap own turn.step ∙ own_arrive m (seats j) ∙ owns s j h) (λ i _. owns s i)
  owns {n} (releasing {seats = seats} j q s seated turn) =
      each_seat D (λ i a. Seated n i → own a ≡ i) turn (λ h. ap own turn.step ∙ own_release q (seats j) ∙ owns s j h) (λ i _. owns s i)

  -- One call more, at seat `j`, whose next state is given.
  module _ {seats seats' : ℕ → Seat} {j : ℕ} {next : Seat → Seat} (turn : Turn D j (λ a b. b ≡ next a) seats seats') where
    steps : (Step : Seat → Seat → Type 0) → Step (seats j) (next (seats j)) → Turn D j Step seats seats'
    steps Step step = record { step = subst (λ (b : Seat). Step (seats j) b) (sym turn.step) step; others = turn.others }

    -- a call that changes nothing leaves the run
    stays : {n : ℕ} {packets : List Packet} {t : Trace} → Run D n seats packets t → next (seats j) ≡ seats j → Run D n seats' packets t
    stays {n} {packets} {t} run unchanged = subst (λ (all : ℕ → Seat). Run D n all packets t) (λ i l. same l i) run
      where
        same : (l : ℕ) → seats l ≡ seats' l
        same = each_seat D (λ l a. seats l ≡ a) turn (sym (turn.step ∙ unchanged)) (λ _ _. refl)

  -- What each call leaves, by its answer.
  module _ {n : ℕ} {seats seats' : ℕ → Seat} {packets : List Packet} {t : Trace} (run : Run D n seats packets t) (j : ℕ) (seated : Seated n j) where
    run_send : (q : Request) → own (seats j) ≡ j → Turn D j (λ a b. b ≡ (send q a).next) seats seats' → (r : ℕ) → (send q (seats j)).answer ≡ r
        → Run D n seats' (packets_after_send D library q (seats j) r packets) (trace_after_send D library q (seats j) r t)
    run_send q is_own turn zero a =
        let (step, from, reported) = send_0 q (seats j) a in
        let m = written q (seats j) in
        let mine = sym (from ∙ is_own) in
        let seated_sender = subst (λ (i : ℕ). Seated n i) mine seated in
        let turn_of_sender = subst (λ (i : ℕ). Turn D i (Sends D m) seats seats') mine (steps turn (Sends D m) step) in
        subst (λ (d : Edit). Run D n seats' (m ∷ packets) (sent d (kind m) ∷ t)) (sym reported) (sends m run seated_sender turn_of_sender)
    run_send q is_own turn (suc r) a = stays turn run (send_other q (seats j) (λ z. omega arith))

    run_arrival : (m : Packet) → m ∈ packets → Turn D j (λ a b. b ≡ (arrive m a).next) seats seats' → (r : ℕ) → (arrive m (seats j)).answer ≡ r
        → Run D n seats' packets (trace_after_arrival D library j m (seats j) r t)
    run_arrival m mail turn zero a =
        let (step, reported) = arrive_0 m (seats j) a in
        subst (λ (d : Edit). Run D n seats' packets (handed Way.arrival j d ∷ t)) (sym reported)
        (takes j m run seated mail (steps turn (Takes D m) step))
    run_arrival m mail turn (suc zero) a =
        shelves j m run seated mail (steps turn (Shelves D m) (arrive_1 m (seats j) a))
    run_arrival m mail turn (suc (suc r)) a = stays turn run (arrive_other m (seats j) (omega arith))

    run_release : (q : Room) → Turn D j (λ a b. b ≡ (release q a).next) seats seats' → (r : ℕ) → (release q (seats j)).answer ≡ r
        → Run D n seats' packets (trace_after_release D library j q (seats j) r t)
    run_release q turn zero a =
        let (m, step, reported) = release_0 q (seats j) a in
        subst (λ (d : Edit). Run D n seats' packets (handed Way.release j d ∷ t)) (sym reported)
        (releases j m run seated (steps turn (Releases D m) step))
    run_release q turn (suc zero) a = stays turn run (release_other q (seats j) (λ z. omega arith))
    run_release q turn (suc (suc zero)) a =
        let unchanged = release_other q (seats j) (λ z. omega arith) in
        rests j (stays turn run unchanged) seated
        (subst (λ (b : Seat). Rests D b) (sym (turn.step ∙ unchanged)) (release_2 q (seats j) a))
    run_release q turn (suc (suc (suc r))) a = stays turn run (release_other q (seats j) (λ z. omega arith))

  -- Each session of the library is a run.
  pub session_is_a_run : {n : ℕ} {seats : ℕ → Seat} {packets : List Packet} {t : Trace} → Session D library n seats packets t → Run D n seats packets t
  session_is_a_run (start fresh) = opened (λ j s. (fresh j s).fresh)
  session_is_a_run (sending {seats = seats} j q s seated turn) =
      run_send (session_is_a_run s) j seated q (owns s j seated) turn (send q (seats j)).answer refl
  session_is_a_run (arriving {seats = seats} j m s seated mail turn) =
      run_arrival (session_is_a_run s) j seated m mail turn (arrive m (seats j)).answer refl
  session_is_a_run (releasing {seats = seats} j q s seated turn) =
      run_release (session_is_a_run s) j seated q turn (release q (seats j)).answer refl
