-- What a trace of new events that keeps demand 3 says of each edit and seat: the demand's three sentences.
use mathlib.Core.Path.{sym, subst}
use mathlib.Core.List.Memᴰ
use mathlib.Core.List.{[], ◌∷◌, ◌++◌}
use Prim.Native.Nat.{ℕ}
use Rattle.session.specs.Events.{Way, Edit, Event, handed, idle, Trace, ◌∈◌, Earlier, last, before, Needs, Exact, Promised}
use Rattle.session.specs.Events.{Throughout, Kept, Sent}
use Rattle.session.proofs.Order.{New, needs_settled_by_one}

-- an edit handed over was sent
pub handed_was_sent : {w : Way} {j : ℕ} {e : Edit} {t : Trace} → Throughout New t → handed w j e ∈ t → Sent t e
handed_was_sent {t = []} all_new p = elim p [ ]
handed_was_sent {t = x ∷ t} all_new (Memᴰ.head q) =
    let (k, p) = (subst (λ (y : Event). New y t) (sym q) all_new.0).1 in
    (k, Memᴰ.tail p)
handed_was_sent {t = x ∷ t} all_new (Memᴰ.tail p) = let (k, s) = handed_was_sent all_new.1 p in (k, Memᴰ.tail s)

-- A seat hands over each edit at most once.
pub at_most_once : (w v : Way) (j : ℕ) (e : Edit) {t : Trace} → Kept t → ¬ Earlier (handed w j e) (handed v j e) t
at_most_once w v j e {t = []} kept p = elim p [ ]
at_most_once w v j e {t = x ∷ t} kept (last q p) = (subst (λ (y : Event). Promised y t) (sym q) kept.0).0 (w, p)
at_most_once w v j e {t = x ∷ t} kept (before h) = at_most_once w v j e kept.1 h

-- A seat hands over each edit after all it needs.
pub after_all_it_needs : {w : Way} {j : ℕ} {e f : Edit} {t : Trace} → Throughout New t → Kept t → handed w j e ∈ t → Needs t e f
    → (v : Way) × Earlier (handed v j f) (handed w j e) t
after_all_it_needs {t = []} all_new kept p needs = elim p [ ]
after_all_it_needs {f = f} {t = x ∷ t} all_new kept (Memᴰ.head q) needs =
    let n = subst (λ (y : Event). New y t) (sym q) all_new.0 in
    let promise = subst (λ (y : Event). Promised y t) (sym q) kept.0 in
    let (v, p) = promise.1 f ((needs_settled_by_one all_new.0 n.1).0 needs) in
    (v, last q p)
after_all_it_needs {t = x ∷ t} all_new kept (Memᴰ.tail p) needs =
    let (v, h) = after_all_it_needs all_new.1 kept.1 p ((needs_settled_by_one all_new.0 (handed_was_sent all_new.1 p)).0 needs) in
    (v, before h)

-- Told that nothing on its shelf is ready, a seat has handed over exactly the accepted edits whose every needed edit it
-- has accepted.
pub exact_when_idle : (later : Trace) {t : Trace} (j : ℕ) → Kept (later ++ (idle j ∷ t)) → Exact t j
exact_when_idle [] j kept = kept.0
exact_when_idle (x ∷ later) j kept = exact_when_idle later j kept.1
