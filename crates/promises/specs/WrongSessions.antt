-- What wrong libraries do to a session (document 01, "How firm the contracts are"): a trace that each of them leaves
-- breaks demand 3. That they break a call's contract too, so demand 2, is said in `WrongLibraries`.
use Rattle.std.specs.Prelude.{ℕ, ◌≡◌, [], ◌∷◌, ◌⊎◌}
use Rattle.session.specs.Events.{Kind, causal, Way, arrival, Edit, sent, handed, shelved, idle, Trace, Sent, Handed, Accepted, Kept}

-- Everything that was sent is accepted at the seat.
abbrev pub AllAccepted : Trace → ℕ → Type 0
AllAccepted trace j = (e : Edit) → Sent trace e → Accepted trace j e

-- The first trace, of an edit that is treated rightly, keeps demand 3. None of the others does.
pub record WrongSessions : Type 0 where
  -- Treated rightly: an edit is sent and handed over, and then nothing on the shelf is ready.
  pub treated_rightly : (j : ℕ) (e : Edit) (k : Kind) → Kept (idle j ∷ handed arrival j e ∷ sent e k ∷ [])
  -- Of any library: a seat has accepted all that was sent, is told that nothing is ready, and lacks an edit.
  pub left_lying : (j : ℕ) (e : Edit) (trace : Trace) → AllAccepted trace j → Sent trace e → ¬ Handed trace j e
      → ¬ Kept (idle j ∷ trace)
  -- Only shelves: an edit that needs nothing is shelved, and the release after it finds nothing ready.
  pub only_shelves : (j : ℕ) (e : Edit) (k : Kind) → ¬ Kept (idle j ∷ shelved j e ∷ sent e k ∷ [])
  -- Changes no shelf: the second edit, told shelved, is not there for a release once the first is handed over.
  pub shelf_unchanged : (j : ℕ) (first second : Edit) (k l : Kind) → ¬ (second ≡ first)
      → ¬ Kept (idle j ∷ handed arrival j first ∷ shelved j second ∷ sent second l ∷ sent first k ∷ [])
  -- Changes no state on an arrival, or says only 0 after its first packet: a packet that comes again is handed over
  -- again.
  pub says_0_again : (w v : Way) (j : ℕ) (e : Edit) (trace : Trace) → ¬ Kept (handed w j e ∷ handed v j e ∷ trace)
  -- Changes no state on a send: two sends give one edit, which needs itself if either is causal.
  pub numbered_alike : (w : Way) (j : ℕ) (e : Edit) (k l : Kind) (trace : Trace) → (k ≡ causal) ⊎ (l ≡ causal)
      → ¬ Kept (handed w j e ∷ sent e l ∷ sent e k ∷ trace)
  -- Says only 0, from the start or after its first packet: an edit is handed over before its sender's earlier one
  -- that it needs.
  pub says_0_too_early : (w : Way) (j : ℕ) (first second : Edit) (k l : Kind) (trace : Trace) → first.by ≡ second.by
      → (k ≡ causal) ⊎ (l ≡ causal) → ¬ Handed trace j first → ¬ Kept (handed w j second ∷ sent second l ∷ sent first k ∷ trace)
  -- Says only 1 to what arrives after its first packet: the second edit, ready, is shelved, and the release after it
  -- finds nothing ready.
  pub says_1_after_first : (j : ℕ) (first second : Edit) (k l : Kind) → ¬ (second ≡ first)
      → ¬ Kept (idle j ∷ shelved j second ∷ handed arrival j first ∷ sent second l ∷ sent first k ∷ [])
