-- A session as document 01's step-list program reads and prints it: its steps, and what they were answered.
use Rattle.std.specs.Prelude.{ℕ, ◌≡◌, List, [], ◌∷◌, ◌++◌}
use Rattle.answers.specs.declared.Answer.{Answer}
use Rattle.shelf.specs.Shelf.{slots}
use Rattle.seat.specs.declared.Wish.{Wish}
use Rattle.seat.specs.declared.Wish.TheVariants.{Ordinary, Causal}
use Rattle.session.specs.Events.{ordinary, causal, arrival, release, sent, handed, shelved, idle, Trace}
use Rattle.session.specs.Protocol.{Seated}
use Rattle.promises.specs.Demand3.{Place, reported, Letter, Session, opening, sending, arriving, releasing}
use Rattle.promises.specs.Demand1.{answer_number}

-- `s SEAT o|c`, `a SEAT SENDER NUMBER` and `r SEAT`.
pub data Step : Type 0 where
  s : ℕ → Wish → Step
  a : ℕ → ℕ → ℕ → Step
  r : ℕ → Step

-- A session's steps, oldest first.
unfoldable pub steps_of : {n : ℕ} {places : ℕ → Place} {letters : List Letter} {trace : Trace} → Session n places letters trace → List Step
steps_of (opening fresh) = []
steps_of (sending j wish body out output stepped session seated meets) = steps_of session ++ (s j wish ∷ [])
steps_of (arriving j letter shelf stepped session seated mail meets) = steps_of session ++ (a j letter.edit.by letter.edit.number ∷ [])
steps_of (releasing j out shelf output stepped session seated meets) = steps_of session ++ (r j ∷ [])

-- What is printed of an answer: its number, sender and sequence number.
abbrev pub printed : Answer → ℕ × ℕ × ℕ
printed answer = (answer_number answer, (reported answer).by, (reported answer).number)

-- What a session's steps were answered, oldest first.
unfoldable pub answers_of : {n : ℕ} {places : ℕ → Place} {letters : List Letter} {trace : Trace} → Session n places letters trace → List (ℕ × ℕ × ℕ)
answers_of (opening fresh) = []
answers_of (sending j wish body out output stepped session seated meets) = answers_of session ++ (printed stepped.answer ∷ [])
answers_of (arriving j letter shelf stepped session seated mail meets) = answers_of session ++ (printed stepped.answer ∷ [])
answers_of (releasing j out shelf output stepped session seated meets) = answers_of session ++ (printed stepped.answer ∷ [])

-- A session of n seats, with so many slots each, walks these steps, prints these answers and leaves these events.
pub record Walks (n slots_each : ℕ) (steps : List Step) (lines : List (ℕ × ℕ × ℕ)) (trace : Trace) : Type 0 where
  pub places : ℕ → Place
  pub letters : List Letter
  pub session : Session n places letters trace
  pub slots_are : (j : ℕ) → Seated n j → slots (places j).shelf ≡ slots_each
  pub steps_are : steps_of session ≡ steps
  pub answers_are : answers_of session ≡ lines

-- Document 01's listing.
abbrev pub listed_steps : List Step
listed_steps =
    s 1 Ordinary ∷ s 1 Causal ∷ a 2 1 2 ∷ a 2 1 1 ∷ r 2 ∷ s 2 Ordinary ∷ a 3 2 1 ∷ a 3 1 2 ∷ a 3 1 2 ∷ a 3 1 1 ∷ r 3 ∷ r 3 ∷ r 3 ∷ []

abbrev pub listed_answers : List (ℕ × ℕ × ℕ)
listed_answers =
    (0, 1, 1) ∷ (0, 1, 2) ∷ (1, 0, 0) ∷ (0, 1, 1) ∷ (0, 1, 2) ∷ (0, 2, 1) ∷ (1, 0, 0) ∷ (1, 0, 0) ∷ (17, 0, 0) ∷ (0, 1, 1) ∷ (0, 1, 2) ∷ (0, 2, 1) ∷ (2, 0, 0) ∷ []

-- The events that it leaves, newest first. The ninth step is refused, and leaves none.
abbrev pub listed_events : Trace
listed_events =
    idle 3
    ∷ handed release 3 (record { by = 2; number = 1 })
    ∷ handed release 3 (record { by = 1; number = 2 })
    ∷ handed arrival 3 (record { by = 1; number = 1 })
    ∷ shelved 3 (record { by = 1; number = 2 })
    ∷ shelved 3 (record { by = 2; number = 1 })
    ∷ sent (record { by = 2; number = 1 }) ordinary
    ∷ handed release 2 (record { by = 1; number = 2 })
    ∷ handed arrival 2 (record { by = 1; number = 1 })
    ∷ shelved 2 (record { by = 1; number = 2 })
    ∷ sent (record { by = 1; number = 2 }) causal
    ∷ sent (record { by = 1; number = 1 }) ordinary
    ∷ []
