-- A whole input, in pieces of any length: what the library prints for it is what the definition prints.
use Rattle.std.specs.Prelude.{◌≡◌, true, List, [], ◌++◌, ℕ, take}
use Rattle.steps.specs.Printed.{printed}
use Rattle.steps.specs.Course.{still, is_over, PieceTaken, Finished}
use Rattle.steps.specs.declared.list.Course.{Course}
use Rattle.steps.specs.declared.list.Taken.{Taken}

-- What the program does: it starts, and takes the pieces one after another. Each call's result is what its contract says.
pub data Runs : List ℕ → Course → List ℕ → List ℕ → List ℕ → Type 0 where
  starts : {course : Course} {shelves packets : List ℕ} → ((text : List ℕ) → still course shelves packets text ≡ printed text)
      → Runs [] course shelves packets []
  takes : {input : List ℕ} {course : Course} {shelves packets output : List ℕ} (piece : List ℕ) (taken : Taken) (shelves-left packets-left out : List ℕ)
      → Runs input course shelves packets output → PieceTaken course piece shelves packets taken shelves-left packets-left out
      → Runs (input ++ piece) taken.course shelves-left packets-left (output ++ take taken.end out)

-- Where the list is over, what was written is the whole output, whatever else the input has.
abbrev pub EndsEarly : Type 0
EndsEarly = (input : List ℕ) (course : Course) (shelves packets output : List ℕ) → Runs input course shelves packets output → is_over course.stage ≡ true
    → (rest : List ℕ) → output ≡ printed (input ++ rest)

-- For the whole input, what was written and what finishing writes are the definition's output.
abbrev pub WholeInput : Type 0
WholeInput = (input : List ℕ) (course : Course) (shelves packets output : List ℕ) (end : ℕ) (out : List ℕ)
    → Runs input course shelves packets output → Finished course shelves packets end out → output ++ take end out ≡ printed input
