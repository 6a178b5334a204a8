-- On every answer number but 0 and 1, image, shelf and output are unchanged.
use Prim.Native.Nat.{ℕ, ◌<◌}
use mathlib.Core.Path.{◌≡◌, ◌∙◌}
use mathlib.Core.List.{List}
use native.Mathlib.Omega.{arith}
use Rattle.answers.specs.Answers.{seat_no}
use Rattle.seat.specs.Opening.{open_answer}
use Rattle.seat.specs.Sending.{send_answer}
use Rattle.seat.specs.Arriving.{arrive_answer}
use Rattle.seat.specs.Releasing.{release_answer}
use Rattle.tautrobin.specs.Image.{decoded}
use Rattle.tautrobin.specs.Calls.{answer_number, open_report, OpenCalled, send_report, SendCalled, arrive_report, ArriveCalled, release_report, ReleaseCalled}
use Rattle.tautrobin.proofs.Reporting.{last_is_small, first_is_small, told_large, left_alone}

module _ (n own : ℕ) (image shelf : List ℕ) where
  open_is_small : (open_report n own image shelf).answer < 256
  unfolding open_report
  open_is_small = first_is_small 20 _ _ _ (omega arith) (first_is_small 10 _ _ _ (omega arith) (last_is_small (open_answer n (seat_no own) shelf)))

  pub open_call_leaves_all : (answer : ℕ) (image-left shelf-left : List ℕ) → OpenCalled n own image shelf answer image-left shelf-left → 1 < answer_number answer
      → (image-left ≡ image) × (shelf-left ≡ shelf)
  open_call_leaves_all answer image-left shelf-left called large =
      let told = open_report n own image shelf in
      let refused = told_large told answer called.answered open_is_small large in
      (called.image_after ∙ left_alone told _ image refused, called.shelf_after_is ∙ left_alone told _ shelf refused)

module _ (image : List ℕ) (kind : ℕ) (body out : List ℕ) where
  send_is_small : (send_report image kind body out).answer < 256
  unfolding send_report
  send_is_small =
      first_is_small 10 _ _ _ (omega arith) (first_is_small 10 _ _ _ (omega arith) (first_is_small 22 _ _ _ (omega arith) (last_is_small (send_answer (decoded image) body out))))

  pub send_call_leaves_all : (answer : ℕ) (image-left output-left : List ℕ) → SendCalled image kind body out answer image-left output-left → 1 < answer_number answer
      → (image-left ≡ image) × (output-left ≡ out)
  send_call_leaves_all answer image-left output-left called large =
      let told = send_report image kind body out in
      let refused = told_large told answer called.answered send_is_small large in
      (called.image_after ∙ left_alone told _ image refused, called.output ∙ left_alone told _ out refused)

module _ (image shelf packet : List ℕ) where
  arrive_is_small : (arrive_report image shelf packet).answer < 256
  unfolding arrive_report
  arrive_is_small = first_is_small 10 _ _ _ (omega arith) (last_is_small (arrive_answer (decoded image) shelf packet))

  pub arrive_call_leaves_all : (answer : ℕ) (image-left shelf-left : List ℕ) → ArriveCalled image shelf packet answer image-left shelf-left → 1 < answer_number answer
      → (image-left ≡ image) × (shelf-left ≡ shelf)
  arrive_call_leaves_all answer image-left shelf-left called large =
      let told = arrive_report image shelf packet in
      let refused = told_large told answer called.answered arrive_is_small large in
      (called.image_after ∙ left_alone told _ image refused, called.shelf_after_is ∙ left_alone told _ shelf refused)

module _ (image shelf out : List ℕ) where
  release_is_small : (release_report image shelf out).answer < 256
  unfolding release_report
  release_is_small = first_is_small 10 _ _ _ (omega arith) (last_is_small (release_answer (decoded image) shelf out))

  pub release_call_leaves_all : (answer : ℕ) (image-left shelf-left output-left : List ℕ) → ReleaseCalled image shelf out answer image-left shelf-left output-left
      → 1 < answer_number answer → (image-left ≡ image) × (shelf-left ≡ shelf) × (output-left ≡ out)
  release_call_leaves_all answer image-left shelf-left output-left called large =
      let told = release_report image shelf out in
      let refused = told_large told answer called.answered release_is_small large in
      (called.image_after ∙ left_alone told _ image refused, called.shelf_after_is ∙ left_alone told _ shelf refused, called.output ∙ left_alone told _ out refused)
