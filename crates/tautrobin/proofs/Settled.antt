-- Each call's contract settles its result: two results that meet it are equal.
use Prim.Native.Nat.{ℕ}
use mathlib.Core.Path.{◌≡◌, sym, ◌∙◌}
use mathlib.Core.List.{List}
use Rattle.tautrobin.specs.Calls.{OpenCalled, SendCalled, ArriveCalled, ReleaseCalled}

pub open_call_settled : (n own : ℕ) (image shelf : List ℕ) (one other : ℕ) (image-one shelf-one image-other shelf-other : List ℕ)
    → OpenCalled n own image shelf one image-one shelf-one → OpenCalled n own image shelf other image-other shelf-other
    → (one ≡ other) × (image-one ≡ image-other) × (shelf-one ≡ shelf-other)
open_call_settled n own image shelf one other image-one shelf-one image-other shelf-other a b =
    (a.answered ∙ sym b.answered, a.image_after ∙ sym b.image_after, a.shelf_after_is ∙ sym b.shelf_after_is)

pub send_call_settled : (image : List ℕ) (kind : ℕ) (body out : List ℕ) (one other : ℕ) (image-one out_one image-other out-other : List ℕ)
    → SendCalled image kind body out one image-one out_one → SendCalled image kind body out other image-other out-other
    → (one ≡ other) × (image-one ≡ image-other) × (out_one ≡ out-other)
send_call_settled image kind body out one other image-one out_one image-other out-other a b =
    (a.answered ∙ sym b.answered, a.image_after ∙ sym b.image_after, a.output ∙ sym b.output)

pub arrive_call_settled : (image shelf packet : List ℕ) (one other : ℕ) (image-one shelf-one image-other shelf-other : List ℕ)
    → ArriveCalled image shelf packet one image-one shelf-one → ArriveCalled image shelf packet other image-other shelf-other
    → (one ≡ other) × (image-one ≡ image-other) × (shelf-one ≡ shelf-other)
arrive_call_settled image shelf packet one other image-one shelf-one image-other shelf-other a b =
    (a.answered ∙ sym b.answered, a.image_after ∙ sym b.image_after, a.shelf_after_is ∙ sym b.shelf_after_is)

pub release_call_settled : (image shelf out : List ℕ) (one other : ℕ) (image-one shelf-one out_one image-other shelf-other out-other : List ℕ)
    → ReleaseCalled image shelf out one image-one shelf-one out_one → ReleaseCalled image shelf out other image-other shelf-other out-other
    → (one ≡ other) × (image-one ≡ image-other) × (shelf-one ≡ shelf-other) × (out_one ≡ out-other)
release_call_settled image shelf out one other image-one shelf-one out_one image-other shelf-other out-other a b = (
  a.answered ∙ sym b.answered,
  a.image_after ∙ sym b.image_after,
  a.shelf_after_is ∙ sym b.shelf_after_is,
  a.output ∙ sym b.output,
)
