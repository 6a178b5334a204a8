-- The state crosses whole: the next call decodes the state that a step handed back, and a step that hands back the state
-- it was given leaves the image's bytes as they were.
use Prim.Native.Nat.{ℕ, ◌≤◌}
use mathlib.Core.Path.{◌≡◌, refl, ap, ◌∙◌}
use mathlib.Core.Bool.{Bool, true, false, cond}
use mathlib.Core.List.{List}
use lib.Dec.{leb}
use lib.ListN.{length}
use Rattle.answers.specs.Answers.{report}
use Rattle.vectors.specs.Bytes.{Bytes}
use Rattle.seat.specs.State.{Held}
use Rattle.seat.specs.declared.Stepped.{Stepped}
use Rattle.tautrobin.specs.Image.{image_size, decoded, encoded, Numbered}
use Rattle.tautrobin.specs.Calls.{rewritten, Kept}
use Rattle.tautrobin.proofs.ImageRoundTrip.{image_reads_back, image_writes_again}
use Rattle.tautrobin.proofs.Reporting.{goes_in}

either_way : (test : Bool) (l : List ℕ) → cond test l l ≡ l
either_way true l = refl
either_way false l = refl

module _ (stepped : Stepped) (image : List ℕ) (answer : ℕ) (image-left : List ℕ) (kept : Kept stepped image answer image-left) where
  pub next_state_reads_back : (report stepped.answer).answer ≤ 1 → Held stepped.seat → Numbered stepped.seat → decoded image-left ≡ stepped.seat
  next_state_reads_back done held numbered =
      ap decoded (kept.image_after ∙ goes_in (report stepped.answer) (encoded stepped.seat) image done) ∙ image_reads_back stepped.seat held numbered

  pub same_state_leaves_the_image : length image ≡ image_size → Bytes image → stepped.seat ≡ decoded image → image-left ≡ image
  unfolding rewritten
  same_state_leaves_the_image right bytes same =
      kept.image_after ∙ rw (same, image_writes_again image right bytes) (either_way (leb (report stepped.answer).answer 1) image)
