-- Laws of a part that is lent from place size * i on: it is the piece at i, and what comes back stands in its place.
use Prim.Native.Nat.{ℕ, ◌+◌, ◌*◌, ◌-◌, ◌≤◌}
use mathlib.Core.Path.{◌≡◌, ap, ◌∙◌}
use mathlib.Core.List.{List, ◌++◌}
use native.Mathlib.Omega.{arith}
use lib.ListN.{length, take, drop}
use Rattle.shelf.proofs.Pieces.{length_piece, length_put}
use borrow.Rule.Slice.PartMut.{put_mid, Post-is}
use Rattle.steps.specs.Memory.{piece, with_piece}

module _ (size i : ℕ) (buffer : List ℕ) (start end : ℕ) (starts : start ≡ size * i) (ends : end ≡ size * i + size) where
  as_long : size * i + size - size * i ≡ size
  as_long = omega arith

  pub part_lent : take (end - start) (drop start buffer) ≡ piece size buffer i
  part_lent = (λ p. take (ends p - starts p) (drop (starts p) buffer)) ∙ ap (λ (k : ℕ). take k (drop (size * i) buffer)) as_long

  pub part_back : (bytes : List ℕ) → put_mid start (end - start) buffer bytes ≡ with_piece size buffer i bytes
  part_back bytes =
      (λ p. put_mid (starts p) (ends p - starts p) buffer bytes)
      ∙ ap (λ (rest : List ℕ). take (size * i) buffer ++ (bytes ++ rest)) (Post-is (size * i) (size * i + size) buffer (omega arith))

  pub part_kept : (bytes : List ℕ) → size * i + size ≤ length buffer → length bytes ≡ length (take (end - start) (drop start buffer))
      → length (put_mid start (end - start) buffer bytes) ≡ length buffer
  part_kept bytes inside same =
      ap length (part_back bytes) ∙ length_put size buffer i bytes inside (same ∙ ap length part_lent ∙ length_piece size buffer i inside)
