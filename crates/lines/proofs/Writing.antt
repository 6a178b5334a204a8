-- Laws of writing: nothing, one byte, one piece after another, and the digits of a number.
use Prim.Native.Nat.{ℕ, ◌+◌, ◌/◌, ◌%◌, ◌^◌, ◌≤◌, ◌<◌}
use mathlib.Core.Path.{◌≡◌, refl, sym, ap, ◌∙◌}
use mathlib.Core.List.{List, [], ◌∷◌, ◌++◌}
use native.Mathlib.Omega.{arith}
use lib.ListN.{length, set, length-append}
use lib.Seq.{sets, length-sets}
use Rattle.vectors.proofs.Numbers.{sets_then}
use Rattle.lines.specs.AnswerLine.{digit_of, decimal, Wrote}
use Rattle.lines.proofs.Decimal.{one_digit, last_digit}

pub wrote_none : (out : List ℕ) (at : ℕ) → Wrote out at [] at out
wrote_none out at = record { ends = omega arith; holds = refl }

pub wrote_byte : (out : List ℕ) (at byte : ℕ) → Wrote out at (byte ∷ []) (at + 1) (set out at byte)
wrote_byte out at byte = record { ends = refl; holds = refl }

pub wrote_then : {out between after first second : List ℕ} {at next end : ℕ} → Wrote out at first next between → Wrote between next second end after
    → Wrote out at (first ++ second) end after
wrote_then {out} {between} {after} {first} {second} {at} {next} {end} a b =
    record {
      ends = omega (arith, a.ends, b.ends, length-append first second);
      holds = b.holds ∙ ap (λ (l : List ℕ). sets l next second) a.holds ∙ sets_then out at first second next (sym a.ends);
    }

pub wrote_long : {out after bytes : List ℕ} {at next : ℕ} → Wrote out at bytes next after → length after ≡ length out
wrote_long {out} {after} {bytes} {at} w = ap length w.holds ∙ length-sets out at bytes

-- the contract settles the place and the bytes
pub wrote_settled : {out after other bytes : List ℕ} {at next end : ℕ} → Wrote out at bytes next after → Wrote out at bytes end other → (next ≡ end) × (after ≡ other)
wrote_settled a b = (a.ends ∙ sym b.ends, a.holds ∙ sym b.holds)

-- where a piece has been written, the next has room if both have it
pub wrote_room : {out between first : List ℕ} {at next : ℕ} (second : List ℕ) (most : ℕ) → Wrote out at first next between → length (first ++ second) ≤ most → at + most ≤ length out
    → next + length second ≤ length between
wrote_room {out} {between} {first} {at} {next} second most w short room = omega (arith, w.ends, wrote_long w, length-append first second)

pub wrote_one_digit : (out : List ℕ) (at n : ℕ) → n < 10 → Wrote out at (decimal n) (at + 1) (set out at (digit_of n))
wrote_one_digit out at n h = rw (one_digit n h) (wrote_byte out at (digit_of n))

pub wrote_last_digit : (out between : List ℕ) (at last n : ℕ) → 10 ≤ n → n < 10 ^ 20 → Wrote out at (decimal (n / 10)) last between
    → Wrote out at (decimal n) (last + 1) (set between last (digit_of (n % 10)))
wrote_last_digit out between at last n h fits w = rw (last_digit n h fits) (wrote_then w (wrote_byte between last (digit_of (n % 10))))
