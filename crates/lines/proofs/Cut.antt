-- How a text falls into lines, by the bytes before its first line feed.
use Prim.Native.Nat.{ℕ, suc, ◌<◌}
use mathlib.Core.Path.{◌≡◌, refl, sym, ap, ◌∙◌}
use mathlib.Core.Logic.{◌⊎◌, inl, inr}
use mathlib.Core.List.{List, [], ◌∷◌, ◌++◌}
use native.Mathlib.Nat.{not-suc-le-zero, eq-or-lt_of_le}
use native.Mathlib.Omega.{arith}
use lib.ListN.{length, get_or, length-append, get_or-append}
use lib.Seq.{get_or-append_seam}
use borrow.Author.Tests.{ne_eqb}
use Rattle.lines.specs.Lines.{line_feed, with_first, lines_of}
use Rattle.lines.specs.Kept.{NoFeed, first_of, others_of, first_line, other_lines}

-- ---- bytes without a line feed

pub no_feed_none : NoFeed []
no_feed_none = record { none = λ k h. absurd (not-suc-le-zero h) }

pub no_feed_more : (p : List ℕ) (byte : ℕ) → NoFeed p → (byte ≡ line_feed → ⊥) → NoFeed (p ++ (byte ∷ []))
no_feed_more p byte before here = record { none = λ k h. by_place k (eq-or-lt_of_le (omega (arith, length-append p (byte ∷ [])))) }
  where
    by_place : (k : ℕ) → (k ≡ length p) ⊎ (k < length p) → get_or (p ++ (byte ∷ [])) k 0 ≡ line_feed → ⊥
    by_place k (inl at-end) e = here (sym (get_or-append_seam p byte [] 0) ∙ rw at-end at e)
    by_place k (inr inside) e = before.none k inside (sym (get_or-append p (byte ∷ []) 0 k inside) ∙ e)

head_no_feed : (byte : ℕ) (p : List ℕ) → NoFeed (byte ∷ p) → byte ≡ line_feed → ⊥
head_no_feed byte p free = free.none 0 (omega arith)

tail_no_feed : (byte : ℕ) (p : List ℕ) → NoFeed (byte ∷ p) → NoFeed p
tail_no_feed byte p free = record { none = λ k h. free.none (suc k) (omega arith) }

-- ---- the first line grows

-- a byte that ends no line stands at the start of the first
lines_of_byte : (byte : ℕ) (t : List ℕ) → (byte ≡ line_feed → ⊥) → lines_of (byte ∷ t) ≡ with_first byte (lines_of t)
unfolding lines_of
lines_of_byte byte t free = rw (ne_eqb byte line_feed free)

first_grows : (byte : ℕ) (ls : List (List ℕ)) → with_first byte ls ≡ (byte ∷ first_of ls) ∷ others_of ls
first_grows byte [] = refl
first_grows byte (line ∷ others) = refl

byte_first : (byte : ℕ) (t : List ℕ) → (byte ≡ line_feed → ⊥) → lines_of (byte ∷ t) ≡ (byte ∷ first_line t) ∷ other_lines t
unfolding first_line other_lines
byte_first byte t free = lines_of_byte byte t free ∙ first_grows byte (lines_of t)

module _ (byte : ℕ) (t : List ℕ) (free : byte ≡ line_feed → ⊥) where
  pub first_line_of_byte : first_line (byte ∷ t) ≡ byte ∷ first_line t
  unfolding first_line
  first_line_of_byte = ap first_of (byte_first byte t free)

  pub other_lines_of_byte : other_lines (byte ∷ t) ≡ other_lines t
  unfolding other_lines
  other_lines_of_byte = ap others_of (byte_first byte t free)

pub first_line_of_feed : (t : List ℕ) → first_line (line_feed ∷ t) ≡ []
unfolding first_line lines_of
first_line_of_feed t = refl

pub other_lines_of_feed : (t : List ℕ) → other_lines (line_feed ∷ t) ≡ lines_of t
unfolding other_lines lines_of
other_lines_of_feed t = refl

pub first_line_of_none : first_line [] ≡ []
unfolding first_line lines_of
first_line_of_none = refl

pub other_lines_of_none : other_lines [] ≡ []
unfolding other_lines lines_of
other_lines_of_none = refl

-- ---- the lines of a text that starts with these bytes

pub cut_feed : (p t : List ℕ) → NoFeed p → lines_of (p ++ (line_feed ∷ t)) ≡ p ∷ lines_of t
unfolding lines_of
cut_feed [] t free = refl
cut_feed (byte ∷ p) t free =
    lines_of_byte byte (p ++ (line_feed ∷ t)) (head_no_feed byte p free) ∙ ap (with_first byte) (cut_feed p t (tail_no_feed byte p free))

pub cut_first : (p t : List ℕ) → NoFeed p → 0 < length p → lines_of (p ++ t) ≡ (p ++ first_line t) ∷ other_lines t
cut_first [] t free some = absurd (not-suc-le-zero some)
cut_first (byte ∷ []) t free some = byte_first byte t (head_no_feed byte [] free)
cut_first (byte ∷ next ∷ p) t free some =
    lines_of_byte byte (next ∷ p ++ t) (head_no_feed byte (next ∷ p) free)
    ∙ ap (with_first byte) (cut_first (next ∷ p) t (tail_no_feed byte (next ∷ p) free) (omega arith))

pub cut_last : (p : List ℕ) → NoFeed p → 0 < length p → lines_of p ≡ p ∷ []
unfolding lines_of
cut_last [] free some = absurd (not-suc-le-zero some)
cut_last (byte ∷ []) free some = lines_of_byte byte [] (head_no_feed byte [] free)
cut_last (byte ∷ next ∷ p) free some =
    lines_of_byte byte (next ∷ p) (head_no_feed byte (next ∷ p) free)
    ∙ ap (with_first byte) (cut_last (next ∷ p) (tail_no_feed byte (next ∷ p) free) (omega arith))
