-- Laws of a line's words, by where its first space stands.
use Prim.Native.Nat.{ℕ, zero, suc, ◌<◌}
use mathlib.Core.Path.{◌≡◌, refl, sym, ap, ◌∙◌}
use mathlib.Core.List.{List, [], ◌∷◌}
use native.Mathlib.Omega.{arith}
use lib.Dec.{eqb}
use lib.ListN.{length, take, drop}
use borrow.Author.Tests.{eq-eqb, ne_eqb}
use denote.Bor.{Bor}
use Rattle.std.specs.Prelude.{Option, Some, None, MatchOption}
use Rattle.std.specs.List.{position}
use Rattle.vectors.proofs.Numbers.{whole_part}
use Rattle.lines.specs.Lines.{space, words}
use Rattle.lines.proofs.Places.{FirstAt, searched, behind, behind_is}

-- the rest of a line whose first byte is no space
end_of_rest : (byte : ℕ) (rest : List ℕ) (end : ℕ) → FirstAt space (byte ∷ rest) (suc end) → FirstAt space rest end
end_of_rest byte rest end w =
    record {
      inside = omega (arith, w.inside);
      not_before = λ k h. w.not_before (suc k) (omega arith);
      there = λ h. w.there (omega arith);
    }

-- one word alone
pub one_word : (line : List ℕ) (end : ℕ) → FirstAt space line end → end ≡ length line → words line ≡ line ∷ []
unfolding words
one_word [] end w e = refl
one_word (byte ∷ rest) zero w e = absurd (omega arith)
one_word (byte ∷ rest) (suc end) w e =
    rw (ne_eqb byte space (w.not_before 0 (omega arith)), one_word rest end (end_of_rest byte rest end w) (omega arith))

-- a word, a space, and the words after it
first_word : (line : List ℕ) (end : ℕ) → FirstAt space line end → end < length line → words line ≡ take end line ∷ words (drop (suc end) line)
unfolding words
first_word [] end w h = absurd (omega arith)
first_word (byte ∷ rest) zero w h = rw (eq-eqb byte space (w.there (omega arith)))
first_word (byte ∷ rest) (suc end) w h =
    rw (ne_eqb byte space (w.not_before 0 (omega arith)), first_word rest end (end_of_rest byte rest end w) (omega arith))

-- the words, by the answer of a search for a space
module _ (line : List ℕ) where
  abbrev Parted : Option ℕ → Type 0
  Parted found = MatchOption found (words line ≡ line ∷ []) (λ end. words line ≡ take end line ∷ words (behind line end))

  pub parted : (found : Option ℕ) → found ≡ position (λ byte. eqb byte space) line → Parted found
  parted None e = one_word line (length line) (searched space line None e) refl
  parted (Some end) e =
      let at = searched space line (Some end) e in
      first_word line end at.1 at.0 ∙ ap (λ (l : List ℕ). take end line ∷ words l) (sym (behind_is line end))

-- ---- what is handed on as it stands, also where it goes through a range or a call

-- one answer, whether an Option holds something or not
pub either_way : {A : Type 0} {Post : A → Bor (List ℕ) → Type 0} (o : Option A) (r d : Bor (List ℕ)) → MatchOption o (r ≡ d) (λ x. Post x r)
    → ((x : A) (y : Bor (List ℕ)) → Post x y → y.now ≡ d.now) → r.now ≡ d.now
either_way None r d e same = ap (λ (b : Bor (List ℕ)). b.now) e
either_way (Some x) r d e same = same x r e

pub ruleset as_it_stands = (whole_part, either_way)
