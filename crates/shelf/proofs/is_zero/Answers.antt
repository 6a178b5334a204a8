-- `is_zero` meets its contract: fours first, then the bytes that are left.
use Rattle.std.proofs.Common.{◌≡◌, ℕ, ◌+◌, ◌*◌, ◌-◌, ◌/◌, length, take, drop, Bool, ◌&&◌, eqb, bit_or, fold, get_or, sym, ap, ap₂, refl, ◌∙◌, rules, arith}
use Rattle.std.proofs.iter.Yields.{nat_range_steps, Range-gives}
use Rattle.std.proofs.lemmas.Fn.{fold_over}
use Rattle.std.specs.List.{list_all, range_with_len}
use Rattle.vectors.specs.Vectors.{all}
use Rattle.vectors.proofs.Every.{all_parts}
use Rattle.shelf.proofs.Zeros.{gathered_zero, gathered_one_more, listed, all_zero_parts}
use Rattle.shelf.proofs.is_zero.Goals as goal

pub returns : goal.returns
returns c =
    let s = c.args.s.now in
    let four : ℕ → Bool = λ i. all 4 (λ j. eqb (get_or s (4 * i + j) 0) 0) in
    let fours : eqb c.fold-fours.result 0 ≡ list_all four (range_with_len 0 (length s / 4 - 0)) =
    fold_over nat_range_steps (λ x. x) _ (λ ys a. eqb a 0 ≡ list_all four ys) _
    (λ ys a x b f k called. (search (rules, k, gathered_one_more), search rules)) _ _ 0 _ (Range-gives _) refl c.fold-fours.ensures.ran in
    let at = 4 * (length s / 4) in
    let rest : c.fold-rest.result ≡ fold bit_or 0 (take (length s - at) (drop at s)) = search rules in
    ap₂ (λ (a b : Bool). a && b) (fours ∙ listed (length s / 4) four ∙ all_parts 4 (length s / 4) _) (ap (λ (x : ℕ). eqb x 0) rest ∙ gathered_zero _)
    ∙ sym (all_zero_parts s _ (omega arith))
