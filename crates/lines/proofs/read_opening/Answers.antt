-- `read_opening` meets its contract.
use Rattle.std.proofs.Common.{ℕ, Option, sym, ap, ap₂, ◌∙◌, rules}
use Rattle.lines.specs.Lines.{number_of}
use Rattle.lines.proofs.Words.{as_it_stands}
use Rattle.lines.proofs.Grammar.{two_of, opening, opening_of_one, opening_is}
use Rattle.lines.proofs.read_opening.Goals as goal

pub returns-in_err-n : goal.returns-in_err-n
returns-in_err-n c = c.from_residual.ensures ∙ sym (opening_of_one _ c.in_err-n.ensures)

pub returns-in_err-read_number : goal.returns-in_err-read_number
returns-in_err-read_number c =
    c.from_residual-in_err-read_number.ensures
    ∙ ap (λ (n : Option ℕ). two_of opening n (number_of c.in_ok-n.slots.now)) (sym c.in_err-read_number.was ∙ c.read_number.ensures)
    ∙ sym (opening_is _ _ _ c.in_ok-n.ensures)

pub returns-in_err-read_number-2 : goal.returns-in_err-read_number-2
returns-in_err-read_number-2 c =
    c.from_residual-in_err-read_number-2.ensures
    ∙ ap₂ (two_of opening) (sym c.in_ok-read_number.was ∙ c.read_number.ensures)
    (sym c.in_err-read_number-2.was ∙ c.read_number-2.ensures ∙ ap number_of (search (rules, as_it_stands)))
    ∙ sym (opening_is _ _ _ c.in_ok-n.ensures)

pub returns : goal.returns
returns c =
    ap₂ (two_of opening) (sym c.in_ok-read_number.was ∙ c.read_number.ensures)
    (sym c.in_ok-read_number-2.was ∙ c.read_number-2.ensures ∙ ap number_of (search (rules, as_it_stands)))
    ∙ sym (opening_is _ _ _ c.in_ok-n.ensures)
