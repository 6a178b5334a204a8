-- `read_send` meets its contract.
use Rattle.std.proofs.Common.{Option, None, sym, ap, ap₂, ◌∙◌}
use Rattle.std.specs.Prelude.{option_map}
use Rattle.lines.specs.Lines.{number_of}
use Rattle.lines.specs.declared.Letter.{Letter}
use Rattle.lines.specs.declared.Step.TheVariants.{Send}
use Rattle.lines.proofs.Grammar.{send_of, send_alone, send_is}
use Rattle.lines.proofs.read_send.Goals as goal

pub returns-in_err-read_number : goal.returns-in_err-read_number
returns-in_err-read_number c =
    c.from_residual.ensures ∙ ap (option_map (λ n. Send n None)) (sym c.in_err-read_number.was ∙ c.read_number.ensures) ∙ sym (send_alone _ c.in_default.ensures)

pub returns-in_default : goal.returns-in_default
returns-in_default c = ap (option_map (λ n. Send n None)) (sym c.in_ok-read_number.was ∙ c.read_number.ensures) ∙ sym (send_alone _ c.in_default.ensures)

pub returns-in_err-letter : goal.returns-in_err-letter
returns-in_err-letter c =
    c.from_residual-in_err-letter.ensures
    ∙ ap (λ (letter : Option Letter). send_of letter (number_of c.in-Some.seat.now)) (sym c.in_err-letter.was ∙ c.read_letter.ensures)
    ∙ sym (send_is _ _ _ c.in-Some.ensures)

pub returns-in_err-read_number-2 : goal.returns-in_err-read_number-2
returns-in_err-read_number-2 c =
    c.from_residual-in_err-read_number-2.ensures
    ∙ ap₂ send_of (sym c.in_ok-letter.was ∙ c.read_letter.ensures) (sym c.in_err-read_number-2.was ∙ c.read_number-2.ensures)
    ∙ sym (send_is _ _ _ c.in-Some.ensures)

pub returns : goal.returns
returns c =
    ap₂ send_of (sym c.in_ok-letter.was ∙ c.read_letter.ensures) (sym c.in_ok-read_number-2.was ∙ c.read_number-2.ensures)
    ∙ sym (send_is _ _ _ c.in-Some.ensures)
