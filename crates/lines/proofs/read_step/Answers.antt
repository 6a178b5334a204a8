-- `read_step` meets its contract.
use Rattle.std.proofs.Common.{◌≡◌, true, false, sym, ◌∙◌, rules}
use Rattle.lines.specs.Lines.{is_letter}
use Rattle.lines.proofs.Grammar.{step_of_one, step_is}
use Rattle.lines.proofs.read_step.Goals as goal

pub returns-in_err-letter : goal.returns-in_err-letter
returns-in_err-letter c = c.from_residual.ensures ∙ sym (step_of_one _ c.in_err-letter.ensures)

pub returns-in-s : goal.returns-in-s
returns-in-s c =
    let s : is_letter 115 c.in_ok-letter.letter.now ≡ true = search rules in
    c.read_send.ensures ∙ sym (step_is _ _ _ c.in_ok-letter.ensures ∙ rw s)

pub returns-in-a : goal.returns-in-a
returns-in-a c =
    let s : is_letter 115 c.in_ok-letter.letter.now ≡ false = search rules in
    let a : is_letter 97 c.in_ok-letter.letter.now ≡ true = search rules in
    c.read_arrival.ensures ∙ sym (step_is _ _ _ c.in_ok-letter.ensures ∙ rw (s, a))

pub returns-in-r : goal.returns-in-r
returns-in-r c =
    let s : is_letter 115 c.in_ok-letter.letter.now ≡ false = search rules in
    let a : is_letter 97 c.in_ok-letter.letter.now ≡ false = search rules in
    let r : is_letter 114 c.in_ok-letter.letter.now ≡ true = search rules in
    c.read_release.ensures ∙ sym (step_is _ _ _ c.in_ok-letter.ensures ∙ rw (s, a, r))

pub returns-in_default : goal.returns-in_default
returns-in_default c =
    let s : is_letter 115 c.in_ok-letter.letter.now ≡ false = search rules in
    let a : is_letter 97 c.in_ok-letter.letter.now ≡ false = search rules in
    let r : is_letter 114 c.in_ok-letter.letter.now ≡ false = search rules in
    sym (step_is _ _ _ c.in_ok-letter.ensures ∙ rw (s, a, r))

pub returns-in_default-2 : goal.returns-in_default-2
returns-in_default-2 c =
    let s : is_letter 115 c.in_ok-letter.letter.now ≡ false = search rules in
    let a : is_letter 97 c.in_ok-letter.letter.now ≡ false = search rules in
    let r : is_letter 114 c.in_ok-letter.letter.now ≡ false = search rules in
    sym (step_is _ _ _ c.in_ok-letter.ensures ∙ rw (s, a, r))

pub returns-in_default-3 : goal.returns-in_default-3
returns-in_default-3 c =
    let s : is_letter 115 c.in_ok-letter.letter.now ≡ false = search rules in
    let a : is_letter 97 c.in_ok-letter.letter.now ≡ false = search rules in
    let r : is_letter 114 c.in_ok-letter.letter.now ≡ false = search rules in
    sym (step_is _ _ _ c.in_ok-letter.ensures ∙ rw (s, a, r))
