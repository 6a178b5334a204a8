-- `split_word` meets its contract.
use Rattle.std.proofs.Common.{◌≡◌, [], ◌∷◌, sym, ◌∙◌}
use Rattle.lines.specs.Lines.{words}
use Rattle.lines.proofs.Words.{parted}
use Rattle.lines.proofs.split_word.Goals as goal

pub returns-in_err-end : goal.returns-in_err-end
returns-in_err-end c =
    let whole : words c.args.line.now ≡ c.args.line.now ∷ [] = parted c.args.line.now _ (sym c.in_err-end.was ∙ c.first_space.ensures) in
    rw c.from_residual.ensures whole

pub returns : goal.returns
returns c = parted c.args.line.now _ (sym c.in_ok-end.was ∙ c.first_space.ensures)
