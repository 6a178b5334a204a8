-- `keep` meets its contract.
use Rattle.std.proofs.Common.{◌≡◌, length, rules}
use Rattle.steps.proofs.Printing.{kept_more}
use Rattle.steps.proofs.list.Line.keep.Goals as goal

pub returns : goal.returns
returns c =
    let long : length c.args.self.bytes ≡ 20 = search rules in
    kept_more c.args.self c.args.text.now _ _ c.requires long c.min-more.ensures c.put_bytes.ensures
