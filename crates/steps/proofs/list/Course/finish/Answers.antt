-- `finish` meets its contract.
use Rattle.std.proofs.Common.{sym, ◌∙◌}
use Rattle.steps.proofs.Texts.{done_finished, line_finished}
use Rattle.steps.proofs.list.Course.finish.Goals as goal

pub returns-then-is_done : goal.returns-then-is_done
returns-then-is_done c =
    let a = c.args in
    done_finished a.self a.shelves.now a.packets.now a.out.now (sym c.is_done.ensures ∙ c.if-is_done.true)

pub returns : goal.returns
returns c =
    let a = c.args in
    line_finished a.self a.shelves.now a.packets.now a.out.now c.take_line-answered.result _ _ _ _ c.requires.ready (sym c.is_done.ensures ∙ c.if-is_done.false)
    c.take_line-answered.ensures c.put_line.ensures.wrote c.put_line.ensures.short c.requires.room
