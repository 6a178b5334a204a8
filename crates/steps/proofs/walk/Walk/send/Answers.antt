-- `send` meets its contract.
use Rattle.std.proofs.Common.{◌≡◌, ◌<◌, length, take, drop, ◌-◌, rules, arith}
use Rattle.steps.specs.Session.{sends_most}
use Rattle.steps.specs.Memory.{with_send}
use Rattle.steps.proofs.Held.{indexed}
use Rattle.steps.proofs.Walking.{unknown_walks}
use Rattle.steps.proofs.Sends.{too_many_sends, nobody_sends, counted_bounded, sent_walks}
use Rattle.steps.proofs.walk.Walk.send.Goals as goal

pub returns-then-full : goal.returns-then-full
returns-then-full c =
    let a = c.args in
    λ shelves.
    unknown_walks a.self shelves a.packets.now _ c.unknown.result c.requires.bounded
    (too_many_sends a.self shelves a.packets.now a.seat a.wish c.if-full.true) c.unknown.ensures

pub returns-in_default : goal.returns-in_default
returns-in_default c =
    let a = c.args in
    let few : a.self.sends < sends_most = omega arith in
    λ shelves.
    unknown_walks (with_send a.self) shelves a.packets.now _ c.unknown-in_default.result (counted_bounded a.self c.requires.bounded few)
    (nobody_sends a.self shelves a.packets.now a.seat a.wish few (indexed (with_send a.self) a.seat _ c.in_default.ensures))
    c.unknown-in_default.ensures

pub returns : goal.returns
returns c =
    let a = c.args in
    let few : a.self.sends < sends_most = omega arith in
    let room = c.piece_at.result in
    let as_long : length c.send_empty-sent.new.out ≡ length (take (room.end - room.start) (drop room.start a.packets.now)) = search rules in
    λ shelves.
    sent_walks a.self c.requires.bounded few shelves a.packets.now c.requires.packets a.seat c.in-Some.at (indexed (with_send a.self) a.seat _ c.in-Some.ensures)
    a.wish c.with_edit.result c.send_empty-sent.result _ c.moved_on.result room.start room.end c.piece_at.ensures.start c.piece_at.ensures.end as_long
    c.send_empty-sent.ensures c.with_edit.ensures c.moved_on.ensures
