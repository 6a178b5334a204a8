-- `arrive` meets its contract.
use Rattle.std.proofs.Common.{◌≡◌, ◌≤◌, length, take, drop, ◌-◌, rules, arith}
use Rattle.steps.proofs.Held.{indexed, found_by}
use Rattle.steps.proofs.Walking.{unknown_walks, nobody_there, nothing_there, packet_lent, arrived_walks}
use Rattle.steps.proofs.walk.Walk.arrive.Goals as goal

pub returns-in_default : goal.returns-in_default
returns-in_default c =
    let a = c.args in
    unknown_walks a.self a.shelves.now a.packets.now _ c.unknown.result c.requires.bounded
    (nobody_there a.self a.shelves.now a.packets.now a.seat a.sender a.number (indexed a.self a.seat _ c.in_default.ensures)) c.unknown.ensures

pub returns-in_default-find : goal.returns-in_default-find
returns-in_default-find c =
    let a = c.args in
    let bounded = c.requires.bounded in
    let short : a.self.letters ≤ length a.self.edits = omega (arith, bounded.letters_most, bounded.sends_within_most, bounded.edits_long) in
    unknown_walks a.self a.shelves.now a.packets.now _ c.unknown-in_default-find.result bounded
    (nothing_there a.self a.shelves.now a.packets.now a.seat a.sender a.number (found_by a.self a.sender a.number short _ c.in_default-find.ensures))
    c.unknown-in_default-find.ensures

pub returns : goal.returns
returns c =
    let a = c.args in
    let bounded = c.requires.bounded in
    let shelf = c.shelf.result in
    let short : a.self.letters ≤ length a.self.edits = omega (arith, bounded.letters_most, bounded.sends_within_most, bounded.edits_long) in
    let as_long : length c.arrive-arrived.new.shelf ≡ length (take (shelf.end - shelf.start) (drop shelf.start a.shelves.now)) = search rules in
    let packet = packet_lent a.self a.packets.now c.in-Some-find.i c.piece_at.result.start c.piece_at.result.end c.piece_at.ensures.start c.piece_at.ensures.end in
    arrived_walks a.self bounded a.shelves.now a.packets.now c.requires.shelves a.seat c.in-Some.at (indexed a.self a.seat _ c.in-Some.ensures)
    c.arrive-arrived.result _ c.moved_on.result shelf.start shelf.end c.shelf.ensures.start c.shelf.ensures.end as_long c.moved_on.ensures
    a.sender a.number c.in-Some-find.i (found_by a.self a.sender a.number short _ c.in-Some-find.ensures) _ packet c.arrive-arrived.ensures
