-- `release` meets its contract.
use Rattle.std.proofs.Common.{◌≡◌, length, take, drop, ◌-◌, rules}
use Rattle.steps.proofs.Held.{indexed}
use Rattle.steps.proofs.Walking.{unknown_walks, nobody_releases, released_walks}
use Rattle.steps.proofs.walk.Walk.release.Goals as goal

pub returns-in_default : goal.returns-in_default
returns-in_default c =
    let a = c.args in
    λ packets.
    unknown_walks a.self a.shelves.now packets _ c.unknown.result c.requires.bounded
    (nobody_releases a.self a.shelves.now packets a.seat (indexed a.self a.seat _ c.in_default.ensures)) c.unknown.ensures

pub returns : goal.returns
returns c =
    let a = c.args in
    let shelf = c.shelf.result in
    let as_long : length c.release-released.new.shelf ≡ length (take (shelf.end - shelf.start) (drop shelf.start a.shelves.now)) = search rules in
    λ packets.
    released_walks a.self c.requires.bounded a.shelves.now packets c.requires.shelves a.seat c.in-Some.at (indexed a.self a.seat _ c.in-Some.ensures)
    c.release-released.result _ c.moved_on.result shelf.start shelf.end c.shelf.ensures.start c.shelf.ensures.end as_long c.moved_on.ensures _ c.release-released.ensures
