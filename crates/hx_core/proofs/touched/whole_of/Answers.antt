use Rattle.std.proofs.Common.{rules, ◌≡◌, ◌≤◌, length, refl}
use Rattle.hx_model.specs.State.{state_after}
use Rattle.hx_model.specs.Tree.{forest_of}
use Rattle.hx_core.specs.Reaching.{IsSpreadable}
use Rattle.hx_core.proofs.Reached.{at_some, ranks_same, ready_whole}
use Rattle.hx_core.proofs.touched.whole_of.Goals as goal

pub returns-in-Ok-true-clause-ready : goal.returns-in-Ok-true-clause-ready
returns-in-Ok-true-clause-ready c =
    let s = c.args.state.now.state in
    let ws = c.args.writes.now in
    let covers = at_some c.in_ok-id.field-0 c.in-Some.field-0 _ c.in-Some.is c.in_ok-id.ensures.covers in
    let within = at_some c.in_ok-id.field-0 c.in-Some.field-0 _ c.in-Some.is c.in_ok-id.ensures.within in
    let tree : forest_of (state_after s ws) ≡ forest_of s = search rules in
    let room : length c.in-Some.field-0.others.items ≤ c.make_room.new.workers.spare = search rules in
    let may : IsSpreadable c.in-Some.field-0.id c.make_room.new.workers = search rules in
    ready_whole s ws c.in-Some.field-0.others.items c.in-Some.field-0.id c.make_room.new.workers covers within tree c.make_room.ensures.scope
    (ranks_same s s c.args.workers.now.ranks c.make_room.new.workers.ranks refl c.make_room.ensures.ranks c.requires.ranks) room may
