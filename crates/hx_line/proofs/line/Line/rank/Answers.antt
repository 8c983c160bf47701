use Rattle.hx_line.proofs.Lining.{ranked_line, ranked_all, room_ranked}
use Rattle.indexmap.specs.IndexMap.{spare}
use Rattle.hx_line.proofs.line.Line.rank.Goals as goal

pub invariant_of-self : goal.invariant_of-self
invariant_of-self c =
    let p = c.place_all-self-inside in
    ranked_line c.self.inside.ordered c.len-self-inside.result c.self.inside.items.entries p.new.items.entries c.len-self-inside.ensures.len p.ensures.keys p.ensures.heap c.self.invariant

pub returns-clause-ranks : goal.returns-clause-ranks
returns-clause-ranks c =
    let p = c.place_all-self-inside in
    ranked_all c.args.forest.now.nodes p.new.items.entries c.len-self-inside.result p.result c.len-self-inside.ensures.len p.ensures.right

pub returns-clause-room : goal.returns-clause-room
returns-clause-room c =
    let p = c.place_all-self-inside in
    rw (← c.self.view_is) (room_ranked c.self.inside.items.entries p.new.items.entries (spare c.self.inside.items) (spare p.new.items) p.ensures.keys p.ensures.room)
