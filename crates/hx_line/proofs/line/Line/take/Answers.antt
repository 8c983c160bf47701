use Rattle.std.proofs.Common.{sym}
use Rattle.hx_model.specs.Keys.{same_key}
use Rattle.hx_line.proofs.Lining.{absent_keys, taken_keys, taken_line, taken_ranks}
use Rattle.hx_line.proofs.line.Line.take.Goals as goal

pub returns-in_default-clause-keys : goal.returns-in_default-clause-keys
unfolding same_key
returns-in_default-clause-keys c = rw (← c.self.view_is) (absent_keys c.args.key.now c.self.inside.items.entries (sym c.in_default.ensures.found))

pub invariant_of-self : goal.invariant_of-self
unfolding same_key
invariant_of-self c =
    let t = c.take_at-self-inside in
    taken_line c.args.key.now c.self.inside.ordered c.in-Some.at t.result c.self.inside.items.entries t.new.items.entries c.in-Some.ensures.index t.ensures.leaves c.self.invariant

pub returns-clause-keys : goal.returns-clause-keys
unfolding same_key
returns-clause-keys c =
    let t = c.take_at-self-inside in
    rw (← c.self.view_is) (taken_keys c.args.key.now c.self.inside.ordered c.in-Some.at t.result c.self.inside.items.entries t.new.items.entries c.in-Some.ensures.index t.ensures.leaves c.self.invariant)

pub returns-clause-ranks : goal.returns-clause-ranks
returns-clause-ranks c =
    let t = c.take_at-self-inside in
    rw (← c.self.view_is) (taken_ranks c.self.inside.ordered c.in-Some.at t.result c.self.inside.current c.self.inside.items.entries t.new.items.entries t.ensures.leaves)
