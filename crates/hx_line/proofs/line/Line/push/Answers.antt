use Rattle.std.proofs.Common.{rules, ◌≡◌, ◌<◌, ◌∷◌, [], ◌++◌, arith, sym, ◌∙◌}
use Rattle.indexmap.specs.IndexMap.{spare}
use Rattle.hx_model.specs.Keys.{same_key}
use Rattle.hx_line.specs.Line.{room_in}
use Rattle.hx_line.proofs.Lining.{there_key, behind, behind_key, behind_line, behind_ranks}
use Rattle.hx_line.proofs.line.Line.push.Goals as goal

pub returns-then-contains_key-clause-keys : goal.returns-then-contains_key-clause-keys
unfolding same_key
returns-then-contains_key-clause-keys c = rw (← c.self.view_is) (there_key c.args.key c.self.inside.items.entries (sym c.if-contains_key.true ∙ c.contains_key.ensures))

behind_now : (c : goal.Joined-pushed) → c.insert-pushed.new.self.entries ≡ c.self.inside.items.entries ++ (c.args.key, 0) ∷ []
unfolding same_key
behind_now c =
    let free : 0 < room_in c.self.inside.items.entries (spare c.self.inside.items) = search rules in
    behind c.insert-pushed.result c.args.key c.self.inside.items.entries c.insert-pushed.new.self.entries (sym c.if-contains_key.false ∙ c.contains_key.ensures) c.insert-pushed.ensures.entries (c.insert-pushed.ensures.succeeds (omega (arith, free)))

pub invariant_of-self : goal.invariant_of-self
unfolding same_key
invariant_of-self c =
    let free : 0 < room_in c.self.inside.items.entries (spare c.self.inside.items) = search rules in
    behind_line c.args.key c.self.inside.items.entries c.insert-pushed.new.self.entries c.self.inside.ordered (sym c.if-contains_key.false ∙ c.contains_key.ensures) (behind_now c) (omega (arith, free)) c.self.invariant

pub returns-clause-keys : goal.returns-clause-keys
unfolding same_key
returns-clause-keys c = rw (← c.self.view_is) (behind_key c.args.key c.self.inside.items.entries c.insert-pushed.new.self.entries (sym c.if-contains_key.false ∙ c.contains_key.ensures) (behind_now c))

pub returns-clause-ranks : goal.returns-clause-ranks
returns-clause-ranks c = rw (← c.self.view_is) (behind_ranks c.args.key c.self.inside.items.entries c.insert-pushed.new.self.entries c.self.inside.ordered c.self.inside.current (behind_now c) c.self.invariant)
