use Rattle.std.proofs.Common.{◌≡◌, ◌++◌, [], ◌∷◌, false, cond, ap, ◌∙◌}
use Rattle.hx_line.specs.Line.{with_key}
use Rattle.indexmap.specs.IndexMap.{spare}
use Rattle.hx_model.specs.Keys.{is_among}
use Rattle.hx_queue.specs.Kept.{QueueView, is_held}
use Rattle.hx_queue.proofs.Queueing.{held_absent, back_queue, free_queue, released_back, released_free}
use Rattle.hx_queue.proofs.queue.Queue.release.Goals as goal

-- the key waits behind the others then
behind : (c : goal.After-push) → c.push.new.self.keys ≡ c.self.inside.line.keys ++ c.args.key.now ∷ []
behind c =
    let keys = c.self.inside.line.keys in
    let absent : is_among c.args.key.now keys ≡ false = held_absent c.args.key.now c.self.inside.line c.self.inside.slots.entries c.self.invariant (ap (λ (q : QueueView). is_held q c.args.key.now) c.self.view_is ∙ c.requires) in
    c.push.ensures.keys ∙ ap (λ k. with_key k keys) c.let_go-key.ensures.key ∙ ap (λ t. cond t keys (keys ++ c.args.key.now ∷ [])) absent

pub invariant_of-self : goal.invariant_of-self
invariant_of-self c =
    back_queue c.args.key.now c.self.inside.line c.push.new.self c.self.inside.slots.entries c.let_go-key.new.slots.entries c.self.invariant c.let_go-key.ensures.held c.let_go-key.ensures.len
    (behind c) c.push.ensures.room
    (held_absent c.args.key.now c.self.inside.line c.self.inside.slots.entries c.self.invariant (ap (λ (q : QueueView). is_held q c.args.key.now) c.self.view_is ∙ c.requires))

pub invariant_of-self-else-waits : goal.invariant_of-self-else-waits
invariant_of-self-else-waits c = free_queue c.args.key.now c.self.inside.line c.self.inside.slots.entries c.let_go-key.new.slots.entries c.self.invariant c.let_go-key.ensures.held c.let_go-key.ensures.len

pub returns-then-waits : goal.returns-then-waits
returns-then-waits c =
    rw (← c.self.view_is) (released_back c.args.key.now c.args.again c.let_go-key.result.1 c.self.inside.line c.push.new.self c.self.inside.slots.entries c.let_go-key.new.slots.entries (spare c.self.inside.slots) (spare c.let_go-key.new.slots)
    c.self.invariant c.let_go-key.ensures.again c.if-waits.true (behind c) c.push.ensures.ranks c.push.ensures.room
    c.let_go-key.ensures.held c.let_go-key.ensures.len c.let_go-key.ensures.room)

pub returns-else-waits : goal.returns-else-waits
returns-else-waits c =
    rw (← c.self.view_is) (released_free c.args.key.now c.args.again c.let_go-key.result.1 c.self.inside.line c.self.inside.slots.entries c.let_go-key.new.slots.entries (spare c.self.inside.slots) (spare c.let_go-key.new.slots)
    c.self.invariant c.let_go-key.ensures.again c.if-waits.false c.let_go-key.ensures.held c.let_go-key.ensures.len c.let_go-key.ensures.room)
