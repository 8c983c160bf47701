use Rattle.std.proofs.Common.{◌≡◌, false, Option, ℕ, sym, subst, IfSome, IfNone, IsSomeAnd}
use Rattle.hx_model.specs.Hands.{hand_of, is_held}
use Rattle.hx_queue.specs.Tied.{hands_of}
use Rattle.hx_queue.proofs.Tying.{holder_some, holder_none}
use Rattle.hx_queue.proofs.workers.Workers.holder.Goals as goal

pub returns-clause-some : goal.returns-clause-some
returns-clause-some c =
    let hands = hands_of c.self.inside.hands.items in
    rw (← c.self.view_is) (subst (λ (o : Option ℕ). IfSome o (λ w. IsSomeAnd (hand_of w hands) (λ hand. hand.key ≡ c.args.key.now))) (sym c.holder.ensures) (holder_some c.args.key.now hands c.self.inside.queue c.self.invariant.tied))

pub returns-clause-none : goal.returns-clause-none
returns-clause-none c =
    let hands = hands_of c.self.inside.hands.items in
    rw (← c.self.view_is) (subst (λ (o : Option ℕ). IfNone o (is_held c.args.key.now hands ≡ false)) (sym c.holder.ensures) (holder_none c.args.key.now hands c.self.inside.queue c.self.invariant.tied))
