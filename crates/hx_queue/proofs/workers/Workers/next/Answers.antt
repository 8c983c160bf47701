use Rattle.std.proofs.Common.{IfSome, IfNone, ◌≡◌, [], false}
use Rattle.std.specs.Prelude.{slice_get}
use Rattle.std.proofs.lemmas.Result.{IfOk-weaker}
use Rattle.hx_model.specs.Hands.{is_held}
use Rattle.hx_order.specs.Ranks.{IsFirst}
use Rattle.hx_queue.specs.Ordered.{in_order}
use Rattle.hx_queue.specs.Tied.{all_waiting, hands_of}
use Rattle.hx_queue.proofs.Fronts.{next_first, next_none, next_free, seen_by_brings}
use Rattle.hx_queue.proofs.workers.Workers.next.Goals as goal

pub returns-clause-first : goal.returns-clause-first
returns-clause-first c =
    let hands = hands_of c.self.inside.hands.items in
    let queue = c.bring_first.new.queue in
    let waiting = in_order (all_waiting c.self.inside.queue c.self.inside.spread) in
    rw (← c.self.view_is) (IfOk-weaker c.first_of.result (λ o. o ≡ slice_get queue.waiting 0) (λ o. IfSome o (λ key. IsFirst c.args.forest.now.nodes waiting key))
    (λ o e. next_first c.args.forest.now.nodes hands c.self.inside.queue queue c.self.inside.spread c.bring_first.new.spread c.bring_first.ensures.brings o c.in_ok-bring_first.ensures.front e) c.first_of.ensures)

pub returns-clause-none : goal.returns-clause-none
returns-clause-none c =
    let hands = hands_of c.self.inside.hands.items in
    let queue = c.bring_first.new.queue in
    let waiting = in_order (all_waiting c.self.inside.queue c.self.inside.spread) in
    rw (← c.self.view_is) (IfOk-weaker c.first_of.result (λ o. o ≡ slice_get queue.waiting 0) (λ o. IfNone o (waiting ≡ []))
    (λ o e. next_none c.args.forest.now.nodes hands c.self.inside.queue queue c.self.inside.spread c.bring_first.new.spread c.bring_first.ensures.brings o c.in_ok-bring_first.ensures.front e) c.first_of.ensures)

pub returns-clause-free : goal.returns-clause-free
returns-clause-free c =
    let hands = hands_of c.self.inside.hands.items in
    let queue = c.bring_first.new.queue in
    rw (← c.self.view_is) (IfOk-weaker c.first_of.result (λ o. o ≡ slice_get queue.waiting 0) (λ o. IfSome o (λ key. is_held key hands ≡ false))
    (λ o e. next_free c.args.forest.now.nodes hands c.self.inside.queue queue c.self.inside.spread c.bring_first.new.spread c.bring_first.ensures.brings o c.self.invariant c.law_apart.ensures e) c.first_of.ensures)

pub returns-clause-seen : goal.returns-clause-seen
returns-clause-seen c =
    rw (← c.self.view_is)
    (seen_by_brings c.args.forest.now.nodes (hands_of c.self.inside.hands.items) c.self.inside.queue c.bring_first.new.queue c.self.inside.spread c.bring_first.new.spread c.bring_first.ensures.brings)

pub returns-in_err-bring_first-clause-seen : goal.returns-in_err-bring_first-clause-seen
returns-in_err-bring_first-clause-seen c =
    rw (← c.self.view_is)
    (seen_by_brings c.args.forest.now.nodes (hands_of c.self.inside.hands.items) c.self.inside.queue c.bring_first.new.queue c.self.inside.spread c.bring_first.new.spread c.bring_first.ensures.brings)
