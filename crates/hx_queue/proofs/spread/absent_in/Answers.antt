use Rattle.std.proofs.Common.{rules, ◌≡◌, ◌<◌, not, length, get_or, arith}
use Rattle.hx_model.specs.Keys.{is_among}
use Rattle.hx_queue.proofs.Spreads.{counted, next_counted}
use Rattle.hx_queue.proofs.spread.absent_in.Goals as goal

pub overflow_add-count : goal.overflow_add-count
overflow_add-count c =
    let at : c.id-item.result ≡ get_or c.args.ids.now c.loop-id.id-index c.id-item.result = search rules in
    let within : c.loop-id.id-index < length c.args.ids.now = search rules in
    let most = counted (λ k. not (is_among k c.args.queue.now.waiting)) c.args.names.now c.args.ids.now in
    let next = next_counted (λ k. not (is_among k c.args.queue.now.waiting)) c.args.names.now c.args.ids.now c.loop-id.id-index c.id-item.result within at in
    omega (arith, c.loop-id.invariant, c.absent_of-count.ensures, most, next, c.requires)

pub returns-clause-few : goal.returns-clause-few
returns-clause-few c = omega (arith, c.loop-id.invariant, counted (λ k. not (is_among k c.args.queue.now.waiting)) c.args.names.now c.args.ids.now, c.requires)
