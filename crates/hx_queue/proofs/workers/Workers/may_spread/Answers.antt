use Rattle.std.proofs.Common.{◌∙◌, ap}
use Rattle.std.specs.List.{list_any}
use Rattle.hx_queue.specs.Spread.{is_place_of}
use Rattle.hx_queue.specs.declared.workers.Handed.{Handed}
use Rattle.hx_queue.proofs.Whole.{may_by}
use Rattle.hx_queue.proofs.workers.Workers.may_spread.Goals as goal

pub returns-then-fits : goal.returns-then-fits
returns-then-fits c =
    rw (← c.self.view_is) (may_by c.args.id.now c.self.inside.hands.items c.self.inside.spread.scope c.self.inside.spread.ids c.holds_place.result (c.fits.ensures c.if-fits.true)
    (c.holds_place.ensures ∙ ap (list_any (λ (h : Handed). is_place_of c.args.id.now h.brief.key)) c.as_slice.ensures.value))
