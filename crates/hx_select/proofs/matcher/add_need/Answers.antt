use Rattle.hx_select.proofs.Asking.{put_need}
use Rattle.hx_select.proofs.matcher.add_need.Goals as goal

pub returns : goal.returns
returns c =
    put_need c.args.need.now c.args.demands.now.entries c.taken-demand.new.demands.entries c.insert.new.self.entries c.taken-demand.result c.add.new.self
    c.taken-demand.ensures.demand c.taken-demand.ensures.others c.in_ok-add.ensures c.in_ok-clone.field-0 c.in_ok-clone.ensures.cases c.in_ok-insert.ensures.updates.0
