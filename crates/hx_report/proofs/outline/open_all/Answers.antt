use Rattle.std.proofs.Common.{◌++◌, ap, ◌∙◌, map}
use Rattle.std.proofs.lemmas.Iterator.Adapters.{YieldsList-from_rev_slice}
use Rattle.std.proofs.lemmas.Iterator.Consumers.{YieldsList-end}
use Rattle.hx_report.specs.Outline.{line_at}
use Rattle.hx_report.proofs.outline.open_all.Goals as goal

pub returns : goal.returns
returns c =
    let all = YieldsList-end (YieldsList-from_rev_slice c.args.names.now cc) c.loop-name.yielded _ c.loop-name.yielded_by _ _ c.in-None.is c.next.ensures.steps in
    c.loop-name.invariant ∙ ap (λ ns. c.args.opened.now.items ++ map (line_at c.args.level) ns) all.0
