use Rattle.std.proofs.Common.{◌∙◌}
use Rattle.hx_quota.specs.Counters.{tree_of}
use Rattle.hx_quota.specs.Inside.{entries_in, ordered}
use Rattle.hx_quota.specs.Anew.{name_from, named}
use Rattle.hx_quota.proofs.Stepping.{walk_above}
use Rattle.hx_quota.proofs.ledger.Ledger.has_above.Goals as goal

pub returns : goal.returns
returns c =
    let places = c.args.self.now.places.entries in
    c.passes.ensures ∙ walk_above (tree_of (ordered places)) (name_from (entries_in places) c.args.first) (named (entries_in places) c.args.above)
