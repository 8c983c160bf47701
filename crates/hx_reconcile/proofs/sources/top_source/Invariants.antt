use Rattle.std.proofs.Common.{◌≡◌, drop}
use Rattle.hx_model.specs.Propagation.{top_of}
use Rattle.hx_reconcile.proofs.sources.top_source.Given as goal

-- the sources that are left give the one that wins
abbrev pub invariant-loop-source : goal.invariant-loop-source
invariant-loop-source l = top_of l.mode l.labels (drop l.source-index l.sources) ≡ top_of l.mode l.labels l.sources
