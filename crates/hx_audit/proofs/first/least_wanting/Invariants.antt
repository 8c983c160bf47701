use Rattle.std.proofs.Common.{◌≡◌, None, drop}
use Rattle.hx_audit.specs.Candidates.{least_from, wanting_in}
use Rattle.hx_audit.proofs.first.least_wanting.Given as goal

-- the least so far and the keys of the rest have the least of all
abbrev pub invariant-loop-node : goal.invariant-loop-node
invariant-loop-node l = least_from l.best (wanting_in l.survey (drop l.node-index l.nodes)) ≡ least_from None (wanting_in l.survey l.nodes)
