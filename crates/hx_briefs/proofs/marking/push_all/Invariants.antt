use Rattle.std.proofs.Common.{◌≡◌, ◌++◌, drop}
use Rattle.hx_briefs.specs.Wants.{wanting_in}
use Rattle.hx_briefs.proofs.marking.push_all.Given as goal

-- the keys so far, and those that the rest gives
abbrev pub invariant-loop-namespace : goal.invariant-loop-namespace
invariant-loop-namespace l = l.wanting.items ++ wanting_in l.state.state (drop l.namespace-index l.namespaces) ≡ l.initial.wanting.items ++ wanting_in l.state.state l.namespaces
