use Rattle.std.proofs.Common.{◌≡◌, ◌++◌, drop, filter, map}
use Rattle.hx_survey.specs.Inside.{names_parent}
use Rattle.hx_survey.proofs.chains.children_in.Given as goal

-- those so far, and those of the rest
abbrev pub invariant-loop-entry : goal.invariant-loop-entry
invariant-loop-entry l = l.children.items ++ map (λ e. e.0) (filter (λ e. names_parent l.name e.1) (drop l.entry-index l.nodes)) ≡ map (λ e. e.0) (filter (λ e. names_parent l.name e.1) l.nodes)
