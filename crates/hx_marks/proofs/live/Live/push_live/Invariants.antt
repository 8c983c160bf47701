use Rattle.std.proofs.Common.{◌≡◌, ◌++◌, drop}
use Rattle.std.specs.List.{list_all}
use Rattle.std.specs.Prelude.{filter}
use Rattle.hx_model.specs.Forest.{chain_of}
use Rattle.hx_model.specs.Moves.{up_to, is_eligible}
use Rattle.hx_marks.proofs.live.Live.push_live.Given as goal

-- those so far, and those of the rest
abbrev pub invariant-loop-member : goal.invariant-loop-member
invariant-loop-member l = l.list.items ++ filter (λ m. list_all (is_eligible l.forest.nodes) (up_to l.top (chain_of l.forest.nodes m))) (drop l.member-index l.members) ≡ l.initial.list.items ++ filter (λ m. list_all (is_eligible l.forest.nodes) (up_to l.top (chain_of l.forest.nodes m))) l.members
