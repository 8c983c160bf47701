use Rattle.std.proofs.Common.{◌≡◌, drop, not}
use Rattle.std.specs.List.{list_all}
use Rattle.hx_select.specs.TreeSelects.{is_under}
use Rattle.hx_select.proofs.tree_select.is_under_none.Given as goal

-- what is left tells whether it is under none
abbrev pub invariant-loop-name : goal.invariant-loop-name
invariant-loop-name l = list_all (λ name. not (is_under l.labels name)) (drop l.name-index l.names) ≡ list_all (λ name. not (is_under l.labels name)) l.names
