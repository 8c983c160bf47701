use Rattle.std.proofs.Common.{◌≡◌, drop}
use Rattle.std.specs.List.{list_all}
use Rattle.hx_object.specs.Pairs.{value_of}
use Rattle.hx_select.specs.Selectors.{holds_for, selects}
use Rattle.hx_select.proofs.selector.Selector.matches.Given as goal

-- what is left tells whether all hold
abbrev pub invariant-loop-need : goal.invariant-loop-need
invariant-loop-need l = list_all (λ need. holds_for need.test (value_of l.labels need.key)) (drop l.need-index l.self.needs) ≡ selects l.self l.labels
