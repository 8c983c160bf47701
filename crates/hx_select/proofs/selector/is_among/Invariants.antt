use Rattle.std.proofs.Common.{◌≡◌, drop}
use Rattle.hx_select.specs.Selectors.{is_among}
use Rattle.hx_select.proofs.selector.is_among.Given as goal

-- what is left tells whether the value is among them
abbrev pub invariant-loop-other : goal.invariant-loop-other
invariant-loop-other l = is_among l.value (drop l.other-index l.values) ≡ is_among l.value l.values
