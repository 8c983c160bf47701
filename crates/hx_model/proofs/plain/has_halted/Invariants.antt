use Rattle.std.proofs.Common.{◌≡◌, drop, is_some}
use Rattle.std.specs.List.{list_any}
use Rattle.hx_model.specs.Forest.{own_halt_of}
use Rattle.hx_model.proofs.plain.has_halted.Given as goal

-- what is left tells whether one is halted
abbrev pub invariant-loop-name : goal.invariant-loop-name
invariant-loop-name l = list_any (λ a. is_some (own_halt_of l.nodes a)) (drop l.name-index l.names) ≡ list_any (λ a. is_some (own_halt_of l.nodes a)) l.names
