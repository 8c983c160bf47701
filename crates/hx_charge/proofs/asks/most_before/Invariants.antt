use Rattle.std.specs.Prelude.{◌≡◌, take}
use Rattle.hx_model.specs.Charges.{most_before}
use Rattle.hx_charge.proofs.asks.most_before.Given as goal

-- the most of those so far
abbrev pub invariant-loop-container : goal.invariant-loop-container
invariant-loop-container l = l.most ≡ most_before l.ask (take l.container-index l.containers)
