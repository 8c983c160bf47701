use Rattle.std.specs.Prelude.{◌≡◌, ◌≤◌, ◌*◌, ◌^◌, sum_by, take}
use Rattle.hx_model.specs.Charges.{amount_beside}
use Rattle.hx_charge.proofs.asks.sum_beside.Given as goal

-- the sum of those so far, each of which is below 2^64
abbrev pub invariant-loop-container : goal.invariant-loop-container
invariant-loop-container l = record {
  sums : l.sum ≡ sum_by (amount_beside l.ask) (take l.container-index l.containers);
  fits : l.sum ≤ l.container-index * 2 ^ 64;
}
