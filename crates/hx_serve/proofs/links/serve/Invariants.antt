use Rattle.std.proofs.Common.{◌≤◌, ◌-◌}
use Rattle.hx_serve.specs.Inside.{HaveServed}
use Rattle.hx_serve.proofs.links.serve.Given as goal

-- so many links were served
abbrev pub invariant-serving : goal.invariant-serving
invariant-serving g l = record {
  few : l.served ≤ l.most;
  served : HaveServed l.served l.fn.service l.service (g.D.Door.shown l.fn.door) (g.D.Door.shown l.door);
}

abbrev pub decreases-serving : goal.decreases-serving
decreases-serving g l = l.most - l.served
