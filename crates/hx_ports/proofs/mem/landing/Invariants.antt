use Rattle.std.proofs.Common.{◌≡◌, drop}
use Rattle.hx_ports.specs.Calls.{landing}
use Rattle.hx_ports.proofs.mem.landing.Given as goal

abbrev pub invariant-loop-fail : goal.invariant-loop-fail
invariant-loop-fail l = landing (drop l.fail-index l.fails) l.number ≡ landing l.fails l.number
