use Rattle.std.proofs.Common.{refl}
use Rattle.hx_sessions.proofs.door.HeldDoor.take_back.Goals as goal

pub returns : goal.returns
returns g c = rw (← c.self.view_is) (record { sink = g.D.Output.Sink.shown c.args.sink; takes = c.take_back.ensures; counts = refl })
