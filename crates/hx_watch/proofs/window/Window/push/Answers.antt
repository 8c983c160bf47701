use Rattle.std.proofs.Common.{◌≤◌, sym, subst}
use Rattle.hx_model.specs.Windows.{WindowView, most_events, newest}
use Rattle.hx_watch.proofs.Ringing.{takes-in, newest-in, floor-some, floor-none}
use Rattle.hx_watch.proofs.window.Window.push.Goals as goal

pub invariant_of-self : goal.invariant_of-self
invariant_of-self c =
    let w : WindowView = record { events = c.self.inside.ring.items; floor = c.self.inside.floor } in
    takes-in most_events c.self.inside.ring.capacity c.in-Some.oldest.version w c.args.event c.push_back.new.self c.self.invariant.0 c.push_back.ensures.items
    (floor-some most_events c.self.inside.ring.capacity w.floor w.events c.args.event c.in-Some.oldest c.push_back.result c.self.invariant.0 c.self.invariant.1 c.push_back.ensures.value c.in-Some.is)
    c.self.invariant.2 (subst (λ (v : WindowView). newest v ≤ c.args.event.version) (sym c.self.view_is) c.requires)

pub invariant_of-self-in_default : goal.invariant_of-self-in_default
invariant_of-self-in_default c =
    let w : WindowView = record { events = c.self.inside.ring.items; floor = c.self.inside.floor } in
    takes-in most_events c.self.inside.ring.capacity w.floor w c.args.event c.push_back.new.self c.self.invariant.0 c.push_back.ensures.items
    (floor-none most_events c.self.inside.ring.capacity w.floor w.events c.args.event c.push_back.result c.self.invariant.0 c.push_back.ensures.value c.in_default.is)
    c.self.invariant.2 (subst (λ (v : WindowView). newest v ≤ c.args.event.version) (sym c.self.view_is) c.requires)

pub returns-in-Some-clause-newest : goal.returns-in-Some-clause-newest
returns-in-Some-clause-newest c =
    let w : WindowView = record { events = c.self.inside.ring.items; floor = c.self.inside.floor } in
    newest-in most_events c.self.inside.ring.capacity c.in-Some.oldest.version w c.args.event c.push_back.new.self c.self.invariant.0 c.push_back.ensures.items
    (floor-some most_events c.self.inside.ring.capacity w.floor w.events c.args.event c.in-Some.oldest c.push_back.result c.self.invariant.0 c.self.invariant.1 c.push_back.ensures.value c.in-Some.is)

pub returns-in_default-clause-newest : goal.returns-in_default-clause-newest
returns-in_default-clause-newest c =
    let w : WindowView = record { events = c.self.inside.ring.items; floor = c.self.inside.floor } in
    newest-in most_events c.self.inside.ring.capacity w.floor w c.args.event c.push_back.new.self c.self.invariant.0 c.push_back.ensures.items
    (floor-none most_events c.self.inside.ring.capacity w.floor w.events c.args.event c.push_back.result c.self.invariant.0 c.push_back.ensures.value c.in_default.is)
