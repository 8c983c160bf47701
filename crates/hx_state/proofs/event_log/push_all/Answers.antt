use Rattle.std.proofs.Common.{rules, ◌≡◌, [], ◌∷◌, ◌∙◌, ap, subst, sym}
use Rattle.std.specs.Vec.Iter.{into_iter_items}
use Rattle.hx_model.specs.Windows.{WindowView, Ascend, most_events, newest, with_events}
use Rattle.hx_model.proofs.Lasting.{come-in-parts}
use Rattle.hx_state.proofs.Telling.{whole_after}
use Rattle.hx_state.proofs.event_log.push_all.Goals as goal

pub push-requires : goal.push-requires
push-requires c =
    let split : into_iter_items c.loop-event.event-iterator ≡ c.in-Some.event ∷ into_iter_items c.next.new.self = search rules in
    let up : Ascend (newest c.loop-event.window) (c.in-Some.event ∷ into_iter_items c.next.new.self) = subst (Ascend (newest c.loop-event.window)) split c.loop-event.invariant.ascend in
    up.0

pub loop-event-preserved : goal.loop-event-preserved
loop-event-preserved c =
    let e = c.in-Some.event in
    let w = c.loop-event.window in
    let rest = into_iter_items c.next.new.self in
    let split : into_iter_items c.loop-event.event-iterator ≡ e ∷ rest = search rules in
    let up : Ascend (newest w) (e ∷ rest) = subst (Ascend (newest w)) split c.loop-event.invariant.ascend in
    record {
      window = ap (λ (v : WindowView). with_events most_events v rest) c.push.ensures.window ∙ come-in-parts most_events w (e ∷ []) rest ∙ (rw split at c.loop-event.invariant.window);
      whole = subst (λ (v : WindowView). with_events most_events v [] ≡ v) (sym c.push.ensures.window) (whole_after w (e ∷ []));
      ascend = subst (λ n. Ascend n rest) (sym c.push.ensures.newest) up.1;
    }
