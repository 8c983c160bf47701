use Rattle.std.proofs.Common.{◌++◌, ap, ◌∙◌}
use Rattle.std.specs.Prelude.{flat_map}
use Rattle.std.specs.Option.{option_to_list}
use Rattle.hx_state.specs.Happening.{put_event, cut_event}
use Rattle.hx_state.proofs.Telling.{all_told}
use Rattle.hx_state.proofs.indexed_state.IndexedState.events_of.Goals as goal

pub returns : goal.returns
returns c =
    let s = c.args.self.now.state in
    c.in_ok-push_cuts.ensures
    ∙ ap (λ es. es ++ flat_map (λ w. option_to_list (cut_event s w)) c.args.writes.now) c.in_ok-push_puts.ensures
    ∙ ap (λ es. (es ++ flat_map (λ w. option_to_list (put_event s w)) c.args.writes.now) ++ flat_map (λ w. option_to_list (cut_event s w)) c.args.writes.now) c.in_ok-events.ensures.items
    ∙ all_told s c.args.writes.now
