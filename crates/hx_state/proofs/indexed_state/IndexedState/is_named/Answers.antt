use Rattle.std.proofs.Common.{filter, length, sym, ap, ◌∙◌}
use Rattle.hx_store.specs.Sources.{is_anchor_of}
use Rattle.hx_state.specs.StateView.{StateView}
use Rattle.hx_state.proofs.NameCounts.{is_named_count}
use Rattle.hx_state.proofs.indexed_state.IndexedState.is_named.Goals as goal

pub returns-in_ok-anchors_named : goal.returns-in_ok-anchors_named
returns-in_ok-anchors_named c =
    is_named_count c.args.self.now.state.objects c.args.name.now c.in_ok-anchors_named.field-0 (sym c.if-has_namespace.ensures)
    (c.in_ok-anchors_named.ensures ∙ ap (λ (v : StateView). length (filter (is_anchor_of c.args.name.now) v.state.objects)) c.self.view_is)
