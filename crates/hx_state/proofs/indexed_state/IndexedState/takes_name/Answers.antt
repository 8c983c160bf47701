use Rattle.std.proofs.Common.{true, false, not, filter, length, refl, sym, ap, ◌∙◌}
use Rattle.hx_store.specs.Sources.{is_anchor_of}
use Rattle.hx_state.specs.StateView.{StateView}
use Rattle.hx_state.proofs.Counting.{agrees_named, agrees_seen}
use Rattle.hx_state.proofs.NameCounts.{last_namespace, last_anchor}
use Rattle.hx_state.proofs.indexed_state.IndexedState.takes_name.Goals as goal

pub returns-in_ok-anchors_named-in-Namespace : goal.returns-in_ok-anchors_named-in-Namespace
returns-in_ok-anchors_named-in-Namespace c =
    last_namespace c.args.self.now.state.objects c.args.id.now c.in_ok-anchors_named-in-Namespace.field-0 (agrees_named _ _ _ _ _ _ (agrees_seen c.self.view_is c.self.invariant.now)) c.requires.there
    (c.in_ok-anchors_named-in-Namespace.ensures ∙ ap (λ (v : StateView). length (filter (is_anchor_of c.args.id.now.name) v.state.objects)) c.self.view_is) c.in-Namespace.is

pub returns-in_ok-anchors_named-in-SubnamespaceAnchor : goal.returns-in_ok-anchors_named-in-SubnamespaceAnchor
returns-in_ok-anchors_named-in-SubnamespaceAnchor c =
    last_anchor c.args.self.now.state.objects c.args.id.now c.in_ok-anchors_named-in-SubnamespaceAnchor.field-0 (agrees_named _ _ _ _ _ _ (agrees_seen c.self.view_is c.self.invariant.now)) c.requires.there
    (c.in_ok-anchors_named-in-SubnamespaceAnchor.ensures ∙ ap (λ (v : StateView). length (filter (is_anchor_of c.args.id.now.name) v.state.objects)) c.self.view_is) c.in-SubnamespaceAnchor.is false (sym c.if-not-has_namespace.ensures)

pub returns-else-not-has_namespace : goal.returns-else-not-has_namespace
returns-else-not-has_namespace c =
    ap not c.if-not-has_namespace.false
    ∙ last_anchor c.args.self.now.state.objects c.args.id.now (length (filter (is_anchor_of c.args.id.now.name) c.args.self.now.state.objects)) (agrees_named _ _ _ _ _ _ (agrees_seen c.self.view_is c.self.invariant.now)) c.requires.there refl c.in-SubnamespaceAnchor.is true (sym c.if-not-has_namespace.ensures)
