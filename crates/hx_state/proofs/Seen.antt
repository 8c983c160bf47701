-- What a state with its indexes keeps true, as it is seen.
--     valid_seen       the state is valid
--     planted_seen     the tree is that of the state
--     told_seen        the owners tell which parents annotations name
use Rattle.std.proofs.Common.{◌≡◌, ℕ, List, option_map, ap, ◌∙◌, subst}
use Rattle.hx_model.specs.Forest.{Forest, node_of}
use Rattle.hx_model.specs.State.{Objects, object_at, namespace_id}
use Rattle.hx_model.specs.Subnamespaces.{owners_of}
use Rattle.hx_model.specs.Tree.{forest_of, subnamespace_parent}
use Rattle.hx_model.specs.Valid.{IsRecent, IsValid}
use Rattle.hx_model.specs.Windows.{WindowView}
use Rattle.hx_model.specs.declared.config.RunConfig.{RunConfig}
use Rattle.hx_model.specs.declared.key.Write.{Write}
use Rattle.hx_model.specs.declared.node.Node.{Node}
use Rattle.hx_state.specs.StateView.{StateView, Agrees, state_in}
use Rattle.hx_state.specs.declared.limits.LimitCounts.{LimitCounts}
use Rattle.hx_state.proofs.Counting.{agrees_seen, agrees_served, valid_agrees}
use Rattle.hx_state.proofs.Owners.{owner_found}

module _ {config : RunConfig} {objects : Objects} {last : ℕ} {window : WindowView} {staged : List Write} {counts : LimitCounts} {nodes owners : Forest} {seen : StateView} (same : record { state = state_in config objects last window; staged = staged } ≡ seen) (agrees : Agrees config objects last counts nodes owners) where
  -- the state is valid
  pub valid_seen : IsRecent last window → IsValid seen.state
  valid_seen recent = subst (λ (v : StateView). IsValid v.state) same (valid_agrees config objects last counts nodes owners agrees window recent)

  -- the tree is that of the state
  pub planted_seen : nodes ≡ forest_of seen.state
  planted_seen = agrees.planted ∙ ap (λ (v : StateView). forest_of v.state) same

  -- the owners tell which parents annotations name
  pub told_seen : (n : List ℕ) → option_map (λ (node : Node). node.parent) (node_of owners n) ≡ option_map subnamespace_parent (object_at seen.state.objects (namespace_id n))
  told_seen n =
      ap (λ (f : Forest). option_map (λ (node : Node). node.parent) (node_of f n)) (agrees.owned ∙ ap (λ (v : StateView). owners_of v.state) same)
      ∙ owner_found seen.state.objects n (agrees_served _ _ _ _ _ _ (agrees_seen same agrees))
