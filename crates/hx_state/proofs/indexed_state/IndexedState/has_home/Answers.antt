use Rattle.std.proofs.Common.{◌≡◌, rules}
use Rattle.std.specs.Prelude.{◌||◌}
use Rattle.hx_object.specs.Kinds.{is_in_cluster}
use Rattle.hx_model.specs.Forest.{is_there}
use Rattle.hx_model.specs.State.{has_home}
use Rattle.hx_state.proofs.Counting.{agrees_served}
use Rattle.hx_state.proofs.Homes.{home_node}
use Rattle.hx_state.proofs.indexed_state.IndexedState.has_home.Goals as goal

pub returns-else-is_in_cluster : goal.returns-else-is_in_cluster
returns-else-is_in_cluster c =
    let home : has_home c.args.self.now.state.objects c.args.id.now ≡ (is_in_cluster c.args.id.now.kind || is_there c.self.inside.forest.nodes c.args.id.now.ns) =
    rw (← c.self.view_is) (home_node c.self.inside.config c.self.inside.store.objects c.self.inside.forest.nodes c.args.id.now (agrees_served _ _ _ _ _ _ c.self.invariant.now) c.self.invariant.now.planted) in
    search rules
