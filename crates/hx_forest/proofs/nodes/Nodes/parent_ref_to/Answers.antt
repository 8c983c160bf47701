use Rattle.std.proofs.Common.{◌∙◌, Option, option_copied, ap}
use Rattle.std.specs.Option.{option_map_or}
use Rattle.hx_forest.specs.NodeTable.{Place}
use Rattle.hx_forest.specs.ParentRefs.{place_in}
use Rattle.hx_forest.proofs.ParentRefs.{place_at_name}
use Rattle.hx_forest.proofs.nodes.Nodes.parent_ref_to.Goals as goal

pub returns : goal.returns
returns c =
    let nodes = c.args.self.now in
    c.number_in.ensures ∙ ap (λ o. option_map_or (λ (p : Place). p.number) (place_in nodes o) 0) c.at_name-at.ensures
    ∙ ap (λ (o : Option Place). option_map_or (λ p. p.number) o 0) (place_at_name nodes (option_copied c.args.parent))
