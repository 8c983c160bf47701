use Rattle.std.proofs.Common.{◌≡◌, ◌∙◌, true, option_copied, Some, ap, sym, rules}
use Rattle.std.specs.Str.{bytes_eq}
use Rattle.hx_model.proofs.Climbing.{is_same}
use Rattle.hx_forest.specs.ParentRefs.{name_in}
use Rattle.hx_forest.proofs.Indices.{named_place}
use Rattle.hx_forest.proofs.nodes.Nodes.lies_at.Goals as goal

pub returns-in-Some : goal.returns-in-Some
returns-in-Some c = λ same.
    let found = c.in-Some.found.now in
    let named : bytes_eq found c.args.name.now ≡ true = search rules in
    let here : name_in c.args.self.now c.args.at ≡ Some found = sym c.name_in.ensures.name ∙ ap option_copied c.in-Some.is in
    named_place c.args.self.now c.args.at c.args.name.now c.name_in.ensures.unique (here ∙ ap Some (is_same found c.args.name.now named))
