use Rattle.std.proofs.Common.{◌≡◌, true, false, not, ap, sym, ◌∙◌, rules}
use Rattle.std.specs.List.{list_any}
use Rattle.std.specs.Str.{bytes_eq}
use Rattle.hx_model.specs.Forest.{Forest, is_there, children_of}
use Rattle.hx_model.specs.Subnamespaces.{owners_of}
use Rattle.hx_admit.proofs.Families.{any_follower, no_follower}
use Rattle.hx_admit.proofs.family.has_followers.Goals as goal

pub returns-then-is_some : goal.returns-then-is_some
returns-then-is_some c =
    let there : is_there c.owners.result.now.nodes c.args.name.now ≡ true = search rules in
    c.has_other.ensures
    ∙ ap (list_any (λ m. not (bytes_eq m c.args.name.now))) (c.children.ensures.names ∙ ap (λ (f : Forest). children_of f c.args.name.now) c.owners-then-is_some.ensures.nodes)
    ∙ any_follower (owners_of c.args.state.now.state) c.args.name.now (sym (ap (λ (f : Forest). is_there f c.args.name.now) c.owners.ensures.nodes) ∙ there)

pub returns-else-is_some : goal.returns-else-is_some
returns-else-is_some c =
    let there : is_there c.owners.result.now.nodes c.args.name.now ≡ false = search rules in
    c.if-is_some.false ∙ sym (no_follower (owners_of c.args.state.now.state) c.args.name.now (sym (ap (λ (f : Forest). is_there f c.args.name.now) c.owners.ensures.nodes) ∙ there))
