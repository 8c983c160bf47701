use Rattle.std.proofs.Common.{sym, ap, ◌∙◌, arith}
use Rattle.matchit.specs.Seek.{first}
use Rattle.hx_api.proofs.Table.{found_resource, no_resource, text_of}
use Rattle.hx_api.proofs.routes.Routes.resource_of.Goals as goal

pub returns-in-Ok : goal.returns-in-Ok
returns-in-Ok c =
    let path = c.args.path.now in
    let text = text_of path (λ i within. omega (arith, c.type_inv.path i)) in
    let at = ap (λ rows. first rows path) (sym c.self.invariant) ∙ c.in-Ok.ensures.found in
    c.resource_on.ensures ∙ found_resource path _ text at

pub returns-in-Err : goal.returns-in-Err
returns-in-Err c =
    let path = c.args.path.now in
    let text = text_of path (λ i within. omega (arith, c.type_inv.path i)) in
    let at = ap (λ rows. first rows path) (sym c.self.invariant) ∙ c.in-Err.ensures.missing in
    sym (no_resource path text at)
