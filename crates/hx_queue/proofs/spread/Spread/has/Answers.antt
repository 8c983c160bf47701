use Rattle.std.proofs.Common.{rules, ◌≡◌, sym, subst, ap, ◌∙◌}
use Rattle.std.specs.List.{AllByRecursion, list_any}
use Rattle.hx_queue.specs.Spread.{IsOf, equal_ids, is_spread}
use Rattle.hx_queue.specs.Spreading.{scope_of}
use Rattle.hx_queue.proofs.Spreads.{found_in, no_copy, nowhere}
use Rattle.hx_queue.proofs.spread.Spread.has.Goals as goal

pub returns-in_default : goal.returns-in_default
returns-in_default c = rw (← c.self.view_is) (sym (no_copy c.self.inside.ids.keys c.args.key.now c.in_default.not-Copy))

pub returns-in_default-scope : goal.returns-in_default-scope
returns-in_default-scope c = rw (← c.self.view_is) (sym (nowhere c.self.inside.ids.keys c.args.key.now (subst (λ r. AllByRecursion (IsOf (scope_of r)) c.self.inside.ids.keys) c.in_default-scope.is c.self.invariant.at)))

pub returns : goal.returns
unfolding equal_ids
returns c =
    let found : c.contains.result ≡ list_any (equal_ids (record { kind = c.in-Copy.kind; ns = c.in-Some.scope.root; name = c.in-Copy.name })) c.self.inside.ids.keys = search rules in
    let of = subst (λ r. AllByRecursion (IsOf (scope_of r)) c.self.inside.ids.keys) c.in-Some.is c.self.invariant.at in
    rw (← c.self.view_is)
    (found ∙ found_in c.in-Some.scope.root c.in-Copy.ns c.in-Copy.name c.in-Copy.kind c.self.inside.ids.keys of ∙ ap (is_spread c.self.inside.ids.keys) (sym c.in-Copy.is))
