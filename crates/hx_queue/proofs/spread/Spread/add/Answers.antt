use Rattle.std.proofs.Common.{rules, ◌≡◌, sym, subst}
use Rattle.std.specs.Prelude.{IsSomeAnd}
use Rattle.hx_queue.specs.Spread.{HasPlace, IsSpread, Scope, SpreadView, equal_ids, with_id}
use Rattle.hx_queue.specs.Spreading.{scope_of}
use Rattle.hx_queue.proofs.Spreads.{is_of, with_one}
use Rattle.hx_queue.proofs.spread.Spread.add.Goals as goal

pub invariant_of-self : goal.invariant_of-self
unfolding equal_ids
invariant_of-self c =
    let scope = scope_of c.self.inside.scope in
    let ids = c.self.inside.ids.keys in
    let keys : c.insert-added.new.self.keys ≡ with_id c.args.id ids = search rules in
    let at : IsSomeAnd scope (λ (r : Scope). r.root ≡ c.args.id.ns) = subst (λ (v : SpreadView). IsSomeAnd v.scope (λ (r : Scope). r.root ≡ c.args.id.ns)) (sym c.self.view_is) c.requires.at in
    let fits : HasPlace scope ids = subst (λ (v : SpreadView). HasPlace v.scope v.ids) (sym c.self.view_is) c.requires.fits in
    subst (IsSpread scope) (sym keys) (with_one scope ids c.args.id c.self.invariant (is_of scope c.args.id at) fits)
