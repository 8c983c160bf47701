use Rattle.std.proofs.Common.{sym, ap, ◌∙◌}
use Rattle.hx_model.specs.State.{object_at}
use Rattle.hx_store.proofs.Finding.{id_of, found_at}
use Rattle.hx_store.proofs.store.Store.find.Goals as goal

pub returns : goal.returns
returns c =
    let id = id_of c.args.kind c.args.ns.now c.args.name.now in
    c.find.ensures ∙ sym (found_at c.self.inside.places c.self.invariant.ready.sound id) ∙ ap (λ s. object_at s.objects id) c.self.view_is
