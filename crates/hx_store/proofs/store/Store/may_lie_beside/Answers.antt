use Rattle.std.proofs.Common.{sym, ap, ◌∙◌}
use Rattle.hx_model.specs.State.{object_at}
use Rattle.hx_store.specs.Sources.{indexed_in}
use Rattle.hx_store.proofs.Beside.{none_beside}
use Rattle.hx_store.proofs.Finding.{id_of}
use Rattle.hx_store.proofs.store.Store.may_lie_beside.Goals as goal

pub returns : goal.returns
returns c = λ none m apart.
    let id = id_of c.args.kind m c.args.name.now in
    ap (λ s. indexed_in (object_at s.objects id)) (sym c.self.view_is)
    ∙ none_beside c.self.inside.places c.self.inside.by_name c.self.invariant.ready.sound c.self.invariant.index c.args.kind c.args.name.now c.args.ns.now (c.may_lie_beside.ensures none) m apart
