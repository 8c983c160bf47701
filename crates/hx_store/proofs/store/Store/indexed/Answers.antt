use Rattle.std.proofs.Common.{◌≡◌, ◌++◌, List, ap, subst, ◌∙◌, filter}
use Rattle.std.specs.List.Sorted.{IsPermutation}
use Rattle.hx_object.specs.declared.object.Object.{Object}
use Rattle.hx_store.specs.Sources.{is_indexed_of}
use Rattle.hx_store.specs.ByName.{entries_at, indexed_among}
use Rattle.hx_store.proofs.Named.{indexed_listed}
use Rattle.hx_store.proofs.store.Store.indexed.Goals as goal

pub returns : goal.returns
returns c =
    let by_name = c.self.inside.by_name in
    let kind = c.args.kind in
    let name = c.args.name.now in
    let found : List Object = indexed_among c.self.inside.places kind name (entries_at by_name kind name) in
    let all : c.list.new.listed.items ≡ found = c.in_ok-list.ensures ∙ ap (λ xs. xs ++ found) c.new-listed.ensures.items in
    indexed_listed c.self.inside.places by_name c.self.invariant.ready.sound c.self.invariant.index kind name c.sort.new.objects.items
    (subst (λ xs. IsPermutation xs c.sort.new.objects.items) all c.sort.ensures.same) c.sort.ensures.sorted
    ∙ ap (λ s. filter (is_indexed_of kind name) s.objects) c.self.view_is
