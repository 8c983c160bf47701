use Rattle.std.proofs.Common.{◌≡◌, ◌++◌, ap, subst, ◌∙◌, filter}
use Rattle.std.specs.Prelude.{option_copied}
use Rattle.std.specs.List.Sorted.{IsPermutation}
use Rattle.hx_model.specs.Answers.{is_listed}
use Rattle.hx_store.specs.ObjectTable.{objects_listed}
use Rattle.hx_store.proofs.Listing.{places_listed}
use Rattle.hx_store.proofs.store.Store.list.Goals as goal

pub returns : goal.returns
returns c =
    let ns = option_copied c.args.ns in
    let places = c.self.inside.places in
    let all : c.list.new.listed.items ≡ objects_listed places c.args.kind ns = c.in_ok-list.ensures ∙ ap (λ xs. xs ++ objects_listed places c.args.kind ns) c.new-listed.ensures.items in
    places_listed places c.self.invariant.ready.sound c.args.kind ns c.sort.new.objects.items (subst (λ xs. IsPermutation xs c.sort.new.objects.items) all c.sort.ensures.same) c.sort.ensures.sorted
    ∙ ap (λ s. filter (is_listed c.args.kind ns) s.objects) c.self.view_is
