use Rattle.std.proofs.Common.{◌≡◌, ◌++◌, [], Some, None, length, rules, sym, ap, ◌∙◌, arith}
use Rattle.std.specs.Prelude.{option_and_then, slice_get}
use Rattle.std.specs.Option.{option_map_or}
use Rattle.std.proofs.lemmas.List.{append-nil}
use Rattle.std.proofs.lemmas.Option.{slice_get-get_or}
use Rattle.hx_store.specs.ObjectTable.{name_map_in, entries_of, kind_at}
use Rattle.hx_store.specs.ByName.{entries_at, indexed_among, turned_places}
use Rattle.hx_store.proofs.by_name.ByName.list.Goals as goal

pub returns-in-None : goal.returns-in-None
returns-in-None c =
    let kinds = c.args.self.now.kinds in
    let kind = c.args.kind in
    let name = c.args.name.now in
    let kind_table = c.index-self-index_of.result in
    let long : length kinds ≡ 14 = search rules in
    let at : kind_at (turned_places c.args.self.now) kind ≡ Some kind_table =
    ap (slice_get kinds) (sym c.index_of.ensures.value) ∙ slice_get-get_or kinds c.index_of.result kind_table (omega (arith, long, c.index_of.ensures.small)) ∙ ap Some (sym c.index-self-index_of.is) in
    let none : name_map_in kind_table name ≡ None = search rules in
    let empty : entries_at c.args.self.now kind name ≡ [] = ap (λ o. option_map_or entries_of (option_and_then (λ s. name_map_in s name) o) []) at ∙ ap (λ o. option_map_or entries_of o []) none in
    sym (append-nil c.args.listed.now.items) ∙ ap (λ es. c.args.listed.now.items ++ indexed_among c.args.places.now kind name es) (sym empty)
