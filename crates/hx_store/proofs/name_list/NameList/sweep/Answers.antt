use Rattle.std.proofs.Common.{◌≡◌, Bool, Some, None, not, rules, sym, ap, ◌∙◌}
use Rattle.std.specs.Option.{option_copied}
use Rattle.std.specs.Str.{bytes_eq}
use Rattle.std.proofs.lemmas.Fn.{filter_same}
use Rattle.hx_store.specs.ObjectTable.{place_along}
use Rattle.hx_store.proofs.Along.{filter_edits, filter_distinct}
use Rattle.hx_store.proofs.Least.{Entry}
use Rattle.hx_store.proofs.name_list.NameList.sweep.Goals as goal

pub returns-in-Some-None-clause-name_list : goal.returns-in-Some-None-clause-name_list
returns-in-Some-None-clause-name_list c =
    let test : Entry → Bool = λ e. not (bytes_eq c.args.name.now e.0) in
    filter_distinct c.args.name.now c.args.self.now.places.items c.retain.new.self.items (filter_same _ test _ (λ x b f k. search rules) _ _ c.retain.ensures.filtered)

pub returns-in-Some-None-clause-places : goal.returns-in-Some-None-clause-places
returns-in-Some-None-clause-places c =
    let test : Entry → Bool = λ e. not (bytes_eq c.args.name.now e.0) in
    let was : place_along c.args.self.now c.args.name.now ≡ Some None = sym c.place.ensures ∙ ap option_copied c.in-Some-None.is ∙ ap Some c.in-Some-None.field-0-is in
    filter_edits c.args.name.now c.args.self.now.places.items c.retain.new.self.items (filter_same _ test _ (λ x b f k. search rules) _ _ c.retain.ensures.filtered) was
