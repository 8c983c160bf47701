use Rattle.std.proofs.Common.{◌≡◌, ◌++◌, ◌∷◌, [], None, sym, ap, ◌∙◌}
use Rattle.std.specs.Option.{option_copied}
use Rattle.hx_store.specs.ObjectTable.{place_along}
use Rattle.hx_store.proofs.Along.{push_edits, push_distinct}
use Rattle.hx_store.proofs.name_list.NameList.make.Goals as goal

pub returns-clause-name_list : goal.returns-clause-name_list
returns-clause-name_list c =
    let es = c.args.self.now.places.items in
    let absent : place_along c.args.self.now c.args.name.now ≡ None = sym c.place.ensures ∙ ap option_copied c.in_default.is in
    push_distinct es c.args.name.now absent c.push.new.self.items (c.in_ok-push.ensures.items ∙ ap (λ n. es ++ (n, None) ∷ []) c.in_ok-name.ensures)

pub returns-clause-places : goal.returns-clause-places
returns-clause-places c =
    let es = c.args.self.now.places.items in
    let absent : place_along c.args.self.now c.args.name.now ≡ None = sym c.place.ensures ∙ ap option_copied c.in_default.is in
    push_edits es c.args.name.now absent c.push.new.self.items (c.in_ok-push.ensures.items ∙ ap (λ n. es ++ (n, None) ∷ []) c.in_ok-name.ensures)
