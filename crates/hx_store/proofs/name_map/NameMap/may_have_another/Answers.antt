use Rattle.std.proofs.Common.{sym, ap, ◌∙◌}
use Rattle.hx_store.specs.ObjectTable.{place_in}
use Rattle.hx_store.proofs.Beside.{none_another}
use Rattle.hx_store.proofs.name_map.NameMap.may_have_another.Goals as goal

pub returns-in-Few : goal.returns-in-Few
returns-in-Few c = λ none other apart. ap (λ b. place_in b other) c.in-Few.is ∙ none_another c.args.name.now c.in-Few.name_list.places.items (sym c.has_another.ensures ∙ none) other apart
