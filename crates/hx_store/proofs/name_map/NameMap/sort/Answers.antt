use Rattle.std.proofs.Common.{sym, ap, ◌∙◌}
use Rattle.hx_store.specs.ObjectTable.{place_in, place_on}
use Rattle.hx_store.proofs.name_map.NameMap.sort.Goals as goal

pub returns-in-Many-clause-places : goal.returns-in-Many-clause-places
returns-in-Many-clause-places c q = c.sort.ensures.places q ∙ ap (λ s. place_on s q) c.as_mut.ensures.value ∙ ap (λ b. place_in b q) (sym c.in-Many.is)
