use Rattle.std.proofs.Common.{ap, ◌∙◌, cond}
use Rattle.std.specs.Str.{bytes_eq}
use Rattle.hx_store.specs.ObjectTable.{made, place_on}
use Rattle.hx_store.proofs.name_map.grown.Goals as goal

pub returns-clause-places : goal.returns-clause-places
returns-clause-places c q = ap (λ s. place_on s q) c.in_ok-new.ensures.ok ∙ c.in_ok-make.ensures.places q ∙ ap (λ p. cond (bytes_eq c.args.name.now q) (made p) p) (c.in_ok-name_table.ensures.places q)
