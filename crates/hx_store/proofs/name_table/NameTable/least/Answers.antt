use Rattle.std.proofs.Common.{sym, ap, subst, ◌∙◌}
use Rattle.std.specs.Map.Iter.{deref_pair}
use Rattle.std.specs.Option.{option_map}
use Rattle.hx_store.specs.Least.{IsLeast}
use Rattle.hx_store.specs.ObjectTable.{found, place_on}
use Rattle.hx_store.proofs.Shown.{walked_shown}
use Rattle.hx_store.proofs.name_table.NameTable.least.Goals as goal

pub returns-in-Some-walk : goal.returns-in-Some-walk
returns-in-Some-walk c = λ name_table.
    subst (λ o. IsLeast (λ name. found (place_on c.args.self.now name)) (option_map (λ named. named.1) o)) (sym c.walk.ensures ∙ ap (option_map deref_pair) c.in-Some-walk.is) (walked_shown c.args.self.now.shown c.args.self.now.places.keys name_table.0)

pub returns-in-None : goal.returns-in-None
returns-in-None c = λ name_table.
    subst (λ o. IsLeast (λ name. found (place_on c.args.self.now name)) (option_map (λ named. named.1) o)) (sym c.walk.ensures ∙ ap (option_map deref_pair) c.in-None.is) (walked_shown c.args.self.now.shown c.args.self.now.places.keys name_table.0)
