use Rattle.std.proofs.Common.{sym, ap, subst, ◌∙◌}
use Rattle.std.specs.Map.Iter.{deref_pair}
use Rattle.std.specs.Option.{option_map}
use Rattle.hx_store.specs.Least.{IsLeast}
use Rattle.hx_store.specs.ObjectTable.{found, place_along}
use Rattle.hx_store.proofs.Least.{walked}
use Rattle.hx_store.proofs.name_list.NameList.least.Goals as goal

pub returns-in-Some : goal.returns-in-Some
returns-in-Some c name_list = subst (λ o. IsLeast (λ name. found (place_along c.args.self.now name)) (option_map (λ named. named.1) o)) (sym c.walk.ensures ∙ ap (option_map deref_pair) c.in-Some.is) (walked c.args.self.now.places.items name_list)

pub returns-in-None : goal.returns-in-None
returns-in-None c name_list = subst (λ o. IsLeast (λ name. found (place_along c.args.self.now name)) (option_map (λ named. named.1) o)) (sym c.walk.ensures ∙ ap (option_map deref_pair) c.in-None.is) (walked c.args.self.now.places.items name_list)
