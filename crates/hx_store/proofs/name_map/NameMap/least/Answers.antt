use Rattle.std.proofs.Common.{Some, sym, subst}
use Rattle.std.specs.Prelude.{option_copied}
use Rattle.hx_store.specs.Least.{IsLeast}
use Rattle.hx_store.specs.ObjectTable.{IsNameMap, IsNameTable, found, place_in, place_on}
use Rattle.hx_store.proofs.Least.{of_one}
use Rattle.hx_store.proofs.name_map.NameMap.least.Goals as goal

pub returns-in-One : goal.returns-in-One
returns-in-One c _ =
    subst (λ b. IsLeast (λ name. found (place_in b name)) (Some c.in-One.object)) (sym c.in-One.is) (of_one c.in-One.name (Some c.in-One.object))

pub returns-in-Many : goal.returns-in-Many
returns-in-Many c =
    subst (λ b. IsNameMap b → IsLeast (λ name. found (place_in b name)) (option_copied c.least-in-Many.result)) (sym c.in-Many.is)
    (subst (λ s. IsNameTable s → IsLeast (λ name. found (place_on s name)) (option_copied c.least-in-Many.result)) c.as_ref.ensures c.least-in-Many.ensures)
